-- A node is safe once all are that it lists.
use Rattle.std.proofs.Common.{ℕ, List, [], ◌∷◌, inl, inr, refl, sym, subst, Contains}
use Rattle.codec_graph.specs.declared.raw.RawCodec.{RawCodec}
use Rattle.codec_graph.specs.Cycles.{inner_list, Leads, IsOnCycle}
use Rattle.codec_graph.specs.SafeNodes.{IsSafe}

safe_on : (codec : RawCodec) (nid to : ℕ) (through : List ℕ) → ((next : ℕ) → Contains (inner_list codec nid) next → IsSafe codec next)
    → Leads codec nid through to → IsOnCycle codec to → ⊥
safe_on codec nid to [] all listed cycle = all to listed to (inl refl) cycle
safe_on codec nid to (next ∷ through) all leads cycle = all next leads.0 to (inr (through, leads.1)) cycle

pub safe_by_list : (codec : RawCodec) (nid : ℕ) → ((next : ℕ) → Contains (inner_list codec nid) next → IsSafe codec next) → IsSafe codec nid
safe_by_list codec nid all to (inl here) cycle =
    safe_on codec nid to cycle.0 all (subst (λ (from : ℕ). Leads codec from cycle.0 to) (sym here) cycle.1) cycle
safe_by_list codec nid all to (inr way) cycle = safe_on codec nid to way.0 all way.1 cycle
