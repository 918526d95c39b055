-- Of the words that were told comes one thing, or want of memory.
use Rattle.std.proofs.Common.{◌≡◌, ◌≤◌, ℕ, List, Option, Some, None, Ok, Err, Result, inl, inr, refl, sym, ap, ◌∙◌, subst, arith}
use Rattle.std.specs.Prelude.{◌⊎◌}
use Rattle.std.proofs.lemmas.Bool.{cases_lt}
use Rattle.std.proofs.lemmas.Option.{none-some}
use Rattle.codec_graph.specs.declared.raw.RawCodec.{RawCodec}
use Rattle.codec_graph.specs.declared.fault.GraphFault.{GraphFault}
use Rattle.codec_graph.specs.declared.fault.GraphFault.TheVariants.{NoAudioGroup, BadCount, ConnectionOutside, ListTooLong, AmpOffset, Cycle}
use Rattle.codec_graph.specs.Listed.{codec_list_fault, IsFirstListFault}
use Rattle.codec_graph.specs.Faults.{first_fault, table_faults}
use Rattle.codec_graph.specs.Cycles.{IsWellFormed, IsFirstFault, IsFirstFaultBy, IsCycleFault}
use Rattle.verb_codes.specs.declared.entries.ListFault.{ListFault}
use Rattle.codec_walk.specs.declared.fault.WalkError.{WalkError}
use Rattle.codec_walk.specs.declared.fault.WalkError.TheVariants.{Malformed, OutOfMemory}
use Rattle.codec_walk.specs.declared.fault.WalkFault.{WalkFault}
use Rattle.codec_walk.specs.declared.fault.WalkFault.TheVariants as walk_fault
use Rattle.codec_walk.specs.Outcomes.{IsOutcome, graph_told}

no_cycle : (graph : RawCodec) (fault : GraphFault) → IsWellFormed graph → IsCycleFault graph fault → ⊥
no_cycle graph (NoAudioGroup nid) well fault = fault
no_cycle graph (BadCount nid) well fault = fault
no_cycle graph (ConnectionOutside nid) well fault = fault
no_cycle graph (ListTooLong nid) well fault = fault
no_cycle graph (AmpOffset nid) well fault = fault
no_cycle graph (Cycle nid) well fault = well.acyclic nid fault.0

-- a well-formed graph has no fault
pub no_first : (graph : RawCodec) (fault : GraphFault) → IsWellFormed graph → IsFirstFault graph fault → ⊥
no_first graph fault well first =
    no_cycle graph fault well (subst (λ (faults : List GraphFault). IsFirstFaultBy graph (first_fault faults) fault) well.tables.no_fault first)

same_cycle : (graph : RawCodec) (one other : GraphFault) → IsCycleFault graph one → IsCycleFault graph other → one ≡ other
same_cycle graph (NoAudioGroup n) other a b = absurd a
same_cycle graph (BadCount n) other a b = absurd a
same_cycle graph (ConnectionOutside n) other a b = absurd a
same_cycle graph (ListTooLong n) other a b = absurd a
same_cycle graph (AmpOffset n) other a b = absurd a
same_cycle graph (Cycle n) (NoAudioGroup m) a b = absurd b
same_cycle graph (Cycle n) (BadCount m) a b = absurd b
same_cycle graph (Cycle n) (ConnectionOutside m) a b = absurd b
same_cycle graph (Cycle n) (ListTooLong m) a b = absurd b
same_cycle graph (Cycle n) (AmpOffset m) a b = absurd b
same_cycle graph (Cycle n) (Cycle m) a b =
    let low : n ≤ m = a.1 m b.0 in
    let high : m ≤ n = b.1 n a.0 in
    let same : n ≡ m = omega arith in
    ap Cycle same

same_fault : (graph : RawCodec) (one other : GraphFault) → IsFirstFault graph one → IsFirstFault graph other → one ≡ other
same_fault graph one other = by (first_fault (table_faults graph))
  where
    by : (first : Option GraphFault) → IsFirstFaultBy graph first one → IsFirstFaultBy graph first other → one ≡ other
    by (Some first) a b = a ∙ sym b
    by None a b = same_cycle graph one other a b

same_list : (at : ℕ → Option ListFault) (n m : ℕ) (one other : ListFault) → IsFirstListFault at n one → IsFirstListFault at m other → walk_fault.List n one ≡ walk_fault.List m other
same_list at n m one other a b = elim (cases_lt n m) [
  | inl below ↦ absurd (none-some one (sym (b.before n below) ∙ a.here))
  | inr not_below ↦ elim (cases_lt m n) [
    | inl above ↦ absurd (none-some other (sym (a.before m above) ∙ b.here))
    | inr not_above ↦
        let same : n ≡ m = omega arith in
        let both : Some one ≡ Some other = sym a.here ∙ ap at same ∙ b.here in
        let fault : one ≡ other = cc in
        cc
  ]
]

pub one_outcome : (codec : RawCodec) (one other : Result RawCodec WalkError) → IsOutcome codec one → IsOutcome codec other
    → (one ≡ other) ⊎ ((one ≡ Err OutOfMemory) ⊎ (other ≡ Err OutOfMemory))
one_outcome codec (Ok g) (Ok h) a b = inl (ap Ok (a.value ∙ sym b.value))
one_outcome codec (Ok g) (Err (Malformed (walk_fault.List nid fault))) a b = absurd (none-some fault (sym (a.lists nid) ∙ b.here))
one_outcome codec (Ok g) (Err (Malformed (walk_fault.Graph fault))) a b =
    absurd (no_first g fault a.well_formed (subst (λ (x : RawCodec). IsFirstFault x fault) (sym a.value) b.1))
one_outcome codec (Ok g) (Err OutOfMemory) a b = inr (inr refl)
one_outcome codec (Err (Malformed (walk_fault.List nid fault))) (Ok h) a b = absurd (none-some fault (sym (b.lists nid) ∙ a.here))
one_outcome codec (Err (Malformed (walk_fault.List n one))) (Err (Malformed (walk_fault.List m other))) a b =
    inl (ap (λ (fault : WalkFault). Err (Malformed fault)) (same_list (codec_list_fault codec) n m one other a b))
one_outcome codec (Err (Malformed (walk_fault.List nid fault))) (Err (Malformed (walk_fault.Graph other))) a b = absurd (none-some fault (sym (b.0 nid) ∙ a.here))
one_outcome codec (Err (Malformed (walk_fault.List nid fault))) (Err OutOfMemory) a b = inr (inr refl)
one_outcome codec (Err (Malformed (walk_fault.Graph fault))) (Ok h) a b =
    absurd (no_first h fault b.well_formed (subst (λ (x : RawCodec). IsFirstFault x fault) (sym b.value) a.1))
one_outcome codec (Err (Malformed (walk_fault.Graph fault))) (Err (Malformed (walk_fault.List nid other))) a b = absurd (none-some other (sym (a.0 nid) ∙ b.here))
one_outcome codec (Err (Malformed (walk_fault.Graph one))) (Err (Malformed (walk_fault.Graph other))) a b =
    inl (ap (λ (fault : GraphFault). Err (Malformed (walk_fault.Graph fault))) (same_fault (graph_told codec) one other a.1 b.1))
one_outcome codec (Err (Malformed (walk_fault.Graph fault))) (Err OutOfMemory) a b = inr (inr refl)
one_outcome codec (Err OutOfMemory) other a b = inr (inl refl)
