-- What connections through mixers and selectors reach.
use Rattle.std.proofs.Common.{◌≡◌, ℕ, ◌<◌, ◌≤◌, inl, inr, ◌⊎◌, ◌≢◌, set, zero, suc, replicate, Bool, true, false, List, [], ◌∷◌, ◌++◌, length, get_or, Contains, arith}
use Rattle.std.proofs.lemmas.List.{get_or_past, get_or-set_other, get_or-replicate, length-replicate}
use Rattle.std.proofs.lemmas.Bool.{cases_lt, cases_eq}
use Rattle.codec_graph.specs.declared.raw.RawCodec.{RawCodec}
use Rattle.codec_graph.specs.Cycles.{inner_list, Leads, Reaches, IsOnCycle}
use Rattle.codec_graph.proofs.Tables.{IsCounted, node_at-past}
use Rattle.codec_graph.specs.Marks.{IsMarked}

-- a connection more at the end
leads_on : (codec : RawCodec) (from : ℕ) (through : List ℕ) (mid to : ℕ) → Leads codec from through mid → Contains (inner_list codec mid) to → Leads codec from (through ++ mid ∷ []) to
leads_on codec from [] mid to way last = (way, last)
leads_on codec from (next ∷ through) mid to way last = (way.0, leads_on codec next through mid to way.1 last)

pub reaches_on : (codec : RawCodec) (from mid to : ℕ) → Reaches codec from mid → Contains (inner_list codec mid) to → Reaches codec from to
reaches_on codec from mid to way last = (way.0 ++ mid ∷ [], leads_on codec from way.0 mid to way.1 last)

-- a fact that each connection keeps holds of all that is reached from where the first connections have it
pub kept_along : (P : ℕ → Type 0) (codec : RawCodec) → ((node nid : ℕ) → P node → Contains (inner_list codec node) nid → P nid) → (from : ℕ) (through : List ℕ) (to : ℕ) → ((nid : ℕ) → Contains (inner_list codec from) nid → P nid) → Leads codec from through to → P to
kept_along P codec keeps from [] to first way = first to way
kept_along P codec keeps from (next ∷ through) to first way =
    kept_along P codec keeps next through to (λ nid last. keeps next nid (first next way.0) last) way.1

-- a mark stands inside the list of marks
pub marked_within : (marks : List Bool) (nid : ℕ) → IsMarked marks nid → nid < length marks
marked_within marks nid m = elim (cases_lt nid (length marks)) as (λ _. nid < length marks) [ inl lt ↦ lt | inr ge ↦ absurd (not_past ge) ] where
  not_past : length marks ≤ nid → ⊥
  not_past ge = let e = get_or_past marks nid false ge in cc

-- how many marks are missing
abbrev pub unmarked_count : List Bool → ℕ
unmarked_count [] = 0
unmarked_count (true ∷ marks) = unmarked_count marks
unmarked_count (false ∷ marks) = suc (unmarked_count marks)

-- a mark more leaves one missing less
pub unmarked_count-set : (marks : List Bool) (k : ℕ) → k < length marks → get_or marks k false ≡ false → unmarked_count (set marks k true) < unmarked_count marks
unmarked_count-set [] k within clear = absurd (omega arith)
unmarked_count-set (true ∷ marks) zero within clear = cc
unmarked_count-set (false ∷ marks) zero within clear = omega arith
unmarked_count-set (true ∷ marks) (suc k) within clear = unmarked_count-set marks k (omega arith) clear
unmarked_count-set (false ∷ marks) (suc k) within clear = let fewer = unmarked_count-set marks k (omega arith) clear in omega (arith, fewer)

-- a mark after one more was made is that one or was there
pub marked-set : (marks : List Bool) (k node : ℕ) → IsMarked (set marks k true) node → (node ≡ k) ⊎ IsMarked marks node
marked-set marks k node m = elim (cases_eq node k) as (λ _. (node ≡ k) ⊎ IsMarked marks node) [ inl same ↦ inl same | inr other ↦ inr (before other) ] where
  before : node ≢ k → IsMarked marks node
  before other = rw get_or-set_other at m

-- no connections lead on from a node above 7Fh
pub no_cycle_past : (codec : RawCodec) → IsCounted codec → (nid : ℕ) → 128 ≤ nid → IsOnCycle codec nid → ⊥
no_cycle_past codec c nid high cycle = stuck cycle.0 cycle.1 where
  empty : inner_list codec nid ≡ []
  empty = rw (node_at-past codec c nid high)

  none : (to : ℕ) → Contains (inner_list codec nid) to → ⊥
  none to h = let k = rw empty at h in absurd (omega (arith, k.1))

  stuck : (through : List ℕ) → Leads codec nid through nid → ⊥
  stuck [] way = none nid way
  stuck (next ∷ through) way = none next way.0

-- no node is marked at first
pub not_marked : (nid : ℕ) → IsMarked (replicate 256 false) nid → ⊥
not_marked nid m = elim (cases_lt nid 256) as (λ _. ⊥) [ inl lt ↦ inside lt | inr ge ↦ outside ge ] where
  inside : nid < 256 → ⊥
  inside lt = let e = get_or-replicate 256 nid false false lt in cc

  outside : 256 ≤ nid → ⊥
  outside ge = let e = get_or_past (replicate 256 false) nid false (rw length-replicate ge) in cc
