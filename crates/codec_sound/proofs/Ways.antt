-- Ways through the mixers and selectors of a well-formed graph are short.
use Rattle.std.proofs.Common.{◌≡◌, ℕ, zero, suc, ◌<◌, ◌≤◌, inl, inr, set, replicate, Bool, true, false, List, [], ◌∷◌, length, get_or, Contains, Option, Some, None, refl, arith}
use Rattle.std.proofs.lemmas.List.{get_or_past, get_or-replicate, length-replicate, length-set}
use Rattle.std.proofs.lemmas.Bool.{cases_lt}
use Rattle.codec_graph.specs.declared.raw.RawNode.{RawNode}
use Rattle.codec_graph.specs.declared.raw.RawCodec.{RawCodec}
use Rattle.codec_graph.specs.Widget.{node_at}
use Rattle.codec_graph.specs.Cycles.{IsWellFormed, inner_list_of, inner_list, Leads, Reaches}
use Rattle.codec_graph.proofs.Callers.{node_below, unmarked_count, unmarked_count-set, marked-set}
use Rattle.codec_graph.specs.Marks.{IsMarked}
use Rattle.codec_sound.specs.Depths.{IsShallow}

-- a connection more at the end of a way
leads_on : (codec : RawCodec) (from : ℕ) (through : List ℕ) (mid to : ℕ) → Leads codec from through mid → Contains (inner_list codec mid) to → Reaches codec from to
leads_on codec from [] mid to way last = (mid ∷ [], (way, last))
leads_on codec from (next ∷ through) mid to way last =
    let rest = leads_on codec next through mid to way.1 last in (next ∷ rest.0, (way.0, rest.1))

unmarked_count-replicate : (n : ℕ) → unmarked_count (replicate n false) ≡ n
unmarked_count-replicate zero = refl
unmarked_count-replicate (suc n) = rw (unmarked_count-replicate n) refl

-- no node is marked at first
pub not_marked : (n nid : ℕ) → IsMarked (replicate n false) nid → ⊥
not_marked n nid m = elim (cases_lt nid n) as (λ _. ⊥) [ inl lt ↦ inside lt | inr ge ↦ outside ge ] where
  inside : nid < n → ⊥
  inside lt = let e = get_or-replicate n nid false false lt in cc

  outside : n ≤ nid → ⊥
  outside ge = let e = get_or_past (replicate n false) nid false (rw length-replicate ge) in cc

-- a node that lists another is a widget
lists_below : (codec : RawCodec) (nid to : ℕ) → IsWellFormed codec → (o : Option RawNode) → node_at codec nid ≡ o → Contains (inner_list_of o) to → nid < 128
lists_below codec nid to well None is h = absurd (omega (arith, h.1))
lists_below codec nid to well (Some node) is h = node_below codec nid node well is

-- where each marked node reaches this one, it is not marked
not_reached : (codec : RawCodec) (nid : ℕ) (marks : List Bool) → IsWellFormed codec → ((m : ℕ) → IsMarked marks m → Reaches codec m nid) → (b : Bool) → get_or marks nid false ≡ b → get_or marks nid false ≡ false
not_reached codec nid marks well reach true is = absurd (well.acyclic nid (reach nid is))
not_reached codec nid marks well reach false is = is

-- and from there connections lead over at most as many nodes as are not marked
shallow_from : (codec : RawCodec) → IsWellFormed codec → (n nid : ℕ) (marks : List Bool) → length marks ≡ 128 → unmarked_count marks ≤ n → ((m : ℕ) → IsMarked marks m → Reaches codec m nid) → (to : ℕ) → Contains (inner_list codec nid) to → IsShallow codec n to
unfolding IsShallow
shallow_from codec well zero nid marks long few reach to h =
    let below : nid < 128 = lists_below codec nid to well (node_at codec nid) refl h in
    let clear : get_or marks nid false ≡ false = not_reached codec nid marks well reach (get_or marks nid false) refl in
    let fewer : unmarked_count (set marks nid true) < unmarked_count marks = unmarked_count-set marks nid (omega arith) clear in
    omega (arith, fewer, few)
shallow_from codec well (suc n) nid marks long few reach to h =
    let below : nid < 128 = lists_below codec nid to well (node_at codec nid) refl h in
    let clear : get_or marks nid false ≡ false = not_reached codec nid marks well reach (get_or marks nid false) refl in
    let fewer : unmarked_count (set marks nid true) < unmarked_count marks = unmarked_count-set marks nid (omega arith) clear in
    shallow_from codec well n to (set marks nid true) (rw length-set long) (omega (arith, fewer, few)) (λ m marked. elim (marked-set marks nid m marked) as (λ _. Reaches codec m to) [
      | inl same ↦ rw same ([], h)
      | inr before ↦ let way = reach m before in leads_on codec m way.0 nid to way.1 h
    ])

-- connections lead over at most 128 nodes
pub shallow : (codec : RawCodec) → IsWellFormed codec → (nid : ℕ) → IsShallow codec (suc 128) nid
unfolding IsShallow
shallow codec well nid =
    let few : unmarked_count (replicate 128 false) ≤ 128 = omega (arith, unmarked_count-replicate 128) in
    shallow_from codec well 128 nid (replicate 128 false) (length-replicate 128 false) few (λ m marked. absurd (not_marked 128 m marked))

-- the listed nodes' ways are shorter
pub shallow_listed : (codec : RawCodec) (n nid : ℕ) → IsShallow codec (suc n) nid → (to : ℕ) → Contains (inner_list codec nid) to → IsShallow codec n to
unfolding IsShallow
shallow_listed codec n nid h = h

pub not_shallow : (codec : RawCodec) (nid : ℕ) → IsShallow codec zero nid → ⊥
unfolding IsShallow
not_shallow codec nid h = h
