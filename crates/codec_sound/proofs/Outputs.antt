-- The signals of all nodes fit the step, and nothing else does.
use Rattle.std.proofs.Common.{◌≡◌, ◌≢◌, ℕ, zero, suc, ◌+◌, ◌<◌, ◌≤◌, inl, inr, set, replicate, Bool, true, false, cond, List, [], length, Contains, Option, Some, None, refl, sym, subst, ◌∙◌, add-one, arith, lit≤}
use Rattle.std.proofs.lemmas.Bool.{cases_lt, cases_eq}
use Rattle.std.proofs.lemmas.List.{get_or_past, get_or-set_same, get_or-set_other}
use Rattle.std.proofs.lemmas.List.Elements.{All-contains}
use Rattle.codec_graph.specs.declared.raw.RawNode.{RawNode}
use Rattle.codec_graph.specs.declared.raw.RawCodec.{RawCodec}
use Rattle.codec_graph.specs.Widget.{node_at, is_inner}
use Rattle.codec_graph.specs.Cycles.{IsWellFormed, inner_list_of, inner_list}
use Rattle.codec_graph.specs.Settings.{Entries}
use Rattle.codec_graph.proofs.Callers.{node_below, words_at, marked-set}
use Rattle.codec_graph.specs.declared.pin_kind.PinKind.{PinKind}
use Rattle.codec_sound.specs.declared.signals.Signal.{Signal}
use Rattle.codec_sound.specs.declared.signals.Signal.TheVariants.{Silence}
use Rattle.codec_sound.specs.declared.streams.LinkStream.{LinkStream}
use Rattle.codec_sound.specs.declared.sources.Sources.{Sources}
use Rattle.codec_sound.specs.declared.sources.Sources.TheVariants.{Converters}
use Rattle.codec_sound.specs.Signals.{given_from_at, gives_from, within_from, out_from, gives_as, out_as}
use Rattle.codec_graph.specs.Marks.{IsMarked}
use Rattle.codec_sound.specs.Depths.{IsShallow, in_table, IsReady, AreRight}
use Rattle.codec_sound.proofs.Agreeing.{gives-agree-from}
use Rattle.codec_sound.proofs.Ways.{shallow, shallow_listed, not_shallow, not_marked}

-- what comes over connections is the same from as many on as lead from the node
within-steady : (sources : Sources) (codec : RawCodec) (settings : Entries) (n nid m k : ℕ) → IsShallow codec n nid → n ≤ m → n ≤ k → within_from sources codec settings m nid ≡ within_from sources codec settings k nid
within-steady sources codec settings zero nid m k short one other = absurd (not_shallow codec nid short)
within-steady sources codec settings (suc n) nid zero k short one other = absurd (omega (arith, one))
within-steady sources codec settings (suc n) nid (suc m) zero short one other = absurd (omega (arith, other))
within-steady sources codec settings (suc n) nid (suc m) (suc k) short one other =
    gives-agree-from sources codec settings (within_from sources codec settings m) (within_from sources codec settings k) nid
    (λ to h. within-steady sources codec settings n to m k (shallow_listed codec n nid short to h) (omega (arith, one)) (omega (arith, other)))

-- what fits the step is what comes over that many connections
only-within : (sources : Sources) (codec : RawCodec) (settings : Entries) (f : ℕ → Signal) → ((nid : ℕ) → f nid ≡ gives_from sources codec settings f nid) → (n nid m : ℕ) → IsShallow codec n nid → n ≤ m → f nid ≡ within_from sources codec settings m nid
only-within sources codec settings f fits zero nid m short one = absurd (not_shallow codec nid short)
only-within sources codec settings f fits (suc n) nid zero short one = absurd (omega (arith, one))
only-within sources codec settings f fits (suc n) nid (suc m) short one =
    fits nid ∙ gives-agree-from sources codec settings f (within_from sources codec settings m) nid
    (λ to h. only-within sources codec settings f fits n to m (shallow_listed codec n nid short to h) (omega (arith, one)))

-- the signals fit the step at every node
pub out-gives-from : (sources : Sources) (codec : RawCodec) (settings : Entries) → IsWellFormed codec → (nid : ℕ) → out_from sources codec settings nid ≡ gives_from sources codec settings (out_from sources codec settings) nid
unfolding out_from
out-gives-from sources codec settings well nid = within-steady sources codec settings (suc 128) nid 256 257 (shallow codec well nid) (lit≤ tt) (lit≤ tt)

-- and nothing else does
pub out-only-from : (sources : Sources) (codec : RawCodec) (settings : Entries) (f : ℕ → Signal) → IsWellFormed codec → ((nid : ℕ) → f nid ≡ gives_from sources codec settings f nid) → (nid : ℕ) → f nid ≡ out_from sources codec settings nid
unfolding out_from
out-only-from sources codec settings f well fits nid = only-within sources codec settings f fits (suc 128) nid 256 (shallow codec well nid) (lit≤ tt)

-- while a stream plays, for pins of a kind
pub out-gives : (kind : PinKind) (codec : RawCodec) (settings : Entries) (stream : LinkStream) → IsWellFormed codec → (nid : ℕ) → out_as kind codec settings stream nid ≡ gives_as kind codec settings stream (out_as kind codec settings stream) nid
out-gives kind codec settings stream = out-gives-from (Converters kind stream) codec settings

pub out-only : (kind : PinKind) (codec : RawCodec) (settings : Entries) (stream : LinkStream) (f : ℕ → Signal) → IsWellFormed codec → ((nid : ℕ) → f nid ≡ gives_as kind codec settings stream f nid) → (nid : ℕ) → f nid ≡ out_as kind codec settings stream nid
out-only kind codec settings stream = out-only-from (Converters kind stream) codec settings

-- a node gives nothing past the last node identifier
gives-none : (sources : Sources) (codec : RawCodec) (settings : Entries) (f : ℕ → Signal) (nid : ℕ) → IsWellFormed codec → 128 ≤ nid → gives_from sources codec settings f nid ≡ Silence
unfolding gives_from
gives-none sources codec settings f nid well high = by (node_at codec nid) refl where
  by : (o : Option RawNode) → node_at codec nid ≡ o → given_from_at sources codec settings f nid o ≡ Silence
  by None is = refl
  by (Some node) is = absurd (omega (arith, high, node_below codec nid node well is))

out-high : (sources : Sources) (codec : RawCodec) (settings : Entries) (nid : ℕ) → IsWellFormed codec → 128 ≤ nid → out_from sources codec settings nid ≡ Silence
out-high sources codec settings nid well high = out-gives-from sources codec settings well nid ∙ gives-none sources codec settings (out_from sources codec settings) nid well high

-- the nodes that a mixer or selector lists have identifiers of a byte
listed_byte : (codec : RawCodec) (nid to : ℕ) → IsWellFormed codec → Contains (inner_list codec nid) to → to < 256
listed_byte codec nid to well h = by (node_at codec nid) refl h where
  within_node : (b : Bool) (node : RawNode) → node_at codec nid ≡ Some node → Contains (cond b node.list []) to → to < 256
  within_node true node is has = All-contains (λ nid. nid < 256) node.list to (words_at codec nid node well is).listed has
  within_node false node is has = absurd (omega (arith, has.1))

  by : (o : Option RawNode) → node_at codec nid ≡ o → Contains (inner_list_of o) to → to < 256
  by None is has = absurd (omega (arith, has.1))
  by (Some node) is has = within_node (is_inner node) node is has

-- one more node is worked out, whose listed nodes are
pub right-more : (sources : Sources) (codec : RawCodec) (settings : Entries) (table : List Signal) (known : List Bool) (place : ℕ) (value : Signal) → IsWellFormed codec → place < length table → AreRight sources codec settings table known → IsReady codec known place → value ≡ gives_from sources codec settings (in_table table) place → AreRight sources codec settings (set table place value) (set known place true)
right-more sources codec settings table known place value well long right ready is nid marked = elim (cases_eq nid place) as (λ _. in_table (set table place value) nid ≡ out_from sources codec settings nid) [
  | inl same ↦ here same
  | inr other ↦ get_or-set_other table place nid value Silence other ∙ right nid (before other)
] where
  right_here : value ≡ out_from sources codec settings place
  right_here =
      is
      ∙ (gives-agree-from sources codec settings (in_table table) (out_from sources codec settings) place (λ to h. right to (ready to h))
      ∙ sym (out-gives-from sources codec settings well place))

  here : nid ≡ place → in_table (set table place value) nid ≡ out_from sources codec settings nid
  here same =
      let P : ℕ → Type 0 = λ n. in_table (set table place value) n ≡ out_from sources codec settings n in
      subst P (sym same) (get_or-set_same table place value Silence long ∙ right_here)

  before : nid ≢ place → IsMarked known nid
  before other = elim (marked-set known place nid marked) as (λ _. IsMarked known nid) [ inl same ↦ absurd (other same) | inr old ↦ old ]

-- after one more round than connections lead over from it, a node is worked out
pub known-more : (codec : RawCodec) (known later : List Bool) (round : ℕ) → IsWellFormed codec → ((nid : ℕ) → nid < 256 → IsShallow codec round nid → IsMarked known nid) → ((nid : ℕ) → nid < 256 → IsReady codec known nid → IsMarked later nid) → (nid : ℕ) → nid < 256 → IsShallow codec (round + 1) nid → IsMarked later nid
known-more codec known later round well before further nid byte short =
    further nid byte (λ to h. before to (listed_byte codec nid to well h) (shallow_listed codec round nid (rw (← add-one round) short) to h))

-- nothing is worked out before the first round
pub known-none : (codec : RawCodec) (known : List Bool) (nid : ℕ) → nid < 256 → IsShallow codec 0 nid → IsMarked known nid
known-none codec known nid byte short = absurd (not_shallow codec nid short)

pub right-none : (sources : Sources) (codec : RawCodec) (settings : Entries) (table : List Signal) → AreRight sources codec settings table (replicate 256 false)
right-none sources codec settings table nid marked = absurd (not_marked 256 nid marked)

-- after 129 rounds the table has what each node gives
pub right-all : (sources : Sources) (codec : RawCodec) (settings : Entries) (table : List Signal) (known : List Bool) (round : ℕ) → IsWellFormed codec → length table ≡ 256 → 129 ≤ round → round ≤ 129 → AreRight sources codec settings table known → ((nid : ℕ) → nid < 256 → IsShallow codec round nid → IsMarked known nid) → (nid : ℕ) → in_table table nid ≡ out_from sources codec settings nid
right-all sources codec settings table known round well long least most right all nid = elim (cases_lt nid 256) as (λ _. in_table table nid ≡ out_from sources codec settings nid) [
  | inl byte ↦ right nid (all nid byte (subst (λ (n : ℕ). IsShallow codec n nid) (sym last) (shallow codec well nid)))
  | inr high ↦ get_or_past table nid Silence (omega arith) ∙ sym (out-high sources codec settings nid well (omega (arith, high)))
] where
  last : round ≡ suc 128
  last = omega arith
