-- A codec of an address and its place.
use Rattle.std.proofs.Common.{◌≡◌, ◌≢◌, ◌≤◌, ◌<◌, ◌==◌, ℕ, Bool, true, false, cond, List, [], ◌∷◌, length, map, set, get_or, nat_lt, if◌then◌else◌, Option, Some, None, refl, sym, ap, subst, ◌∙◌, inl, inr, arith, ne_eqb, lt-ltb, lt_irrefl, tests, rules}
use Rattle.std.specs.Prelude.{slice_get, IfSome, drop}
use Rattle.std.specs.Option.{unwrap_or, option_map}
use Rattle.std.specs.List.{position_or_len}
use Rattle.std.specs.List.Sorted.{IsStrictlyIncreasing}
use Rattle.std.proofs.lemmas.Bool.{ltb-false, cases_lt, cases_eq, eqb-true}
use Rattle.std.proofs.lemmas.List.{same_lists, length-map, length-set, get_or-map, get_or-set_same, get_or-set_other, get_or_default, with_items_is}
use Rattle.std.proofs.lemmas.List.Folds.{find_at}
use Rattle.std.proofs.lemmas.List.Sums.{fails_before_first, position_or_len_is}
use Rattle.std.proofs.lemmas.List.Quantifiers.{position-Some}
use Rattle.std.proofs.lemmas.List.Kept.{AllPairs-from_increasing}
use Rattle.std.proofs.lemmas.Option.{slice_get_past, slice_get-get_or}
use Rattle.std.proofs.lemmas.List.Elements.{All-get_or}
use Rattle.std.specs.Vec.{with_items}
use Rattle.std.specs.Prelude.{Vec}
use Rattle.codec_graph.specs.CodecStates.{CodecState, without_first}
use Rattle.codec_graph.specs.declared.waiting.Waiting.{Waiting}
use Rattle.codec_nodes.specs.Queues.{marked}
use Rattle.hda_world.specs.Worlds.{codec_at, with_codec}
use Rattle.device_core.specs.Codecs.{AreAddresses, addresses_of, place_of, KeepCodecs}

first_is : (first size place : ℕ) (within : Bool) → cond within (Some first) None ≡ Some place → first ≡ place
first_is first size place true is = ap (λ (o : Option ℕ). unwrap_or o 0) is
first_is first size place false is = (let never : None ≡ Some place = is in cc)

none_is : (first size : ℕ) (within : Bool) → nat_lt first size ≡ within → cond within (Some first) None ≡ None → size ≤ first
none_is first size true here is = (let never : Some first ≡ None = is in cc)
none_is first size false here is = ltb-false first size here

pub place_by : (first size place : ℕ) → first ≡ place → place < size → cond (nat_lt first size) (Some first) None ≡ Some place
place_by first size place is within = rw is (let inside : nat_lt place size ≡ true = lt-ltb place size within in rw inside refl)

place_past : (first size : ℕ) → first ≡ size → cond (nat_lt first size) (Some first) None ≡ None
place_past first size is = rw is (let outside : nat_lt size size ≡ false = search (rules, tests) in rw outside refl)

module _ (address : ℕ) where
  abbrev named : CodecState → Bool
  named codec = codec.graph.address == address

  abbrev changed : (CodecState → CodecState) → CodecState → CodecState
  changed change codec = if codec.graph.address == address then change codec else codec

  pub codec_there : (codecs : List CodecState) (place : ℕ) → place_of address codecs ≡ Some place → codec_at address codecs ≡ slice_get codecs place
  codec_there codecs place is = find_at named codecs ∙ ap (slice_get codecs) (first_is (position_or_len named codecs) (length codecs) place _ is)

  none_before : (codecs : List CodecState) → place_of address codecs ≡ None → length codecs ≤ position_or_len named codecs
  none_before codecs is = none_is (position_or_len named codecs) (length codecs) _ refl is

  pub none_there : (codecs : List CodecState) → place_of address codecs ≡ None → codec_at address codecs ≡ None
  none_there codecs is = find_at named codecs ∙ slice_get_past codecs (position_or_len named codecs) (none_before codecs is)

  -- the first codec with the address is the one at its place
  pub found_is : (codecs : List CodecState) (place : ℕ) (codec : CodecState) → place < length codecs → ((k : ℕ) (d : CodecState) → k < place → named (get_or codecs k d) ≡ false)
      → named (get_or codecs place codec) ≡ true → place_of address codecs ≡ Some place
  found_is codecs place codec within before hit =
      place_by (position_or_len named codecs) (length codecs) place (position_or_len_is named codecs place codec (omega (arith, within)) (λ k. before k codec) (λ inside. hit)) within

  pub none_is_found : (codecs : List CodecState) (place : ℕ) → place ≡ length codecs → ((k : ℕ) (d : CodecState) → k < place → named (get_or codecs k d) ≡ false)
      → place_of address codecs ≡ None
  none_is_found [] place end before = refl
  none_is_found (first ∷ rest) place end before =
      let codecs : List CodecState = first ∷ rest in
      place_past (position_or_len named codecs) (length codecs) (position_or_len_is named codecs (length codecs) first (omega arith) (λ k below. before k first (omega (arith, end, below))) (λ inside. absurd (lt_irrefl (length codecs) inside)))

  at_named : (change : CodecState → CodecState) (codec : CodecState) → (codec.graph.address == address) ≡ true → changed change codec ≡ change codec
  at_named change codec is = rw is refl

  at_other : (change : CodecState → CodecState) (codec : CodecState) → (codec.graph.address == address) ≡ false → changed change codec ≡ codec
  at_other change codec is = rw is refl

  pub changed_none : (change : CodecState → CodecState) (codecs : List CodecState) → place_of address codecs ≡ None → with_codec address change codecs ≡ codecs
  changed_none change codecs is = same_lists (with_codec address change codecs) codecs (length-map codecs (changed change)) (λ k d within. (
      let inside : k < length codecs = subst (λ (n : ℕ). k < n) (length-map codecs (changed change)) within in
      let before : k < position_or_len named codecs = (let all = none_before codecs is in omega (arith, all, inside)) in
      get_or-map (changed change) codecs k d d inside ∙ at_other change (get_or codecs k d) (fails_before_first named codecs k d before)))

  module _ (change : CodecState → CodecState) (codecs : List CodecState) (place : ℕ) (default : CodecState) where
    abbrev here : CodecState
    here = get_or codecs place default

    -- another place has another address
    others : IsStrictlyIncreasing (addresses_of codecs) → place < length codecs → (here.graph.address == address) ≡ true → (k : ℕ) (d : CodecState) → k < length codecs → k ≢ place
        → ((get_or codecs k d).graph.address == address) ≡ false
    others ascend within is k d inside apart =
        let pairs = AllPairs-from_increasing (addresses_of codecs) ascend in
        let same = eqb-true here.graph.address address is in
        let size = length-map codecs (λ codec. codec.graph.address) in
        let first = get_or-map (λ (codec : CodecState). codec.graph.address) codecs k d 0 inside in
        let second = get_or-map (λ (codec : CodecState). codec.graph.address) codecs place default 0 within in
        ne_eqb (get_or codecs k d).graph.address address (λ equal. elim (cases_lt k place) [
          | inl below ↦ (let less = pairs k place 0 below (omega (arith, within, size)) in omega (arith, less, first, second, same, equal))
          | inr past ↦ (let less = pairs place k 0 (omega (arith, past, apart)) (omega (arith, inside, size)) in omega (arith, less, first, second, same, equal))
        ])

    pub changed_here : IsStrictlyIncreasing (addresses_of codecs) → place_of address codecs ≡ Some place → with_codec address change codecs ≡ set codecs place (change here)
    changed_here ascend is =
        let found = position-Some named codecs place default is in
        let after : List CodecState = set codecs place (change here) in
        same_lists (with_codec address change codecs) after (length-map codecs (changed change) ∙ sym (length-set codecs place (change here))) (λ k d bound. (
        let inside : k < length codecs = subst (λ (n : ℕ). k < n) (length-map codecs (changed change)) bound in
        get_or-map (changed change) codecs k d d inside ∙ at_place k d inside found))
      where
        at_place : (k : ℕ) (d : CodecState) → k < length codecs → (place < length codecs) × (named here ≡ true) × ((k : ℕ) → k < place → named (get_or codecs k default) ≡ false)
            → changed change (get_or codecs k d) ≡ get_or (set codecs place (change here)) k d
        at_place k d inside found = elim (cases_eq k place) [
          | inl same ↦ subst (λ (p : ℕ). changed change (get_or codecs p d) ≡ get_or (set codecs place (change here)) p d) (sym same)
              (subst (λ (c : CodecState). changed change c ≡ get_or (set codecs place (change here)) place d) (get_or_default codecs place default d found.0)
              (at_named change here found.1 ∙ sym (get_or-set_same codecs place (change here) d found.0)))
          | inr apart ↦ at_other change (get_or codecs k d) (others ascend found.0 found.1 k d inside apart) ∙ sym (get_or-set_other codecs place k (change here) d apart)
        ]

-- a codec that is there has an address of a link
pub few_there : (address : ℕ) (codecs : List CodecState) (place : ℕ) (default : CodecState) → AreAddresses (addresses_of codecs) → place_of address codecs ≡ Some place → address ≤ 14
few_there address codecs place default good is =
    let found = position-Some (named address) codecs place default is in
    let size = length-map codecs (λ codec. codec.graph.address) in
    let few = All-get_or (λ (a : ℕ). a ≤ 14) (addresses_of codecs) place 0 (omega (arith, found.0, size)) good.few in
    let here = get_or-map (λ (codec : CodecState). codec.graph.address) codecs place default 0 found.0 in
    let same = eqb-true (get_or codecs place default).graph.address address found.1 in
    omega (arith, few, here, same)

pub codec_is : (address : ℕ) (codecs : List CodecState) (place : ℕ) (default : CodecState) → place_of address codecs ≡ Some place → codec_at address codecs ≡ Some (get_or codecs place default)
codec_is address codecs place default is = codec_there address codecs place is ∙ slice_get-get_or codecs place default (position-Some (named address) codecs place default is).0

if_some : {A : Type 0} (o : Option A) (P : Type 0) → P → IfSome o (λ _. P)
if_some None P p = tt
if_some (Some x) P p = p

pub some_few : {A : Type 0} (o : Option A) (n : ℕ) → n ≤ 14 → IfSome o (λ _. n ≤ 14)
some_few o n few = if_some o (n ≤ 14) few

-- where nothing waits, nothing is taken out
none_waits : (items : List Waiting) → option_map marked (slice_get items 0) ≡ None → drop 1 items ≡ items
none_waits [] none = refl
none_waits (item ∷ items) none = (let never : Some (marked item) ≡ None = none in cc)

pub nothing_taken : (codec : CodecState) → option_map marked (slice_get codec.waiting 0) ≡ None → without_first codec ≡ codec
nothing_taken codec none = ap (λ (items : List Waiting). record codec { waiting = items }) (none_waits codec.waiting none)

-- what a change keeps of each codec, a change of one keeps of all
pub parts-with_codec : {A : Type 0} (part : CodecState → A) (address : ℕ) (change : CodecState → CodecState) → ((codec : CodecState) → part (change codec) ≡ part codec)
    → (codecs : List CodecState) → map part (with_codec address change codecs) ≡ map part codecs
parts-with_codec part address change same [] = refl
parts-with_codec part address change same (codec ∷ codecs) =
    ap (λ x. x ∷ map part (with_codec address change codecs)) (either (codec.graph.address == address))
    ∙ ap (λ xs. part codec ∷ xs) (parts-with_codec part address change same codecs)
  where
    either : (named : Bool) → part (if named then change codec else codec) ≡ part codec
    either true = same codec
    either false = refl

pub keeps-with_codec : (address : ℕ) (change : CodecState → CodecState) → ((codec : CodecState) → (change codec).graph ≡ codec.graph) → ((codec : CodecState) → (change codec).settings ≡ codec.settings)
    → (codecs : List CodecState) → KeepCodecs codecs (with_codec address change codecs)
keeps-with_codec address change graphs settings codecs = record {
  graphs = parts-with_codec (λ codec. codec.graph) address change graphs codecs;
  settings = parts-with_codec (λ codec. codec.settings) address change settings codecs;
}

-- a list that was changed at one codec, put back
pub put_back : {Z : Type 0} (address : ℕ) (change : CodecState → CodecState) (v : Vec CodecState Z) (codecs : List CodecState) → codecs ≡ with_codec address change v.items
    → (with_items v codecs).items ≡ with_codec address change v.items
put_back address change v codecs is =
    with_items_is v codecs (ap length is ∙ (length-map v.items (λ codec. if codec.graph.address == address then change codec else codec) ∙ sym v.ok.0)) ∙ is

pub put_same : {Z : Type 0} (v : Vec CodecState Z) (codecs : List CodecState) → codecs ≡ v.items → (with_items v codecs).items ≡ v.items
put_same v codecs is = with_items_is v codecs (ap length is ∙ sym v.ok.0) ∙ is
