-- Candidate pins, as they stand in orders and as they are counted.
use Rattle.std.proofs.Common.{◌≡◌, ◌≢◌, ◌<◌, ◌≤◌, ◌∙◌, ◌+◌, ℕ, Bool, true, List, length, filter, Option, Some, None, refl, sym, ap, subst, arith, slice_index_or}
use Rattle.std.specs.Prelude.{AllPairs, Contains, is_some, nat_eq}
use Rattle.std.specs.List.{IsDistinct, range_with_len}
use Rattle.std.specs.Set.{is_member}
use Rattle.std.proofs.lemmas.Cmp.{nat_eq_equiv}
use Rattle.std.proofs.lemmas.Bool.{and_parts}
use Rattle.std.proofs.lemmas.Bool.Decides.{Decides-eqb}
use Rattle.std.proofs.lemmas.List.FromFn.{get_or-range_with_len, length-range_with_len}
use Rattle.std.proofs.lemmas.List.Kept.{AllPairs-filter}
use Rattle.std.proofs.lemmas.List.Sums.{length-filter}
use Rattle.std.proofs.lemmas.Map.Made.{IsDistinct-from_AllPairs, is_member-Decides, is_member-filter, length-le_from_is_member}
use Rattle.codec_graph.specs.declared.raw.RawNode.{RawNode}
use Rattle.codec_graph.specs.declared.raw.RawCodec.{RawCodec}
use Rattle.codec_graph.specs.Cycles.{IsWellFormed}
use Rattle.codec_graph.specs.Widget.{node_at, node_identifiers}
use Rattle.codec_graph.specs.declared.pin_kind.PinKind.{PinKind}
use Rattle.codec_graph.specs.declared.pin_kind.PinKind.TheVariants.{Analog, Digital}
use Rattle.codec_graph.specs.Kinds.{is_candidate_as, is_candidate_at_as}
use Rattle.codec_graph.specs.Order.{IsOrderAs, comes_before}
use Rattle.route_planner.proofs.Callers.{IsBounded-from_sound, not_before}
use Rattle.hda_files.specs.declared.machine.CodecFile.{CodecFile}
use Rattle.hda_program.specs.Pins.{AreFewPins, AreTooManyPins, pins_in}

-- few are not too many
pub not_few_and_many : (kind : PinKind) (files : List CodecFile) → AreFewPins kind files → AreTooManyPins kind files → ⊥
not_few_and_many Analog files few many = many
not_few_and_many Digital files few many = omega (arith, few, many)

-- a candidate is a node
candidate_there : (kind : PinKind) (found : Option RawNode) → is_candidate_at_as kind found ≡ true → is_some found ≡ true
candidate_there Analog None is = is
candidate_there Digital None is = is
candidate_there kind (Some node) is = refl

module _ (kind : PinKind) (codec : RawCodec) (pins : List ℕ) (well : IsWellFormed codec) (order : IsOrderAs kind codec pins) where
  abbrev is_pin : ℕ → Bool
  is_pin = is_candidate_as kind codec

  abbrev all : List ℕ
  all = range_with_len 0 node_identifiers

  within : (nid : ℕ) → is_pin nid ≡ true → nid < node_identifiers
  within nid is = (IsBounded-from_sound codec well.tables).within nid (candidate_there kind (node_at codec nid) is)

  -- no pin stands twice
  once : AllPairs (λ one other. one ≢ other) pins
  once i j d less inside same =
      not_before codec (slice_index_or pins j d) (subst (λ (pin : ℕ). comes_before codec pin (slice_index_or pins j d) ≡ true) same (order.ascending i j d less inside))

  pins_distinct : IsDistinct nat_eq pins
  pins_distinct = IsDistinct-from_AllPairs Decides-eqb pins once

  range_at : (n i : ℕ) (d : ℕ) → i < n → slice_index_or (range_with_len 0 n) i d ≡ i
  range_at n i d inside = let from_zero : 0 + i ≡ i = omega arith in get_or-range_with_len 0 n i d inside ∙ from_zero

  range_once : (n : ℕ) → AllPairs (λ one other. one ≢ other) (range_with_len 0 n)
  range_once n i j d less inside same =
      let inside' : j < n = omega (arith, inside, length-range_with_len 0 n) in
      let bad : i ≡ j = sym (range_at n i d (omega (arith, less, inside'))) ∙ same ∙ range_at n j d inside' in omega (arith, less, bad)

  range_has : (n nid : ℕ) → nid < n → Contains (range_with_len 0 n) nid
  range_has n nid inside = (nid, omega (arith, inside, length-range_with_len 0 n), range_at n nid nid inside)

  counted : List ℕ
  counted = filter is_pin all

  counted_distinct : IsDistinct nat_eq counted
  unfolding counted
  counted_distinct = IsDistinct-from_AllPairs Decides-eqb (filter is_pin all) (AllPairs-filter (λ one other. one ≢ other) is_pin all (range_once node_identifiers))

  same_test : (nid x : ℕ) → nat_eq nid x ≡ true → is_pin nid ≡ is_pin x
  same_test nid x same = ap is_pin ((Decides-eqb nid x).0 same)

  -- a pin of the order is counted, and the other way round
  in_counted : (nid : ℕ) → is_member nat_eq pins nid ≡ true → is_member nat_eq counted nid ≡ true
  unfolding counted
  in_counted nid is =
      let candidate : is_pin nid ≡ true = (order.exactly nid).0 ((is_member-Decides Decides-eqb pins nid).0 is) in
      let inside : is_member nat_eq all nid ≡ true = (is_member-Decides Decides-eqb all nid).1 (range_has node_identifiers nid (within nid candidate)) in
      is_member-filter nat_eq_equiv is_pin nid (same_test nid) all ∙ (rw (inside, candidate) refl)

  in_order : (nid : ℕ) → is_member nat_eq counted nid ≡ true → is_member nat_eq pins nid ≡ true
  unfolding counted
  in_order nid is =
      let parts = and_parts (is_member nat_eq all nid) (is_pin nid) (sym (is_member-filter nat_eq_equiv is_pin nid (same_test nid) all) ∙ is) in
      (is_member-Decides Decides-eqb pins nid).1 ((order.exactly nid).1 parts.1)

  -- an order has as many pins as are counted
  pub order_length : length pins ≡ pins_in kind codec
  unfolding counted pins_in
  order_length =
      let few : length pins ≤ length counted = length-le_from_is_member nat_eq_equiv pins counted pins_distinct in_counted in
      let many : length counted ≤ length pins = length-le_from_is_member nat_eq_equiv counted pins counted_distinct in_order in
      omega (arith, few, many, length-filter is_pin all)
