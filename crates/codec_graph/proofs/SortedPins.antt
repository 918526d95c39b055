-- The sorted places of the candidates give the order of the pins.
use Rattle.std.proofs.Common.{◌≡◌, ◌≢◌, ◌<◌, ◌==◌, ◌&&◌, ◌||◌, ℕ, Bool, true, false, List, length, get_or, refl, sym, ◌∙◌, inl, inr, arith, nat_cmp, is_lt, IsPermutation}
use Rattle.std.specs.Prelude.{AllPairs, nat_lt, nat_eq}
use Rattle.std.specs.Ordering.{ordering_then}
use Rattle.std.specs.List.Sorted.{IsSortedBy}
use Rattle.std.specs.Cmp.{IsStrictWeakOrder}
use Rattle.std.proofs.lemmas.Bool.{cases_eq, ne_eqb}
use Rattle.std.proofs.lemmas.Bool.Decides.{nat_tests, Decides-eqb}
use Rattle.std.proofs.lemmas.List.{get_or-map, length-map}
use Rattle.std.proofs.lemmas.List.Sorted.{sorted_far, ranks_by, IsPermutation-map, All-permutation, Contains-permutation, IsPermutation-sym}
use Rattle.std.proofs.lemmas.Map.Keys.{IsDistinct-IsPermutation}
use Rattle.std.proofs.lemmas.Map.Made.{AllPairs-from_IsDistinct, IsDistinct-from_AllPairs}
use Rattle.codec_graph.specs.declared.raw.RawCodec.{RawCodec}
use Rattle.codec_graph.specs.Widget.{node_at}
use Rattle.codec_graph.specs.declared.pin_kind.PinKind.{PinKind}
use Rattle.codec_graph.specs.declared.pin_order.Place.{Place}
use Rattle.codec_graph.specs.contracts.pin_order.PlaceOrd.TheImpl.Laws as laws
use Rattle.codec_graph.specs.Order.{association_of, sequence_of, comes_before, IsOrderAs}
use Rattle.codec_graph.specs.Places.{IsPlace, nids, ArePlaces}

abbrev is_less : Place → Place → Bool
is_less p q = is_lt (ordering_then (nat_cmp p.association q.association) (ordering_then (nat_cmp p.sequence q.sequence) (nat_cmp p.nid q.nid)))

-- places that do not fall and differ rise
rises : (a b s t m n : ℕ) → is_lt (ordering_then (nat_cmp b a) (ordering_then (nat_cmp t s) (nat_cmp n m))) ≡ false → m ≢ n → (nat_lt a b || (a == b && (nat_lt s t || (s == t && nat_lt m n)))) ≡ true
rises a b s t m n e ne = grind (arith, nat_tests)

rises_as : (a b s t m n a' b' s' t' : ℕ) → a ≡ a' → b ≡ b' → s ≡ s' → t ≡ t' → is_lt (ordering_then (nat_cmp b a) (ordering_then (nat_cmp t s) (nat_cmp n m))) ≡ false → m ≢ n → (nat_lt a' b' || (a' == b' && (nat_lt s' t' || (s' == t' && nat_lt m n)))) ≡ true
rises_as a b s t m n a' b' s' t' ea eb es et e ne = rw (← ea, ← eb, ← es, ← et) (rises a b s t m n e ne)

comes : (codec : RawCodec) (p q : Place) → IsPlace codec p → IsPlace codec q → is_less q p ≡ false → p.nid ≢ q.nid → comes_before codec p.nid q.nid ≡ true
comes codec p q is_p is_q e ne =
    rises_as p.association q.association p.sequence q.sequence p.nid q.nid (association_of (node_at codec p.nid)) (association_of (node_at codec q.nid)) (sequence_of (node_at codec p.nid)) (sequence_of (node_at codec q.nid)) is_p.of_association is_q.of_association is_p.of_sequence is_q.of_sequence e ne

same_keys : (x y : ℕ) → nat_eq x y ≡ nat_eq y x
same_keys x y = elim (cases_eq x y) [ inl e ↦ rw e refl | inr ne ↦ ne_eqb x y ne ∙ sym (ne_eqb y x (λ q. ne (sym q))) ]

distinct_after : (places sorted : List Place) → IsPermutation places sorted → AllPairs (λ one other. one ≢ other) (nids places) → AllPairs (λ one other. one ≢ other) (nids sorted)
distinct_after places sorted moved once =
    AllPairs-from_IsDistinct Decides-eqb (nids sorted) (IsDistinct-IsPermutation nat_eq same_keys (nids places) (nids sorted) (IsPermutation-map (λ (place : Place). place.nid) places sorted moved) (IsDistinct-from_AllPairs Decides-eqb (nids places) once))

pub IsOrder-sorted : (kind : PinKind) (codec : RawCodec) (places sorted : List Place) → ArePlaces kind codec places → IsPermutation places sorted → IsSortedBy is_less sorted → IsOrderAs kind codec (nids sorted)
IsOrder-sorted kind codec places sorted are moved up =
    let each = All-permutation (IsPlace codec) places sorted moved are.each in
    let once = distinct_after places sorted moved are.once in
    let moved_nids = IsPermutation-map (λ (place : Place). place.nid) places sorted moved in
    record {
      ascending = λ i j d less within.
          let dp : Place = record { association = 0; sequence = 0; nid = 0 } in
          let in_i : i < length sorted = omega (arith, length-map sorted (λ (place : Place). place.nid)) in
          let in_j : j < length sorted = omega (arith, length-map sorted (λ (place : Place). place.nid)) in
          let p = get_or sorted i dp in
          let q = get_or sorted j dp in
          let at_p : get_or (nids sorted) i d ≡ p.nid = get_or-map (λ (place : Place). place.nid) sorted i dp d in_i in
          let at_q : get_or (nids sorted) j d ≡ q.nid = get_or-map (λ (place : Place). place.nid) sorted j dp d in_j in
          let order : IsStrictWeakOrder is_less = ranks_by laws.total-law (λ (place : Place). place) in
          let far : is_less q p ≡ false = sorted_far is_less order sorted up i j dp (omega arith) in_j in
          let ne : p.nid ≢ q.nid = λ e. once i j d less within (at_p ∙ (e ∙ sym at_q)) in
          rw (at_p, at_q) (comes codec p q (each i dp in_i) (each j dp in_j) far ne);
      exactly = λ nid. (λ h. (are.exactly nid).0 (Contains-permutation (nids sorted) (nids places) nid (IsPermutation-sym (nids places) (nids sorted) moved_nids) h), λ e. Contains-permutation (nids places) (nids sorted) nid moved_nids ((are.exactly nid).1 e));
    }

-- no pin comes before itself
never_first : (group rank pin : ℕ) → (nat_lt group group || (group == group && (nat_lt rank rank || (rank == rank && nat_lt pin pin)))) ≡ true → ⊥
never_first group rank pin is = grind (arith, nat_tests)

pub not_before : (codec : RawCodec) (pin : ℕ) → comes_before codec pin pin ≡ true → ⊥
not_before codec pin = never_first (association_of (node_at codec pin)) (sequence_of (node_at codec pin)) pin
