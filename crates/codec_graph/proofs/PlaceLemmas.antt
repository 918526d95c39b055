-- The places of the candidates while they are gathered.
use Rattle.std.proofs.Common.{◌≡◌, ◌≢◌, ◌<◌, ◌≤◌, ◌+◌, ℕ, true, false, List, [], ◌∷◌, ◌++◌, get_or, Option, Some, None, refl, sym, ap, subst, ◌∙◌, inl, inr, arith}
use Rattle.std.specs.Prelude.{All, AllPairs, Contains, is_some}
use Rattle.std.proofs.lemmas.Bool.{cases_eq, false≢true}
use Rattle.std.proofs.lemmas.List.Elements.{All-push, All-nil, Contains-push, Contains-push_cases, Contains-append_left, Contains-get_or}
use Rattle.std.proofs.lemmas.List.Quantifiers.{all_pairs_push}
use Rattle.codec_graph.specs.declared.raw.RawCodec.{RawCodec}
use Rattle.codec_graph.specs.Widget.{node_at}
use Rattle.codec_graph.specs.Kinds.{is_candidate_as}
use Rattle.codec_graph.specs.declared.pin_kind.PinKind.{PinKind}
use Rattle.codec_graph.specs.declared.pin_order.Place.{Place}
use Rattle.codec_graph.specs.declared.raw.RawNode.{RawNode}
use Rattle.codec_graph.specs.Cycles.{IsWellFormed}
use Rattle.codec_graph.proofs.Nodes.{node_below}
use Rattle.codec_graph.specs.Places.{IsPlace, IsPlaceOf, nids, ArePlaces}
use Rattle.codec_graph.proofs.KindLemmas.{candidate_there}

-- the places are those of the candidates below a node, each once
pub record ArePlacesBelow (kind : PinKind) (codec : RawCodec) (places : List Place) (nid : ℕ) : Type 0 where
  pub each : All (IsPlace codec) places
  pub once : AllPairs (λ one other. one ≢ other) (nids places)
  pub low : (other : ℕ) → Contains (nids places) other → other < nid
  pub sound : (other : ℕ) → Contains (nids places) other → is_candidate_as kind codec other ≡ true
  pub complete : (other : ℕ) → other < nid → is_candidate_as kind codec other ≡ true → Contains (nids places) other

nids-push : (places : List Place) (place : Place) → nids (places ++ place ∷ []) ≡ nids places ++ place.nid ∷ []
nids-push [] place = refl
nids-push (first ∷ places) place = ap (λ rest. first.nid ∷ rest) (nids-push places place)

nothing_there : (x : ℕ) → Contains [] x → ⊥
nothing_there x h = omega (arith, h.1)

pub ArePlacesBelow-none : (kind : PinKind) (codec : RawCodec) → ArePlacesBelow kind codec [] 0
ArePlacesBelow-none kind codec = record {
  each = All-nil (IsPlace codec);
  once = λ i j d l h. absurd (omega arith);
  low = λ other h. absurd (nothing_there other h);
  sound = λ other h. absurd (nothing_there other h);
  complete = λ other h. absurd (omega arith);
}

pub ArePlacesBelow-yes : (kind : PinKind) (codec : RawCodec) (places : List Place) (nid : ℕ) (place : Place) → ArePlacesBelow kind codec places nid → IsPlaceOf kind codec nid place → ArePlacesBelow kind codec (places ++ place ∷ []) (nid + 1)
ArePlacesBelow-yes kind codec places nid place before new_place =
    let of_nid : place.nid ≡ nid = new_place.of_nid in
    let pushed = nids-push places place in
    let split : (other : ℕ) → Contains (nids (places ++ place ∷ [])) other → Contains (nids places ++ place.nid ∷ []) other = λ other h. subst (λ (xs : List ℕ). Contains xs other) pushed h in
    let join : (other : ℕ) → Contains (nids places ++ place.nid ∷ []) other → Contains (nids (places ++ place ∷ [])) other = λ other h. subst (λ (xs : List ℕ). Contains xs other) (sym pushed) h in
    record {
      each = All-push (IsPlace codec) places place before.each new_place.right;
      once = subst (λ (xs : List ℕ). AllPairs (λ one other. one ≢ other) xs) (sym pushed) (all_pairs_push (λ one other. one ≢ other) (nids places) place.nid before.once (λ k d h e. omega (arith, of_nid, e, before.low (get_or (nids places) k d) (Contains-get_or (nids places) k d h))));
      low = λ other h. elim (Contains-push_cases (nids places) place.nid other (split other h)) [ inl old ↦ omega (arith, before.low other old) | inr new ↦ omega (arith, of_nid) ];
      sound = λ other h. elim (Contains-push_cases (nids places) place.nid other (split other h)) [
        | inl old ↦ before.sound other old
        | inr new ↦ subst (λ (n : ℕ). is_candidate_as kind codec n ≡ true) (sym of_nid ∙ new) new_place.is
      ];
      complete = λ other h e. elim (cases_eq other nid) [
        | inl same ↦ join other (subst (λ (n : ℕ). Contains (nids places ++ place.nid ∷ []) n) (of_nid ∙ sym same) (Contains-push (nids places) place.nid))
        | inr ne ↦ join other (Contains-append_left (nids places) (place.nid ∷ []) other (before.complete other (omega arith) e))
      ];
    }

pub ArePlacesBelow-no : (kind : PinKind) (codec : RawCodec) (places : List Place) (nid : ℕ) → ArePlacesBelow kind codec places nid → is_candidate_as kind codec nid ≡ false → ArePlacesBelow kind codec places (nid + 1)
ArePlacesBelow-no kind codec places nid before is = record {
  each = before.each;
  once = before.once;
  low = λ other h. omega (arith, before.low other h);
  sound = before.sound;
  complete = λ other h e. elim (cases_eq other nid) [
    | inl same ↦ absurd (false≢true (sym is ∙ subst (λ (n : ℕ). is_candidate_as kind codec n ≡ true) same e))
    | inr ne ↦ before.complete other (omega arith) e
  ];
}

-- a candidate has a node identifier below 128
some_below : (codec : RawCodec) (nid : ℕ) (found : Option RawNode) → IsWellFormed codec → node_at codec nid ≡ found → is_some found ≡ true → nid < 128
some_below codec nid None well there e = absurd (false≢true e)
some_below codec nid (Some node) well there e = node_below codec nid node well there

is_candidate-below : (kind : PinKind) (codec : RawCodec) (nid : ℕ) → IsWellFormed codec → is_candidate_as kind codec nid ≡ true → nid < 128
is_candidate-below kind codec nid well e = some_below codec nid (node_at codec nid) well refl (candidate_there kind (node_at codec nid) e)

pub ArePlaces-all : (kind : PinKind) (codec : RawCodec) (places : List Place) (nid : ℕ) → IsWellFormed codec → 128 ≤ nid → ArePlacesBelow kind codec places nid → ArePlaces kind codec places
ArePlaces-all kind codec places nid well all before = record {
  each = before.each;
  once = before.once;
  exactly = λ other. (before.sound other, λ e. before.complete other (omega (arith, is_candidate-below kind codec other well e)) e);
}
