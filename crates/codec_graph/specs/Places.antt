-- The places of the candidate pins, before they are put in order. This project's own.
use Rattle.std.specs.Prelude.{◌≡◌, ◌≢◌, ◌↔◌, ℕ, true, List, map, All, AllPairs, Contains}
use Rattle.codec_graph.specs.declared.raw.RawCodec.{RawCodec}
use Rattle.codec_graph.specs.Widget.{node_at}
use Rattle.codec_graph.specs.declared.pin_kind.PinKind.{PinKind}
use Rattle.codec_graph.specs.Kinds.{is_candidate_as}
use Rattle.codec_graph.specs.declared.pin_order.Place.{Place}
use Rattle.codec_graph.specs.Order.{association_of, sequence_of}

-- the place is that of its pin
pub record IsPlace (codec : RawCodec) (place : Place) : Type 0 where
  pub of_association : place.association ≡ association_of (node_at codec place.nid)
  pub of_sequence : place.sequence ≡ sequence_of (node_at codec place.nid)

-- the place of a candidate
pub record IsPlaceOf (kind : PinKind) (codec : RawCodec) (nid : ℕ) (place : Place) : Type 0 where
  pub is : is_candidate_as kind codec nid ≡ true
  pub of_nid : place.nid ≡ nid
  pub right : IsPlace codec place

abbrev pub nids : List Place → List ℕ
nids places = map (λ (place : Place). place.nid) places

-- the places are those of the candidates, each once
pub record ArePlaces (kind : PinKind) (codec : RawCodec) (places : List Place) : Type 0 where
  pub each : All (IsPlace codec) places
  pub once : AllPairs (λ nid other. nid ≢ other) (nids places)
  pub exactly : (nid : ℕ) → Contains (nids places) nid ↔ (is_candidate_as kind codec nid ≡ true)
