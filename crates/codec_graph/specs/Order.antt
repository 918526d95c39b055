-- The order of the candidate pins of each kind. This project's own, over the configuration default's association and
-- sequence (High Definition Audio 1.0a, 7.3.3.31).
use Rattle.std.specs.Prelude.{◌≡◌, ◌↔◌, ℕ, Bool, true, ◌==◌, ◌&&◌, ◌||◌, nat_lt, List, Option, Some, None}
use Rattle.std.specs.Prelude.{AllPairs, Contains}
use Rattle.codec_graph.specs.declared.raw.RawNode.{RawNode}
use Rattle.codec_graph.specs.declared.raw.RawCodec.{RawCodec}
use Rattle.codec_graph.specs.Widget.{node_at}
use Rattle.codec_graph.specs.Candidates.{association, sequence}
use Rattle.codec_graph.specs.declared.pin_kind.PinKind.{PinKind}
use Rattle.codec_graph.specs.declared.pin_kind.PinKind.TheVariants.{Analog, Digital}
use Rattle.codec_graph.specs.Kinds.{is_candidate_as}

abbrev pub association_of : Option RawNode → ℕ
association_of None = 0
association_of (Some node) = association node

abbrev pub sequence_of : Option RawNode → ℕ
sequence_of None = 0
sequence_of (Some node) = sequence node

-- a pin comes before another by association, then by sequence, then by node identifier
abbrev pub comes_before : RawCodec → ℕ → ℕ → Bool
comes_before codec pin other =
    let p = node_at codec pin in
    let q = node_at codec other in
    nat_lt (association_of p) (association_of q)
    || (association_of p == association_of q
    && (nat_lt (sequence_of p) (sequence_of q) || (sequence_of p == sequence_of q && nat_lt pin other)))

-- the pins are the codec's candidates of the kind, each once and in order
pub record IsOrderAs (kind : PinKind) (codec : RawCodec) (pins : List ℕ) : Type 0 where
  pub ascending : AllPairs (λ pin other. comes_before codec pin other ≡ true) pins
  pub exactly : (nid : ℕ) → Contains pins nid ↔ (is_candidate_as kind codec nid ≡ true)

-- so are the analog ones, and the digital ones
abbrev pub IsOrder : RawCodec → List ℕ → Type 0
IsOrder = IsOrderAs Analog

abbrev pub IsDigitalOrder : RawCodec → List ℕ → Type 0
IsDigitalOrder = IsOrderAs Digital
