-- The candidate pins of each kind: what the tests of a node say of the node that is found.
use Rattle.std.proofs.Common.{◌≡◌, ◌==◌, ◌&&◌, ℕ, Bool, true, false, not, Option, Some, None, refl, sym, ap, ◌∙◌}
use Rattle.std.specs.Prelude.{nat_le, is_some}
use Rattle.std.proofs.lemmas.Bool.{false≢true}
use Rattle.codec_graph.specs.declared.raw.RawNode.{RawNode}
use Rattle.codec_graph.specs.declared.raw.RawCodec.{RawCodec}
use Rattle.codec_graph.specs.Widget.{node_at, is_pin, is_stereo, is_digital}
use Rattle.codec_graph.specs.Candidates.{connectivity, device, association}
use Rattle.verb_codes.specs.Words.{has_bit}
use Rattle.codec_graph.specs.declared.pin_kind.PinKind.{PinKind}
use Rattle.codec_graph.specs.declared.pin_kind.PinKind.TheVariants.{Analog, Digital}
use Rattle.codec_graph.specs.Kinds.{is_candidate_node_as, is_candidate_at_as, is_candidate_as}

node_some : (kind : PinKind) (node : RawNode) → is_candidate_at_as kind (Some node) ≡ is_candidate_node_as kind node
node_some Analog node = refl
node_some Digital node = refl

node_none : (kind : PinKind) → is_candidate_at_as kind None ≡ false
node_none Analog = refl
node_none Digital = refl

-- a node that is found is a candidate by the node's own test
pub candidate_some : (kind : PinKind) (codec : RawCodec) (nid : ℕ) (node : RawNode) → Some node ≡ node_at codec nid
    → is_candidate_node_as kind node ≡ is_candidate_as kind codec nid
candidate_some kind codec nid node there = sym (node_some kind node) ∙ ap
    (λ (o : Option RawNode). is_candidate_at_as kind o) there

-- where there is no node there is no candidate
pub candidate_none : (kind : PinKind) (codec : RawCodec) (nid : ℕ) → None ≡ node_at codec nid
    → is_candidate_as kind codec nid ≡ false
candidate_none kind codec nid none = ap (λ (o : Option RawNode). is_candidate_at_as kind o) (sym none) ∙ node_none kind

pub candidate_there : (kind : PinKind) (found : Option RawNode) → is_candidate_at_as kind found ≡ true
    → is_some found ≡ true
candidate_there kind None can = absurd (false≢true (sym (node_none kind) ∙ can))
candidate_there kind (Some node) can = refl

-- the first of seven tests that all pass
first : (a b c d e f g : Bool) → (a && b && c && d && e && f && g) ≡ true → a ≡ true
first true b c d e f g can = refl
first false b c d e f g can = cc

-- a candidate is a pin
pub candidate_pin : (kind : PinKind) (node : RawNode) → is_candidate_at_as kind (Some node) ≡ true → is_pin node ≡ true
candidate_pin Analog node can = first (is_pin node) (is_stereo node) (not (is_digital node)) (has_bit node.pin_caps 4)
    (not (connectivity node == 1)) (nat_le (device node) 2) (not (association node == 0)) can
candidate_pin Digital node can = first (is_pin node) (is_stereo node) (is_digital node) (has_bit node.pin_caps 4)
    (not (connectivity node == 1)) (device node == 4) (not (association node == 0)) can
