use Rattle.std.proofs.Common.{ℕ, ◌<◌, get_or}
use Rattle.codec_graph.specs.declared.controls.Control.TheVariants.{Select, InLeft, InRight}
use Rattle.codec_graph.specs.Settings.{key, plain_controls}
use Rattle.codec_graph.specs.Widget.{most_amplified}
use Rattle.codec_dump.specs.Left.{IsSameAt}
use Rattle.codec_dump.proofs.same.same_node_settings.Given as goal

-- the controls so far are set to the same: the plain ones, the left sides of the inputs and then the right
abbrev pub invariant-loop-control : goal.invariant-loop-control
invariant-loop-control l = (k : ℕ) → k < l.control-index → IsSameAt l.one l.other (key l.nid (get_or plain_controls k Select))

abbrev pub invariant-loop-place : goal.invariant-loop-place
invariant-loop-place l = record {
  plain : (k : ℕ) → k < 11 → IsSameAt l.one l.other (key l.nid (get_or plain_controls k Select));
  left : (k : ℕ) → k < l.place → IsSameAt l.one l.other (key l.nid (InLeft k));
}

abbrev pub invariant-loop-place-2 : goal.invariant-loop-place-2
invariant-loop-place-2 l = record {
  plain : (k : ℕ) → k < 11 → IsSameAt l.one l.other (key l.nid (get_or plain_controls k Select));
  left : (k : ℕ) → k < most_amplified → IsSameAt l.one l.other (key l.nid (InLeft k));
  right : (k : ℕ) → k < l.place → IsSameAt l.one l.other (key l.nid (InRight k));
}
