use Rattle.std.proofs.Common.{◌≡◌, ◌<◌, ℕ, false, get_or}
use Rattle.jack_rules.specs.declared.pins.SpeakerState.{SpeakerState}
use Rattle.jack_rules.specs.Switching.{is_wrong}
use Rattle.jack_rules.proofs.switching.set_first_right.Given as goal

abbrev pub invariant-loop-state : goal.invariant-loop-state
invariant-loop-state l =
    (l.speakers ≡ l.initial.speakers)
    × ((k : ℕ) (d : SpeakerState) → k < l.state-index → is_wrong l.jacks (get_or l.initial.speakers k d) ≡ false)
