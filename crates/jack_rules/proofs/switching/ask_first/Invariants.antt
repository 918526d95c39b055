use Rattle.std.proofs.Common.{◌≡◌, ◌<◌, ℕ, false, get_or}
use Rattle.jack_rules.specs.declared.pins.JackState.{JackState}
use Rattle.jack_rules.specs.Switching.{is_to_ask}
use Rattle.jack_rules.proofs.switching.ask_first.Given as goal

abbrev pub invariant-loop-state : goal.invariant-loop-state
invariant-loop-state l =
    (l.jacks ≡ l.initial.jacks) × ((k : ℕ) (d : JackState) → k < l.state-index → is_to_ask (get_or l.initial.jacks k d) ≡ false)
