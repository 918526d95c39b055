use Rattle.std.proofs.Common.{false, set, get_or, ap, ◌∙◌, arith}
use Rattle.std.proofs.lemmas.List.{get_or_default}
use Rattle.std.proofs.lemmas.List.Edits.{map_over_more}
use Rattle.jack_rules.specs.declared.pins.JackPin.{JackPin}
use Rattle.jack_rules.specs.declared.pins.JackState.{JackState}
use Rattle.jack_rules.specs.Switching.{told_jack}
use Rattle.jack_rules.proofs.switching.note_all.Goals as goal

pub loop-state-preserved : goal.loop-state-preserved
loop-state-preserved c =
    let none : JackState = record { jack = record { codec = 0; pin = 0; tag = 0; association = 0 }; to_ask = false; present = false } in
    ap (λ (state : JackState). set c.loop-state.jacks c.loop-state.state-index state) c.told_jack.ensures
    ∙ map_over_more (told_jack c.args.event) c.args.jacks.now c.loop-state.jacks c.loop-state.state-index
    (get_or c.loop-state.jacks c.loop-state.state-index none) (omega arith) c.loop-state.invariant
    (get_or_default c.loop-state.jacks c.loop-state.state-index _ _ (omega arith))
