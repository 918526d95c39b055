use Rattle.std.proofs.Common.{◌≡◌, List, None, map, sym, ap, ◌∙◌}
use Rattle.jack_rules.specs.declared.pins.JackPin.{JackPin}
use Rattle.jack_rules.specs.declared.pins.JackState.{JackState}
use Rattle.jack_rules.specs.declared.pins.SpeakerState.{SpeakerState}
use Rattle.jack_rules.specs.JackPins.{jacks_of, speakers_among}
use Rattle.jack_rules.specs.Switching.{SwitchingState, jack_opened, speaker_opened, pin_of}
use Rattle.jack_rules.proofs.Rows.{opened_pins}
use Rattle.jack_rules.proofs.switching.Switching.new.Goals as goal

pub returns-clause-opened : goal.returns-clause-opened
returns-clause-opened c =
    let graphs = c.args.graphs.now in
    let plans = c.args.plans.now in
    let jacks = c.in_ok-jacks.ensures.items in
    let pins = ap (λ (states : List JackState). map pin_of states) (c.deref.ensures.value ∙ jacks) ∙ opened_pins (jacks_of graphs plans) in
    let speakers = c.in_ok-speakers.ensures.items ∙ ap (λ (pins : List JackPin). map speaker_opened (speakers_among pins graphs plans)) pins in
    ap (λ (jacks : List JackState). let state : SwitchingState = record { jacks = jacks; speakers = c.in_ok-speakers.speakers.items; asking = None } in state) jacks
    ∙ ap (λ (speakers : List SpeakerState). let state : SwitchingState = record { jacks = map jack_opened (jacks_of graphs plans); speakers = speakers; asking = None } in state) speakers
