use Rattle.std.proofs.Common.{◌≡◌, ◌<◌, ◌∙◌, ℕ, Bool, true, false, length, get_or, set, Option, None, Some, sym, ap, subst, arith}
use Rattle.std.specs.Option.{option_map}
use Rattle.verb_codes.specs.declared.verbs.Command.{Command}
use Rattle.jack_rules.specs.declared.pins.SpeakerState.{SpeakerState}
use Rattle.jack_rules.specs.Switching.{is_wanted, is_wrong, righted, pin_command, set_right}
use Rattle.jack_rules.proofs.Firsts.{first_none, first_some}
use Rattle.jack_rules.proofs.switching.set_first_right.Goals as goal

none : SpeakerState
none = record { speaker = record { codec = 0; pin = 0; association = 0 }; on = false }

pub returns-then-is_wrong-clause-command : goal.returns-then-is_wrong-clause-command
unfolding none
returns-then-is_wrong-clause-command c =
    let speakers = c.args.speakers.now in
    let same = c.loop-state.invariant.0 in
    let within : c.loop-state.state-index < length speakers = omega (arith, c.loop-state-test.true) in
    let here : is_wrong c.args.jacks.now (get_or speakers c.loop-state.state-index none) ≡ true =
    ap (λ speakers. is_wrong c.args.jacks.now (get_or speakers c.loop-state.state-index none)) (sym same) ∙ sym c.is_wrong.ensures ∙ c.if-is_wrong.true in
    let first = first_some (is_wrong c.args.jacks.now) (righted c.args.jacks.now) speakers c.loop-state.state-index none within c.loop-state.invariant.1 here in
    ap (λ (command : Command). Some command) c.pin_command.ensures
    ∙ ap (λ speakers. Some (pin_command c.args.jacks.now (get_or speakers c.loop-state.state-index none).speaker)) same
    ∙ sym (ap (λ (found : Option SpeakerState). option_map (λ (state : SpeakerState). pin_command c.args.jacks.now state.speaker) found) first.0)

pub returns-then-is_wrong-clause-speakers : goal.returns-then-is_wrong-clause-speakers
unfolding none
returns-then-is_wrong-clause-speakers c =
    let speakers = c.args.speakers.now in
    let same = c.loop-state.invariant.0 in
    let within : c.loop-state.state-index < length speakers = omega (arith, c.loop-state-test.true) in
    let here : is_wrong c.args.jacks.now (get_or speakers c.loop-state.state-index none) ≡ true =
    ap (λ speakers. is_wrong c.args.jacks.now (get_or speakers c.loop-state.state-index none)) (sym same) ∙ sym c.is_wrong.ensures ∙ c.if-is_wrong.true in
    let first = first_some (is_wrong c.args.jacks.now) (righted c.args.jacks.now) speakers c.loop-state.state-index none within c.loop-state.invariant.1 here in
    ap (λ (on : Bool). set c.loop-state.speakers c.loop-state.state-index (let state : SpeakerState = record (get_or c.loop-state.speakers c.loop-state.state-index none) { on = on } in state)) c.is_wanted-state.ensures
    ∙ ap (λ speakers. set speakers c.loop-state.state-index (righted c.args.jacks.now (get_or speakers c.loop-state.state-index none))) same ∙ sym first.1

pub returns-clause-command : goal.returns-clause-command
returns-clause-command c =
    let speakers = c.args.speakers.now in
    let first = first_none (is_wrong c.args.jacks.now) (righted c.args.jacks.now) speakers (λ k d within. c.loop-state.invariant.1 k d (omega (arith, within, c.loop-state-test.false))) in
    sym (ap (λ (found : Option SpeakerState). option_map (λ (state : SpeakerState). pin_command c.args.jacks.now state.speaker) found) first.0)

pub returns-clause-speakers : goal.returns-clause-speakers
returns-clause-speakers c =
    let speakers = c.args.speakers.now in
    let first = first_none (is_wrong c.args.jacks.now) (righted c.args.jacks.now) speakers (λ k d within. c.loop-state.invariant.1 k d (omega (arith, within, c.loop-state-test.false))) in
    c.loop-state.invariant.0 ∙ sym first.1
