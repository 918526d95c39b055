use Rattle.laws_switching.proofs.switching.drivers_that_switch_keep_to_rules.Goals as goal

pub returns : goal.returns
returns c = λ format verbs graphs plans task of. record {
  turns = c.a_turn_begins_to_switch.ensures format verbs graphs plans task of;
  steps = c.switching_goes_on_over_steps.ensures format verbs graphs plans task of;
  calls = c.switching_goes_on_over_calls.ensures format verbs graphs plans task of;
  ends = c.a_last_call_ends_switching.ensures format verbs graphs plans task of;
}
