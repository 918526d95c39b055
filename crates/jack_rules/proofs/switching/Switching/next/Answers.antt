use Rattle.std.proofs.Common.{◌≡◌, List, Option, None, sym, ap, subst, ◌∙◌}
use Rattle.std.specs.Prelude.{find}
use Rattle.std.specs.Option.{option_map}
use Rattle.verb_codes.specs.declared.verbs.Command.{Command}
use Rattle.verb_codes.specs.Verbs.{IsInRange}
use Rattle.jack_rules.specs.declared.pins.JackState.{JackState}
use Rattle.jack_rules.specs.declared.pins.SpeakerState.{SpeakerState}
use Rattle.jack_rules.specs.Switching.{SwitchingState, SpeakersReach, Choice, is_wrong, righted, set_right, is_to_ask, pin_command, choice_by_jack, choice_by_speaker, next_choice}
use Rattle.jack_rules.specs.Inside.{state_inside}
use Rattle.jack_rules.proofs.Firsts.{find_all, first_same, none_mapped, some_mapped}
use Rattle.jack_rules.proofs.Reached.{SpeakerReaches, right_reach, right_items}
use Rattle.jack_rules.proofs.Choices.{pin_in_range}
use Rattle.jack_rules.proofs.switching.Switching.next.Goals as goal

-- the command is made of what is found
abbrev made_of : List JackState → List SpeakerState → Option Command
made_of jacks speakers = option_map (λ (state : SpeakerState). pin_command jacks state.speaker) (find (is_wrong jacks) speakers)

pub invariant_of-self : goal.invariant_of-self
invariant_of-self c = record {
  jacks = c.self.invariant.jacks;
  speakers = subst SpeakersReach (sym (right_items c.self.inside.jacks.items c.deref.result.now c.self.inside.speakers c.set_first_right.new.speakers c.deref_mut.result.now c.set_first_right.ensures.speakers c.deref.ensures.value c.deref_mut.ensures.value))
      (right_reach c.self.inside.jacks.items c.self.inside.speakers.items c.self.invariant.speakers);
}

pub invariant_of-self-in-None : goal.invariant_of-self-in-None
invariant_of-self-in-None c = record {
  jacks = c.self.invariant.jacks;
  speakers = subst SpeakersReach (sym (right_items c.self.inside.jacks.items c.deref.result.now c.self.inside.speakers c.set_first_right.new.speakers c.deref_mut.result.now c.set_first_right.ensures.speakers c.deref.ensures.value c.deref_mut.ensures.value))
      (right_reach c.self.inside.jacks.items c.self.inside.speakers.items c.self.invariant.speakers);
}

pub returns-in-Some-clause-in_range : goal.returns-in-Some-clause-in_range
returns-in-Some-clause-in_range c =
    let jacks = c.self.inside.jacks.items in
    let speakers = c.self.inside.speakers.items in
    some_mapped (λ (state : SpeakerState). pin_command jacks state.speaker) (find (is_wrong jacks) speakers) c.in-Some.command IsInRange
    (c.in-Some.ensures.command ∙ ap (λ (jacks : List JackState). made_of jacks c.deref_mut.result.now) c.deref.ensures.value ∙ ap (made_of jacks) c.deref_mut.ensures.value)
    (λ state is. pin_in_range jacks state.speaker (find_all (is_wrong jacks) (righted jacks) SpeakerReaches speakers state is c.self.invariant.speakers))

pub returns-in-None-clause-next : goal.returns-in-None-clause-next
returns-in-None-clause-next c =
    let inside = c.self.inside in
    let jacks = inside.jacks.items in
    let speakers = inside.speakers.items in
    let none : find (is_wrong jacks) speakers ≡ None = none_mapped (λ (state : SpeakerState). pin_command jacks state.speaker) (find (is_wrong jacks) speakers)
    (c.in-None.ensures.command ∙ ap (λ (jacks : List JackState). made_of jacks c.deref_mut.result.now) c.deref.ensures.value ∙ ap (made_of jacks) c.deref_mut.ensures.value) in
    let same = right_items c.self.inside.jacks.items c.deref.result.now c.self.inside.speakers c.set_first_right.new.speakers c.deref_mut.result.now c.set_first_right.ensures.speakers c.deref.ensures.value c.deref_mut.ensures.value ∙ first_same (is_wrong jacks) (righted jacks) speakers none in
    c.ask_next.ensures.next
    ∙ ap (λ (speakers : List SpeakerState). let state : SwitchingState = record { jacks = jacks; speakers = speakers; asking = inside.asking } in (choice_by_jack state (find is_to_ask state.jacks)).next) same
    ∙ ap (λ (found : Option SpeakerState). (choice_by_speaker (state_inside inside) found).next) (sym none)
    ∙ ap (λ (state : SwitchingState). (next_choice state).next) c.self.view_is
