use Rattle.std.proofs.Common.{◌≡◌, List, Option, None, sym, ap, subst, ◌∙◌}
use Rattle.std.specs.Prelude.{find}
use Rattle.std.specs.Option.{option_map}
use Rattle.verb_codes.specs.Verbs.{IsInRange}
use Rattle.jack_rules.specs.declared.pins.JackPin.{JackPin}
use Rattle.jack_rules.specs.declared.pins.JackState.{JackState}
use Rattle.jack_rules.specs.Switching.{SwitchingState, JacksReach, is_to_ask, asked_now, sense_command, choice_by_jack}
use Rattle.jack_rules.specs.Inside.{state_inside}
use Rattle.jack_rules.proofs.Firsts.{find_all, first_same, none_mapped, some_mapped}
use Rattle.jack_rules.proofs.Reached.{JackReaches, asked_reach, asked_items}
use Rattle.jack_rules.proofs.Choices.{sense_in_range}
use Rattle.jack_rules.proofs.switching.Switching.ask_next.Goals as goal

pub invariant_of-self : goal.invariant_of-self
invariant_of-self c = record {
  jacks = subst JacksReach (sym (asked_items c.self.inside.jacks c.ask_first.new.jacks c.deref_mut.result.now c.ask_first.ensures.jacks c.deref_mut.ensures.value))
      (asked_reach c.self.inside.jacks.items c.self.invariant.jacks);
  speakers = c.self.invariant.speakers;
}

pub invariant_of-self-in-None : goal.invariant_of-self-in-None
invariant_of-self-in-None c = record {
  jacks = subst JacksReach (sym (asked_items c.self.inside.jacks c.ask_first.new.jacks c.deref_mut.result.now c.ask_first.ensures.jacks c.deref_mut.ensures.value))
      (asked_reach c.self.inside.jacks.items c.self.invariant.jacks);
  speakers = c.self.invariant.speakers;
}

pub returns-in-Some-clause-in_range : goal.returns-in-Some-clause-in_range
returns-in-Some-clause-in_range c =
    let jacks = c.self.inside.jacks.items in
    some_mapped (λ (state : JackState). state.jack) (find is_to_ask jacks) c.in-Some.jack (λ (jack : JackPin). IsInRange (sense_command jack))
    (c.in-Some.ensures.jack ∙ ap (λ (jacks : List JackState). option_map (λ (state : JackState). state.jack) (find is_to_ask jacks)) c.deref_mut.ensures.value)
    (λ state is. sense_in_range state.jack (find_all is_to_ask asked_now JackReaches jacks state is c.self.invariant.jacks))

pub returns-in-None-clause-next : goal.returns-in-None-clause-next
returns-in-None-clause-next c =
    let inside = c.self.inside in
    let jacks = inside.jacks.items in
    let none : find is_to_ask jacks ≡ None = none_mapped (λ (state : JackState). state.jack) (find is_to_ask jacks)
    (c.in-None.ensures.jack ∙ ap (λ (jacks : List JackState). option_map (λ (state : JackState). state.jack) (find is_to_ask jacks)) c.deref_mut.ensures.value) in
    let same = asked_items inside.jacks c.ask_first.new.jacks c.deref_mut.result.now c.ask_first.ensures.jacks c.deref_mut.ensures.value ∙ first_same is_to_ask asked_now jacks none in
    ap (λ (jacks : List JackState). let state : SwitchingState = record { jacks = jacks; speakers = inside.speakers.items; asking = inside.asking } in state) same
    ∙ ap (λ (found : Option JackState). (choice_by_jack (state_inside inside) found).next) (sym none)
    ∙ ap (λ (state : SwitchingState). (choice_by_jack state (find is_to_ask state.jacks)).next) c.self.view_is
