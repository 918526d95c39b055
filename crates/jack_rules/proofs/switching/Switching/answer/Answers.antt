use Rattle.std.proofs.Common.{List, length, map, sym, ap, subst, ◌∙◌}
use Rattle.std.proofs.lemmas.List.{length-map}
use Rattle.jack_rules.specs.declared.pins.JackState.{JackState}
use Rattle.jack_rules.specs.Switching.{JacksReach, sensed}
use Rattle.jack_rules.proofs.Reached.{JackReaches, sensed_reach, with_all}
use Rattle.jack_rules.proofs.switching.Switching.answer.Goals as goal

pub invariant_of-self : goal.invariant_of-self
invariant_of-self c =
    let jacks = c.self.inside.jacks in
    let change = sensed c.in-Some.asked c.has_bit.result in
    let is = c.sense_all.ensures ∙ ap (λ (jacks : List JackState). map change jacks) c.deref_mut.ensures.value in record {
      jacks = with_all JackReaches jacks c.sense_all.new.jacks (ap length is ∙ length-map jacks.items change ∙ sym jacks.ok.0)
          (subst JacksReach (sym is) (sensed_reach c.in-Some.asked c.has_bit.result jacks.items c.self.invariant.jacks));
      speakers = c.self.invariant.speakers;
    }
