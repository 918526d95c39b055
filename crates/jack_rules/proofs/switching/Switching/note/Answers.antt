use Rattle.std.proofs.Common.{List, length, map, sym, ap, subst, ◌∙◌}
use Rattle.std.proofs.lemmas.List.{length-map}
use Rattle.jack_rules.specs.declared.pins.JackState.{JackState}
use Rattle.jack_rules.specs.Switching.{JacksReach, told_jack}
use Rattle.jack_rules.proofs.Reached.{JackReaches, told_reach, with_all}
use Rattle.jack_rules.proofs.switching.Switching.note.Goals as goal

pub invariant_of-self : goal.invariant_of-self
invariant_of-self c =
    let jacks = c.self.inside.jacks in
    let is = c.note_all.ensures ∙ ap (λ (jacks : List JackState). map (told_jack c.args.event) jacks) c.deref_mut.ensures.value in record {
      jacks = with_all JackReaches jacks c.note_all.new.jacks (ap length is ∙ length-map jacks.items (told_jack c.args.event) ∙ sym jacks.ok.0)
          (subst JacksReach (sym is) (told_reach c.args.event jacks.items c.self.invariant.jacks));
      speakers = c.self.invariant.speakers;
    }
