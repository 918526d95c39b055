use Rattle.std.proofs.Common.{◌≡◌, Some, Option, subst}
use Rattle.codec_walk.specs.declared.walk.Walk.{Walk}
use Rattle.driver_agenda.specs.declared.plans.TheConstants.{TAG}
use Rattle.driver_agenda.specs.Agendas.{LedBy}
use Rattle.driver_agenda.proofs.agenda.Agenda.take.Goals as goal

pub returns-in_ok-take_word-in-Some-clause-leads : goal.returns-in_ok-take_word-in-Some-clause-leads
returns-in_ok-take_word-in-Some-clause-leads g c =
    let was : Some c.in-Some.walk ≡ c.args.self.now.walk = c.in-Some.ensures.value in
    let means = g.T.Setter.means c.args.setter.now c.args.self.now.format TAG in
    subst (λ (under_way : Option Walk). LedBy means under_way c.args.answer c.args.self.now c.take_word.new.self) was c.in_ok-take_word-in-Some.ensures.leads
