use Rattle.driver_bring_up.specs.declared.answers.TheConstants.{TAG}
use Rattle.laws_start.proofs.Tasked.{tasked}
use Rattle.laws_start.proofs.laws.machines_have_tasks.Goals as goal

pub returns : goal.returns
returns g c = λ setter format. tasked (g.T.Setter.means setter format TAG) (λ graph plan other. g.met.T.Setter.one_plan setter graph format TAG plan other)
