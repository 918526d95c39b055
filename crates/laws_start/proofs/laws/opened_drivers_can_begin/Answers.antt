use Rattle.driver_bring_up.specs.declared.answers.TheConstants.{TAG}
use Rattle.laws_start.proofs.Beginning.{begins}
use Rattle.laws_start.proofs.laws.opened_drivers_can_begin.Goals as goal

pub returns : goal.returns
returns g c = λ setter format. begins (g.T.Setter.means setter format TAG)
