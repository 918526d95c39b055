use Rattle.driver_bring_up.specs.declared.answers.TheConstants.{TAG}
use Rattle.laws_start.proofs.Beginning.{stands_before}
use Rattle.laws_start.proofs.laws.opened_drivers_stand.Goals as goal

pub returns : goal.returns
returns g c = λ setter format. stands_before (g.T.Setter.means setter format TAG)
