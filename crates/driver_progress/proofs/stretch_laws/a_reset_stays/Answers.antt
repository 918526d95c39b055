use Rattle.driver_progress.proofs.UntakenSteps.{untaken_steps}
use Rattle.driver_progress.proofs.UntakenRows.{looked_untaken}
use Rattle.driver_progress.proofs.InterruptWorlds.{can_reset_looked, settling_looked}
use Rattle.driver_progress.proofs.ResetWorlds.{can_reset_steps, settling_steps}
use Rattle.driver_progress.proofs.stretch_laws.a_reset_stays.Goals as goal

pub returns-clause-before : goal.returns-clause-before
returns-clause-before c = can_reset_steps

pub returns-clause-later : goal.returns-clause-later
returns-clause-later c = settling_steps

pub returns-clause-before_looks : goal.returns-clause-before_looks
returns-clause-before_looks c = can_reset_looked

pub returns-clause-later_looks : goal.returns-clause-later_looks
returns-clause-later_looks c = settling_looked

pub returns-clause-untaken : goal.returns-clause-untaken
returns-clause-untaken c = untaken_steps

pub returns-clause-untaken_looks : goal.returns-clause-untaken_looks
returns-clause-untaken_looks c = looked_untaken
