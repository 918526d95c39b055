use Rattle.command_engine.specs.Polling.{found_by}
use Rattle.driver_bring_up.specs.Standing.{next_on}
use Rattle.driver_bring_up.specs.Commanding.{order_if}
use Rattle.driver_bring_up.proofs.Commands.{comes, stretch, closing, last_look}
use Rattle.driver_bring_up.proofs.command_laws.commands_are_expected.Goals as goal

pub returns-clause-runs : goal.returns-clause-runs
returns-clause-runs c = λ task state budget clock reads phase' old new free asking fresh led is at ends agrees.
    stretch task state budget clock reads phase' (order_if free (next_on new)) asking fresh (comes task state clock state.rings.outstanding (found_by state.rings reads) phase' old new free led is at ends agrees)

pub returns-clause-closes : goal.returns-clause-closes
returns-clause-closes c = λ task state clock reads phase' old new free asking fresh led is at ends agrees.
    closing task state clock reads phase' (order_if free (next_on new)) asking fresh (comes task state clock state.rings.outstanding (found_by state.rings reads) phase' old new free led is at ends agrees)

pub returns-clause-ends : goal.returns-clause-ends
returns-clause-ends c = λ task state clock reads rest phase' fresh some. last_look task state clock reads rest phase' fresh some
