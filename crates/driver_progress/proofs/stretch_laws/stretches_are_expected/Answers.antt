use Rattle.std.proofs.Common.{refl}
use Rattle.driver_progress.specs.Expected.{has_settled}
use Rattle.driver_progress.proofs.Fitting.{settle_fits_by, poll_fits, interrupt_fits}
use Rattle.driver_progress.proofs.stretch_laws.stretches_are_expected.Goals as goal

pub returns-clause-settles : goal.returns-clause-settles
returns-clause-settles c = λ task state clock reads answered. settle_fits_by (has_settled state.kept clock) task state clock reads answered refl

pub returns-clause-polls : goal.returns-clause-polls
returns-clause-polls c = poll_fits

pub returns-clause-interrupts : goal.returns-clause-interrupts
returns-clause-interrupts c = interrupt_fits
