use Rattle.driver_progress.proofs.Polled.{poll_trail}
use Rattle.driver_progress.proofs.stretch_laws.polls_are_noted.Goals as goal

pub returns : goal.returns
returns c = poll_trail
