use Rattle.period_writer.proofs.BareStops.{bare_stop, stop_ends}
use Rattle.period_writer.proofs.ring_laws.a_bare_stop_ends_the_stream.Goals as goal

pub returns-clause-stopped : goal.returns-clause-stopped
returns-clause-stopped c = bare_stop

pub returns-clause-histories : goal.returns-clause-histories
returns-clause-histories c = stop_ends
