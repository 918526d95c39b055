use Rattle.schedule_reader.proofs.FaultLemmas.{no_memory, one_reading}
use Rattle.schedule_reader.proofs.laws.one_schedule.Goals as goal

pub returns-clause-memory : goal.returns-clause-memory
returns-clause-memory c = no_memory

pub returns-clause-reading : goal.returns-clause-reading
returns-clause-reading c = one_reading
