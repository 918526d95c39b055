use Rattle.hda_world.proofs.Writing.{beside_streams, streams_out}
use Rattle.hda_world.proofs.stream_laws.write_beside_streams_leaves.Goals as goal

pub returns-clause-beside : goal.returns-clause-beside
returns-clause-beside c = beside_streams

pub returns-clause-running : goal.returns-clause-running
returns-clause-running c = streams_out
