use Rattle.hda_world.proofs.Settling.{write_begins_order, write_keeps_order}
use Rattle.hda_world.proofs.stream_laws.writes_keep_order.Goals as goal

pub returns-clause-begins : goal.returns-clause-begins
returns-clause-begins c = write_begins_order

pub returns-clause-keeps : goal.returns-clause-keeps
returns-clause-keeps c world from at value width = write_keeps_order world at value width from
