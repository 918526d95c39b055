use Rattle.hda_registers.proofs.StreamWrites.{with_fifo_ready, without_fifo_ready}
use Rattle.hda_registers.proofs.streams.Stream.set_ready.Goals as goal

pub returns-then-ready : goal.returns-then-ready
returns-then-ready c = rw (c.insert.ensures tt, ← c.self.view_is, c.if-ready.true) (with_fifo_ready c.self.inside.control.0 c.self.inside.position c.self.inside.buffer_length c.self.inside.last_index c.self.inside.format c.self.inside.list_base)

pub returns-else-ready : goal.returns-else-ready
returns-else-ready c = rw (c.remove.ensures tt, ← c.self.view_is, c.if-ready.false) (without_fifo_ready c.self.inside.control.0 c.self.inside.position c.self.inside.buffer_length c.self.inside.last_index c.self.inside.format c.self.inside.list_base)
