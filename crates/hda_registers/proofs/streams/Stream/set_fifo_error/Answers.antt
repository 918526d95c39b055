use Rattle.hda_registers.proofs.StreamWrites.{with_fifo_error}
use Rattle.hda_registers.proofs.streams.Stream.set_fifo_error.Goals as goal

pub returns : goal.returns
returns c = rw (c.insert.ensures tt, ← c.self.view_is) (with_fifo_error c.self.inside.control.0 c.self.inside.position c.self.inside.buffer_length c.self.inside.last_index c.self.inside.format c.self.inside.list_base)
