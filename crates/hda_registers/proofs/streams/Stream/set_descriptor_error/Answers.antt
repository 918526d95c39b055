use Rattle.std.proofs.Common.{◌∙◌, ap}
use Rattle.std.specs.Prelude.{bit_or}
use Rattle.hda_registers.specs.Fields.{Descriptor}
use Rattle.hda_registers.proofs.StreamWrites.{with_descriptor_error, without_run}
use Rattle.hda_registers.proofs.streams.Stream.set_descriptor_error.Goals as goal

pub returns : goal.returns
returns c =
    let i = c.self.inside in
    rw (c.remove.ensures tt, c.insert.ensures tt, ← c.self.view_is)
    (without_run (bit_or i.control.0 0x10000000) i.position i.buffer_length i.last_index i.format i.list_base
    ∙ ap (λ (d : Descriptor). record d { run = 0 }) (with_descriptor_error c.self.inside.control.0 c.self.inside.position c.self.inside.buffer_length c.self.inside.last_index c.self.inside.format c.self.inside.list_base))
