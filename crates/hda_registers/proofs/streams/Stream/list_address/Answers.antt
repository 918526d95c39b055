use Rattle.hda_registers.proofs.Groups.{address_of}
use Rattle.hda_registers.proofs.streams.Stream.list_address.Goals as goal

pub returns : goal.returns
returns c = rw (← c.self.view_is) (address_of c.self.inside.list_base)
