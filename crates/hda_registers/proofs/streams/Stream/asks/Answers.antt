use Rattle.std.proofs.Common.{refl}
use Rattle.hda_registers.proofs.Groups.{has_bit}
use Rattle.hda_registers.proofs.streams.Stream.asks.Goals as goal

pub returns : goal.returns
returns c =
    let word = c.self.inside.control.0 in
    rw (← c.self.view_is, c.any.ensures, c.both.ensures, c.both-2.ensures, c.both-3.ensures, c.contains.ensures tt, c.contains-2.ensures tt, c.contains-3.ensures tt, c.contains-4.ensures tt, c.contains-5.ensures tt, c.contains-6.ensures tt, has_bit word 26, has_bit word 2, has_bit word 27, has_bit word 3, has_bit word 28, has_bit word 4) refl
