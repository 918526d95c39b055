use Rattle.std.proofs.Common.{refl, arith}
use Rattle.hda_registers.proofs.StreamWrites.{control_word, reset_word, length_word, last_word, format_word, base_word, other_word}
use Rattle.hda_registers.proofs.streams.Stream.write.Goals as goal

pub returns-then-access-eq0 : goal.returns-then-access-eq0
returns-then-access-eq0 c =
    rw (c.leaves-word.ensures, ← c.self.view_is)
    (control_word c.args.access c.in-0.is c.requires c.if-access-eq0.true c.self.inside.control.0 c.self.inside.position c.self.inside.buffer_length c.self.inside.last_index c.self.inside.format c.self.inside.list_base)

pub returns-else-access-eq0 : goal.returns-else-access-eq0
returns-else-access-eq0 c =
    rw (c.self-else-access-eq0.view_is, c.reset_to.ensures.one refl)
    (reset_word c.args.access c.in-0.is c.requires c.if-access-eq0.false c.args.self.now)

pub returns-in-2 : goal.returns-in-2
returns-in-2 c =
    rw (c.leaves-self-inside.ensures, c.at_rest.ensures, ← c.self.view_is) (length_word c.args.access c.in-2.is c.requires c.self.inside.control.0 c.self.inside.position c.self.inside.buffer_length c.self.inside.last_index c.self.inside.format c.self.inside.list_base)

pub returns-in-3 : goal.returns-in-3
returns-in-3 c =
    rw (c.leaves-self-inside-in-3.ensures, c.at_rest-in-3.ensures, ← c.self.view_is) (last_word c.args.access c.in-3.is c.requires c.self.inside.control.0 c.self.inside.position c.self.inside.buffer_length c.self.inside.last_index c.self.inside.format c.self.inside.list_base)

pub returns-in-4 : goal.returns-in-4
returns-in-4 c =
    rw (c.leaves-self-inside-in-4.ensures, c.at_rest-in-4.ensures, ← c.self.view_is) (format_word c.args.access c.in-4.is c.requires c.self.inside.control.0 c.self.inside.position c.self.inside.buffer_length c.self.inside.last_index c.self.inside.format c.self.inside.list_base)

pub returns-in-6 : goal.returns-in-6
returns-in-6 c =
    rw (c.leaves-self-inside-in-6.ensures, c.at_rest-in-6.ensures, ← c.self.view_is) (base_word c.args.access c.in-6.is c.requires c.self.inside.control.0 c.self.inside.position c.self.inside.buffer_length c.self.inside.last_index c.self.inside.format c.self.inside.list_base)

pub returns-in_default : goal.returns-in_default
returns-in_default c = other_word c.args.access c.args.self.now (omega arith) (omega arith) (omega arith) (omega arith) (omega arith)
