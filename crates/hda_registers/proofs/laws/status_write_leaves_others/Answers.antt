use Rattle.std.proofs.Common.{lit<, lit≤}
use Rattle.hda_registers.specs.declared.shapes.Width.TheVariants.{One}
use Rattle.hda_registers.proofs.Keeping.{changes-input, changes-output}
use Rattle.hda_registers.proofs.Apart.{status-input, status-output}
use Rattle.hda_registers.proofs.laws.status_write_leaves_others.Goals as goal

pub returns-clause-input : goal.returns-clause-input
returns-clause-input c = λ fields value. (changes-input fields 0x83 One value (lit≤ tt) (lit< tt), status-input fields value)

pub returns-clause-output : goal.returns-clause-output
returns-clause-output c = λ fields value. (changes-output fields 0xA3 One value (lit≤ tt) (lit< tt), status-output fields value)
