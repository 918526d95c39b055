use Rattle.std.proofs.Common.{arith}
use Rattle.std.specs.Prelude.{bit_and}
use Rattle.hda_registers.proofs.Dispatch.{shown-global, shown-input, shown-output, shown-nothing}
use Rattle.hda_registers.proofs.registers.Registers.shown.Goals as goal

pub returns-then-at-lt-INPUT_DESCRIPTOR : goal.returns-then-at-lt-INPUT_DESCRIPTOR
returns-then-at-lt-INPUT_DESCRIPTOR c =
    let access = c.of-access.result in
    let sees = rw (c.interrupt_status.ensures, ← c.self.view_is) at (c.word.ensures access.covered access.written) in
    rw (← c.self.view_is)
    (shown-global _ c.args.at c.args.width access (bit_and c.word.result access.covered) c.if-at-lt-INPUT_DESCRIPTOR.true c.of-access.ensures.value sees)

pub returns-then-at-lt-OUTPUT_DESCRIPTOR : goal.returns-then-at-lt-OUTPUT_DESCRIPTOR
returns-then-at-lt-OUTPUT_DESCRIPTOR c =
    let access = c.of-access-then-at-lt-OUTPUT_DESCRIPTOR.result in
    rw (← c.self.view_is)
    (shown-input _ c.args.at c.args.width access (bit_and c.word-then-at-lt-OUTPUT_DESCRIPTOR.result access.covered) (omega arith) c.if-at-lt-OUTPUT_DESCRIPTOR.true
    c.of-access-then-at-lt-OUTPUT_DESCRIPTOR.ensures.value (c.word-then-at-lt-OUTPUT_DESCRIPTOR.ensures access.covered access.written))

pub returns-then-at-lt-DESCRIPTORS_END : goal.returns-then-at-lt-DESCRIPTORS_END
returns-then-at-lt-DESCRIPTORS_END c =
    let access = c.of-access-then-at-lt-DESCRIPTORS_END.result in
    rw (← c.self.view_is)
    (shown-output _ c.args.at c.args.width access (bit_and c.word-then-at-lt-DESCRIPTORS_END.result access.covered) (omega arith) (omega arith) c.if-at-lt-DESCRIPTORS_END.true
    c.of-access-then-at-lt-DESCRIPTORS_END.ensures.value (c.word-then-at-lt-DESCRIPTORS_END.ensures access.covered access.written))

pub returns-else-at-lt-DESCRIPTORS_END : goal.returns-else-at-lt-DESCRIPTORS_END
returns-else-at-lt-DESCRIPTORS_END c = shown-nothing c.args.self.now c.args.at c.args.width (omega arith) (omega arith) (omega arith)
