use Rattle.std.proofs.Common.{◌∙◌, sym, arith}
use Rattle.hda_registers.proofs.Dispatch.{placed-global, placed-input, placed-output, placed-nothing, still-out, goes-in}
use Rattle.hda_registers.proofs.registers.Registers.place.Goals as goal

pub returns-then-not-is_out_of_reset : goal.returns-then-not-is_out_of_reset
returns-then-not-is_out_of_reset c =
    rw (c.reset.ensures, ← c.self.view_is)
    (placed-global (record { shape = c.self.inside.shape; global = c.self.inside.global; input = c.self.inside.input; output = c.self.inside.output }) c.args.at c.args.width c.args.value c.of.result c.write.new.self _ c.if-at-lt-INPUT_DESCRIPTOR.true c.of.ensures.value c.write.ensures (goes-in (record { shape = c.self.inside.shape; global = c.self.inside.global; input = c.self.inside.input; output = c.self.inside.output }) c.write.new.self (sym c.is_out_of_reset.ensures ∙ c.if-not-is_out_of_reset.true)))

pub returns-else-not-is_out_of_reset : goal.returns-else-not-is_out_of_reset
returns-else-not-is_out_of_reset c =
    rw (← c.self.view_is)
    (placed-global (record { shape = c.self.inside.shape; global = c.self.inside.global; input = c.self.inside.input; output = c.self.inside.output }) c.args.at c.args.width c.args.value c.of.result c.write.new.self _ c.if-at-lt-INPUT_DESCRIPTOR.true c.of.ensures.value c.write.ensures (still-out (record { shape = c.self.inside.shape; global = c.self.inside.global; input = c.self.inside.input; output = c.self.inside.output }) c.write.new.self (sym c.is_out_of_reset.ensures ∙ c.if-not-is_out_of_reset.false)))

pub returns-then-at-lt-OUTPUT_DESCRIPTOR : goal.returns-then-at-lt-OUTPUT_DESCRIPTOR
returns-then-at-lt-OUTPUT_DESCRIPTOR c =
    rw (← c.self-else-at-lt-INPUT_DESCRIPTOR.view_is)
    (placed-input _ c.args.at c.args.width c.args.value c.of-then-at-lt-OUTPUT_DESCRIPTOR.result c.write-then-at-lt-OUTPUT_DESCRIPTOR.new.self (omega arith) c.if-at-lt-OUTPUT_DESCRIPTOR.true
    c.of-then-at-lt-OUTPUT_DESCRIPTOR.ensures.value c.write-then-at-lt-OUTPUT_DESCRIPTOR.ensures)

pub returns-then-at-lt-DESCRIPTORS_END : goal.returns-then-at-lt-DESCRIPTORS_END
returns-then-at-lt-DESCRIPTORS_END c =
    rw (← c.self-else-at-lt-INPUT_DESCRIPTOR.view_is)
    (placed-output _ c.args.at c.args.width c.args.value c.of-then-at-lt-DESCRIPTORS_END.result c.write-then-at-lt-DESCRIPTORS_END.new.self (omega arith) (omega arith) c.if-at-lt-DESCRIPTORS_END.true
    c.of-then-at-lt-DESCRIPTORS_END.ensures.value c.write-then-at-lt-DESCRIPTORS_END.ensures)

pub returns-else-at-lt-DESCRIPTORS_END : goal.returns-else-at-lt-DESCRIPTORS_END
returns-else-at-lt-DESCRIPTORS_END c = placed-nothing c.args.self.now c.args.at c.args.width c.args.value (omega arith) (omega arith) (omega arith)
