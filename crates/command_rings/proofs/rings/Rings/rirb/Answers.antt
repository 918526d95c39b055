use Rattle.std.proofs.Common.{sym, ◌∙◌, take}
use Rattle.world_rings.specs.Engines.{batch_of}
use Rattle.command_rings.proofs.Batches.{out_of_reset, may_respond}
use Rattle.command_rings.proofs.rings.Rings.rirb.Goals as goal

pub raise-requires-clause-out : goal.raise-requires-clause-out
raise-requires-clause-out c =
    out_of_reset c.write_batch-written.new.regs
    (may_respond c.write_batch-written.new.regs c.args.regs.now (take (batch_of c.args.regs.now) c.args.self.now) c.write_batch-written.ensures.registers (sym c.can_respond.ensures ∙ c.if-not-can_respond.false))
