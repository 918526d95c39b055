use Rattle.std.proofs.Common.{◌+◌, ◌%◌, length, ap, subst, arith}
use Rattle.world_streams.proofs.Callers.{entered-longer}
use Rattle.stream_fetch.specs.Fetching.{Fetching}
use Rattle.stream_descriptor.specs.Running.{Playing, CanPlay}
use Rattle.stream_descriptor.specs.Taking.{WasPassed, blocks_in}
use Rattle.stream_descriptor.proofs.Taking.{blocks_pass}
use Rattle.stream_descriptor.proofs.stream.Stream.take.Goals as goal

pub overflow_sub-taken : goal.overflow_sub-taken
overflow_sub-taken c =
    let longer = entered-longer c.self.inside.fetch.capacity 0 c.self.inside.fetch.bytes (blocks_in c.args.sound.now c.args.blocks) in
    let now = ap (λ (fetch : Fetching). length fetch.bytes) c.accept_blocks-arrived.ensures.fetch in
    omega (arith, longer, now, c.held-before.ensures.bytes, c.held.ensures.bytes)

pub returns-clause-cause : goal.returns-clause-cause
returns-clause-cause c =
    let P : Playing → Type 0 = λ playing. CanPlay c.args.regs.now playing.index c.args.format
    → WasPassed (blocks_in c.args.sound.now c.args.blocks) playing c.args.regs.now (record { index = c.self.inside.index; fetch = c.accept_blocks-arrived.new.fetch; frame = (c.self.inside.frame + 1) % 480 }) c.show_taken.new.regs c.accept_blocks-arrived.result in
    subst P c.self.view_is (λ can.
    blocks_pass _ c.args.regs.now c.args.format c.args.sound.now c.args.blocks can c.accept_blocks-arrived.new.fetch c.show_taken.new.regs c.accept_blocks-arrived.result c.held-before.result c.held.result
    c.if-blocks-eq0.false c.held-before.ensures.bytes c.held.ensures.bytes c.accept_blocks-arrived.ensures.fetch c.accept_blocks-arrived.ensures.marks c.show_taken.ensures) c.requires.streams
