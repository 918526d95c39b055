use Rattle.std.proofs.Common.{◌≡◌, subst}
use Rattle.world_streams.specs.Streams.{StreamState}
use Rattle.stream_descriptor.specs.Running.{Playing}
use Rattle.stream_descriptor.specs.Taking.{TakesFor, TakesTo, blocks_in, framed_at, marks_in}
use Rattle.stream_descriptor.proofs.Taking.{frame_leads}
use Rattle.stream_descriptor.proofs.input.InputStream.frame.Goals as goal

-- what is to be shown of one that plays as seen from outside
abbrev Led : (c : goal.After-take_frame) → Playing → Type 0
Led c before = (state : StreamState) → TakesFor before c.args.regs.now state
    → TakesTo c.take_frame.new.self c.args.regs.now c.take_frame.new.regs (framed_at before.index (blocks_in c.args.sound.now c.args.blocks) c.args.regs.now state).stream
    × (marks_in c.take_frame.result ≡ (framed_at before.index (blocks_in c.args.sound.now c.args.blocks) c.args.regs.now state).marks)

led : (c : goal.After-take_frame) → Led c c.args.self.now
led c = subst (Led c) c.self.view_is (λ state stands.
    frame_leads _ c.take_frame.new.self c.args.regs.now c.take_frame.new.regs c.take_frame.result state stands c.take_frame.ensures.index c.take_frame.ensures.capacity
    (blocks_in c.args.sound.now c.args.blocks) c.take_frame.ensures.cause)

pub returns-clause-leads : goal.returns-clause-leads
returns-clause-leads c = λ state stands. (led c state stands).0

pub returns-clause-marks : goal.returns-clause-marks
returns-clause-marks c = λ state stands. (led c state stands).1
