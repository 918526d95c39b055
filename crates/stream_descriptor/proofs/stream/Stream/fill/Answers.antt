use Rattle.std.proofs.Common.{subst}
use Rattle.world_streams.specs.Streams.{StreamState}
use Rattle.world_streams.specs.Output as output
use Rattle.stream_descriptor.specs.Running.{Playing, StandsFor, LeadsTo, CanPlay, stream_at}
use Rattle.stream_descriptor.proofs.Filling.{fill_leads}
use Rattle.stream_descriptor.proofs.stream.Stream.fill.Goals as goal

pub returns-clause-leads : goal.returns-clause-leads
returns-clause-leads c =
    let P : Playing → Type 0 = λ playing. CanPlay c.args.regs.now playing.index c.args.format → (state : StreamState) → StandsFor playing c.args.regs.now state
    → LeadsTo c.break_off_if.new.self c.args.regs.now c.break_off_if.new.regs (output.fetch c.args.most c.args.regs.now.shape.fifo c.args.memory.now (stream_at playing.index c.args.regs.now state)) in
    subst P c.self.view_is (λ can state stands.
    fill_leads _ c.break_off_if.new.self c.fetch-fetched.new.self c.args.regs.now c.raise_done_if.new.regs c.show_ready.new.regs c.break_off_if.new.regs c.args.format state
    c.args.most c.list_address.result c.last_index.result c.args.memory.now c.fetch-fetched.result.done c.fetch-fetched.result.broken stands can
    c.list_address.ensures c.last_index.ensures c.fetch-fetched.ensures.stands c.fetch-fetched.ensures.done c.fetch-fetched.ensures.broken c.fetch-fetched.ensures.capacity
    c.raise_done_if.ensures c.show_ready.ensures c.break_off_if.ensures.index c.break_off_if.ensures.capacity c.break_off_if.ensures.empty c.break_off_if.ensures.kept
    c.break_off_if.ensures.broke c.break_off_if.ensures.whole) c.requires.streams
