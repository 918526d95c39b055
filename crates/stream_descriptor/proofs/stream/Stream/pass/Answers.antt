use Rattle.std.proofs.Common.{◌≡◌, ◌+◌, ◌%◌, refl, ℕ, List, sym, ap, subst, ◌∙◌}
use Rattle.hda_registers.specs.Fields.{Fields}
use Rattle.stream_format.specs.Cadence.{blocks_of}
use Rattle.world_streams.specs.Streams.{StreamState, Stream}
use Rattle.world_streams.specs.Output as output
use Rattle.stream_fetch.specs.Fetching.{Fetching}
use Rattle.stream_descriptor.specs.declared.frame.Frame.{Frame}
use Rattle.stream_descriptor.specs.declared.frame.Frame.TheVariants.{Gap, Blocks, Hole}
use Rattle.stream_descriptor.specs.Running.{Playing, StandsFor, LeadsTo, CanPlay, stream_at}
use Rattle.stream_descriptor.specs.Frames.{IsAnswer}
use Rattle.stream_descriptor.proofs.Passing.{gap_found, gap_leads, hole_found, hole_leads, blocks_found, blocks_leads, blocks_answer}
use Rattle.stream_descriptor.proofs.stream.Stream.pass.Goals as goal

-- what is to be shown of one that plays as seen from outside
abbrev Leads : Fields → Fields → Playing → Playing → Type 0
Leads old new after playing = (state : StreamState) → StandsFor playing old state
    → LeadsTo after old new (output.after_frame (output.frame_of (stream_at playing.index old state)) (stream_at playing.index old state))

abbrev Answers : Fields → List ℕ → List ℕ → Frame → Playing → Type 0
Answers fields before after frame playing = (state : StreamState) → StandsFor playing fields state
    → IsAnswer (stream_at playing.index fields state) (output.frame_of (stream_at playing.index fields state)) before after frame

-- from what a frame found
by_found : (after : Playing) (old new : Fields) (stream : Stream) (found : output.Frame) → output.frame_of stream ≡ found → LeadsTo after old new (output.after_frame found stream)
    → LeadsTo after old new (output.after_frame (output.frame_of stream) stream)
by_found after old new stream found is leads = subst (λ (f : output.Frame). LeadsTo after old new (output.after_frame f stream)) (sym is) leads

pub returns-then-due-eq0-clause-leads : goal.returns-then-due-eq0-clause-leads
returns-then-due-eq0-clause-leads c =
    let P : Playing → Type 0 = λ playing. CanPlay c.args.regs.now playing.index c.args.format → Leads c.args.regs.now c.args.regs.now (record { index = c.self.inside.index; fetch = c.self.inside.fetch; frame = (c.self.inside.frame + 1) % 480 }) playing in
    subst P c.self.view_is (λ can state stands. by_found _ _ _ _ output.Gap
    (gap_found _ c.args.regs.now c.args.format state c.bytes_due-due.result stands can c.bytes_due-due.ensures.value c.if-due-eq0.true)
    (gap_leads _ c.args.regs.now c.args.format state c.bytes_due-due.result stands can c.bytes_due-due.ensures.value)) c.requires.streams

pub returns-then-due-eq0-clause-answer : goal.returns-then-due-eq0-clause-answer
returns-then-due-eq0-clause-answer c =
    let P : Playing → Type 0 = λ playing. CanPlay c.args.regs.now playing.index c.args.format → Answers c.args.regs.now c.args.into.now c.args.into.now Gap playing in
    subst P c.self.view_is (λ can state stands.
    (gap_found _ c.args.regs.now c.args.format state c.bytes_due-due.result stands can c.bytes_due-due.ensures.value c.if-due-eq0.true, refl)) c.requires.streams

pub returns-then-not-send_front-clause-leads : goal.returns-then-not-send_front-clause-leads
returns-then-not-send_front-clause-leads c =
    let P : Playing → Type 0 = λ playing. CanPlay c.args.regs.now playing.index c.args.format → Leads c.args.regs.now c.raise_missed.new.regs (record { index = c.self.inside.index; fetch = c.send_front.new.fetch; frame = (c.self.inside.frame + 1) % 480 }) playing in
    subst P c.self.view_is (λ can state stands. by_found _ _ _ _ output.Hole
    (hole_found _ c.args.regs.now c.args.format state c.bytes_due-due.result stands can c.bytes_due-due.ensures.value c.if-due-eq0.false (sym c.send_front.ensures.enough ∙ c.if-not-send_front.true))
    (subst (λ (fetch : Fetching). LeadsTo (record { index = c.self.inside.index; fetch = fetch; frame = (c.self.inside.frame + 1) % 480 }) c.args.regs.now c.raise_missed.new.regs (output.after_frame output.Hole (stream_at c.self.inside.index c.args.regs.now state))) (sym (c.send_front.ensures.kept c.if-not-send_front.true))
    (hole_leads _ c.args.regs.now c.args.format state c.bytes_due-due.result stands can c.bytes_due-due.ensures.value c.raise_missed.new.regs c.raise_missed.ensures))) c.requires.streams

pub returns-then-not-send_front-clause-answer : goal.returns-then-not-send_front-clause-answer
returns-then-not-send_front-clause-answer c =
    let P : Playing → Type 0 = λ playing. CanPlay c.args.regs.now playing.index c.args.format → Answers c.args.regs.now c.args.into.now c.send_front.new.into Hole playing in
    subst P c.self.view_is (λ can state stands. (
      hole_found _ c.args.regs.now c.args.format state c.bytes_due-due.result stands can c.bytes_due-due.ensures.value c.if-due-eq0.false (sym c.send_front.ensures.enough ∙ c.if-not-send_front.true),
      c.send_front.ensures.unsent c.if-not-send_front.true,
    )) c.requires.streams

pub returns-clause-leads : goal.returns-clause-leads
returns-clause-leads c =
    let P : Playing → Type 0 = λ playing. CanPlay c.args.regs.now playing.index c.args.format → Leads c.args.regs.now c.show_sent.new.regs (record { index = c.self.inside.index; fetch = c.send_front.new.fetch; frame = (c.self.inside.frame + 1) % 480 }) playing in
    subst P c.self.view_is (λ can state stands. by_found _ _ _ _ output.Blocks
    (blocks_found _ c.args.regs.now c.args.format state c.bytes_due-due.result stands can c.bytes_due-due.ensures.value c.if-due-eq0.false (sym c.send_front.ensures.enough ∙ c.if-not-send_front.false))
    (blocks_leads _ c.args.regs.now c.args.format state c.bytes_due-due.result stands can c.bytes_due-due.ensures.value c.send_front.new.fetch c.show_sent.new.regs
    (c.send_front.ensures.stands c.if-not-send_front.false state (stands.running can.runs).fetch) c.send_front.ensures.capacity c.show_sent.ensures)) c.requires.streams

pub returns-clause-answer : goal.returns-clause-answer
returns-clause-answer c =
    let P : Playing → Type 0 = λ playing. CanPlay c.args.regs.now playing.index c.args.format → Answers c.args.regs.now c.args.into.now c.send_front.new.into (Blocks c.blocks-blocks.result) playing in
    subst P c.self.view_is (λ can state stands.
    blocks_answer _ c.args.regs.now c.args.format state c.bytes_due-due.result stands can c.bytes_due-due.ensures.value c.blocks-blocks.result c.args.into.now c.send_front.new.into
    c.if-due-eq0.false (sym c.send_front.ensures.enough ∙ c.if-not-send_front.false) (c.blocks-blocks.ensures ∙ ap (blocks_of c.args.format.rate) c.from.ensures) (c.send_front.ensures.sent c.if-not-send_front.false)) c.requires.streams
