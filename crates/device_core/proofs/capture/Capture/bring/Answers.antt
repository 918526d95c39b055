use Rattle.std.proofs.Common.{◌≡◌, ◌≤◌, ℕ, min, List, Option, length, sym, ap, subst, ◌∙◌, rules}
use Rattle.codec_sound.specs.declared.in_heard.InHeard.{InHeard}
use Rattle.hda_registers.specs.Fields.{stream_of}
use Rattle.stream_format.specs.Layouts.{layout_of}
use Rattle.world_streams.specs.Streams.{StreamState}
use Rattle.world_streams.specs.Input.{Intake}
use Rattle.stream_descriptor.specs.Taking.{TakesFor, TakesTo, blocks_in, due_in, framed_at}
use Rattle.stream_descriptor.specs.declared.arrived.SoundBlocks.{SoundBlocks}
use Rattle.hda_world.specs.Arriving.{due_blocks, heard_sound}
use Rattle.device_core.specs.Captures.{CaptureState, most_came}
use Rattle.device_core.proofs.Bringing.{brought-some}
use Rattle.device_core.proofs.capture.Capture.bring.Goals as goal

-- what the stream does with them is what it does with those that are due
same : (c : goal.After-frame) (came : ℕ) (state : StreamState) → c.args.self.now.came ≡ min came most_came → TakesFor c.args.self.now.playing c.args.regs.now state
    → framed_at c.self.inside.stream.index (blocks_in c.sound_of-sound.result.now c.due-due.result) c.args.regs.now state
    ≡ framed_at 0 (due_blocks c.args.heard (layout_of c.args.regs.now.input.format) c.args.self.now.given came state.frame) c.args.regs.now state
same c came state counts stands =
    let regs = c.args.regs.now in
    let heard = c.in-Some.heard in
    let stream = c.self.inside.stream in
    let index : stream.index ≡ 0 = ap (λ (capture : CaptureState). capture.playing.index) c.self.view_is ∙ c.requires in
    let counted : c.self.inside.came ≡ min came most_came = ap (λ (capture : CaptureState). capture.came) c.self.view_is ∙ counts in
    let takes = subst (λ (capture : CaptureState). TakesFor capture.playing regs state) (sym c.self.view_is) stands in
    let short : length c.self.inside.given.items ≤ most_came = search rules in
    let due = due_in (layout_of regs.input.format) c.self.inside.came stream.frame in
    ap (λ (i : ℕ). framed_at i (blocks_in c.sound_of-sound.result.now c.due-due.result) regs state) index
    ∙ ap (λ (blocks : SoundBlocks). framed_at 0 (blocks_in c.sound_of-sound.result.now blocks) regs state)
    (c.due-due.ensures.is ∙ ap (λ (i : ℕ). due_in (layout_of (stream_of regs i).format) c.self.inside.came stream.frame) index)
    ∙ ap (λ (sound : List ℕ). framed_at 0 (blocks_in sound due) regs state) (c.sound_of-sound.ensures ∙ ap (heard_sound heard) c.as_slice.ensures.value)
    ∙ brought-some heard stream regs c.self.inside.given.items c.self.inside.came came state index short counted takes
    ∙ ap (λ (some : Option InHeard). framed_at 0 (due_blocks some (layout_of regs.input.format) c.self.inside.given.items came state.frame) regs state) (sym c.in-Some.is)
    ∙ ap (λ (capture : CaptureState). framed_at 0 (due_blocks c.args.heard (layout_of regs.input.format) capture.given came state.frame) regs state) c.self.view_is

takes : (c : goal.After-frame) (state : StreamState) → TakesFor c.args.self.now.playing c.args.regs.now state → TakesFor c.self.inside.stream c.args.regs.now state
takes c state stands = subst (λ (capture : CaptureState). TakesFor capture.playing c.args.regs.now state) (sym c.self.view_is) stands

pub returns-in-Some-clause-leads : goal.returns-in-Some-clause-leads
returns-in-Some-clause-leads c came state counts stands =
    subst (λ (intake : Intake). TakesTo c.frame.new.self c.args.regs.now c.frame.new.regs intake.stream) (same c came state counts stands) (c.frame.ensures.leads state (takes c state stands))

pub returns-in-Some-clause-marks : goal.returns-in-Some-clause-marks
returns-in-Some-clause-marks c came state counts stands =
    c.frame.ensures.marks state (takes c state stands) ∙ ap (λ (intake : Intake). intake.marks) (same c came state counts stands)
