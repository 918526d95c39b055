use Rattle.std.proofs.Common.{◌≡◌, ◌++◌, ℕ, List, [], Bool, refl, ap, sym, subst, ◌∙◌}
use Rattle.codec_graph.specs.CodecStates.{CodecState}
use Rattle.hda_registers.specs.Laws.{IsHeldInReset}
use Rattle.stream_descriptor.specs.Taking.{marks_in}
use Rattle.hda_world.specs.Worlds.{World}
use Rattle.hda_world.specs.Steps.{frame_step, input_framed}
use Rattle.device_core.specs.Devices.{DeviceState, IsWorld, KeepsSound, discovered_next}
use Rattle.device_core.proofs.Standing.{shown_world, shown_is}
use Rattle.device_core.proofs.Frames.{sent_step, sent_moved, sent_keeps, sent_sound, sent_came, frame_answers, frame_is}
use Rattle.device_core.proofs.device.Device.frame.Goals as goal
use Rattle.device_core.proofs.device.Device.frame.Goals.{After-frame-sent, After-hear-came}

-- ---- what the output stream does

abbrev first : After-frame-sent → DeviceState
first c = record { registers = c.self.inside.registers; codecs = c.self.inside.codecs.items; waiting = c.self.inside.rings; frames = c.self.inside.frames; input = c.self.inside.input; output = c.self.inside.output }

pub invariant_of-self : goal.invariant_of-self
invariant_of-self c =
    let found = c.count_frame-self-inside.ensures.registers ∙ ap (λ (codecs : List CodecState). discovered_next c.self.inside.frames codecs c.frame.new.self) c.as_slice.ensures.value in
    let shown = shown_world [] (first c) in
    let is = shown_is [] (first c) c.self.invariant in
    sent_keeps [] (first c) (record (first c) { registers = c.frame-sent.new.regs; frames = c.count_frame-self-inside.result; output = c.frame-sent.new.self }) shown is
    (sent_moved [] (first c) shown is c.count_frame-self-inside.new.regs c.count_frame-self-inside.result c.frame.new.self c.frame.ensures found c.count_frame-self-inside.ensures.frames
    c.frame-sent.new.self c.frame-sent.new.regs c.self.invariant.input_index c.self.invariant.output_index c.frame-sent.ensures.index c.frame-sent.ensures.leads)
    c.self.invariant refl refl c.frame-sent.ensures.index

abbrev before : After-hear-came → DeviceState
before c = record { registers = c.self.inside.registers; codecs = c.self.inside.codecs.items; waiting = c.self.inside.rings; frames = c.self.inside.frames; input = c.self.inside.input; output = c.self.inside.output }

abbrev middle : After-hear-came → DeviceState
middle c = record (before c) { registers = c.frame-sent.new.regs; frames = c.count_frame-self-inside.result; output = c.frame-sent.new.self }

found : (c : After-hear-came) → c.count_frame-self-inside.new.regs ≡ discovered_next c.self.inside.frames c.self.inside.codecs.items c.frame.new.self
found c = c.count_frame-self-inside.ensures.registers ∙ ap (λ (codecs : List CodecState). discovered_next c.self.inside.frames codecs c.frame.new.self) c.as_slice.ensures.value

sent : (c : After-hear-came) (memory : List ℕ) (world : World) → IsWorld memory (before c) world → IsWorld memory (middle c) (sent_step world)
sent c memory world is =
    sent_moved memory (before c) world is c.count_frame-self-inside.new.regs c.count_frame-self-inside.result c.frame.new.self c.frame.ensures (found c) c.count_frame-self-inside.ensures.frames
    c.frame-sent.new.self c.frame-sent.new.regs c.self.invariant.input_index c.self.invariant.output_index c.frame-sent.ensures.index c.frame-sent.ensures.leads

-- ---- and then the input stream

here : (c : After-hear-came) (memory : List ℕ) (world : World) → IsWorld memory c.args.self.now world → IsWorld memory (before c) world
here c memory world is = subst (λ (device : DeviceState). IsWorld memory device world) (sym c.self.view_is) is

whole : (c : After-hear-came) (memory : List ℕ) (world : World) → IsWorld memory (before c) world → input_framed (sent_step world) ≡ frame_step world
whole c memory world is = frame_is world (subst IsHeldInReset (sym is.registers_are) c.self.invariant.held)

pub returns-clause-stands : goal.returns-clause-stands
returns-clause-stands c memory world is =
    subst (IsWorld memory c.hear-came.new.self) (whole c memory world (here c memory world is)) (c.hear-came.ensures.stands memory (sent_step world) (sent c memory world (here c memory world is)))

pub returns-clause-came : goal.returns-clause-came
returns-clause-came c memory world is =
    sym (ap (λ (w : World). w.came) (whole c memory world (here c memory world is)))
    ∙ (c.hear-came.ensures.came memory (sent_step world) (sent c memory world (here c memory world is)) ∙ ap (λ (came : List Bool). came ++ marks_in c.hear-came.result) (sent_came world))

pub returns-clause-answer : goal.returns-clause-answer
returns-clause-answer c memory world is =
    frame_answers memory (before c) world (here c memory world is) c.count_frame-self-inside.new.regs c.count_frame-self-inside.result c.frame.new.self c.frame.ensures (found c)
    c.count_frame-self-inside.ensures.frames c.args.into.now c.frame-sent.new.into c.frame-sent.result c.self.invariant.output_index c.frame-sent.ensures.answer

pub returns-clause-sound : goal.returns-clause-sound
returns-clause-sound c =
    let shown = shown_world [] (before c) in
    let is = shown_is [] (before c) c.self.invariant in
    let first_sound = sent_sound [] (before c) (middle c) shown is (sent c [] shown is) in
    let both : KeepsSound (before c).registers c.hear-came.new.self.registers = record {
      tag = c.hear-came.ensures.sound.tag ∙ first_sound.tag;
      format = c.hear-came.ensures.sound.format ∙ first_sound.format;
    } in
    subst (λ (device : DeviceState). KeepsSound device.registers c.hear-came.new.self.registers) c.self.view_is both
