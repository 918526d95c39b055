use Rattle.std.proofs.Common.{◌≡◌, ℕ, List, [], length, sym, subst, ◌∙◌}
use Rattle.codec_graph.specs.CodecStates.{CodecState}
use Rattle.world_streams.specs.Streams.{Stream}
use Rattle.stream_descriptor.specs.Taking.{TakesTo, framed_at}
use Rattle.hda_world.specs.Worlds.{World}
use Rattle.hda_world.specs.Steps.{input_framed}
use Rattle.device_core.specs.Captures.{IsSourceOf, arriving_at}
use Rattle.device_core.specs.Devices.{DeviceState, IsWorld, KeepsSound}
use Rattle.device_core.proofs.Standing.{shown_world, shown_is}
use Rattle.device_core.proofs.Hearing.{Brings, Marks, heard_marks, heard_moved, heard_still, input_keeps, input_sound}
use Rattle.device_core.proofs.device.Device.hear.Goals as goal
use Rattle.device_core.proofs.device.Device.hear.Goals.{After-hear}

abbrev before : After-hear → DeviceState
before c = record { registers = c.self.inside.registers; codecs = c.self.inside.codecs.items; waiting = c.self.inside.rings; frames = c.self.inside.frames; input = c.self.inside.input; output = c.self.inside.output }

abbrev later : After-hear → DeviceState
later c = record (before c) { registers = c.hear.new.regs; input = c.hear.new.self }

brings : (c : After-hear) → Brings c.self.inside.input c.hear.new.self c.self.inside.registers c.hear.new.regs c.self.inside.codecs.items
brings c = subst (λ (codecs : List CodecState). Brings c.self.inside.input c.hear.new.self c.self.inside.registers c.hear.new.regs codecs) c.as_slice.ensures.value c.hear.ensures.leads

marks : (c : After-hear) → Marks c.self.inside.input c.self.inside.registers c.self.inside.codecs.items c.hear.result
marks c = subst (λ (codecs : List CodecState). Marks c.self.inside.input c.self.inside.registers codecs c.hear.result) c.as_slice.ensures.value c.hear.ensures.marks

index : (c : After-hear) → c.hear.new.self.playing.index ≡ 0
index c = c.hear.ensures.index ∙ c.self.invariant.input_index

moved : (c : After-hear) (memory : List ℕ) (world : World) → IsWorld memory (before c) world → IsWorld memory (later c) (input_framed world)
moved c memory world is =
    heard_moved memory (before c) world is c.self.invariant.held c.self.invariant.output_index c.hear.new.self c.hear.new.regs c.hear.result (index c) (brings c) (marks c) c.hear.ensures.given c.hear.ensures.came

abbrev shown : After-hear → World
shown c = shown_world [] (before c)

abbrev blocks : After-hear → List (List ℕ)
blocks c = arriving_at c.self.inside.registers c.self.inside.codecs.items c.self.inside.input.given (length (shown c).came) (shown c).input

abbrev stream : After-hear → Stream
stream c = (framed_at 0 (blocks c) c.self.inside.registers (shown c).input).stream

leads : (c : After-hear) → TakesTo c.hear.new.self.playing c.self.inside.registers c.hear.new.regs (stream c)
leads c = (let is = shown_is [] (before c) c.self.invariant in brings c (length (shown c).came) (shown c).input is.captured.came_is is.input_stands)

pub invariant_of-self : goal.invariant_of-self
invariant_of-self c =
    input_keeps [] (before c) c.hear.new.self c.hear.new.regs (stream c) (index c) (leads c) (input_framed (shown c)) c.self.invariant (moved c [] (shown c) (shown_is [] (before c) c.self.invariant))
    (heard_still c.self.inside.registers (shown c).input (blocks c) c.self.invariant.held)
    (subst (λ (codecs : List CodecState). IsSourceOf c.hear.new.self.source codecs) c.as_slice.ensures.value c.hear.ensures.source)

pub returns-clause-stands : goal.returns-clause-stands
returns-clause-stands c memory world is = moved c memory world (subst (λ (device : DeviceState). IsWorld memory device world) (sym c.self.view_is) is)

pub returns-clause-came : goal.returns-clause-came
returns-clause-came c memory world is =
    heard_marks memory (before c) world (subst (λ (device : DeviceState). IsWorld memory device world) (sym c.self.view_is) is) c.self.invariant.held c.self.invariant.output_index c.hear.result (marks c)

pub returns-clause-sound : goal.returns-clause-sound
returns-clause-sound c =
    subst (λ (device : DeviceState). KeepsSound device.registers c.hear.new.regs) c.self.view_is (input_sound [] (before c) c.hear.new.self c.hear.new.regs (stream c) (index c) (leads c))
