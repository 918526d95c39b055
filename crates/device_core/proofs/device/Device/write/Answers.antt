use Rattle.std.proofs.Common.{◌≡◌, ℕ, Bool, List, [], map, if◌then◌else◌, ap, sym, subst, ◌∙◌}
use Rattle.std.specs.Vec.{with_items}
use Rattle.codec_graph.specs.CodecStates.{CodecState, cleared}
use Rattle.hda_registers.specs.Fields.{Fields}
use Rattle.hda_registers.specs.Access.{rose, fell, written}
use Rattle.world_streams.specs.Streams.{StreamState}
use Rattle.stream_descriptor.specs.Running.{StandsFor, taken_bytes}
use Rattle.stream_descriptor.specs.Taking.{TakesFor}
use Rattle.hda_world.specs.Worlds.{World}
use Rattle.hda_world.specs.Events.{after_write}
use Rattle.device_core.specs.Codecs.{KeepCodecs, addresses_of}
use Rattle.device_core.specs.Devices.{DeviceState, IsWorld, KeepsSound}
use Rattle.device_core.proofs.Standing.{shown_world, shown_is, device_from}
use Rattle.stream_descriptor.proofs.Callers.{SettledBy, starts_are, streams_settle}
use Rattle.device_core.specs.Captures.{IsSourceOf}
use Rattle.device_core.specs.declared.capture.Source.{Source}
use Rattle.device_core.proofs.Takers.{source-kept}
use Rattle.device_core.proofs.Writes.{write_moved, put_cleared, keeps_cleared, addresses_cleared}
use Rattle.device_core.proofs.Sounding.{write_keeps_sound}
use Rattle.device_core.proofs.device.Device.write.Goals as goal

abbrev before : goal.After-self-2-1 → DeviceState
before c = record { registers = c.self.inside.registers; codecs = c.self.inside.codecs.items; waiting = c.self.inside.rings; frames = c.self.inside.frames; input = c.self.inside.input; output = c.self.inside.output }

abbrev codecs_after : goal.After-self-2-1 → List CodecState
codecs_after c = (with_items c.self.inside.codecs c.clear_if.new.codecs).items

abbrev later : goal.After-self-2-1 → DeviceState
later c = record { registers = c.settle-2.new.regs; codecs = codecs_after c; waiting = c.clear_if-2.new.rings; frames = c.counted_anew-self-inside.result; input = c.settle.new.self; output = c.settle-2.new.self }

settled : (c : goal.After-self-2-1) (input output : StreamState) → TakesFor c.self.inside.input.playing c.self.inside.registers input → StandsFor c.self.inside.output c.self.inside.registers output
    → SettledBy taken_bytes c.self.inside.registers c.write-effects.new.self c.settle-2.new.regs c.settle.new.self.playing c.settle-2.new.self input output
settled c input output input_stands output_stands =
    let old = c.self.inside.registers in
    let starts = starts_are old c.args.at c.args.value c.args.width c.write-effects.result c.write-effects.ensures.effects in
    let new = c.write-effects.ensures.registers in
    streams_settle old c.self.inside.input.playing c.self.inside.output c.settle.new.self.playing c.settle-2.new.self c.write-effects.new.self c.settle.new.regs c.settle-2.new.regs c.args.at c.args.width c.args.value
    _ _ _ _ input output c.self.invariant.held c.self.invariant.input_index c.self.invariant.output_index input_stands output_stands new c.settle.ensures.index c.settle-2.ensures.index
    (starts.0 ∙ ap (λ (f : Fields). rose old.input f.input) (sym new)) (starts.2 ∙ ap (λ (f : Fields). fell old.input f.input) (sym new))
    (starts.1 ∙ ap (λ (f : Fields). rose old.output f.output) (sym new)) (starts.3 ∙ ap (λ (f : Fields). fell old.output f.output) (sym new))
    c.settle.ensures.leads c.settle-2.ensures.leads

back : (c : goal.After-self-2-1) → codecs_after c ≡ (if c.write-effects.result.reset then map cleared c.self.inside.codecs.items else c.self.inside.codecs.items)
back c =
    put_cleared c.write-effects.result.reset c.self.inside.codecs c.clear_if.new.codecs
    (c.clear_if.ensures ∙ ap (λ (codecs : List CodecState). if c.write-effects.result.reset then map cleared codecs else codecs) c.as_mut_slice.ensures.value)

came_is : (c : goal.After-self-2-1) → c.settle.new.self.came ≡ (if rose c.self.inside.registers.input c.write-effects.new.self.input then 0 else c.self.inside.input.came)
came_is c =
    let starts = starts_are c.self.inside.registers c.args.at c.args.value c.args.width c.write-effects.result c.write-effects.ensures.effects in
    c.settle.ensures.came
    ∙ ap (λ (rises : Bool). if rises then 0 else c.self.inside.input.came) (starts.0 ∙ ap (λ (f : Fields). rose c.self.inside.registers.input f.input) (sym c.write-effects.ensures.registers))

keeps : (c : goal.After-self-2-1) → KeepCodecs c.self.inside.codecs.items (codecs_after c)
keeps c = subst (λ (codecs : List CodecState). KeepCodecs c.self.inside.codecs.items codecs) (sym (back c)) (keeps_cleared c.write-effects.result.reset c.self.inside.codecs.items)

source_is : (c : goal.After-self-2-1) → IsSourceOf c.settle.new.self.source (codecs_after c)
source_is c =
    subst (λ (source : Source). IsSourceOf source (codecs_after c)) (sym c.settle.ensures.source)
    (source-kept c.self.inside.input.source c.self.inside.codecs.items (codecs_after c) (keeps c) c.self.invariant.source_is)

moved : (c : goal.After-self-2-1) (memory : List ℕ) (world : World) → IsWorld memory (before c) world → IsWorld memory (later c) (after_write c.args.at c.args.width c.args.value world)
moved c memory world is =
    write_moved memory (before c) world is c.args.at c.args.width c.args.value c.write-effects.result c.write-effects.ensures.effects
    c.write-effects.new.self c.settle-2.new.regs (codecs_after c) c.clear_if-2.new.rings c.counted_anew-self-inside.result c.settle.new.self c.settle-2.new.self
    c.write-effects.ensures.registers (settled c world.input world.output is.input_stands is.output_stands) c.settle.ensures.given (came_is c) (back c) c.clear_if-2.ensures c.counted_anew-self-inside.ensures

abbrev shown : goal.After-self-2-1 → World
shown c = shown_world [] (before c)

shown_settled : (c : goal.After-self-2-1)
    → SettledBy taken_bytes c.self.inside.registers c.write-effects.new.self c.settle-2.new.regs c.settle.new.self.playing c.settle-2.new.self (shown c).input (shown c).output
shown_settled c = settled c (shown c).input (shown c).output c.self.invariant.input_stands c.self.invariant.output_stands

pub invariant_of-self : goal.invariant_of-self
invariant_of-self c =
    device_from [] (before c) (later c) (after_write c.args.at c.args.width c.args.value (shown c)) c.self.invariant (moved c [] (shown c) (shown_is [] (before c) c.self.invariant))
    (shown_settled c).held (ap addresses_of (back c) ∙ addresses_cleared c.write-effects.result.reset c.self.inside.codecs.items) (source_is c) c.settle.ensures.index c.settle-2.ensures.index

pub returns-clause-stands : goal.returns-clause-stands
returns-clause-stands c memory world is = moved c memory world (subst (λ (device : DeviceState). IsWorld memory device world) (sym c.self.view_is) is)

pub returns-clause-codecs : goal.returns-clause-codecs
returns-clause-codecs c =
    subst (λ (device : DeviceState). KeepCodecs device.codecs (codecs_after c)) c.self.view_is (keeps c)

pub returns-clause-sound : goal.returns-clause-sound
returns-clause-sound c apart =
    let kept = write_keeps_sound c.self.inside.registers c.args.at c.args.value c.args.width apart in
    let new : c.settle-2.new.regs.output.tag ≡ (written c.self.inside.registers c.args.at c.args.width c.args.value).output.tag =
    ap (λ (f : Fields). f.output.tag) (shown_settled c).registers ∙ ap (λ (f : Fields). f.output.tag) c.write-effects.ensures.registers in
    let new_format : c.settle-2.new.regs.output.format ≡ (written c.self.inside.registers c.args.at c.args.width c.args.value).output.format =
    ap (λ (f : Fields). f.output.format) (shown_settled c).registers ∙ ap (λ (f : Fields). f.output.format) c.write-effects.ensures.registers in
    subst (λ (device : DeviceState). KeepsSound device.registers c.settle-2.new.regs) c.self.view_is (record { tag = new ∙ kept.tag; format = new_format ∙ kept.format })
