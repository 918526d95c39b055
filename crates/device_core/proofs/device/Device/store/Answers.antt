use Rattle.std.proofs.Common.{◌≡◌, ℕ, ap, sym, subst, ◌∙◌}
use Rattle.world_streams.specs.Streams.{Stream}
use Rattle.stream_descriptor.specs.Taking.{TakesTo, stored_at}
use Rattle.hda_world.specs.Worlds.{World}
use Rattle.hda_world.specs.Steps.{input_stored}
use Rattle.device_core.specs.Captures.{CaptureState, IsSourceOf}
use Rattle.device_core.specs.declared.capture.Source.{Source}
use Rattle.device_core.specs.Devices.{DeviceState, IsWorld, KeepsSound}
use Rattle.device_core.proofs.Standing.{shown_world, shown_is}
use Rattle.device_core.proofs.Steps.{fetch_stores}
use Rattle.hda_registers.specs.Laws.{IsHeldInReset}
use Rattle.device_core.proofs.Hearing.{rests_in_reset, Stores, StoresMemory, store_moved, stored_still, input_keeps, input_sound}
use Rattle.device_core.proofs.device.Device.store.Goals as goal

abbrev before : goal.After-slice_known-2-1 → DeviceState
before c = record { registers = c.self.inside.registers; codecs = c.self.inside.codecs.items; waiting = c.self.inside.rings; frames = c.self.inside.frames; input = c.self.inside.input; output = c.self.inside.output }

abbrev later : goal.After-slice_known-2-1 → DeviceState
later c = record (before c) { registers = c.store.new.regs; input = c.store.new.self }

leads : (c : goal.After-slice_known-2-1) → Stores c.self.inside.input c.store.new.self c.self.inside.registers c.store.new.regs c.args.most c.args.memory.now
leads c = subst (λ (most : ℕ). Stores c.self.inside.input c.store.new.self c.self.inside.registers c.store.new.regs most c.args.memory.now) c.from.ensures c.store.ensures.leads

memory_is : (c : goal.After-slice_known-2-1) → StoresMemory c.self.inside.input c.self.inside.registers c.args.most c.args.memory.now c.store.new.memory
memory_is c = subst (λ (most : ℕ). StoresMemory c.self.inside.input c.self.inside.registers most c.args.memory.now c.store.new.memory) c.from.ensures c.store.ensures.memory

moved : (c : goal.After-slice_known-2-1) (world : World) → IsWorld c.args.memory.now (before c) world → IsWorld c.store.new.memory (later c) (input_stored c.args.most world)
moved c world is =
    store_moved c.args.memory.now (before c) world is c.self.invariant.held c.self.invariant.output_index c.args.most c.store.new.memory c.store.new.self c.store.new.regs c.self.invariant.input_index
    c.store.ensures.index (leads c) (memory_is c) c.store.ensures.kept

abbrev shown : goal.After-slice_known-2-1 → World
shown c = shown_world c.args.memory.now (before c)

shown_stands : (c : goal.After-slice_known-2-1) → IsWorld c.args.memory.now (before c) (shown c)
shown_stands c = shown_is c.args.memory.now (before c) c.self.invariant

abbrev stream : goal.After-slice_known-2-1 → Stream
stream c = (stored_at 0 c.args.most c.args.memory.now c.self.inside.registers (shown c).input).stream

index : (c : goal.After-slice_known-2-1) → c.store.new.self.playing.index ≡ 0
index c = c.store.ensures.index ∙ c.self.invariant.input_index

leads_shown : (c : goal.After-slice_known-2-1) → TakesTo c.store.new.self.playing c.self.inside.registers c.store.new.regs (stream c)
leads_shown c =
    subst (λ (i : ℕ). TakesTo c.store.new.self.playing c.self.inside.registers c.store.new.regs (stored_at i c.args.most c.args.memory.now c.self.inside.registers (shown c).input).stream) c.self.invariant.input_index
    (leads c (shown c).input (shown_stands c).input_stands)

pub invariant_of-self : goal.invariant_of-self
invariant_of-self c =
    input_keeps c.store.new.memory (before c) c.store.new.self c.store.new.regs (stream c) (index c) (leads_shown c) (input_stored c.args.most (shown c)) c.self.invariant (moved c (shown c) (shown_stands c))
    (stored_still c.args.most c.args.memory.now c.self.inside.registers (shown c).input)
    (subst (λ (source : Source). IsSourceOf source c.self.inside.codecs.items) (sym (ap (λ (capture : CaptureState). capture.source) c.store.ensures.kept)) c.self.invariant.source_is)

pub returns-clause-stands : goal.returns-clause-stands
returns-clause-stands c world is =
    let here = subst (λ (device : DeviceState). IsWorld c.args.memory.now device world) (sym c.self.view_is) is in
    subst (IsWorld c.store.new.memory (later c))
    (sym (fetch_stores c.args.most world (rests_in_reset world.registers (subst IsHeldInReset (sym here.registers_are) c.self.invariant.held)))) (moved c world here)

pub returns-clause-sound : goal.returns-clause-sound
returns-clause-sound c =
    subst (λ (device : DeviceState). KeepsSound device.registers c.store.new.regs) c.self.view_is
    (input_sound c.store.new.memory (before c) c.store.new.self c.store.new.regs (stream c) (index c) (leads_shown c))
