use Rattle.std.proofs.Common.{refl, sym, subst}
use Rattle.world_steps.specs.declared.Step.TheVariants as step
use Rattle.device_core.specs.Devices.{DeviceState, IsWorld, KeepsSound}
use Rattle.device_core.proofs.Standing.{shown_world, shown_is}
use Rattle.device_core.proofs.Steps.{step_keeps, step_keeps_sound, rirb_moved, rirb_still}
use Rattle.device_core.proofs.device.Device.rirb.Goals as goal

pub invariant_of-self : goal.invariant_of-self
invariant_of-self c =
    let before : DeviceState = record { registers = c.self.inside.registers; codecs = c.self.inside.codecs.items; waiting = c.self.inside.rings; frames = c.self.inside.frames; input = c.self.inside.input; output = c.self.inside.output } in
    let e = c.rirb-written.ensures in
    let moved = rirb_moved c.args.memory.now c.rirb-written.new.memory before (shown_world c.args.memory.now before) c.rirb-written.new.regs c.rirb-written.new.self c.rirb-written.result (shown_is c.args.memory.now before c.self.invariant) e.registers e.memory e.number e.waiting in
    step_keeps step.Rirb c.args.memory.now c.rirb-written.new.memory before _ c.self.invariant moved (rirb_still (shown_world c.args.memory.now before)) refl c.self.invariant.source_is refl refl

pub returns-clause-stands : goal.returns-clause-stands
returns-clause-stands c world is =
    let before : DeviceState = record { registers = c.self.inside.registers; codecs = c.self.inside.codecs.items; waiting = c.self.inside.rings; frames = c.self.inside.frames; input = c.self.inside.input; output = c.self.inside.output } in
    let here : IsWorld c.args.memory.now before world = subst (λ (device : DeviceState). IsWorld c.args.memory.now device world) (sym c.self.view_is) is in
    let e = c.rirb-written.ensures in
    rirb_moved c.args.memory.now c.rirb-written.new.memory before world c.rirb-written.new.regs c.rirb-written.new.self c.rirb-written.result here e.registers e.memory e.number e.waiting

pub returns-clause-sound : goal.returns-clause-sound
returns-clause-sound c =
    let before : DeviceState = record { registers = c.self.inside.registers; codecs = c.self.inside.codecs.items; waiting = c.self.inside.rings; frames = c.self.inside.frames; input = c.self.inside.input; output = c.self.inside.output } in
    let e = c.rirb-written.ensures in
    let moved = rirb_moved c.args.memory.now c.rirb-written.new.memory before (shown_world c.args.memory.now before) c.rirb-written.new.regs c.rirb-written.new.self c.rirb-written.result (shown_is c.args.memory.now before c.self.invariant) e.registers e.memory e.number e.waiting in
    subst (λ (device : DeviceState). KeepsSound device.registers c.rirb-written.new.regs) c.self.view_is
    (step_keeps_sound step.Rirb c.args.memory.now c.rirb-written.new.memory before _ moved)
