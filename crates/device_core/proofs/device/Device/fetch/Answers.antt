use Rattle.std.proofs.Common.{ℕ, refl, sym, subst}
use Rattle.world_steps.specs.declared.Step.TheVariants as step
use Rattle.hda_world.specs.Steps.{fetch_step}
use Rattle.device_core.specs.Devices.{DeviceState, IsWorld, KeepsSound}
use Rattle.device_core.proofs.Standing.{shown_world, shown_is}
use Rattle.device_core.proofs.Steps.{step_keeps, step_keeps_sound, fetch_moved, fetch_still, Fetches}
use Rattle.device_core.proofs.device.Device.fetch.Goals as goal

pub invariant_of-self : goal.invariant_of-self
invariant_of-self c =
    let before : DeviceState = record { registers = c.self.inside.registers; codecs = c.self.inside.codecs.items; waiting = c.self.inside.rings; frames = c.self.inside.frames; input = c.self.inside.input; output = c.self.inside.output } in
    let leads = subst (λ (most : ℕ). Fetches before.output c.fetch.new.self before.registers c.fetch.new.regs most c.args.memory.now) c.from.ensures c.fetch.ensures.leads in
    let shown = shown_world c.args.memory.now before in
    let moved = fetch_moved c.args.memory.now before c.fetch.new.self c.fetch.new.regs shown c.args.most (shown_is c.args.memory.now before c.self.invariant) c.self.invariant.input_index c.self.invariant.output_index c.fetch.ensures.index leads in
    step_keeps (step.Fetch 1 c.args.most) c.args.memory.now c.args.memory.now before _ c.self.invariant moved (fetch_still c.args.most shown) refl c.self.invariant.source_is refl c.fetch.ensures.index

pub returns-in-0-clause-stands : goal.returns-in-0-clause-stands
returns-in-0-clause-stands c world is =
    subst (λ (index : ℕ). IsWorld c.store.new.memory c.store.new.self (fetch_step index c.args.most world)) (sym c.in-0.is) (c.store.ensures.stands world is)

pub returns-in-1-clause-stands : goal.returns-in-1-clause-stands
returns-in-1-clause-stands c world is =
    let before : DeviceState = record { registers = c.self.inside.registers; codecs = c.self.inside.codecs.items; waiting = c.self.inside.rings; frames = c.self.inside.frames; input = c.self.inside.input; output = c.self.inside.output } in
    let here : IsWorld c.args.memory.now before world = subst (λ (device : DeviceState). IsWorld c.args.memory.now device world) (sym c.self.view_is) is in
    let leads = subst (λ (most : ℕ). Fetches before.output c.fetch.new.self before.registers c.fetch.new.regs most c.args.memory.now) c.from.ensures c.fetch.ensures.leads in
    subst (λ (index : ℕ). IsWorld c.args.memory.now (record before { registers = c.fetch.new.regs; output = c.fetch.new.self }) (fetch_step index c.args.most world)) (sym c.in-1.is)
    (fetch_moved c.args.memory.now before c.fetch.new.self c.fetch.new.regs world c.args.most here c.self.invariant.input_index c.self.invariant.output_index c.fetch.ensures.index leads)

pub returns-in-1-clause-sound : goal.returns-in-1-clause-sound
returns-in-1-clause-sound c =
    let before : DeviceState = record { registers = c.self.inside.registers; codecs = c.self.inside.codecs.items; waiting = c.self.inside.rings; frames = c.self.inside.frames; input = c.self.inside.input; output = c.self.inside.output } in
    let leads = subst (λ (most : ℕ). Fetches before.output c.fetch.new.self before.registers c.fetch.new.regs most c.args.memory.now) c.from.ensures c.fetch.ensures.leads in
    let shown = shown_world c.args.memory.now before in
    let moved = fetch_moved c.args.memory.now before c.fetch.new.self c.fetch.new.regs shown c.args.most (shown_is c.args.memory.now before c.self.invariant) c.self.invariant.input_index c.self.invariant.output_index c.fetch.ensures.index leads in
    subst (λ (device : DeviceState). KeepsSound device.registers c.fetch.new.regs) c.self.view_is
    (step_keeps_sound (step.Fetch 1 c.args.most) c.args.memory.now c.args.memory.now before _ moved)
