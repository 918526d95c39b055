use Rattle.std.proofs.Common.{subst}
use Rattle.device_core.specs.Devices.{DeviceState, IsWorld}
use Rattle.device_core.proofs.Standing.{shown_world, shown_is}
use Rattle.device_core.proofs.device.Device.is_some_world.Goals as goal

pub returns : goal.returns
returns c memory =
    let before : DeviceState = record { registers = c.self.inside.registers; codecs = c.self.inside.codecs.items; waiting = c.self.inside.rings; frames = c.self.inside.frames; input = c.self.inside.input; output = c.self.inside.output } in
    (shown_world memory before, subst (λ (device : DeviceState). IsWorld memory device (shown_world memory before)) c.self.view_is (shown_is memory before c.self.invariant))
