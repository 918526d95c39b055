use Rattle.std.proofs.Common.{subst}
use Rattle.device_core.specs.Devices.{IsWorld}
use Rattle.hda_controller.specs.Controllers.{ControllerState}
use Rattle.hda_controller.proofs.controller.Controller.is_some_world.Goals as goal

pub returns : goal.returns
returns c memory =
    let some = c.is_some_world.ensures memory in
    (some.0, subst (λ (state : ControllerState). IsWorld memory state.device some.0) c.self.view_is some.1)
