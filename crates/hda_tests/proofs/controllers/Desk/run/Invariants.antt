use Rattle.std.specs.Prelude.{Contains}
use Rattle.device_core.specs.Codecs.{addresses_of}
use Rattle.hda_controller.specs.Hearing.{AreHeardAs}
use Rattle.hda_tests.proofs.controllers.Desk.run.Given as goal

-- the lists are those of candidate pins, and the codec is there
abbrev pub invariant-loop-step : goal.invariant-loop-step
invariant-loop-step l = AreHeardAs l.self.controller.kind l.self.controller.device.codecs l.self.lists × Contains (addresses_of l.self.controller.device.codecs) l.self.codec
