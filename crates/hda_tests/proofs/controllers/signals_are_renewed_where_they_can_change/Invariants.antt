use Rattle.std.specs.Prelude.{Contains}
use Rattle.device_core.specs.Codecs.{addresses_of}
use Rattle.hda_controller.specs.Hearing.{AreHeardAs}
use Rattle.hda_tests.proofs.controllers.signals_are_renewed_where_they_can_change.Given as goal

-- the lists are those of candidate pins, and the codec is there
abbrev pub invariant-loop-writes : goal.invariant-loop-writes
invariant-loop-writes g l = AreHeardAs l.desk.controller.kind l.desk.controller.device.codecs l.desk.lists × Contains (addresses_of l.desk.controller.device.codecs) l.desk.codec
