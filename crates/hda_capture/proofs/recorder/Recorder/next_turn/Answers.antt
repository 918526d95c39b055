use Rattle.std.proofs.Common.{arith, length}
use Rattle.period_writer.specs.Rings.{ring_bytes}
use Rattle.period_writer.proofs.Callers.{position_small, ring_small}
use Rattle.hda_capture.proofs.recorder.Recorder.next_turn.Goals as goal

pub turn_of-requires-clause-small : goal.turn_of-requires-clause-small
turn_of-requires-clause-small c =
    let is = c.self.invariant.0 in
    let ring = ring_small c.self.inside.geometry.periods c.self.inside.geometry.period c.self.inside.geometry.few_periods c.self.inside.geometry.few in
    let small = position_small (ring_bytes c.self.inside.geometry.periods c.self.inside.geometry.period) (length c.self.inside.runs.items) c.self.inside.records c.self.inside.course.at ring is.few_runs is.few_records is.course_is.bounded in
    omega (arith, small)
