-- All that is told of a driver that captures.
use Rattle.std.proofs.Common.{ℕ, List}
use Rattle.verb_codes.specs.declared.verbs.Command.{Command}
use Rattle.codec_graph.specs.declared.raw.RawCodec.{RawCodec}
use Rattle.route_setup.specs.Means.{Means}
use Rattle.driver_progress.specs.Tasks.{Task}
use Rattle.laws_capture.specs.Capturing.{KeepsCapturing}
use Rattle.laws_capture.proofs.BringingUp.{coming_begins, coming_steps, coming_call, coming_shuts}
use Rattle.laws_capture.proofs.Turning as turning
use Rattle.laws_capture.proofs.RecordCalls as calls
use Rattle.laws_capture.proofs.RecordEnds as ending
use Rattle.laws_capture.proofs.Given.{Given}

pub led_on : (means : Means) (verbs : RawCodec → List Command) (graphs : List RawCodec) (task : Task) (total nid : ℕ) → Given means verbs graphs task nid → KeepsCapturing means verbs graphs task total nid
led_on means verbs graphs task total nid laws = record {
  begins = λ lines parts telling. coming_begins means verbs graphs task total nid laws lines parts telling;
  steps = λ lines left parts steps old new. coming_steps means verbs graphs task total nid laws lines left parts steps old new;
  calls = λ lines left line old new before begun made after begins not call ends small coming.
      coming_call means verbs graphs task total nid laws lines left line old new before begun made after begins not call ends small coming;
  shuts = λ lines old ended tally last before begun made after begins closing ends went small coming.
      coming_shuts means verbs graphs task total nid laws lines old ended tally before begun made after begins closing ends coming;
  turns = λ lines left line parts old new before begun made after ready of is_driver recorder task_is begins call ends small region coming.
      turning.turns means verbs graphs task total nid laws lines left line parts old before ready of is_driver recorder task_is region coming new begun made after begins call ends small;
  records_steps = λ lines left driver steps old new. calls.record_steps means verbs graphs task nid laws lines left driver steps old new;
  records_runs = λ lines left line old new before begun made after is_driver recorder begins call ends small on.
      calls.record_runs means verbs graphs task nid laws lines left line old new before begun made after recorder begins call ends small on;
  records_ends = λ lines old ended last before begun made after is_driver recorder begins call ends went small on.
      ending.record_ends means verbs graphs task nid laws lines old ended last before begun made after recorder begins call ends went small on;
}
