-- Steps of the device keep that a recorder records.
use Rattle.std.proofs.Common.{◌≤◌, ℕ, List, [], ◌∷◌, ◌++◌, length, sym, ap, subst, ◌∙◌, arith, length-append}
use Rattle.std.proofs.lemmas.List.{take-append-le, length-take}
use Rattle.world_steps.specs.declared.Step.{Step}
use Rattle.hda_world.specs.Worlds.{World}
use Rattle.hda_world.specs.Steps.{after_step, after_steps}
use Rattle.hda_capture.specs.Recorders.{RecorderState}
use Rattle.laws_recording.specs.Filling.{recorder_ring}
use Rattle.laws_recording.specs.Recording.{AreFirstOf, IsRecording}
use Rattle.laws_recording.proofs.Growing.{Goes, step_goes, pace_on}

-- ---- the first of what was taken

-- there are as many
pub first_few : (taken bytes : List ℕ) → AreFirstOf taken bytes → length bytes ≤ length taken
first_few taken bytes first =
    let long = ap length first ∙ length-take (length bytes) taken in omega (arith, long)

-- they are the first of what was taken once more was
pub first_longer : (taken more bytes : List ℕ) → AreFirstOf taken bytes → AreFirstOf (taken ++ more) bytes
first_longer taken more bytes first =
    let few = first_few taken bytes first in
    first ∙ sym (take-append-le (length bytes) taken more few)

-- ---- a recorder whose ring is filled, in a world to which steps led

pub goes_on : (recorder : RecorderState) (old new : World) → IsRecording recorder old → Goes (recorder_ring recorder) old new → IsRecording recorder new
goes_on recorder old new recording goes =
    let there = recording.there in
    let stored = recording.stored in
    let up = goes.gone.stored in
    let long = ap length goes.gone.taken ∙ length-append old.input.entered goes.gone.more in
    record {
      since = recording.since;
      clock_from = recording.clock_from;
      started = recording.started;
      records = recording.records;
      whole = recording.whole;
      fills = goes.fills;
      paced = pace_on (recorder_ring recorder) (record { at = recorder.course.at; since = recording.since }) old new goes.grows recording.paced;
      there = omega (arith, there, long);
      stored = omega (arith, stored, up);
      first = subst (λ (taken : List ℕ). AreFirstOf taken recorder.bytes) (sym goes.gone.taken) (first_longer old.input.entered goes.gone.more recorder.bytes recording.first);
    }

pub step_keeps : (recorder : RecorderState) (one : Step) (world : World) → IsRecording recorder world → IsRecording recorder (after_step one world)
step_keeps recorder one world recording = goes_on recorder world (after_step one world) recording (step_goes (recorder_ring recorder) one world recording.fills)

pub steps_keep : (recorder : RecorderState) (steps : List Step) (world : World) → IsRecording recorder world → IsRecording recorder (after_steps steps world)
steps_keep recorder [] world recording = recording
steps_keep recorder (one ∷ steps) world recording = steps_keep recorder steps (after_step one world) (step_keeps recorder one world recording)
