use Rattle.hda_capture.proofs.Callers.{recorder_keeps_on, recorder_owns_on}
use Rattle.writer_plays.proofs.recordings.record_over.Goals as goal

-- the blocks are still the pool's
pub close-bytes-requires : goal.close-bytes-requires
close-bytes-requires c = recorder_owns_on _ _ _ (recorder_keeps_on _ _ _ c.start.ensures.keeps c.run_all-outcome.ensures.keeps) c.in_ok-recorder.ensures.owns
