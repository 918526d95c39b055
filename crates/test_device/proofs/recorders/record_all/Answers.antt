use Rattle.hda_capture.proofs.Callers.{recorder_owns_on}
use Rattle.test_device.proofs.recorders.record_all.Goals as goal

-- the blocks are still the pool's
pub close-bytes-requires : goal.close-bytes-requires
close-bytes-requires c = recorder_owns_on _ _ _ c.follow-outcome.ensures.keeps c.in-Ok-open.ensures.owns
