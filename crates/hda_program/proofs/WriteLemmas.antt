-- A text that was written, or the front of it.
use Rattle.std.proofs.Common.{◌≡◌, List, ℕ, Option, Result, Ok, Err, refl, inl, inr}
use Rattle.std.specs.Prelude.{OnOk, OnErr}
use Rattle.hda_outside.specs.declared.fault.Fault.{Fault}
use Rattle.hda_outside.specs.declared.fault.Fault.TheVariants.{Failed, OutOfMemory}
use Rattle.hda_outside.specs.Sink.{taken_with, TookFront}
use Rattle.sound_report.specs.Statuses.{number_of}
use Rattle.hda_program.specs.Answers.{HasWritten}
use Rattle.hda_program.specs.Meanings.{Meant, written_status}

-- a call that writes a text or its front has written what is meant
pub has_written : {before after : Option (List ℕ)} (sink_failed : Type 0) (meant : Meant) (written : Result (Unit {0}) Fault)
    → OnOk written (after ≡ taken_with before meant.text) → OnErr written (TookFront before after meant.text) → (written ≡ Err Failed → sink_failed)
    → HasWritten before after sink_failed meant (number_of (written_status written meant.status))
has_written sink_failed meant (Ok done) all front failed = inl (refl, all)
has_written sink_failed meant (Err Failed) all front failed = inr (inl (refl, failed refl, front))
has_written sink_failed meant (Err OutOfMemory) all front failed = inr (inr (refl, front))
