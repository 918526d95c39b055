-- How a made run ends. This project's own.
use Rattle.std.specs.Prelude.{◌≡◌, ◌+◌, ◌-◌, ◌*◌, ℕ, [], ◌∷◌, None, sum, length}
use Rattle.sound_report.specs.declared.played.Played.{Played}
use Rattle.made_inputs.specs.MadeSound.{frames_for}
use Rattle.made_inputs.specs.MadeSchedule.{turns, AreTurns}
use Rattle.program_runs.specs.MadeLines.{silence_bytes, holes_of}

-- 44 commands set the codec up, and all of the sound was played, in so many turns: one run for each and one more, and
-- from the sound's end on one silence of four bytes for each link frame of the turns that is left, and of a ring
pub record MadeRunEnds (number : ℕ) (played : Played) : Type 0 where
  pub count : ℕ
  pub turns_are : AreTurns number count
  pub commands : played.commands ≡ 44
  pub done : played.fault ≡ None
  pub total : played.total ≡ frames_for number
  pub runs : length played.runs ≡ count + 1
  pub silences : played.silences
      ≡ record { start = 4 * frames_for number; end = 4 * sum (turns number count) + 12288 } ∷ []
  pub silence : silence_bytes played.silences ≡ 4 * sum (turns number count) + 12288 - 4 * frames_for number
  pub holes : holes_of played.heard ≡ 0
