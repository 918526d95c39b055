-- What `make` answers. This project's own.
use Rattle.std.specs.Prelude.{◌≡◌, ◌⊎◌, ℕ, List, Some}
use Rattle.program_words.specs.Asked.{make, request_of}
use Rattle.sound_report.specs.declared.played.Played.{Played}
use Rattle.sound_report.specs.declared.status.Status.TheVariants.{Done, SinkFailed, OutOfMemory}
use Rattle.sound_report.specs.Statuses.{number_of}
use Rattle.program_runs.specs.MadeRuns.{IsMadeRun}
use Rattle.program_runs.specs.MadeLines.{made_line}
use Rattle.hda_program.specs.MadeEnds.{MadeRunEnds}
use Rattle.hda_program.specs.Meanings.{Meant, of_made, status_of}

-- the words ask for the inputs that are made of this number
abbrev pub IsMakeOf : List (List ℕ) → (number : ℕ) → Type 0
IsMakeOf words number = request_of words ≡ Some (make number)

-- they ask for those of some number
abbrev pub WantsMade : List (List ℕ) → Type 0
WantsMade words = (number : ℕ) × IsMakeOf words number

-- it answers with the run of the inputs that are made of the number, which ends so
pub record MakeAnswers (number : ℕ) (meant : Meant) : Type 0 where
  pub played : Played
  pub run : IsMadeRun number played
  pub ends : MadeRunEnds number played
  pub is : meant ≡ of_made number played

-- the run is that of the number for which the words ask: the made sound through the made machine, by the made schedule.
-- All of it was played without a hole, by as many runs as the schedule has turns and one more, and the text is its line
pub record HasMadeRun (words : List (List ℕ)) (played : Played) (text : List ℕ) : Type 0 where
  pub number : ℕ
  pub asks : IsMakeOf words number
  pub run : IsMadeRun number played
  pub ends : MadeRunEnds number played
  pub line : text ≡ made_line number (number_of (status_of played)) played

-- how it ends: done, or the line was not written since the sink failed, or memory was wanting
abbrev pub IsOfMade : (sink_failed : Type 0) → ℕ → Type 0
IsOfMade sink_failed status =
    (status ≡ number_of Done) ⊎ (((status ≡ number_of SinkFailed) × sink_failed) ⊎ (status ≡ number_of OutOfMemory))
