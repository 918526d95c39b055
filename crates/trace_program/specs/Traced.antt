-- What `hda_trace` writes, and how it ends: its refusals and statuses are those of `hda_play` with the same words, and
-- the text of a run is its journal. This project's own.
use Rattle.std.specs.Prelude.{◌≡◌, ◌⊎◌, ℕ, List, Option, Some, None}
use Rattle.hda_outside.specs.Shelf.{Files}
use Rattle.program_words.specs.Asked.{Asked, request_of}
use Rattle.capture_report.specs.declared.captured.Captured.{Captured}
use Rattle.sound_report.specs.declared.played.Played.{Played}
use Rattle.sound_report.specs.declared.status.Status.TheVariants.{WordsRefused}
use Rattle.hda_program.specs.Answers.{HasEndedWith, IsMeant}
use Rattle.hda_program.specs.Asks.{IsNoCommand}
use Rattle.hda_program.specs.Meanings.{Meant, run_meant, telling}
use Rattle.hda_program.specs.Promises.{HasWalkedOrPlayed}
use Rattle.program_runs.specs.WalkTotals.{walk_total}
use Rattle.trace_lines.specs.declared.whole.Form.{Form}
use Rattle.trace_lines.specs.Traces.{trace_text}
use Rattle.trace_program.specs.Words.{form_of, played_words, usage_line}

-- what is answered: the usage line where the words are those of no run, and else what `hda_play` answers to them
abbrev pub IsAnswered : Option Files → (failed emptied unasked : List ℕ → Type 0) → (gave : ℕ → Type 0)
    → List (List ℕ) → Meant → Type 0
IsAnswered told failed emptied unasked gave words meant =
    (IsNoCommand (played_words words) × (meant ≡ telling WordsRefused usage_line))
    ⊎ ((asked : Asked) × (request_of (played_words words) ≡ Some asked)
    × IsMeant told failed emptied unasked gave (played_words words) meant)

-- the text of a run's journal in a form: the commands of the walks are those over its machine's codecs
abbrev pub trace_of : Form → Played → List ℕ
trace_of form played = trace_text form (walk_total played.machine.codecs) played

-- a run with its journal in a form in place of its report. Where there is no run the text stays
abbrev pub traced_run : Form → Option Played → Meant → Meant
traced_run form None meant = meant
traced_run form (Some played) meant = run_meant played (trace_of form played)

abbrev pub traced : Form → Meant → Meant
traced form meant = traced_run form meant.play meant

-- what is meant by the words
pub record IsTraced (told : Option Files) (failed emptied unasked : List ℕ → Type 0) (gave : ℕ → Type 0)
    (words : List (List ℕ)) (meant : Meant) : Type 0 where
  pub answer : Meant
  pub answered : IsAnswered told failed emptied unasked gave words answer
  pub is : meant ≡ traced (form_of words) answer

-- the program has ended so
abbrev pub HasEndedTrace : Option Files → (failed emptied unasked : List ℕ → Type 0) → (gave : ℕ → Type 0)
    → (words : List (List ℕ)) → (before after : Option (List ℕ)) → (sink_failed : Type 0) → Option Played
    → Option Captured → (status : ℕ) → Type 0
HasEndedTrace told failed emptied unasked gave words before after sink_failed play capture status =
    HasEndedWith (IsTraced told failed emptied unasked gave words) before after sink_failed play capture status

-- the run is the walk or the play that `hda_play` makes of the same words: its journal is one history, with the
-- progress, the open routes and the sound that are promised there. The text is this journal in the form for which the
-- words ask
pub record IsRunTraced (told : Option Files) (failed emptied : List ℕ → Type 0) (gave : ℕ → Type 0)
    (words : List (List ℕ)) (played : Played) (text : List ℕ) : Type 0 where
  pub run : HasWalkedOrPlayed told failed emptied gave (played_words words) played
  pub text_is : text ≡ trace_of (form_of words) played
