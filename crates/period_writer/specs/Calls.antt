-- What the runs of a writer do, whichever sound its supply may yet give. This project's own.
use Rattle.std.specs.Prelude.{◌≡◌, ℕ, List, drop, Option}
use Rattle.hda_world.specs.Tellings.{Telling, Between}
use Rattle.wav_reader.specs.Supplies.{Supplied, MayGive, EndsWith, sound_before}
use Rattle.period_writer.specs.declared.course.Ran.{Ran}
use Rattle.period_writer.specs.Playing.{Starts, PlaysRun, TakesTurn, Finishes}
use Rattle.period_writer.specs.Outcomes.{StartTellsOf, RunTellsOf, FinishTellsOf}
use Rattle.period_writer.specs.Writers.{WriterState, tally_of, periods_of, ring_of}

-- the first run with this budget, on every platform
abbrev pub StartsAny : (budget : ℕ) → (old new : WriterState) → (supply supply' : Supplied)
    → (before after : Option Telling) → Type 0
StartsAny budget old new supply supply' before after =
    (later : List ℕ) → MayGive supply' later
    → Starts old.geometry old.list.address (periods_of old) budget (sound_before supply supply' later) (tally_of old)
    (tally_of new) later before after

-- and where the platform tells
abbrev pub StartTellsAny : (budget : ℕ) → (old new : WriterState) → (supply supply' : Supplied)
    → (before after : Option Telling) → Type 0
StartTellsAny budget old new supply supply' before after =
    (later : List ℕ) → MayGive supply' later
    → Between (StartTellsOf (ring_of old) (sound_before supply supply' later) budget (tally_of old) (tally_of new))
    before after

-- a later run with this budget and this answer, up to its stop
abbrev pub TakesAnyTurn : (budget : ℕ) → (old new : WriterState) → (supply supply' : Supplied) → Ran
    → (before after : Option Telling) → Type 0
TakesAnyTurn budget old new supply supply' ran before after =
    (later : List ℕ) → MayGive supply' later → EndsWith supply (sound_before supply supply' later)
    → TakesTurn old.geometry (periods_of old) budget (sound_before supply supply' later) (tally_of old) ran
    (tally_of new) later before after

-- the whole of it
abbrev pub PlaysAny : (budget : ℕ) → (old new : WriterState) → (supply supply' : Supplied) → Ran
    → (before after : Option Telling) → Type 0
PlaysAny budget old new supply supply' ran before after =
    (later : List ℕ) → MayGive supply' later → EndsWith supply (sound_before supply supply' later)
    → PlaysRun old.geometry (periods_of old) budget (sound_before supply supply' later) (tally_of old) ran
    (tally_of new) later before after

-- and where the platform tells
abbrev pub RunTellsAny : (budget : ℕ) → (old new : WriterState) → (supply supply' : Supplied) → Ran
    → (before after : Option Telling) → Type 0
RunTellsAny budget old new supply supply' ran before after =
    (later : List ℕ) → MayGive supply' later → EndsWith supply (sound_before supply supply' later)
    → (pcm : List ℕ) → sound_before supply supply' later ≡ drop old.course.used pcm
    → Between (RunTellsOf (ring_of old) pcm budget (tally_of old) ran (tally_of new)) before after

-- the last run with this answer, over a supply of which it takes nothing
abbrev pub FinishesAny : (old new : WriterState) → Supplied → Ran → (before after : Option Telling) → Type 0
FinishesAny old new supply ran before after =
    (sound : List ℕ) → MayGive supply sound → EndsWith supply sound
    → Finishes old.geometry (periods_of old) sound (tally_of old) ran (tally_of new) before after

-- and where the platform tells
abbrev pub FinishTellsAny : (old new : WriterState) → Supplied → Ran → (before after : Option Telling) → Type 0
FinishTellsAny old new supply ran before after =
    (sound : List ℕ) → MayGive supply sound → EndsWith supply sound → (pcm : List ℕ) → sound ≡ drop old.course.used pcm
    → Between (FinishTellsOf (ring_of old) pcm (tally_of old) ran (tally_of new)) before after
