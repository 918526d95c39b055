-- What the calls of a driver do, by its setter, and whichever sound its supply may yet give. This project's own.
use Rattle.std.specs.Prelude.{◌≡◌, ℕ, List, true, Bool, Option}
use Rattle.route_setup.specs.Means.{StreamMeaning}
use Rattle.hda_world.specs.Tellings.{Telling}
use Rattle.wav_reader.specs.Supplies.{Supplied, Suffices, MayGive, EndsWith, sound_before}
use Rattle.period_writer.specs.Runs.{Tally}
use Rattle.period_writer.specs.Writers.{WriterState, ring_size}
use Rattle.driver_bring_up.specs.declared.answers.TheConstants.{TAG}
use Rattle.driver_bring_up.specs.declared.bringing.BringUp.{BringUp}
use Rattle.driver_bring_up.specs.Calls.{Leads, Ends}
use Rattle.driver_bring_up.specs.Failing.{Fails, FailsLast, FailsWith}
use Rattle.audio_driver.specs.declared.driver.closing.Closed.{Closed}
use Rattle.audio_driver.specs.States.{is_open, EndsWhilePlaying}
use Rattle.audio_driver.specs.Sounding.{PlaysSound, EndsSound}
use Rattle.audio_driver.specs.Closing.{Closes}
use Rattle.audio_driver.specs.Drivers.{DriverState}

-- ---- the sound

-- where a run comes next, the supply holds enough for one with this budget
abbrev pub SufficesIfOpen : (budget : ℕ) → WriterState → Supplied → Type 0
SufficesIfOpen budget writer supply = is_open writer.course.ran ≡ true → Suffices (ring_size writer) budget supply

-- a call that plays
abbrev pub SoundsAny : (irq : Bool) → (budget : ℕ) → (old new : BringUp) → (writer writer' : WriterState)
    → (supply supply' : Supplied) → (before after : Option Telling) → Type 0
SoundsAny irq budget old new writer writer' supply supply' before after =
    (later : List ℕ) → MayGive supply' later → EndsWhilePlaying writer.course supply (sound_before supply supply' later)
    → PlaysSound irq budget old new writer writer' (sound_before supply supply' later) later before after

-- the last call of a driver whose calls play
abbrev pub EndsAny : (old ended : BringUp) → WriterState → Tally → Supplied → (before after : Option Telling) → Type 0
EndsAny old ended writer tally' supply before after =
    (sound : List ℕ) → MayGive supply sound → EndsWith supply sound
    → EndsSound old ended writer tally' sound before after

-- ---- the codecs, which a setter sets up by what it means

module _ {T : Type 0} (means : T → StreamMeaning) where
  -- a call that does not play
  abbrev pub LeadsBy : (irq : Bool) → (old new : DriverState T) → (before after : Option Telling) → Type 0
  LeadsBy irq old new before after =
      Leads (means old.setter old.bring_up.agenda.format TAG) irq old.bring_up new.bring_up before after

  -- the last call of a bring-up with this setter
  abbrev pub FinishesBy : T → (old new : BringUp) → (before after : Option Telling) → Type 0
  FinishesBy setter old new before after =
      Ends (means setter old.agenda.format TAG) old new before after

  -- a call where memory was wanting, and the last one
  abbrev pub FailsBy : (irq : Bool) → (old new : DriverState T) → (before after : Option Telling) → Type 0
  FailsBy irq old new before after =
      Fails (means old.setter old.bring_up.agenda.format TAG) irq old.bring_up new.bring_up before after

  abbrev pub FailsLastBy : T → (old new : BringUp) → (before after : Option Telling) → Type 0
  FailsLastBy setter old new before after = FailsLast (means setter old.agenda.format TAG) old new before after

  abbrev pub FailsWithBy : DriverState T → (before after : Option Telling) → Type 0
  FailsWithBy driver before after =
      FailsWith (means driver.setter driver.bring_up.agenda.format TAG) driver.bring_up before after

  -- what is left after the last call of a driver, with this sound to come
  abbrev pub ClosesBy : DriverState T → (sound : List ℕ) → Closed → (before after : Option Telling) → Type 0
  ClosesBy driver sound closed before after =
      Closes (means driver.setter driver.bring_up.agenda.format TAG) driver.play driver.bring_up driver.writer sound
      closed
      before after
