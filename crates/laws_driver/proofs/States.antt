-- How far a driver has come, before its first run and after it.
use Rattle.std.proofs.Common.{◌≡◌, ◌&&◌, ℕ, Bool, true, false, List, Option, None, Some, refl, sym, ap, ◌∙◌}
use Rattle.std.proofs.lemmas.Bool.{false≢true}
use Rattle.std.specs.Option.{is_some}
use Rattle.hda_world.specs.Tellings.{Telling}
use Rattle.command_engine.specs.declared.answers.Outstanding.{Outstanding}
use Rattle.command_engine.specs.Polling.{still_outstanding}
use Rattle.period_writer.specs.declared.course.Ran.{Ran}
use Rattle.period_writer.specs.declared.course.Ran.TheVariants as ran
use Rattle.period_writer.specs.Runs.{Tally, tally_opened}
use Rattle.period_writer.specs.Writers.{WriterState, tally_of}
use Rattle.period_writer.specs.Blocks.{addresses_of}
use Rattle.driver_progress.specs.declared.phase.Phase.{Phase}
use Rattle.driver_progress.specs.declared.phase.Phase.TheVariants.{Ready, Playing}
use Rattle.driver_progress.specs.Phases.{is_early, is_ready, are_set_up}
use Rattle.driver_progress.specs.Tasks.{Task, DriverLine}
use Rattle.driver_progress.proofs.Callers.{ready_is}
use Rattle.driver_bring_up.specs.declared.bringing.BringUp.{BringUp}
use Rattle.driver_bring_up.specs.Calls as bringing
use Rattle.audio_driver.specs.States.{played_as, phase_if, phase_with, state_with, state_of, plays_now, IsTaskOf}
use Rattle.audio_driver.specs.Sounding.{PlaysSound}
use Rattle.laws_stream.specs.Silent.{plays_in}

-- ---- states

-- with the tally that nothing was recorded in
pub silent_with : (bring_up : BringUp) (tally : Tally) → tally ≡ tally_opened → state_with bring_up tally ≡ bringing.state_of bring_up
silent_with bring_up tally fresh = ap (λ (tally : Tally). state_with bring_up tally) fresh

pub silent_state : (bring_up : BringUp) (writer : WriterState) → tally_of writer ≡ tally_opened → state_of bring_up writer ≡ bringing.state_of bring_up
silent_state bring_up writer fresh = silent_with bring_up (tally_of writer) fresh

played_set_up : (was : Ran) → are_set_up (played_as was) ≡ true
played_set_up ran.Playing = refl
played_set_up ran.Drained = refl
played_set_up (ran.Late from to limit) = refl

-- once it was started
pub started_set_up : (bring_up : BringUp) (tally : Tally) → tally.course.started ≡ true → are_set_up (phase_with bring_up tally) ≡ true
started_set_up bring_up tally started =
    ap (λ (started : Bool). are_set_up (phase_if started bring_up.phase tally.course.ran)) started ∙ played_set_up tally.course.ran

-- ---- whether a call plays

not_ready : (phase : Phase) → is_ready phase ≡ false → phase ≡ Ready → ⊥
not_ready phase none ready = false≢true (sym none ∙ ap is_ready ready)

pub plays_not : (play : Bool) (bring_up : BringUp) → plays_now play bring_up ≡ false → bring_up.phase ≡ Ready → play ≡ false
plays_not false bring_up none ready = refl
plays_not true bring_up none ready = absurd (not_ready bring_up.phase none ready)

pub plays_then : (play : Bool) (bring_up : BringUp) → plays_now play bring_up ≡ true → (play ≡ true) × (bring_up.phase ≡ Ready)
plays_then true bring_up is = (refl, ready_is bring_up.phase is)
plays_then false bring_up is = absurd (false≢true is)

pub plays_so : (play : Bool) (bring_up : BringUp) → play ≡ true → bring_up.phase ≡ Ready → plays_now play bring_up ≡ true
plays_so play bring_up plays ready = ap (λ (play : Bool). play && is_ready bring_up.phase) plays ∙ ap is_ready ready

no_turn : (play : Bool) → (play && false) ≡ false
no_turn true = refl
no_turn false = refl

-- a stretch that begins early plays only in the phase `Ready`
plays_none : (task : Task) (turn : Option DriverLine) (phase : Phase) → is_early phase ≡ true → (phase ≡ Ready → (task.plays && is_some turn) ≡ false) → plays_in task turn phase ≡ false
plays_none task turn Ready early none = none refl
plays_none task turn Playing early none = absurd (false≢true early)
plays_none task turn phase early none = refl

pub call_silent : (task : Task) (line : DriverLine) (bring_up : BringUp) → plays_now task.plays bring_up ≡ false → plays_in task (Some line) bring_up.phase ≡ false
call_silent task line bring_up none =
    plays_none task (Some line) bring_up.phase bring_up.early (λ ready. ap (λ (play : Bool). play && true) (plays_not task.plays bring_up none ready))

pub end_silent : (task : Task) (bring_up : BringUp) → plays_in task None bring_up.phase ≡ false
end_silent task bring_up = plays_none task None bring_up.phase bring_up.early (λ ready. no_turn task.plays)

-- ---- over a call that plays

-- the task stays the driver's
pub task_on : (task : Task) (irq : Bool) (budget : ℕ) (old new : BringUp) (writer writer' : WriterState) (supply supply' : List ℕ) (before after : Option Telling) → PlaysSound irq budget old new writer writer' supply supply' before after
    → IsTaskOf old writer supply task → IsTaskOf new writer' supply' task
task_on task irq budget old new writer writer' supply supply' before after sounds is =
    let stays = sounds.stays in record {
      rings = record { corb = is.rings.corb ∙ sym (ap (λ corb. corb.address) stays.corb); rirb = is.rings.rirb ∙ sym (ap (λ rirb. rirb.address) stays.rirb) };
      geometry = is.geometry ∙ sym stays.geometry;
      list = is.list ∙ sym (ap (λ list. list.address) stays.list);
      periods = is.periods ∙ sym (ap addresses_of stays.periods);
      sound = sounds.sound task.pcm is.sound;
      plays = is.plays;
    }

-- where no command was outstanding, none is after a look
pub none_still : (outstanding : Option Outstanding) (found : Option ℕ) → outstanding ≡ None → still_outstanding outstanding found ≡ None
none_still outstanding None none = none
none_still outstanding (Some value) none = refl
