-- What a call of a driver gives, whether it plays or not.
use Rattle.std.proofs.Common.{◌≡◌, ◌≤◌, ℕ, Bool, true, false, List, length, Option, sym}
use Rattle.wav_reader.specs.Supplies.{MayGive, IsTaken, sound_before}
use Rattle.wav_reader.proofs.Callers.{same_before, ends_filled}
use Rattle.program_runs.specs.Feeding.{IsFilledUp}
use Rattle.program_runs.specs.Going.{Player, sounded}
use Rattle.std.specs.Prelude.{OnOk, Result, Ok, Err}
use Rattle.route_setup.specs.Means.{Means}
use Rattle.hda_world.specs.Tellings.{Telling}
use Rattle.driver_bring_up.specs.Calls.{Leads, IsKept}
use Rattle.audio_driver.specs.States.{plays_now, is_open, EndsWhilePlaying}
use Rattle.audio_driver.specs.Sounding as sounding
use Rattle.laws_driver.specs.Keeping.{Calls}

-- ---- a call

pub called : {X E : Type 0} (means : Means) (play irq : Bool) (budget ring : ℕ) (old new : Player) (before after : Option Telling) (result : Result X E) → 1 ≤ ring
    → length old.supply.held ≤ old.supply.left → (plays_now play old.bring_up ≡ true → is_open old.writer.course.ran ≡ true → IsFilledUp ring old.supply) → IsTaken old.supply new.supply
    → (plays_now play old.bring_up ≡ false → OnOk result (Leads means irq old.bring_up new.bring_up before after)) → IsKept old.bring_up new.bring_up
    → (plays_now play old.bring_up ≡ false → new.writer ≡ old.writer) → (plays_now play old.bring_up ≡ false → new.supply ≡ old.supply)
    → (plays_now play old.bring_up ≡ true → (later : List ℕ) → MayGive new.supply later → EndsWhilePlaying old.writer.course old.supply (sound_before old.supply new.supply later)
    → sounding.PlaysSound irq budget old.bring_up new.bring_up old.writer new.writer (sound_before old.supply new.supply later) later before after)
    → OnOk result ((later : List ℕ) → MayGive new.supply later → Calls means play irq budget (sounded old (sound_before old.supply new.supply later)) (sounded new later) before after)
called {X} {E} means play irq budget ring old new before after (Ok x) some rule up taken leads kept writer supply sounds = λ later may. record {
  leads = leads;
  kept = kept;
  writer = writer;
  supply = λ none. sym (same_before old.supply new.supply later (supply none));
  sounds = λ plays. sounds plays later may (λ started more. ends_filled ring old.supply new.supply later some (up plays more) taken rule may);
}
called {X} {E} means play irq budget ring old new before after (Err e) some rule up taken leads kept writer supply sounds = tt
