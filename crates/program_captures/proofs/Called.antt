-- What a call of a driver gives that plays nothing.
use Rattle.std.proofs.Common.{◌≡◌, ℕ, Bool, true, false, List, Option, refl, ap}
use Rattle.std.specs.Prelude.{OnOk, Result, Ok, Err, ◌&&◌}
use Rattle.route_setup.specs.Means.{Means}
use Rattle.hda_world.specs.Tellings.{Telling}
use Rattle.period_writer.specs.Writers.{WriterState}
use Rattle.driver_bring_up.specs.declared.bringing.BringUp.{BringUp}
use Rattle.driver_bring_up.specs.Calls.{Leads, IsKept}
use Rattle.audio_driver.specs.States.{plays_now}
use Rattle.laws_driver.specs.Keeping.{Calls}
use Rattle.program_captures.specs.Capturing.{parts_with}

pub never_plays : (play : Bool) (bring_up : BringUp) → play ≡ false → plays_now play bring_up ≡ false
never_plays play bring_up silent = ap (λ (play : Bool). plays_now play bring_up) silent

never : false ≡ true → ⊥
never is = cc

pub called : {X E : Type 0} (means : Means) (irq : Bool) (budget : ℕ) (old new : BringUp) (writer writer' : WriterState) (before after : Option Telling) (result : Result X E) → OnOk result (Leads means irq old new before after) → IsKept old new → writer' ≡ writer
    → OnOk result (Calls means false irq budget (parts_with old writer) (parts_with new writer') before after)
called {X} {E} means irq budget old new writer writer' before after (Ok x) leads kept same = record {
  leads = λ none. leads;
  kept = kept;
  writer = λ none. same;
  supply = λ none. refl;
  sounds = λ plays. absurd (never plays);
}
called {X} {E} means irq budget old new writer writer' before after (Err e) leads kept same = tt
