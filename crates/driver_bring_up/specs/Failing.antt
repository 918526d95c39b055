-- What a call of a bring-up does where memory is wanting. This project's own.
use Rattle.std.specs.Prelude.{◌≡◌, ◌⊎◌, ℕ, Bool, true, List, ◌++◌, Option}
use Rattle.route_setup.specs.Means.{Means}
use Rattle.hda_world.specs.Events.{Event}
use Rattle.hda_world.specs.Tellings.{Telling, Between, Makes}
use Rattle.command_engine.specs.Starting.{StartReads}
use Rattle.driver_progress.specs.declared.phase.Phase.TheVariants.{Settling}
use Rattle.driver_progress.specs.Phases.{is_asking}
use Rattle.driver_progress.specs.Expected.{has_settled}
use Rattle.driver_progress.specs.Settling.{rings_after, settle_accesses}
use Rattle.driver_progress.specs.Shutting.{shut_accesses}
use Rattle.driver_bring_up.specs.Commanding.{FindsAnswer}
use Rattle.driver_bring_up.specs.declared.bringing.BringUp.{BringUp}
use Rattle.driver_bring_up.specs.Told.{IsBefore}

-- the codecs had their time, the rings were set going, and no walk begins
pub record FailsToWalk (old new : BringUp) (made : List Event) : Type 0 where
  pub settling : old.phase ≡ Settling
  pub clock : ℕ
  pub reads : StartReads
  pub settled : has_settled old.kept clock ≡ true
  pub made_is : made ≡ settle_accesses old.kept clock old.engine.corb.address old.engine.rirb.address reads
  pub rings : new.engine.rings ≡ rings_after true reads old.engine.rings
  pub jacks : new.jacks ≡ old.jacks
  pub agenda : new.agenda ≡ old.agenda

-- so a call that is not for an interrupt
pub record FailsToSettle (old new : BringUp) (before after : Option Telling) : Type 0 where
  pub made : List Event
  pub by : Between (Makes made) before after
  pub is : FailsToWalk old new made
  pub sent : new.sent ≡ old.sent

-- an answer was found, and nothing comes after the look for it
pub record FailsToTake (means : Means) (old new : BringUp) (made : List Event) : Type 0 where
  pub asking : is_asking old.phase ≡ true
  pub finds : FindsAnswer means old.engine.rirb.address old.engine.rings old.jacks old.agenda new.engine.rings new.jacks
      new.agenda made

-- a call, after the look for interrupts where it is for one: one of these two, and no command was sent
pub record Fails (means : Means) (irq : Bool) (old new : BringUp) (before after : Option Telling) : Type 0 where
  pub first : List Event
  pub is_before : IsBefore irq first
  pub made : List Event
  pub by : Between (Makes (first ++ made)) before after
  pub is : FailsToWalk old new made ⊎ FailsToTake means old new made
  pub sent : new.sent ≡ old.sent

-- the last call: the controller is shut after the look
pub record FailsLast (means : Means) (old new : BringUp) (before after : Option Telling) : Type 0 where
  pub made : List Event
  pub by : Between (Makes (made ++ shut_accesses)) before after
  pub is : FailsToTake means old new made
  pub sent : new.sent ≡ old.sent

-- so the last call of a bring-up that is not there any more
abbrev pub FailsWith : Means → (old : BringUp) (before after : Option Telling) → Type 0
FailsWith means old before after = (new : BringUp) × FailsLast means old new before after
