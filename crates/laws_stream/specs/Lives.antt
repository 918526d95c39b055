-- The life of the output stream as it is told: where no sound was played it is set going, and stopped once. This
-- project's own, over High Definition Audio 1.0a, 3.3.35 and 3.3.36.
use Rattle.std.specs.Prelude.{◌≡◌, Bool, true, false, List, [], ◌∷◌, ◌++◌}
use Rattle.hda_registers.specs.declared.shapes.Width.TheVariants.{One}
use Rattle.hda_registers.specs.Fields.{is_running}
use Rattle.hda_world.specs.Worlds.{World}
use Rattle.hda_world.specs.Events.{Event, Write, happens, after}
use Rattle.hda_world.specs.Tellings.{Telling}
use Rattle.period_writer.specs.declared.registers.TheConstants.{CONTROL}

-- the stream runs without an error
pub record Runs (world : World) : Type 0 where
  pub running : is_running world.registers.output ≡ true
  pub no_error : world.registers.output.descriptor_error ≡ 0

-- it does not run, and has none
pub record IsStopped (world : World) : Type 0 where
  pub stopped : is_running world.registers.output ≡ false
  pub no_error : world.registers.output.descriptor_error ≡ 0

-- it does not run and has none, and no link frame carried anything
pub record HasNotBegun (world : World) : Type 0 where
  pub stopped : is_running world.registers.output ≡ false
  pub no_error : world.registers.output.descriptor_error ≡ 0
  pub none : world.carried ≡ []

-- something holds before each of these events and after the last
abbrev pub Along : (World → Type 0) → List Event → World → Type 0
Along Holds [] world = Holds world
Along Holds (event ∷ events) world = Holds world × Along Holds events (happens world event)

-- the write that sets RUN, with the interrupts that are asked for, and the one that takes it back
abbrev pub sets_going : Event
sets_going = Write CONTROL One 0x1E

abbrev pub stops : Event
stops = Write CONTROL One 0

-- it was set going, which it was at no moment before, and runs without an error since
pub record IsGoing (telling : Telling) : Type 0 where
  pub before : List Event
  pub during : List Event
  pub journal : telling.journal ≡ before ++ sets_going ∷ during
  pub silent : Along HasNotBegun before telling.start
  pub runs : Along Runs during (after (before ++ sets_going ∷ []) telling.start)

-- it was set going, which it was at no moment before, ran without an error until it was stopped, and has not run since
pub record HasStopped (telling : Telling) : Type 0 where
  pub before : List Event
  pub during : List Event
  pub later : List Event
  pub journal : telling.journal ≡ before ++ sets_going ∷ (during ++ stops ∷ later)
  pub silent : Along HasNotBegun before telling.start
  pub runs : Along Runs during (after (before ++ sets_going ∷ []) telling.start)
  pub stays : Along IsStopped later (after (before ++ sets_going ∷ (during ++ stops ∷ [])) telling.start)

-- by whether the last run left it open
abbrev pub Lives : (is_open : Bool) → Telling → Type 0
Lives true telling = IsGoing telling
Lives false telling = HasStopped telling
