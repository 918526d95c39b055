-- Schedules that play in turns: a call, a fetch that fills the FIFO, and no more link frames than the FIFO then serves.
-- This project's own.
use Rattle.std.specs.Prelude.{◌≡◌, ◌≤◌, ◌<◌, ℕ, ◌+◌, ◌*◌, false, List, [], ◌∷◌, ◌++◌, All, length, sum, take}
use Rattle.world_steps.specs.declared.Step.TheVariants as step
use Rattle.schedule_reader.specs.declared.schedule.DriverLine.{DriverLine}
use Rattle.heard_frames.specs.declared.heard.Heard.{Heard}
use Rattle.world_streams.specs.Output.{Carriage, Sent, Missed}
use Rattle.hda_world.specs.Worlds.{World, CarriedFrame}
use Rattle.laws_hearing.specs.Plays.{is_hole}
use Rattle.driver_progress.specs.declared.phase.Phase.TheVariants.{Drained}
use Rattle.driver_progress.specs.States.{State}
use Rattle.laws_serving.specs.Rounds.{Round}

-- ---- the schedule

-- the device makes no step in a call, which may write as many bytes as the ring has
pub record IsWideCall (ring : ℕ) (line : DriverLine) : Type 0 where
  pub alone : line.groups ≡ []
  pub wide : ring ≤ line.budget

-- a turn: behind its call the output stream fetches at least as many bytes as its FIFO holds, and then so many link
-- frames pass, for each of which the FIFO holds a block
pub record IsTurn (ring block fifo frames : ℕ) (round : Round) : Type 0 where
  pub call : IsWideCall ring round.line
  pub most : ℕ
  pub fills : fifo ≤ most
  pub serves : frames * block ≤ fifo
  pub steps : round.steps ≡ step.Fetch 1 most ∷ step.Link frames ∷ []

-- a last call, behind which the device makes no step
pub record IsLastCall (ring : ℕ) (round : Round) : Type 0 where
  pub call : IsWideCall ring round.line
  pub none : round.steps ≡ []

-- turns of so many link frames each, and a last call
abbrev pub AreInTurns : (ring block fifo : ℕ) → (lengths : List ℕ) → List Round → Type 0
AreInTurns ring block fifo [] [] = ⊥
AreInTurns ring block fifo [] (round ∷ []) = IsLastCall ring round
AreInTurns ring block fifo [] (round ∷ other ∷ rounds) = ⊥
AreInTurns ring block fifo (frames ∷ lengths) [] = ⊥
AreInTurns ring block fifo (frames ∷ lengths) (round ∷ rounds) =
    IsTurn ring block fifo frames round × AreInTurns ring block fifo lengths rounds

-- so it plays from the first call on that plays, the driver line after the one that finds the last of so many answers
pub record PlaysInTurns (commands ring block fifo : ℕ) (lengths : List ℕ) (rounds : List Round) : Type 0 where
  pub before : List Round
  pub turns : List Round
  pub rounds_are : rounds ≡ before ++ turns
  pub count : length before ≡ 3 + commands
  pub are : AreInTurns ring block fifo lengths turns

-- so many frames of sound end in the last of the turns: all turns have as many link frames, and no fewer of them have
pub record EndsInTheLast (frames : ℕ) (lengths : List ℕ) : Type 0 where
  pub some : 1 ≤ frames
  pub enough : frames ≤ sum lengths
  pub fewest : (fewer : ℕ) → fewer < length lengths → sum (take fewer lengths) < frames

-- ---- what comes of it

-- a link frame carried so many bytes of the stream
abbrev pub HasSentBytes : (bytes : ℕ) → Carriage → Type 0
HasSentBytes bytes (Sent sent) = length sent ≡ bytes
HasSentBytes bytes Missed = ⊥

abbrev pub CarriedBytes : (bytes : ℕ) → CarriedFrame → Type 0
CarriedBytes bytes frame = HasSentBytes bytes frame.carriage

-- the sound has drained: one run for each turn, and one that finds it so. Behind the sound's end the line is one
-- silence, a ring past the last link frame. And each link frame that passed while the stream ran carried a block
pub record HasPlayedInTurns (ring block frames : ℕ) (lengths : List ℕ) (state : State) (world : World) : Type 0 where
  pub phase : state.phase ≡ Drained
  pub runs : length state.tally.runs ≡ length lengths + 1
  pub silences : state.tally.silences
      ≡ record { start = frames * block; end = sum lengths * block + ring } ∷ []
  pub carried : length world.carried ≡ sum lengths
  pub sent : All (CarriedBytes block) world.carried

-- ---- what is heard of it

abbrev pub IsNoHole : Heard → Type 0
IsNoHole item = is_hole item ≡ false
