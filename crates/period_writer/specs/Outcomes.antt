-- What the first run and the later ones promise where their platform tells. This project's own.
use Rattle.std.specs.Prelude.{◌≡◌, ◌≤◌, ◌<◌, ℕ, ◌+◌, ◌*◌, ◌%◌, ◌^◌, ◌==◌, true, false, List, [], ◌∷◌, ◌++◌, length}
use Rattle.std.specs.Prelude.{drop, slice_index}
use Rattle.hda_registers.specs.Fields.{is_running}
use Rattle.hda_registers.specs.declared.shapes.Width.TheVariants.{One, Four}
use Rattle.hda_registers.specs.declared.places.TheConstants.{WALCLK}
use Rattle.world_streams.specs.Streams.{begun}
use Rattle.hda_world.specs.Worlds.{World}
use Rattle.hda_world.specs.Events.{Event, Read, Write, after}
use Rattle.hda_world.specs.Tellings.{Telling, Went, Makes, world_of}
use Rattle.hda_world.specs.Moments.{AtEach}
use Rattle.period_writer.specs.declared.course.Ran.{Ran}
use Rattle.period_writer.specs.declared.course.Ran.TheVariants.{Playing, Drained, Late}
use Rattle.period_writer.specs.Runs.{RunFacts, Tally, measures, facts_of, run_at, run_start, run_sure, takes_back}
use Rattle.period_writer.specs.Runs.{tally_after}
use Rattle.period_writer.specs.Lines.{line_of}
use Rattle.period_writer.specs.Starting.{rise_accesses}
use Rattle.period_writer.specs.Playing.{run_bytes, turn_with, stop_accesses}
use Rattle.period_writer.specs.declared.registers.TheConstants.{CONTROL, POSITION}
use Rattle.period_writer.specs.Standing.{Ring, AreBesideRirb, limit_in, slack_in}
use Rattle.period_writer.specs.Owning.{IsOwned, IsApart, Agrees, Allowed, IsWritten, IsPlaying}

-- WALCLK did not wrap since CRST rose
abbrev pub HasNotWrapped : World → Type 0
HasNotWrapped world = 500 * world.frames < 2 ^ 32

-- ---- a later run

-- the stream was stopped after all sound was sent: what was fetched is the line, and zeros from its end on
pub record HasDrained (ring : Ring) (pcm : List ℕ) (tally : Tally) (world : World) : Type 0 where
  pub stopped : is_running world.registers.output ≡ false
  pub no_error : world.registers.output.descriptor_error ≡ 0
  pub written : IsWritten pcm tally
  pub sent : tally.course.at ≤ world.output.left
  pub fetched : (at : ℕ) → at < length world.output.entered → at < tally.course.reach
      → slice_index world.output.entered at ≡ slice_index (line_of tally pcm) at
  pub silent : (at : ℕ) → at < length world.output.entered → tally.course.reach ≤ at
      → slice_index world.output.entered at ≡ 0

-- the stream was stopped: what was fetched is the line up to the last recorded reach
pub record WasStopped (ring : Ring) (pcm : List ℕ) (tally : Tally) (world : World) : Type 0 where
  pub stopped : is_running world.registers.output ≡ false
  pub no_error : world.registers.output.descriptor_error ≡ 0
  pub written : IsWritten pcm tally
  pub fetched : (at : ℕ) → at < length world.output.entered → at < tally.course.sure
      → slice_index world.output.entered at ≡ slice_index (line_of tally pcm) at

-- how a run with this answer left the ring, where this is recorded after it
abbrev pub EndsAs : Ran → Ring → (pcm : List ℕ) → Tally → World → Type 0
EndsAs Playing ring pcm tally world = IsPlaying ring pcm tally world
EndsAs Drained ring pcm tally world = HasDrained ring pcm tally world
EndsAs (Late from to limit) ring pcm tally world = WasStopped ring pcm tally world

-- what a run may write to that goes by these facts
abbrev pub allowed_in : Ring → Tally → RunFacts → Allowed
allowed_in ring tally facts = record {
  from = tally.course.at;
  to = run_at (measures ring.geometry) tally.course facts;
  start = run_start (measures ring.geometry) tally.course facts;
  reach = tally.course.reach;
}

-- the line and the reach of the runs so far, that of a run at work included unless it is late
abbrev pub AgreesAs : Ran → (pcm : List ℕ) → Tally → World → Event → Type 0
AgreesAs Playing pcm tally' = Agrees (line_of tally' pcm) tally'.course.reach
AgreesAs Drained pcm tally' = Agrees (line_of tally' pcm) tally'.course.reach
AgreesAs (Late from to limit) pcm tally' = Agrees (line_of tally' pcm) tally'.course.sure

-- a later run with this budget that read these clocks and this LPIB, with what comes after its last clock. At each
-- moment of it the device owns what it was left, and the run writes elsewhere
pub record TurnTells (ring : Ring) (pcm : List ℕ) (budget : ℕ) (tally : Tally) (stop : List Event) (tally' : Tally)
    (Agree : World → Event → Type 0) (Ended : World → Type 0) (old new : Telling) : Type 0 where
  pub facts : RunFacts
  pub budget_is : facts.budget ≡ budget
  pub left_is : facts.left ≡ length (drop tally.course.used pcm)
  pub events : List Event
  pub made : Makes (turn_with ring.geometry ring.periods tally.course facts (drop tally.course.used pcm) stop) old new
  pub recorded : tally' ≡ tally_after (measures ring.geometry) tally facts
  pub went : Went old new events
  pub moments : AtEach (IsOwned ring (line_of tally pcm) (run_sure (measures ring.geometry) tally.course facts)
      tally.course.from (allowed_in ring tally facts)) events (world_of old)
  -- the line of the runs so far, that of this run included unless it is late
  pub agree : AtEach Agree events (world_of old)
  -- the events up to the read of LPIB, and those after it. Where silence is taken back, and no more link frames passed
  -- from the earlier run's first clock to that read than the limit says, nothing from where the sound begins on was
  -- fetched up to that read, nor while the run takes no longer than it may
  pub early : List Event
  pub rest : List Event
  pub events_are : events ≡ (early ++ Read POSITION Four facts.lpib ∷ []) ++ rest
  pub unfetched : takes_back (measures ring.geometry) tally.course facts ≡ true
      → 500 * (after (early ++ Read POSITION Four facts.lpib ∷ [])
      (world_of old)).frames ≤ tally.course.from + 500 * limit_in ring
      → length (after (early ++ Read POSITION Four facts.lpib ∷ []) (world_of old)).output.entered ≤ run_start
      (measures ring.geometry) tally.course facts
  pub apart : takes_back (measures ring.geometry) tally.course facts ≡ true
      → 500 * (after (early ++ Read POSITION Four facts.lpib ∷ [])
      (world_of old)).frames ≤ tally.course.from + 500 * limit_in ring
      → AtEach (IsApart (run_start (measures ring.geometry) tally.course facts) facts.from (slack_in ring)) rest
      (after (early ++ Read POSITION Four facts.lpib ∷ []) (world_of old))
  pub ends : Ended (world_of new)

-- a later run with this answer, and the stop where the stream ends
abbrev pub RunTells : Ring → (pcm : List ℕ) → (budget : ℕ) → Tally → Ran → Tally → Telling → Telling → Type 0
RunTells ring pcm budget tally answer tally' = TurnTells ring pcm budget tally (stop_accesses answer) tally'
    (AgreesAs answer pcm tally') (EndsAs answer ring pcm tally')

-- it does so from each world in which the writer plays, while WALCLK has not wrapped
abbrev pub RunTellsOf : Ring → (pcm : List ℕ) → (budget : ℕ) → (tally : Tally) → (answer : Ran) → (tally' : Tally)
    → Telling → Telling → Type 0
RunTellsOf ring pcm budget tally answer tally' old new =
    IsPlaying ring pcm tally (world_of old) → HasNotWrapped (world_of new)
    → RunTells ring pcm budget tally answer tally' old new

-- ---- the last run

-- how a last run with this answer left the ring, where this is recorded after it: the stream was stopped in any case
abbrev pub EndsLast : Ran → Ring → (pcm : List ℕ) → Tally → World → Type 0
EndsLast Playing ring pcm tally world = WasStopped ring pcm tally world
EndsLast Drained ring pcm tally world = HasDrained ring pcm tally world
EndsLast (Late from to limit) ring pcm tally world = WasStopped ring pcm tally world

-- the last run, with the stop in any case
abbrev pub FinishTells : Ring → (pcm : List ℕ) → Tally → Ran → Tally → Telling → Telling → Type 0
FinishTells ring pcm tally answer tally' = TurnTells ring pcm 0 tally (Write CONTROL One 0 ∷ []) tally'
    (AgreesAs answer pcm tally') (EndsLast answer ring pcm tally')

-- it does so from each world in which the writer plays, while WALCLK has not wrapped
abbrev pub FinishTellsOf : Ring → (pcm : List ℕ) → (tally : Tally) → (answer : Ran) → (tally' : Tally) → Telling
    → Telling → Type 0
FinishTellsOf ring pcm tally answer tally' old new =
    IsPlaying ring pcm tally (world_of old) → HasNotWrapped (world_of new)
    → FinishTells ring pcm tally answer tally' old new

-- ---- the first run

-- a first run may begin: the controller is out of reset, the input stream does not run, WALCLK counts the link frames,
-- the FIFO is the geometry's, and RIRB lies outside the ring's blocks
pub record CanBegin (ring : Ring) (world : World) : Type 0 where
  pub out : (world.registers.global.controller_reset == 1) ≡ true
  pub input_stopped : is_running world.registers.input ≡ false
  pub clock : world.registers.global.wall_clock ≡ (500 * world.frames) % 2 ^ 32
  pub fifo : world.registers.shape.fifo ≡ ring.geometry.fifo
  pub beside : AreBesideRirb ring world.registers.global.rirb_base world.registers.shape

-- a first run: from the rise of RUN on, with which the stream begins anew, the writer plays, and at each moment the
-- device owns what it was left
pub record StartTells (ring : Ring) (pcm : List ℕ) (budget : ℕ) (tally tally' : Tally) (old new : Telling) : Type 0
  where
    pub from : ℕ
    pub in_reset : ℕ
    pub ready : ℕ
    pub to : ℕ
    pub risen : Telling
    pub events : List Event
    pub before : let facts = facts_of budget (length pcm) from 0 to in
        Makes (rise_accesses ring.geometry ring.list ring.periods from in_reset ready
        (run_bytes (measures ring.geometry) tally.course facts pcm)) old risen
    pub after : Makes (Read WALCLK Four to ∷ []) risen new
    pub recorded : tally' ≡ tally_after (measures ring.geometry) tally (facts_of budget (length pcm) from 0 to)
    pub rises : IsPlaying ring pcm tally' (world_of risen)
    pub anew : (world_of risen).output ≡ begun
    pub went : Went risen new events
    pub moments : AtEach (IsOwned ring (line_of tally' pcm) tally'.course.reach tally'.course.from
        (record { from = 0; to = 0; start = tally'.course.reach; reach = tally'.course.reach })) events (world_of risen)
    pub plays : IsPlaying ring pcm tally' (world_of new)

abbrev pub StartTellsOf : Ring → (pcm : List ℕ) → (budget : ℕ) → (tally tally' : Tally) → Telling → Telling → Type 0
StartTellsOf ring pcm budget tally tally' old new =
    CanBegin ring (world_of old) → HasNotWrapped (world_of new) → StartTells ring pcm budget tally tally' old new
