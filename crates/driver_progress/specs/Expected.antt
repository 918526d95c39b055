-- The accesses that a driver is to make at a call: by its phase, how it is called, and what it reads meanwhile. The
-- order of the accesses is this project's own; what they do is High Definition Audio 1.0a, 3.3 and 4.3 to 4.5.
use Rattle.std.specs.Prelude.{ℕ, zero, suc, ◌+◌, ◌*◌, ◌-◌, ◌%◌, Bool, true, false, ◌&&◌, nat_le, List, [], ◌∷◌, ◌++◌}
use Rattle.std.specs.Prelude.{length, drop, slice_get, slice_index, Option, None, Some, if◌then◌else◌}
use Rattle.byteorder.specs.Endian.{little_bytes}
use Rattle.verb_codes.specs.Words.{has_bit, bits_of}
use Rattle.hda_registers.specs.declared.shapes.Width.TheVariants.{One, Two, Four}
use Rattle.hda_registers.specs.declared.places.TheConstants.{GCTL, STATESTS, INTSTS, WALCLK, CORBLBASE, CORBWP, CORBRP}
use Rattle.hda_registers.specs.declared.places.TheConstants.{CORBCTL, CORBSIZE, RIRBWP, RIRBCTL, RIRBSTS, RIRBSIZE}
use Rattle.hda_registers.specs.Fields.{entries_of}
use Rattle.world_rings.specs.declared.entries.TheConstants.{COMMAND_BYTES, RESPONSE_BYTES}
use Rattle.command_engine.specs.declared.ring_places.RingPlaces.{RingPlaces}
use Rattle.command_engine.specs.declared.answers.Outstanding.{Outstanding}
use Rattle.command_engine.specs.Starting.{rings_found, rirb_accesses}
use Rattle.command_engine.specs.Submitting.{command_place}
use Rattle.command_engine.specs.Polling.{new_entries}
use Rattle.period_writer.specs.declared.registers.TheConstants.{CONTROL, POSITION}
use Rattle.period_writer.specs.Rings.{period_bytes}
use Rattle.period_writer.specs.Starting.{entry_writes, run_accesses}
use Rattle.period_writer.specs.Playing.{run_writes, stop_accesses}
use Rattle.period_writer.specs.Runs.{RunFacts, Tally, measures, facts_of}
use Rattle.driver_progress.specs.declared.phase.Phase.{Phase}
use Rattle.driver_progress.specs.declared.registers.TheConstants.{STREAM_STATUS}
use Rattle.driver_progress.specs.Requests.{Request, Gets, Puts, Fetches, Stores, requests_of}
use Rattle.driver_progress.specs.Tasks.{Order, Blocks, Task, DriverLine}
use Rattle.driver_progress.specs.Seen.{Seen, clock_of, interrupts_at, stream_interrupts_at}
use Rattle.driver_progress.specs.States.{State}
use Rattle.driver_progress.specs.Phases.{PhaseGroup, BeforeWalk, Asking, BeforeSound, Sounding, Over, group_of}
use Rattle.driver_progress.specs.Phases.{is_reset, is_active}

-- ---- the reset

-- CRST is written 0 and then 1, and responses that come unasked are accepted; each time it is read back (4.3)
abbrev pub resets : List Request
resets = Puts GCTL Four 0 ∷ Gets GCTL Four ∷ Puts GCTL Four 0x101 ∷ Gets GCTL Four ∷ Gets WALCLK Four ∷ []

-- for how many ticks after it the codecs may announce themselves: 25 link frames of 500
abbrev pub settling_ticks : ℕ
settling_ticks = 12500

abbrev pub has_settled : (kept clock : ℕ) → Bool
has_settled kept clock = nat_le (kept + settling_ticks) clock

-- both rings at their beginning, where a codec announced itself and both sizes are named
abbrev pub rings_seen : Seen → Option RingPlaces
rings_seen seen = rings_found seen.changes seen.corb_size seen.rirb_size

-- both rings are set going (4.4.1.3 and 4.4.2.2)
abbrev pub sets_rings : Blocks → Seen → Option RingPlaces → List Request
sets_rings blocks seen None = []
sets_rings blocks seen (Some rings) =
    Puts STATESTS Two seen.changes ∷ Puts CORBLBASE Four blocks.corb ∷ Puts CORBWP Two 0 ∷ Puts CORBRP Two 0x8000 ∷ Gets
    CORBRP Two
    ∷ Puts CORBRP Two 0 ∷ Gets CORBRP Two ∷ Puts CORBCTL One 2 ∷ requests_of (rirb_accesses blocks.rirb rings.rirb)

abbrev pub settles : Task → State → Seen → List Request
settles task state seen =
    Gets WALCLK Four
    ∷ (if has_settled state.kept (clock_of seen)
    then Gets STATESTS Two ∷ Gets CORBSIZE One ∷ Gets RIRBSIZE One ∷ sets_rings task.blocks seen (rings_seen seen) else
    [])

-- ---- commands and their answers

-- so many entries of RIRB, from this place of the ring on
abbrev pub fetches : (rirb size count place : ℕ) → List Request
fetches rirb size zero place = []
fetches rirb size (suc count) place = Fetches (rirb + RESPONSE_BYTES * (place % size)) RESPONSE_BYTES ∷ fetches rirb
    size count (place + 1)

-- the new entries are read where RINTFL says that there are some, and then it is cleared (4.4.2)
abbrev pub polls : (rirb : ℕ) → RingPlaces → Seen → List Request
polls rirb rings seen =
    Gets RIRBSTS One
    ∷ (if has_bit seen.flag 0
    then Gets RIRBWP Two ∷ (fetches rirb (entries_of rings.rirb) (new_entries rings seen.pointer)
    (rings.read + 1) ++ Puts RIRBSTS One 1 ∷ [])
    else [])

-- whether a command may be submitted: none is outstanding, or its answer came
abbrev pub is_free : Option Outstanding → (answered : Bool) → Bool
is_free None answered = true
is_free (Some command) answered = answered

-- the next command, where one may be submitted and is left
abbrev pub next_order : Task → State → Seen → Option Order
next_order task state seen = if is_free state.rings.outstanding seen.answered then slice_get task.orders state.sent else
    None

-- it goes to CORB's next entry, and the write pointer moves there (4.4.1)
abbrev pub submits : Blocks → RingPlaces → Option Order → List Request
submits blocks rings None = []
submits blocks rings (Some order) =
    Stores (blocks.corb + COMMAND_BYTES * command_place rings) (little_bytes 4 order.word) ∷ Puts CORBWP Two
    (command_place rings) ∷ []

-- the clock, the poll, and what comes after it
abbrev pub asks : Task → State → Seen → (later : List Request) → List Request
asks task state seen later = Gets WALCLK Four ∷ (polls task.blocks.rirb state.rings seen ++ later)

-- ---- the sound

-- what a run goes by that may write so many bytes of sound
abbrev pub facts_seen : Task → State → (budget : ℕ) → Seen → RunFacts
facts_seen task state budget seen =
    facts_of budget (length task.pcm - state.tally.course.used) (slice_index seen.clocks 0)
    (slice_index seen.positions 0) (slice_index seen.clocks 1)

-- what it writes: over silence that it takes back, and from the line's end on
abbrev pub appends : Task → State → (budget : ℕ) → Seen → List Request
appends task state budget seen =
    requests_of (run_writes (period_bytes task.geometry.period) task.blocks.periods (measures task.geometry)
    state.tally.course (facts_seen task state budget seen) (drop state.tally.course.used task.pcm))

-- the first run: the stream is reset, the list and the first bytes of the line are written, and the stream is set going
-- (4.5.3)
abbrev pub starts : Task → State → (budget : ℕ) → Seen → List Request
starts task state budget seen =
    Gets WALCLK Four ∷ Puts CONTROL One 1 ∷ Gets CONTROL One ∷ Puts CONTROL One 0 ∷ Gets CONTROL One
    ∷ (requests_of (entry_writes task.blocks.list task.blocks.periods (period_bytes task.geometry.period))
    ++ (appends task state budget seen
    ++ (requests_of (run_accesses task.blocks.list task.geometry) ++ Gets WALCLK Four ∷ [])))

-- a later run: the poll, the clock and LPIB, what the line gains, the clock, and what comes after it (4.5.4)
abbrev pub plays_on : Task → State → (budget : ℕ) → Seen → (later : List Request) → List Request
plays_on task state budget seen later =
    polls task.blocks.rirb state.rings seen
    ++ (Gets WALCLK Four ∷ Gets POSITION Four ∷ (appends task state budget seen ++ Gets WALCLK Four ∷ later))

-- the stream is stopped where the run left it drained or late
abbrev pub stops : Tally → List Request
stops tally = requests_of (stop_accesses tally.course.ran)

-- ---- a call

-- by the group of the phase, where the tally after the call is this one. Once it is over nothing is done
abbrev pub runs_in : Task → State → (budget : ℕ) → Seen → Tally → Phase → PhaseGroup → List Request
runs_in task state budget seen tally phase BeforeWalk = if is_reset phase then resets else settles task state seen
runs_in task state budget seen tally phase Asking =
    asks task state seen (submits task.blocks state.rings (next_order task state seen))
runs_in task state budget seen tally phase BeforeSound = if task.plays then starts task state budget seen else []
runs_in task state budget seen tally phase Sounding = plays_on task state budget seen (stops tally)
runs_in task state budget seen tally phase Over = []

abbrev pub runs : Task → State → (budget : ℕ) → Seen → Tally → Phase → List Request
runs task state budget seen tally phase = runs_in task state budget seen tally phase (group_of phase)

-- of an interrupt of the output stream the status bits that are set are cleared (3.3.36)
abbrev pub clears : Seen → List Request
clears seen =
    if has_bit seen.interrupts stream_interrupts_at
    then Gets STREAM_STATUS One ∷ Puts STREAM_STATUS One (4 * bits_of seen.stream 2 3) ∷ [] else []

-- where it is called for an interrupt, it looks first whether there is one (3.3.15)
abbrev pub interrupted_if : (irq : Bool) → Seen → List Request → List Request
interrupted_if true seen called =
    Gets INTSTS Four ∷ (if has_bit seen.interrupts interrupts_at then clears seen ++ called else [])
interrupted_if false seen called = called

-- ---- the call that closes it

-- both rings are stopped, and the controller is reset
abbrev pub shuts : List Request
shuts = Puts CORBCTL One 0 ∷ Puts RIRBCTL One 0 ∷ Puts GCTL Four 0 ∷ []

-- by the group of the phase: no command is submitted, no sound is written, and a stream that runs is stopped
abbrev pub closes_in : Task → State → Seen → Phase → PhaseGroup → List Request
closes_in task state seen phase BeforeWalk = if is_reset phase then [] else shuts
closes_in task state seen phase Asking = asks task state seen shuts
closes_in task state seen phase BeforeSound = shuts
closes_in task state seen phase Sounding = plays_on task state 0 seen (Puts CONTROL One 0 ∷ shuts)
closes_in task state seen phase Over = shuts

abbrev pub closes : Task → State → Seen → Phase → List Request
closes task state seen phase = closes_in task state seen phase (group_of phase)

-- ---- all accesses of a stretch, where it is one of a line or the closing one

abbrev pub expected_by : Task → State → Option DriverLine → Seen → Tally → List Request
expected_by task state None seen tally = closes task state seen state.phase
expected_by task state (Some line) seen tally =
    interrupted_if (line.irq && is_active state.phase) seen (runs task state line.budget seen tally state.phase)
