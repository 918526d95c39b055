-- The accesses that are expected where no sound is played leave streams at rest.
use Rattle.std.proofs.Common.{◌≡◌, ◌≢◌, ◌<◌, ◌⊎◌, inl, inr, ◌&&◌, ◌+◌, ◌*◌, ◌/◌, ℕ, Bool, true, false, if◌then◌else◌, List, [], ◌∷◌, ◌++◌, Option, None, Some, refl, sym, subst, arith}
use Rattle.std.proofs.lemmas.Bool.{false≢true}
use Rattle.std.specs.Prelude.{All}
use Rattle.std.proofs.Common.{suc, zero}
use Rattle.std.proofs.lemmas.List.Elements.{All-nil, All-cons}
use Rattle.hda_registers.specs.declared.shapes.Width.{Width}
use Rattle.hda_registers.specs.declared.shapes.Width.TheVariants.{One, Two, Four}
use Rattle.hda_registers.specs.declared.places.TheConstants.{STATESTS, CORBSIZE, RIRBSIZE, RIRBWP, RIRBSTS}
use Rattle.driver_progress.specs.declared.registers.TheConstants.{STREAM_STATUS}
use Rattle.verb_codes.specs.Words.{bits_of}
use Rattle.command_engine.specs.Polling.{new_entries}
use Rattle.command_engine.specs.Sizes.{half_of}
use Rattle.command_engine.specs.Submitting.{command_place}
use Rattle.verb_codes.specs.Words.{has_bit}
use Rattle.hda_registers.specs.Fields.{entries_of}
use Rattle.hda_world.specs.Events.{Event, Stepped, Begin, End, Read, Write, DmaRead, DmaWrite}
use Rattle.command_engine.specs.declared.ring_places.RingPlaces.{RingPlaces}
use Rattle.period_writer.specs.Runs.{Tally}
use Rattle.period_writer.specs.Beside.{IsBesideStreaming, IsStatusWrite}
use Rattle.driver_progress.specs.declared.phase.Phase.{Phase}
use Rattle.driver_progress.specs.declared.phase.Phase.TheVariants.{Reset, Settling, Walking, SettingUp, Ready, Playing}
use Rattle.driver_progress.specs.Phases.{is_active}
use Rattle.driver_progress.specs.Tasks.{Task, DriverLine, Order, Blocks}
use Rattle.driver_progress.specs.States.{State}
use Rattle.driver_progress.specs.Seen.{Seen, clock_of, stream_interrupts_at, interrupts_at}
use Rattle.driver_progress.specs.Requests.{Request, Gets, Puts, Fetches, Stores, requests_in, requests_of}
use Rattle.driver_progress.specs.Expected.{resets, settles, sets_rings, rings_seen, has_settled, polls, fetches, submits, starts, next_order, asks, runs, clears, interrupted_if, shuts, closes, expected_by}
use Rattle.driver_progress.specs.Next.{tally_next, expected}
use Rattle.laws_stream.specs.Resting.{IsResetWrite, LeavesRest}
use Rattle.laws_stream.specs.Silent.{plays_in}

-- a request of this kind, and all of them
abbrev IsRestful : Request → Type 0
IsRestful (Gets at width) = Unit {0}
IsRestful (Puts at width value) = IsBesideStreaming at ⊎ (IsStatusWrite at width ⊎ IsResetWrite at width value)
IsRestful (Fetches at count) = Unit {0}
IsRestful (Stores at bytes) = Unit {0}

abbrev AreRestful : List Request → Type 0
AreRestful [] = Unit {0}
AreRestful (request ∷ requests) = IsRestful request × AreRestful requests

both : (front back : List Request) → AreRestful front → AreRestful back → AreRestful (front ++ back)
both [] back none rest = rest
both (request ∷ front) back are rest = (are.0, both front back are.1 rest)

-- they are of events that leave streams at rest
of_event : (event : Event) (later : List Request) → AreRestful (requests_in event ++ later) → LeavesRest event × AreRestful later
of_event (Stepped step) later are = (tt {0}, are)
of_event Begin later are = (tt {0}, are)
of_event End later are = (tt {0}, are)
of_event (Read at width value) later are = (tt {0}, are.1)
of_event (Write at width value) later are = (are.0, are.1)
of_event (DmaRead at bytes) later are = (tt {0}, are.1)
of_event (DmaWrite at bytes) later are = (tt {0}, are.1)

of_events : (events : List Event) → AreRestful (requests_of events) → All LeavesRest events
of_events [] are = All-nil LeavesRest
of_events (event ∷ events) are = let parts = of_event event (requests_of events) are in All-cons LeavesRest event events parts.0 (of_events events parts.1)

-- ---- what is expected

-- a write of the controller's part elsewhere than at GCTL
low : (at : ℕ) (width : Width) (value : ℕ) → at / 4 ≢ 2 → at < 0x80 → IsRestful (Puts at width value)
low at width value other small = inl (other, inl small)

resets_rest : AreRestful resets
resets_rest =
    (inr (inr (record { place = refl; wide = refl; either = inl refl })), (tt {0}, (inr (inr (record { place = refl; wide = refl; either = inr refl })), (tt {0}, (tt {0}, tt {0})))))

shuts_rest : AreRestful shuts
shuts_rest =
    (low 0x4C One 0 (λ e. cc) (omega arith), (low 0x5C One 0 (λ e. cc) (omega arith), (inr (inr (record { place = refl; wide = refl; either = inl refl })), tt {0})))

rings_rest : (blocks : Blocks) (seen : Seen) (rings : Option RingPlaces) → AreRestful (sets_rings blocks seen rings)
rings_rest blocks seen None = tt {0}
rings_rest blocks seen (Some rings) = (
  low 0x0E Two seen.changes (λ e. cc) (omega arith),
  (
    low 0x40 Four blocks.corb (λ e. cc) (omega arith),
    (
      low 0x48 Two 0 (λ e. cc) (omega arith),
      (
        low 0x4A Two 0x8000 (λ e. cc) (omega arith),
        (
          tt {0},
          (
            low 0x4A Two 0 (λ e. cc) (omega arith),
            (
              tt {0},
              (
                low 0x4C One 2 (λ e. cc) (omega arith),
                (
                  low 0x50 Four blocks.rirb (λ e. cc) (omega arith),
                  (
                    low 0x58 Two 0x8000 (λ e. cc) (omega arith),
                    (low 0x5A Two (half_of rings.rirb) (λ e. cc) (omega arith), (low 0x5C One 3 (λ e. cc) (omega arith), (low 0x20 Four 0xC0000000 (λ e. cc) (omega arith), tt {0}))),
                  ),
                ),
              ),
            ),
          ),
        ),
      ),
    ),
  ),
)

settles_if : (task : Task) (seen : Seen) (settled : Bool)
    → AreRestful (if settled then Gets STATESTS Two ∷ Gets CORBSIZE One ∷ Gets RIRBSIZE One ∷ sets_rings task.blocks seen (rings_seen seen) else [])
settles_if task seen true = (tt {0}, (tt {0}, (tt {0}, rings_rest task.blocks seen (rings_seen seen))))
settles_if task seen false = tt {0}

settles_rest : (task : Task) (state : State) (seen : Seen) → AreRestful (settles task state seen)
settles_rest task state seen = (tt {0}, settles_if task seen (has_settled state.kept (clock_of seen)))

fetches_rest : (rirb size count place : ℕ) → AreRestful (fetches rirb size count place)
fetches_rest rirb size zero place = tt {0}
fetches_rest rirb size (suc count) place = (tt {0}, fetches_rest rirb size count (place + 1))

polls_if : (rirb : ℕ) (rings : RingPlaces) (seen : Seen) (flag : Bool)
    → AreRestful (if flag then Gets RIRBWP Two ∷ (fetches rirb (entries_of rings.rirb) (new_entries rings seen.pointer) (rings.read + 1) ++ Puts RIRBSTS One 1 ∷ []) else [])
polls_if rirb rings seen true =
    let count = new_entries rings seen.pointer in
    (tt {0}, both (fetches rirb (entries_of rings.rirb) count (rings.read + 1)) (Puts RIRBSTS One 1 ∷ []) (fetches_rest rirb (entries_of rings.rirb) count (rings.read + 1)) (low 0x5D One 1 (λ e. cc) (omega arith), tt {0}))
polls_if rirb rings seen false = tt {0}

polls_rest : (rirb : ℕ) (rings : RingPlaces) (seen : Seen) → AreRestful (polls rirb rings seen)
polls_rest rirb rings seen = (tt {0}, polls_if rirb rings seen (has_bit seen.flag 0))

submits_rest : (blocks : Blocks) (rings : RingPlaces) (order : Option Order) → AreRestful (submits blocks rings order)
submits_rest blocks rings None = tt {0}
submits_rest blocks rings (Some order) = (tt {0}, (low 0x48 Two (command_place rings) (λ e. cc) (omega arith), tt {0}))

asks_rest : (task : Task) (state : State) (seen : Seen) (later : List Request) → AreRestful later → AreRestful (asks task state seen later)
asks_rest task state seen later rest = (tt {0}, both (polls task.blocks.rirb state.rings seen) later (polls_rest task.blocks.rirb state.rings seen) rest)

clears_if : (seen : Seen) (clears : Bool) → AreRestful (if clears then Gets STREAM_STATUS One ∷ Puts STREAM_STATUS One (4 * bits_of seen.stream 2 3) ∷ [] else [])
clears_if seen true = (tt {0}, (inr (inl (inr refl, refl)), tt {0}))
clears_if seen false = tt {0}

called_if : (seen : Seen) (called : List Request) (on : Bool) → AreRestful called → AreRestful (if on then clears seen ++ called else [])
called_if seen called true rest = both (clears seen) called (clears_if seen (has_bit seen.interrupts stream_interrupts_at)) rest
called_if seen called false rest = tt {0}

interrupted_rest : (irq : Bool) (seen : Seen) (called : List Request) → AreRestful called → AreRestful (interrupted_if irq seen called)
interrupted_rest true seen called rest = (tt {0}, called_if seen called (has_bit seen.interrupts interrupts_at) rest)
interrupted_rest false seen called rest = rest

silent_if : (task : Task) (state : State) (budget : ℕ) (seen : Seen) (plays : Bool) → (plays && true) ≡ false → AreRestful (if plays then starts task state budget seen else [])
silent_if task state budget seen true silent = absurd (false≢true (sym silent))
silent_if task state budget seen false silent = tt {0}

runs_rest : (task : Task) (state : State) (line : DriverLine) (seen : Seen) (tally : Tally) (phase : Phase) → plays_in task (Some line) phase ≡ false → AreRestful (runs task state line.budget seen tally phase)
runs_rest task state line seen tally Reset silent = resets_rest
runs_rest task state line seen tally Settling silent = settles_rest task state seen
runs_rest task state line seen tally Walking silent =
    asks_rest task state seen (submits task.blocks state.rings (next_order task state seen)) (submits_rest task.blocks state.rings (next_order task state seen))
runs_rest task state line seen tally SettingUp silent =
    asks_rest task state seen (submits task.blocks state.rings (next_order task state seen)) (submits_rest task.blocks state.rings (next_order task state seen))
runs_rest task state line seen tally Ready silent = silent_if task state line.budget seen task.plays silent
runs_rest task state line seen tally Playing silent = absurd (false≢true (sym silent))
runs_rest task state line seen tally phase silent = tt {0}

closes_rest : (task : Task) (state : State) (seen : Seen) (phase : Phase) → plays_in task None phase ≡ false → AreRestful (closes task state seen phase)
closes_rest task state seen Reset silent = tt {0}
closes_rest task state seen Walking silent = asks_rest task state seen shuts shuts_rest
closes_rest task state seen SettingUp silent = asks_rest task state seen shuts shuts_rest
closes_rest task state seen Playing silent = absurd (false≢true (sym silent))
closes_rest task state seen phase silent = shuts_rest

expected_rests : (task : Task) (state : State) (turn : Option DriverLine) (seen : Seen) (tally : Tally) → plays_in task turn state.phase ≡ false → AreRestful (expected_by task state turn seen tally)
expected_rests task state None seen tally silent = closes_rest task state seen state.phase silent
expected_rests task state (Some line) seen tally silent =
    interrupted_rest (line.irq && is_active state.phase) seen (runs task state line.budget seen tally state.phase) (runs_rest task state line seen tally state.phase silent)

pub stretch_rests : (task : Task) (state : State) (turn : Option DriverLine) (seen : Seen) (made : List Event) → plays_in task turn state.phase ≡ false → requests_of made ≡ expected task state turn seen
    → All LeavesRest made
stretch_rests task state turn seen made silent fits =
    of_events made (subst AreRestful (sym fits) (expected_rests task state turn seen (tally_next task state turn seen) silent))
