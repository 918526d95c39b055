-- Once all commands were sent a stretch that looks for the last answer, or a later one, submits none.
use Rattle.std.proofs.Common.{◌≡◌, ◌⊎◌, inl, inr, ◌&&◌, ◌+◌, ◌*◌, ℕ, zero, suc, Bool, true, false, if◌then◌else◌, List, [], ◌∷◌, ◌++◌, length, Option, Some, None, refl, sym, subst, arith}
use Rattle.std.proofs.lemmas.Bool.{false≢true}
use Rattle.std.specs.Prelude.{slice_get}
use Rattle.std.proofs.lemmas.Option.{slice_get_within}
use Rattle.verb_codes.specs.Words.{has_bit, bits_of}
use Rattle.hda_registers.specs.declared.shapes.Width.TheVariants.{One, Two}
use Rattle.hda_registers.specs.declared.places.TheConstants.{RIRBWP, RIRBSTS}
use Rattle.driver_progress.specs.declared.registers.TheConstants.{STREAM_STATUS}
use Rattle.hda_registers.specs.Fields.{entries_of}
use Rattle.command_engine.specs.declared.ring_places.RingPlaces.{RingPlaces}
use Rattle.command_engine.specs.Polling.{new_entries}
use Rattle.period_writer.specs.Runs.{Tally}
use Rattle.driver_progress.specs.declared.phase.Phase.{Phase}
use Rattle.driver_progress.specs.declared.phase.Phase.TheVariants.{Walking, SettingUp, Ready}
use Rattle.driver_progress.specs.Phases.{is_asking, is_active}
use Rattle.driver_progress.specs.Requests.{Request, Gets, Puts, Fetches, Stores}
use Rattle.driver_progress.specs.Seen.{Seen, interrupts_at, stream_interrupts_at}
use Rattle.driver_progress.specs.States.{State}
use Rattle.driver_progress.specs.Tasks.{Task, Order, Blocks, DriverLine}
use Rattle.driver_progress.specs.Expected.{asks, polls, fetches, submits, next_order, is_free, starts, runs, closes, shuts, clears, interrupted_if, expected_by}
use Rattle.laws_bring_up.proofs.Idle.{SubmitsNone}

abbrev pub IsCalm : Request → Type 0
IsCalm (Gets at width) = Unit {0}
IsCalm (Puts at width value) = SubmitsNone at width value
IsCalm (Fetches at count) = Unit {0}
IsCalm (Stores at bytes) = Unit {0}

abbrev pub AreCalm : List Request → Type 0
AreCalm [] = Unit {0}
AreCalm (request ∷ requests) = IsCalm request × AreCalm requests

pub calm_both : (front back : List Request) → AreCalm front → AreCalm back → AreCalm (front ++ back)
calm_both [] back first second = second
calm_both (request ∷ front) back first second = (first.0, calm_both front back first.1 second)

pub calm_back : (front back : List Request) → AreCalm (front ++ back) → AreCalm back
calm_back [] back all = all
calm_back (request ∷ front) back all = calm_back front back all.1

pub calm_front : (front back : List Request) → AreCalm (front ++ back) → AreCalm front
calm_front [] back all = tt {0}
calm_front (request ∷ front) back all = (all.0, calm_front front back all.1)

-- ---- what a stretch makes

fetches_calm : (rirb size count place : ℕ) → AreCalm (fetches rirb size count place)
fetches_calm rirb size zero place = tt {0}
fetches_calm rirb size (suc count) place = (tt {0}, fetches_calm rirb size count (place + 1))

pub polls_calm : (rirb : ℕ) (rings : RingPlaces) (seen : Seen) → AreCalm (polls rirb rings seen)
polls_calm rirb rings seen = (tt {0}, by (has_bit seen.flag 0))
  where
    by : (some : Bool) → AreCalm (if some then Gets RIRBWP Two ∷ (fetches rirb (entries_of rings.rirb) (new_entries rings seen.pointer) (rings.read + 1) ++ Puts RIRBSTS One 1 ∷ []) else [])
    by true = (
      tt {0},
      calm_both (fetches rirb (entries_of rings.rirb) (new_entries rings seen.pointer) (rings.read + 1)) (Puts RIRBSTS One 1 ∷ []) (fetches_calm rirb (entries_of rings.rirb) (new_entries rings seen.pointer) (rings.read + 1))
          (inl (record { control = refl; pointers = refl }), tt {0}),
    )
    by false = tt {0}

asks_calm : (task : Task) (state : State) (seen : Seen) (later : List Request) → AreCalm later → AreCalm (asks task state seen later)
asks_calm task state seen later calm = (tt {0}, calm_both (polls task.blocks.rirb state.rings seen) later (polls_calm task.blocks.rirb state.rings seen) calm)

-- where all were sent, none comes next
none_next : (orders : List Order) (sent : ℕ) (order : Order) → sent ≡ length orders → slice_get orders sent ≡ Some order → ⊥
none_next orders sent order all is = let within = slice_get_within orders sent order is in omega (arith, within, all)

submits_calm : (blocks : Blocks) (rings : RingPlaces) (orders : List Order) (sent : ℕ) (free : Bool) (order : Option Order) → sent ≡ length orders → order ≡ (if free then slice_get orders sent else None) → AreCalm (submits blocks rings order)
submits_calm blocks rings orders sent free None all is = tt {0}
submits_calm blocks rings orders sent true (Some order) all is = absurd (none_next orders sent order all (sym is))
submits_calm blocks rings orders sent false (Some order) all is = cc

pub shuts_calm : AreCalm shuts
shuts_calm = (inl (record { control = refl; pointers = refl }), (inl (record { control = refl; pointers = refl }), (inr (record { at_is = refl; width_is = refl; value_is = refl }), tt {0})))

clears_calm : (seen : Seen) → AreCalm (clears seen)
clears_calm seen = by (has_bit seen.interrupts stream_interrupts_at)
  where
    by : (on : Bool) → AreCalm (if on then Gets STREAM_STATUS One ∷ Puts STREAM_STATUS One (4 * bits_of seen.stream 2 3) ∷ [] else [])
    by true = (tt {0}, (inl (record { control = refl; pointers = refl }), tt {0}))
    by false = tt {0}

pub interrupted_calm : (irq : Bool) (seen : Seen) (called : List Request) → AreCalm called → AreCalm (interrupted_if irq seen called)
interrupted_calm false seen called calm = calm
interrupted_calm true seen called calm = (tt {0}, by (has_bit seen.interrupts interrupts_at))
  where
    by : (on : Bool) → AreCalm (if on then clears seen ++ called else [])
    by true = calm_both (clears seen) called (clears_calm seen) calm
    by false = tt {0}

-- ---- by phase

-- all commands were sent, or are answered
abbrev pub IsLast : Task → State → Type 0
IsLast task state = (state.phase ≡ Ready) ⊎ ((is_asking state.phase ≡ true) × (state.sent ≡ length task.orders))

plays_none : (task : Task) (state : State) (budget : ℕ) (seen : Seen) (tally : Tally) → task.plays ≡ false → AreCalm (runs task state budget seen tally Ready)
plays_none task state budget seen tally silent = subst (λ (plays : Bool). AreCalm (if plays then starts task state budget seen else [])) (sym silent) (tt {0})

asking_calm : (task : Task) (state : State) (budget : ℕ) (seen : Seen) → state.sent ≡ length task.orders → AreCalm (asks task state seen (submits task.blocks state.rings (next_order task state seen)))
asking_calm task state budget seen all =
    asks_calm task state seen (submits task.blocks state.rings (next_order task state seen))
    (submits_calm task.blocks state.rings task.orders state.sent (is_free state.rings.outstanding seen.answered) (next_order task state seen) all refl)

runs_calm : (task : Task) (state : State) (budget : ℕ) (seen : Seen) (tally : Tally) (phase : Phase) → is_asking phase ≡ true → state.sent ≡ length task.orders → AreCalm (runs task state budget seen tally phase)
runs_calm task state budget seen tally Walking asking all = asking_calm task state budget seen all
runs_calm task state budget seen tally SettingUp asking all = asking_calm task state budget seen all
runs_calm task state budget seen tally phase asking all = absurd (false≢true asking)

closes_calm : (task : Task) (state : State) (seen : Seen) (phase : Phase) → is_asking phase ≡ true → AreCalm (closes task state seen phase)
closes_calm task state seen Walking asking = asks_calm task state seen shuts shuts_calm
closes_calm task state seen SettingUp asking = asks_calm task state seen shuts shuts_calm
closes_calm task state seen phase asking = absurd (false≢true asking)

-- a stretch of a line plays no sound once all is set up
abbrev pub IsSilent : Task → State → Option DriverLine → Type 0
IsSilent task state None = Unit {0}
IsSilent task state (Some line) = state.phase ≡ Ready → task.plays ≡ false

pub expected_calm : (task : Task) (state : State) (turn : Option DriverLine) (seen : Seen) (tally : Tally) → IsSilent task state turn → IsLast task state → AreCalm (expected_by task state turn seen tally)
expected_calm task state None seen tally silent (inl ready) = subst (λ (phase : Phase). AreCalm (closes task state seen phase)) (sym ready) shuts_calm
expected_calm task state None seen tally silent (inr asking) = closes_calm task state seen state.phase asking.0
expected_calm task state (Some line) seen tally silent (inl ready) =
    interrupted_calm (line.irq && is_active state.phase) seen (runs task state line.budget seen tally state.phase)
    (subst (λ (phase : Phase). AreCalm (runs task state line.budget seen tally phase)) (sym ready) (plays_none task state line.budget seen tally (silent ready)))
expected_calm task state (Some line) seen tally silent (inr asking) =
    interrupted_calm (line.irq && is_active state.phase) seen (runs task state line.budget seen tally state.phase)
    (runs_calm task state line.budget seen tally state.phase asking.0 asking.1)
