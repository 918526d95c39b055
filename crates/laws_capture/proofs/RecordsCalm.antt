-- The accesses that the rules of a driver that records expect submit no command.
use Rattle.std.proofs.Common.{ℕ, ◌&&◌, ◌*◌, Bool, true, false, if◌then◌else◌, List, [], ◌∷◌, ◌++◌, map, length, Option, None, Some, refl, inl}
use Rattle.std.specs.List.{range_with_len}
use Rattle.verb_codes.specs.Words.{has_bit, bits_of}
use Rattle.hda_registers.specs.declared.shapes.Width.TheVariants.{One, Four}
use Rattle.hda_registers.specs.declared.places.TheConstants.{WALCLK}
use Rattle.hda_world.specs.Events.{Event}
use Rattle.period_writer.specs.Rings.{period_bytes}
use Rattle.period_writer.specs.Starting.{entry_write, entry_writes}
use Rattle.hda_capture.specs.declared.course.Recorded.{Recorded}
use Rattle.hda_capture.specs.declared.course.Recorded.TheVariants.{Recording, Complete, Late}
use Rattle.hda_capture.specs.declared.registers.TheConstants.{CONTROL, POSITION}
use Rattle.hda_capture.specs.Recordings.{read_upto}
use Rattle.hda_capture.specs.Starting.{set_accesses}
use Rattle.driver_progress.specs.Requests.{Request, Gets, Puts, requests_in, requests_of}
use Rattle.driver_progress.specs.Seen.{interrupts_at}
use Rattle.driver_progress.specs.Tasks.{Task, DriverLine}
use Rattle.driver_progress.specs.Expected.{polls, shuts}
use Rattle.laws_bring_up.proofs.Callers.{AreCalm, calm_both, polls_calm, shuts_calm}
use Rattle.recording_driver.specs.declared.registers.TheConstants.{INPUT_STATUS}
use Rattle.recording_driver.specs.RecordRules.{RecordState, input_interrupts_at, lpib_in, status_in, seen_of, records_on, record_stops, record_clears, record_interrupted_if, record_starts, piece_fetch, line_fetches, measures_for, record_goes_on, record_tally_next, record_runs, record_closes, record_expected}

events_calm : (made : ℕ → Event) → ((number : ℕ) → AreCalm (requests_in (made number))) → (numbers : List ℕ) → AreCalm (requests_of (map made numbers))
events_calm made each [] = tt {0}
events_calm made each (number ∷ numbers) = calm_both (requests_in (made number)) (requests_of (map made numbers)) (each number) (events_calm made each numbers)

either_calm : (test : Bool) (one other : List Request) → AreCalm one → AreCalm other → AreCalm (if test then one else other)
either_calm true one other first second = first
either_calm false one other first second = second

-- ---- looks

clears_calm : (values : ℕ → List ℕ) → AreCalm (record_clears values)
clears_calm values =
    either_calm (has_bit (seen_of values).interrupts input_interrupts_at) (Gets INPUT_STATUS One ∷ Puts INPUT_STATUS One (4 * bits_of (status_in values) 2 3) ∷ []) []
    (tt {0}, (inl (record { control = refl; pointers = refl }), tt {0})) (tt {0})

interrupted_calm : (irq : Bool) (values : ℕ → List ℕ) (called : List Request) → AreCalm called → AreCalm (record_interrupted_if irq values called)
interrupted_calm false values called calm = calm
interrupted_calm true values called calm = (
  tt {0},
  either_calm (has_bit (seen_of values).interrupts interrupts_at) (record_clears values ++ called) []
      (calm_both (record_clears values) called (clears_calm values) calm) (tt {0}),
)

-- ---- runs

pieces_calm : (task : Task) (from to : ℕ) (numbers : List ℕ) → AreCalm (map (piece_fetch task from to) numbers)
pieces_calm task from to [] = tt {0}
pieces_calm task from to (number ∷ numbers) = (tt {0}, pieces_calm task from to numbers)

set_calm : (task : Task) → AreCalm (requests_of (set_accesses task.blocks.list task.geometry) ++ Gets WALCLK Four ∷ [])
set_calm task = (
  inl (record { control = refl; pointers = refl }),
  (
    inl (record { control = refl; pointers = refl }),
    (
      inl (record { control = refl; pointers = refl }),
      (
        inl (record { control = refl; pointers = refl }),
        (
          inl (record { control = refl; pointers = refl }),
          (
            inl (record { control = refl; pointers = refl }),
            (inl (record { control = refl; pointers = refl }), (tt {0}, tt {0})),
          ),
        ),
      ),
    ),
  ),
)

starts_calm : (task : Task) → AreCalm (record_starts task)
starts_calm task =
    let bytes = period_bytes task.geometry.period in
    let entries = requests_of (entry_writes task.blocks.list task.blocks.periods bytes) in (
      tt {0},
      (
        inl (record { control = refl; pointers = refl }),
        (
          tt {0},
          (
            inl (record { control = refl; pointers = refl }),
            (
              tt {0},
              calm_both entries (requests_of (set_accesses task.blocks.list task.geometry) ++ Gets WALCLK Four ∷ [])
                  (events_calm (entry_write task.blocks.list task.blocks.periods bytes) (λ number. (tt {0}, tt {0})) (range_with_len 0 (length task.blocks.periods))) (set_calm task),
            ),
          ),
        ),
      ),
    )

module _ (task : Task) (total : ℕ) (state : RecordState) (values : ℕ → List ℕ) where
  goes_calm : (after : List Request) → AreCalm after → AreCalm (record_goes_on task total state values after)
  goes_calm after calm =
      let upto = read_upto (measures_for task total) state.tally.course (lpib_in values) in
      let line = line_fetches task state.tally.course.read upto in
      calm_both (polls task.blocks.rirb state.rings (seen_of values)) (Gets WALCLK Four ∷ Gets POSITION Four ∷ (line ++ Gets WALCLK Four ∷ after)) (polls_calm task.blocks.rirb state.rings (seen_of values))
      (tt {0}, (tt {0}, calm_both line (Gets WALCLK Four ∷ after) (pieces_calm task state.tally.course.read upto _) (tt {0}, calm)))

  stop_calm : (recorded : Recorded) → AreCalm (record_stops recorded)
  stop_calm Recording = tt {0}
  stop_calm Complete = (inl (record { control = refl; pointers = refl }), tt {0})
  stop_calm (Late from to) = (inl (record { control = refl; pointers = refl }), tt {0})

  runs_calm : AreCalm (record_runs task total state values)
  runs_calm =
      let recorded = (record_tally_next task total state values).course.recorded in
      either_calm state.tally.course.started (record_goes_on task total state values (record_stops recorded)) (record_starts task) (goes_calm (record_stops recorded) (stop_calm recorded)) (starts_calm task)

  closes_calm : AreCalm (record_closes task total state values)
  closes_calm =
      either_calm (state.tally.course.started && records_on state.tally.course.recorded) (record_goes_on task total state values (Puts CONTROL One 0 ∷ shuts)) shuts
      (goes_calm (Puts CONTROL One 0 ∷ shuts) (inl (record { control = refl; pointers = refl }), shuts_calm)) shuts_calm

  pub expected_calm : (turn : Option DriverLine) → AreCalm (record_expected task total state turn values)
  expected_calm None = closes_calm
  expected_calm (Some line) =
      either_calm (records_on state.tally.course.recorded) (record_interrupted_if line.irq values (record_runs task total state values)) []
      (interrupted_calm line.irq values (record_runs task total state values) runs_calm) (tt {0})
