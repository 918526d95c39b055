-- A call that plays, and the end of a driver that may play, submit no command.
use Rattle.std.proofs.Common.{◌≡◌, ◌+◌, ◌-◌, ◌/◌, ◌&&◌, ℕ, min, sym, subst, Bool, true, false, if◌then◌else◌, List, [], ◌∷◌, ◌++◌, map, length, drop, Option, Some, None, refl, inl}
use Rattle.std.proofs.lemmas.Bool.{false≢true}
use Rattle.std.specs.List.{range_with_len}
use Rattle.std.proofs.lemmas.Grind.{flat_map-append}
use Rattle.hda_registers.specs.declared.shapes.Width.TheVariants.{Four}
use Rattle.hda_registers.specs.declared.places.TheConstants.{WALCLK}
use Rattle.hda_world.specs.Events.{Event}
use Rattle.period_writer.specs.declared.course.Ran.{Ran}
use Rattle.period_writer.specs.declared.course.Ran.TheVariants as ran
use Rattle.period_writer.specs.declared.registers.TheConstants.{POSITION}
use Rattle.period_writer.specs.Rings.{period_bytes}
use Rattle.period_writer.specs.Lines.{sound_and_silence}
use Rattle.period_writer.specs.Places.{line_writes, piece_write, touched}
use Rattle.period_writer.specs.Starting.{entry_write, entry_writes, run_accesses}
use Rattle.period_writer.specs.Playing.{stop_accesses, writes_by}
use Rattle.period_writer.specs.Runs.{Tally, measures, run_reach, run_start, run_sound}
use Rattle.driver_progress.specs.declared.phase.Phase.{Phase}
use Rattle.driver_progress.specs.declared.phase.Phase.TheVariants.{Ready, Playing, Drained, Late}
use Rattle.driver_progress.specs.Phases.{is_active, are_set_up}
use Rattle.driver_progress.specs.Requests.{Request, Gets, requests_in, requests_of}
use Rattle.driver_progress.specs.Seen.{Seen}
use Rattle.driver_progress.specs.States.{State}
use Rattle.driver_progress.specs.Tasks.{Task, DriverLine}
use Rattle.driver_progress.specs.Expected.{polls, facts_seen, appends, starts, plays_on, stops, runs, closes}
use Rattle.driver_progress.specs.Next.{tally_next, expected}
use Rattle.laws_bring_up.proofs.Callers.{AreCalm, calm_both, polls_calm, shuts_calm, interrupted_calm}

map_calm : (made : ℕ → Event) → ((number : ℕ) → AreCalm (requests_in (made number))) → (numbers : List ℕ) → AreCalm (requests_of (map made numbers))
map_calm made each [] = tt {0}
map_calm made each (number ∷ numbers) = calm_both (requests_in (made number)) (requests_of (map made numbers)) (each number) (map_calm made each numbers)

row_calm : (bytes : ℕ) (periods : List ℕ) (from to : ℕ) (written : List ℕ) → AreCalm (requests_of (line_writes bytes periods from to written))
row_calm bytes periods from to written = map_calm (piece_write bytes periods from to written) (λ number. (tt {0}, tt {0})) (range_with_len (from / bytes) (touched bytes from to))

-- what a run writes, over silence and after the line's end
rows_calm : (bytes : ℕ) (periods : List ℕ) (start sound reach reach' : ℕ) (pcm : List ℕ) → AreCalm (requests_of (writes_by bytes periods start sound reach reach' pcm))
rows_calm bytes periods start sound reach reach' pcm =
    let to = min reach (start + sound) in
    let over = to - start in
    let first = line_writes bytes periods start to (sound_and_silence over over pcm) in
    let second = line_writes bytes periods reach reach' (sound_and_silence (sound - over) (reach' - reach) (drop over pcm)) in
    subst AreCalm (sym (flat_map-append requests_in first second)) (calm_both (requests_of first) (requests_of second) (row_calm bytes periods start to _) (row_calm bytes periods reach reach' _))

appends_calm : (task : Task) (state : State) (budget : ℕ) (seen : Seen) → AreCalm (appends task state budget seen)
appends_calm task state budget seen =
    let facts = facts_seen task state budget seen in
    let m = measures task.geometry in
    let trail = state.tally.course in
    rows_calm (period_bytes task.geometry.period) task.blocks.periods (run_start m trail facts) (run_sound m trail facts) trail.reach (run_reach m trail facts) (drop trail.used task.pcm)

starts_calm : (task : Task) (state : State) (budget : ℕ) (seen : Seen) → AreCalm (starts task state budget seen)
starts_calm task state budget seen =
    let bytes = period_bytes task.geometry.period in
    let entries = requests_of (entry_writes task.blocks.list task.blocks.periods bytes) in
    let line = appends task state budget seen in
    let rest = requests_of (run_accesses task.blocks.list task.geometry) ++ Gets WALCLK Four ∷ [] in (
      tt {0},
      (
        inl (record { control = refl; pointers = refl }),
        (
          tt {0},
          (
            inl (record { control = refl; pointers = refl }),
            (
              tt {0},
              calm_both entries (line ++ rest) (map_calm (entry_write task.blocks.list task.blocks.periods bytes) (λ number. (tt {0}, tt {0})) (range_with_len 0 (length task.blocks.periods)))
                  (calm_both line rest (appends_calm task state budget seen) (
                    inl (record { control = refl; pointers = refl }),
                    (
                      inl (record { control = refl; pointers = refl }),
                      (
                        inl (record { control = refl; pointers = refl }),
                        (
                          inl (record { control = refl; pointers = refl }),
                          (
                            inl (record { control = refl; pointers = refl }),
                            (
                              inl (record { control = refl; pointers = refl }),
                              (inl (record { control = refl; pointers = refl }), (tt {0}, tt {0})),
                            ),
                          ),
                        ),
                      ),
                    ),
                  )),
            ),
          ),
        ),
      ),
    )

plays_calm : (task : Task) (state : State) (budget : ℕ) (seen : Seen) (later : List Request) → AreCalm later → AreCalm (plays_on task state budget seen later)
plays_calm task state budget seen later calm =
    let line = appends task state budget seen in
    calm_both (polls task.blocks.rirb state.rings seen) (Gets WALCLK Four ∷ Gets POSITION Four ∷ (line ++ Gets WALCLK Four ∷ later)) (polls_calm task.blocks.rirb state.rings seen)
    (tt {0}, (tt {0}, calm_both line (Gets WALCLK Four ∷ later) (appends_calm task state budget seen) (tt {0}, calm)))

stop_calm : (was : Ran) → AreCalm (requests_of (stop_accesses was))
stop_calm ran.Playing = tt {0}
stop_calm ran.Drained = (inl (record { control = refl; pointers = refl }), tt {0})
stop_calm (ran.Late from to limit) = (inl (record { control = refl; pointers = refl }), tt {0})

-- ---- once all codecs are set up

ready_calm : (task : Task) (state : State) (budget : ℕ) (seen : Seen) (plays : Bool) → AreCalm (if plays then starts task state budget seen else [])
ready_calm task state budget seen true = starts_calm task state budget seen
ready_calm task state budget seen false = tt {0}

runs_calm : (task : Task) (state : State) (budget : ℕ) (seen : Seen) (tally : Tally) (phase : Phase) → are_set_up phase ≡ true → AreCalm (runs task state budget seen tally phase)
runs_calm task state budget seen tally Ready up = ready_calm task state budget seen task.plays
runs_calm task state budget seen tally Playing up = plays_calm task state budget seen (stops tally) (stop_calm tally.course.ran)
runs_calm task state budget seen tally Drained up = tt {0}
runs_calm task state budget seen tally (Late from to limit) up = tt {0}
runs_calm task state budget seen tally phase up = absurd (false≢true up)

closes_calm : (task : Task) (state : State) (seen : Seen) (phase : Phase) → are_set_up phase ≡ true → AreCalm (closes task state seen phase)
closes_calm task state seen Ready up = shuts_calm
closes_calm task state seen Playing up = plays_calm task state 0 seen _ (inl (record { control = refl; pointers = refl }), shuts_calm)
closes_calm task state seen Drained up = shuts_calm
closes_calm task state seen (Late from to limit) up = shuts_calm
closes_calm task state seen phase up = absurd (false≢true up)

pub expected_calm : (task : Task) (state : State) (turn : Option DriverLine) (seen : Seen) → are_set_up state.phase ≡ true → AreCalm (expected task state turn seen)
expected_calm task state None seen up = closes_calm task state seen state.phase up
expected_calm task state (Some line) seen up =
    let tally = tally_next task state (Some line) seen in
    interrupted_calm (line.irq && is_active state.phase) seen (runs task state line.budget seen tally state.phase) (runs_calm task state line.budget seen tally state.phase up)
