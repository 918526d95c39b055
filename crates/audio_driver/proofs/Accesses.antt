-- The events that a call makes are accesses.
use Rattle.std.proofs.Common.{◌+◌, ◌/◌, ℕ, Bool, true, false, if◌then◌else◌, List, [], ◌∷◌, ◌++◌, map, length, ◌-◌, min, drop}
use Rattle.std.specs.List.{range_with_len}
use Rattle.verb_codes.specs.Words.{has_bit}
use Rattle.hda_registers.specs.declared.places.TheConstants.{RIRBSTS, WALCLK}
use Rattle.hda_registers.specs.declared.shapes.Width.TheVariants.{One, Four}
use Rattle.hda_registers.specs.Fields.{entries_of}
use Rattle.hda_world.specs.Events.{Event, Read, Write}
use Rattle.command_engine.specs.declared.ring_places.RingPlaces.{RingPlaces}
use Rattle.command_engine.specs.Polling.{PollReads, entry_reads, batch_accesses, poll_accesses}
use Rattle.period_writer.specs.declared.course.Course.{Course}
use Rattle.period_writer.specs.declared.course.Ran.{Ran}
use Rattle.period_writer.specs.declared.course.Ran.TheVariants as ran
use Rattle.period_writer.specs.declared.geometry.Geometry.{Geometry}
use Rattle.period_writer.specs.declared.registers.TheConstants.{CONTROL}
use Rattle.period_writer.specs.Rings.{period_bytes, ring_bytes}
use Rattle.period_writer.specs.Places.{line_writes, piece_write, touched}
use Rattle.period_writer.specs.Runs.{RunFacts, measures, run_reach, run_start, run_sound}
use Rattle.period_writer.specs.Starting.{entry_write, entry_writes, run_accesses, start_accesses}
use Rattle.period_writer.specs.Lines.{sound_and_silence}
use Rattle.period_writer.specs.Playing.{writes_by, run_writes, stop_accesses, play_accesses, finish_accesses}
use Rattle.driver_progress.specs.Interrupts.{clear_accesses, interrupt_accesses}
use Rattle.driver_progress.specs.Shutting.{shut_accesses}
use Rattle.driver_progress.specs.Unread.{IsAccess, AreAccesses}
use Rattle.driver_progress.proofs.Callers.{accesses_both, entry_accesses}

map_are : (made : ℕ → Event) → ((number : ℕ) → IsAccess (made number)) → (numbers : List ℕ) → AreAccesses (map made numbers)
map_are made each [] = tt {0}
map_are made each (number ∷ numbers) = (each number, map_are made each numbers)

-- ---- looks

clear_are : (some : Bool) (stream : ℕ) (events : List Event) → AreAccesses events → AreAccesses (if some then events else [])
clear_are true stream events are = are
clear_are false stream events are = tt {0}

pub interrupt_are : (interrupts stream : ℕ) → AreAccesses (interrupt_accesses interrupts stream)
interrupt_are interrupts stream =
    (tt {0}, clear_are (has_bit interrupts 31) stream (clear_accesses interrupts stream) (clear_are (has_bit interrupts 1) stream _ (tt {0}, (tt {0}, tt {0}))))

pub poll_are : (rirb : ℕ) (rings : RingPlaces) (reads : PollReads) → AreAccesses (poll_accesses rirb rings reads)
poll_are rirb rings reads =
    let entries = entry_reads rirb (entries_of rings.rirb) (rings.read + 1) reads.entries in (
      tt {0},
      clear_are (has_bit reads.flag 0) 0 (batch_accesses rirb rings reads.pointer reads.entries)
          (tt {0}, accesses_both entries (Write RIRBSTS One 1 ∷ []) (entry_accesses rirb (entries_of rings.rirb) (rings.read + 1) reads.entries) (tt {0}, tt {0})),
    )

-- ---- runs

lines_are : (bytes : ℕ) (periods : List ℕ) (from to : ℕ) (written : List ℕ) → AreAccesses (line_writes bytes periods from to written)
lines_are bytes periods from to written = map_are (piece_write bytes periods from to written) (λ number. tt {0}) (range_with_len (from / bytes) (touched bytes from to))

pub start_are : (geometry : Geometry) (list : ℕ) (periods : List ℕ) (from in_reset ready to : ℕ) (written : List ℕ) → AreAccesses (start_accesses geometry list periods from in_reset ready to written)
start_are geometry list periods from in_reset ready to written =
    let bytes = period_bytes geometry.period in
    let entries = entry_writes list periods bytes in
    let line = line_writes bytes periods 0 (ring_bytes geometry.periods geometry.period) written in
    let rest = run_accesses list geometry ++ Read WALCLK Four to ∷ [] in (
      tt {0},
      (
        tt {0},
        (
          tt {0},
          (
            tt {0},
            (
              tt {0},
              accesses_both entries (line ++ rest) (map_are (entry_write list periods bytes) (λ number. tt {0}) (range_with_len 0 (length periods)))
                  (accesses_both line rest (lines_are bytes periods 0 (ring_bytes geometry.periods geometry.period) written)
                  (tt {0}, (tt {0}, (tt {0}, (tt {0}, (tt {0}, (tt {0}, (tt {0}, (tt {0}, tt {0}))))))))),
            ),
          ),
        ),
      ),
    )

-- up to the second clock, and after it
rows_are : (bytes : ℕ) (periods : List ℕ) (start sound reach reach' : ℕ) (pcm : List ℕ) → AreAccesses (writes_by bytes periods start sound reach reach' pcm)
rows_are bytes periods start sound reach reach' pcm =
    let first = sound_and_silence (min reach (start + sound) - start) (min reach (start + sound) - start) pcm in
    let second = sound_and_silence (sound - (min reach (start + sound) - start)) (reach' - reach) (drop (min reach (start + sound) - start) pcm) in
    accesses_both (line_writes bytes periods start (min reach (start + sound)) first) (line_writes bytes periods reach reach' second)
    (lines_are bytes periods start (min reach (start + sound)) first) (lines_are bytes periods reach reach' second)

turn_are : (geometry : Geometry) (periods : List ℕ) (course : Course) (facts : RunFacts) (pcm : List ℕ) (later : List Event) → AreAccesses later
    → AreAccesses (run_writes (period_bytes geometry.period) periods (measures geometry) course facts pcm ++ Read WALCLK Four facts.to ∷ later)
turn_are geometry periods course facts pcm later are =
    accesses_both (run_writes (period_bytes geometry.period) periods (measures geometry) course facts pcm) (Read WALCLK Four facts.to ∷ later)
    (rows_are (period_bytes geometry.period) periods (run_start (measures geometry) course facts) (run_sound (measures geometry) course facts) course.reach (run_reach (measures geometry) course facts) pcm) (tt {0}, are)

stop_are : (was : Ran) → AreAccesses (stop_accesses was)
stop_are ran.Playing = tt {0}
stop_are ran.Drained = (tt {0}, tt {0})
stop_are (ran.Late from to limit) = (tt {0}, tt {0})

pub play_are : (geometry : Geometry) (periods : List ℕ) (course : Course) (facts : RunFacts) (pcm : List ℕ) (was : Ran) → AreAccesses (play_accesses geometry periods course facts pcm was)
play_are geometry periods course facts pcm was = (tt {0}, (tt {0}, turn_are geometry periods course facts pcm (stop_accesses was) (stop_are was)))

pub finish_are : (geometry : Geometry) (periods : List ℕ) (course : Course) (facts : RunFacts) (pcm : List ℕ) → AreAccesses (finish_accesses geometry periods course facts pcm)
finish_are geometry periods course facts pcm = (tt {0}, (tt {0}, turn_are geometry periods course facts pcm (Write CONTROL One 0 ∷ []) (tt {0}, tt {0})))

pub shut_are : AreAccesses shut_accesses
shut_are = (tt {0}, (tt {0}, (tt {0}, tt {0})))
