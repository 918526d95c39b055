-- The events that a call makes are accesses.
use Rattle.std.proofs.Common.{◌+◌, ◌/◌, ℕ, Bool, true, false, if◌then◌else◌, List, [], ◌∷◌, ◌++◌, map, length, subst, sym}
use Rattle.std.specs.List.{range_with_len}
use Rattle.verb_codes.specs.Words.{has_bit}
use Rattle.hda_registers.specs.declared.shapes.Width.TheVariants.{One, Four}
use Rattle.hda_registers.specs.declared.places.TheConstants.{RIRBSTS, WALCLK}
use Rattle.hda_registers.specs.Fields.{entries_of}
use Rattle.hda_world.specs.Events.{Event, Read, Write}
use Rattle.command_engine.specs.declared.ring_places.RingPlaces.{RingPlaces}
use Rattle.command_engine.specs.Polling.{PollReads, entry_reads, batch_accesses, poll_accesses}
use Rattle.period_writer.specs.declared.geometry.Geometry.{Geometry}
use Rattle.period_writer.specs.Rings.{period_bytes}
use Rattle.period_writer.specs.Starting.{entry_write, entry_writes}
use Rattle.hda_capture.specs.declared.course.Recorded.{Recorded}
use Rattle.hda_capture.specs.declared.course.Recorded.TheVariants.{Recording, Complete, Late}
use Rattle.hda_capture.specs.Recordings.{RecordFacts}
use Rattle.hda_capture.specs.Reading.{pieces_read, line_reads}
use Rattle.hda_capture.specs.Starting.{set_accesses, start_accesses}
use Rattle.hda_capture.specs.Recorders.{RecorderState, periods_of}
use Rattle.hda_capture.specs.Calls.{stop_accesses, record_accesses}
use Rattle.driver_progress.specs.Shutting.{shut_accesses}
use Rattle.driver_progress.specs.Unread.{IsAccess, AreAccesses}
use Rattle.driver_progress.proofs.Callers.{accesses_both, entry_accesses}
use Rattle.recording_driver.specs.InputInterrupts.{input_clear_accesses, input_interrupt_accesses}
use Rattle.recording_driver.specs.RecordingCalls.{IsBeforeRun, last_stop}

map_are : (made : ℕ → Event) → ((number : ℕ) → IsAccess (made number)) → (numbers : List ℕ) → AreAccesses (map made numbers)
map_are made each [] = tt {0}
map_are made each (number ∷ numbers) = (each number, map_are made each numbers)

some_are : (some : Bool) (events : List Event) → AreAccesses events → AreAccesses (if some then events else [])
some_are true events are = are
some_are false events are = tt {0}

-- ---- looks

pub look_are : (interrupts status : ℕ) → AreAccesses (input_interrupt_accesses interrupts status)
look_are interrupts status =
    (tt {0}, some_are (has_bit interrupts 31) (input_clear_accesses interrupts status) (some_are (has_bit interrupts 0) _ (tt {0}, (tt {0}, tt {0}))))

pub before_are : (irq : Bool) (first : List Event) → IsBeforeRun irq first → AreAccesses first
before_are true first before = subst AreAccesses (sym before.is) (look_are before.interrupts before.status)
before_are false first before = subst AreAccesses (sym before) (tt {0})

pub poll_are : (rirb : ℕ) (rings : RingPlaces) (reads : PollReads) → AreAccesses (poll_accesses rirb rings reads)
poll_are rirb rings reads =
    let entries = entry_reads rirb (entries_of rings.rirb) (rings.read + 1) reads.entries in (
      tt {0},
      some_are (has_bit reads.flag 0) (batch_accesses rirb rings reads.pointer reads.entries)
          (tt {0}, accesses_both entries (Write RIRBSTS One 1 ∷ []) (entry_accesses rirb (entries_of rings.rirb) (rings.read + 1) reads.entries) (tt {0}, tt {0})),
    )

-- ---- runs

pub start_are : (geometry : Geometry) (list : ℕ) (periods : List ℕ) (from in_reset ready to : ℕ) → AreAccesses (start_accesses geometry list periods from in_reset ready to)
start_are geometry list periods from in_reset ready to =
    let bytes = period_bytes geometry.period in
    let entries = entry_writes list periods bytes in
    let rest = set_accesses list geometry ++ Read WALCLK Four to ∷ [] in
    let set : AreAccesses rest = (tt {0}, (tt {0}, (tt {0}, (tt {0}, (tt {0}, (tt {0}, (tt {0}, (tt {0}, tt {0})))))))) in (
      tt {0},
      (
        tt {0},
        (tt {0}, (tt {0}, (tt {0}, accesses_both entries rest (map_are (entry_write list periods bytes) (λ number. tt {0}) (range_with_len 0 (length periods))) set))),
      ),
    )

pieces_are : (bytes : ℕ) (periods : List ℕ) (from period : ℕ) (pieces : List (List ℕ)) → AreAccesses (pieces_read bytes periods from period pieces)
pieces_are bytes periods from period [] = tt {0}
pieces_are bytes periods from period (piece ∷ pieces) = (tt {0}, pieces_are bytes periods from (period + 1) pieces)

stop_are : (recorded : Recorded) → AreAccesses (stop_accesses recorded)
stop_are Recording = tt {0}
stop_are Complete = (tt {0}, tt {0})
stop_are (Late from to) = (tt {0}, tt {0})

pub run_are : (recorder : RecorderState) (facts : RecordFacts) (pieces : List (List ℕ)) (answer : Recorded) → AreAccesses (record_accesses recorder facts pieces answer)
run_are recorder facts pieces answer =
    let bytes = period_bytes recorder.geometry.period in
    let read = recorder.course.read in (
      tt {0},
      (
        tt {0},
        accesses_both (line_reads bytes (periods_of recorder) read pieces) (Read WALCLK Four facts.to ∷ stop_accesses answer)
            (pieces_are bytes (periods_of recorder) read (read / bytes) pieces) (tt {0}, stop_are answer),
      ),
    )

-- ---- the end

pub last_are : (recorded : Recorded) → AreAccesses (last_stop recorded)
last_are Recording = (tt {0}, tt {0})
last_are Complete = tt {0}
last_are (Late from to) = tt {0}

pub shut_are : AreAccesses shut_accesses
shut_are = (tt {0}, (tt {0}, (tt {0}, tt {0})))
