-- What a stretch that plays saw, and which entries of RIRB it read.
use Rattle.std.proofs.Common.{◌≡◌, ◌+◌, ℕ, List, [], ◌∷◌, ◌++◌, map, Bool, true, false, if◌then◌else◌, refl, ap, ◌∙◌, ◌-◌, ◌/◌, min, drop, append_assoc}
use Rattle.period_writer.specs.Lines.{sound_and_silence}
use Rattle.period_writer.specs.Places.{piece_write, line_writes, touched}
use Rattle.std.specs.List.{range_with_len}
use Rattle.period_writer.specs.Playing.{writes_by}
use Rattle.verb_codes.specs.Words.{has_bit}
use Rattle.hda_registers.specs.declared.shapes.Width.TheVariants.{One, Two}
use Rattle.hda_registers.specs.declared.places.TheConstants.{WALCLK, RIRBWP, RIRBSTS}
use Rattle.hda_registers.specs.Fields.{entries_of}
use Rattle.hda_world.specs.Events.{Event, Read, Write}
use Rattle.command_engine.specs.declared.ring_places.RingPlaces.{RingPlaces}
use Rattle.command_engine.specs.Polling.{PollReads, AreNew, entry_reads, batch_accesses, poll_accesses}
use Rattle.period_writer.specs.declared.registers.TheConstants.{POSITION}
use Rattle.driver_progress.specs.Seen.{seen_by, values_of, value_in}
use Rattle.driver_bring_up.specs.Commanding.{entry_in, entries_in}
use Rattle.driver_bring_up.proofs.Callers.{asked_entries, entry_unread, pointer_by}

-- ---- what writes leave

-- by writes no register is read
pub writes_seen : (register : ℕ) (write : ℕ → Event) (numbers : List ℕ) (rest : List Event) → ((number : ℕ) → value_in register (write number) ≡ [])
    → values_of (map write numbers ++ rest) register ≡ values_of rest register
writes_seen register write [] rest none = refl
writes_seen register write (number ∷ numbers) rest none =
    ap (λ (values : List ℕ). values ++ values_of (map write numbers ++ rest) register) (none number) ∙ writes_seen register write numbers rest none

-- and no entry
pub writes_entries : (write : ℕ → Event) (numbers : List ℕ) (rest : List Event) → ((number : ℕ) → entry_in (write number) ≡ []) → entries_in (map write numbers ++ rest) ≡ entries_in rest
writes_entries write [] rest none = refl
writes_entries write (number ∷ numbers) rest none =
    ap (λ (entries : List (List ℕ)). entries ++ entries_in (map write numbers ++ rest)) (none number) ∙ writes_entries write numbers rest none

-- ---- what a poll reads

batch_seen : (written : Bool) (register rirb : ℕ) (rings : RingPlaces) (reads : PollReads) (rest : List Event) → value_in register (Read RIRBWP Two reads.pointer) ≡ []
    → values_of ((if written then batch_accesses rirb rings reads.pointer reads.entries else []) ++ rest) register ≡ values_of rest register
batch_seen false register rirb rings reads rest other = refl
batch_seen true register rirb rings reads rest other =
    ap (λ (values : List ℕ). values ++ values_of (batch_rest ++ rest) register) other
    ∙ entry_unread register rirb (entries_of rings.rirb) (rings.read + 1) reads.entries rest
  where
    batch_rest : List Event
    batch_rest = entry_reads rirb (entries_of rings.rirb) (rings.read + 1) reads.entries ++ Write RIRBSTS One 1 ∷ []

-- neither the clock nor LPIB
pub poll_clocks : (rirb : ℕ) (rings : RingPlaces) (reads : PollReads) (rest : List Event) → values_of (poll_accesses rirb rings reads ++ rest) WALCLK ≡ values_of rest WALCLK
poll_clocks rirb rings reads rest = batch_seen (has_bit reads.flag 0) WALCLK rirb rings reads rest refl

pub poll_positions : (rirb : ℕ) (rings : RingPlaces) (reads : PollReads) (rest : List Event) → values_of (poll_accesses rirb rings reads ++ rest) POSITION ≡ values_of rest POSITION
poll_positions rirb rings reads rest = batch_seen (has_bit reads.flag 0) POSITION rirb rings reads rest refl

-- where RINTFL says that there are new entries, RIRBWP
pub poll_pointer : (rirb : ℕ) (rings : RingPlaces) (reads : PollReads) (rest : List Event) (found : Bool) → has_bit reads.flag 0 ≡ true
    → (seen_by (values_of (poll_accesses rirb rings reads ++ rest)) found).pointer ≡ reads.pointer
poll_pointer rirb rings reads rest found is = pointer_by (has_bit reads.flag 0) rirb rings reads rest is

-- the entries are those of the poll
pub poll_entries : (rirb : ℕ) (rings : RingPlaces) (reads : PollReads) (rest : List Event) → AreNew rings reads → entries_in rest ≡ [] → entries_in (poll_accesses rirb rings reads ++ rest) ≡ reads.entries
poll_entries rirb rings reads rest new none = asked_entries rirb 0 rings reads rest new none

-- ---- the clock twice, with writes between

-- what a later run writes is not seen
pub turn_seen : (register : ℕ) (bytes : ℕ) (periods : List ℕ) (start sound reach reach' : ℕ) (pcm : List ℕ) (rest : List Event)
    → values_of (writes_by bytes periods start sound reach reach' pcm ++ rest) register ≡ values_of rest register
turn_seen register bytes periods start sound reach reach' pcm rest =
    let first = sound_and_silence (min reach (start + sound) - start) (min reach (start + sound) - start) pcm in
    let second = sound_and_silence (sound - (min reach (start + sound) - start)) (reach' - reach) (drop (min reach (start + sound) - start) pcm) in
    ap (λ (events : List Event). values_of events register) (append_assoc (line_writes bytes periods start (min reach (start + sound)) first) (line_writes bytes periods reach reach' second) rest)
    ∙ writes_seen register (piece_write bytes periods start (min reach (start + sound)) first) (range_with_len (start / bytes) (touched bytes start (min reach (start + sound)))) (line_writes bytes periods reach reach' second ++ rest) (λ number. refl)
    ∙ writes_seen register (piece_write bytes periods reach reach' second) (range_with_len (reach / bytes) (touched bytes reach reach')) rest (λ number. refl)
