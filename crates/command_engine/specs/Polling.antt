-- How the driver looks for an answer. High Definition Audio 1.0a, 4.4.2; how long it waits for one is this project's
-- own.
use Rattle.std.specs.Prelude.{◌≡◌, ℕ, ◌+◌, ◌*◌, ◌%◌, nat_le, List, [], ◌∷◌, ◌++◌, length, All, Option, Some, None}
use Rattle.std.specs.Prelude.{if◌then◌else◌}
use Rattle.verb_codes.specs.Words.{has_bit}
use Rattle.hda_registers.specs.declared.shapes.Width.TheVariants.{One, Two}
use Rattle.hda_registers.specs.declared.places.TheConstants.{RIRBWP, RIRBSTS}
use Rattle.hda_registers.specs.Fields.{entries_of}
use Rattle.world_rings.specs.declared.entries.TheConstants.{RESPONSE_BYTES}
use Rattle.hda_world.specs.Events as happens
use Rattle.hda_world.specs.Tellings.{Telling, Between, Makes}
use Rattle.command_engine.specs.declared.ring_places.RingPlaces.{RingPlaces}
use Rattle.command_engine.specs.declared.answers.Event.{Event}
use Rattle.command_engine.specs.declared.answers.Outstanding.{Outstanding}
use Rattle.command_engine.specs.declared.answers.Poll.{Poll}
use Rattle.command_engine.specs.declared.answers.Poll.TheVariants.{Idle, Answered, Waiting, Unanswered}
use Rattle.command_engine.specs.Sizes.{entries_up_to}
use Rattle.command_engine.specs.Entries.{responses_in, unasked_events_of, answer_among}

-- what was read: RIRBSTS, and where its bit 0 is set RIRBWP and the bytes of each new entry
pub record PollReads : Type 0 where
  pub flag : ℕ
  pub pointer : ℕ
  pub entries : List (List ℕ)

-- the reads of entries from this place of the ring on, one after another
abbrev pub entry_reads : (rirb size place : ℕ) → List (List ℕ) → List happens.Event
entry_reads rirb size place [] = []
entry_reads rirb size place (entry ∷ entries) =
    happens.DmaRead (rirb + RESPONSE_BYTES * (place % size)) entry ∷ entry_reads rirb size (place + 1) entries

-- the accesses of a batch: RIRBWP, its entries from the one after the last that was read on, and RINTFL is cleared
abbrev pub batch_accesses : ℕ → RingPlaces → ℕ → List (List ℕ) → List happens.Event
batch_accesses rirb rings pointer entries =
    happens.Read RIRBWP Two pointer
    ∷ (entry_reads rirb (entries_of rings.rirb) (rings.read + 1) entries ++ happens.Write RIRBSTS One 1 ∷ [])

abbrev pub poll_accesses : ℕ → RingPlaces → PollReads → List happens.Event
poll_accesses rirb rings reads =
    happens.Read RIRBSTS One reads.flag
    ∷ (if has_bit reads.flag 0 then batch_accesses rirb rings reads.pointer reads.entries else [])

-- how many entries are new
abbrev pub new_entries : RingPlaces → ℕ → ℕ
new_entries rings pointer = entries_up_to rings.rirb rings.read pointer

-- the codec that is asked
abbrev pub asked_of : Option Outstanding → Option ℕ
asked_of None = None
asked_of (Some command) = Some command.codec

-- for how many ticks of the wall clock it may stay without an answer: 1,000 link frames of 500
abbrev pub answer_limit : ℕ
answer_limit = 500000

-- what a poll answers: of the outstanding command, the answer that was found, and the clock
abbrev pub without_answer : Outstanding → ℕ → Poll
without_answer command clock =
    if nat_le (command.issued + answer_limit) clock then Unanswered command.issued clock else Waiting

abbrev pub poll_of : Option Outstanding → Option ℕ → ℕ → Poll
poll_of None found clock = Idle
poll_of (Some command) (Some value) clock = Answered value
poll_of (Some command) None clock = without_answer command clock

-- a command is outstanding until it is answered
abbrev pub still_outstanding : Option Outstanding → Option ℕ → Option Outstanding
still_outstanding outstanding None = outstanding
still_outstanding outstanding (Some value) = None

-- the answer among the entries that were read
abbrev pub found_by : RingPlaces → PollReads → Option ℕ
found_by rings reads = answer_among (asked_of rings.outstanding) (responses_in reads.entries)

-- the entry that was read last is the one at the pointer
abbrev pub read_to : RingPlaces → PollReads → ℕ
read_to rings reads = if has_bit reads.flag 0 then reads.pointer % entries_of rings.rirb else rings.read

abbrev pub rings_polled : RingPlaces → PollReads → RingPlaces
rings_polled rings reads = record rings {
  read = read_to rings reads;
  outstanding = still_outstanding rings.outstanding (found_by rings reads);
}

-- as many entries were read as are new, of 8 bytes each
pub record AreNew (rings : RingPlaces) (reads : PollReads) : Type 0 where
  pub number : length reads.entries ≡ (if has_bit reads.flag 0 then new_entries rings reads.pointer else 0)
  pub whole : All (λ (entry : List ℕ). length entry ≡ RESPONSE_BYTES) reads.entries

-- a poll at this clock, where RIRB's block lies at this address: what it answers, how the engine stands after it with
-- its events, and what is told
pub record Polls (rirb clock : ℕ) (rings : RingPlaces) (answer : Poll) (rings' : RingPlaces) (events : List Event)
    (old new : Option Telling) : Type 0 where
  pub reads : PollReads
  pub new_ones : AreNew rings reads
  pub made : Between (Makes (poll_accesses rirb rings reads)) old new
  pub answer_is : answer ≡ poll_of rings.outstanding (found_by rings reads) clock
  pub rings_are : rings' ≡ rings_polled rings reads
  pub events_are : events ≡ unasked_events_of (responses_in reads.entries)
