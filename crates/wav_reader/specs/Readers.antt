-- What the readers of a file promise one another.
use Rattle.std.specs.Prelude.{◌≢◌, Bool, Err, List, None, Ok, OnErr, OnOk, Option, Result, Some, drop, if◌then◌else◌}
use Rattle.std.specs.Prelude.{false, length, nat_le, take, true, ℕ, ◌==◌, ◌++◌, ◌%◌, ◌*◌, ◌+◌, ◌-◌, ◌/◌, ◌≡◌, ◌≤◌, ◌<◌}
use Rattle.circular_buffer.specs.Buffer.{Buffer}
use Rattle.stream_format.specs.declared.format.Bits.{Bits}
use Rattle.stream_format.specs.declared.format.Bits.TheVariants.{B16, B24, B32}
use Rattle.stream_format.specs.Cadence.{container_bytes}
use Rattle.stream_format.specs.Layouts.{layout}
use Rattle.hda_outside.specs.declared.pieces.Cut.{Cut}
use Rattle.hda_outside.specs.declared.pieces.Cut.TheVariants as cuts
use Rattle.hda_outside.specs.declared.reading.ReadAll.{ReadAll}
use Rattle.hda_outside.specs.declared.reading.ReadAll.TheVariants as lengths
use Rattle.wav_reader.specs.declared.fault.WavFault.{WavFault}
use Rattle.wav_reader.specs.declared.fault.WavFault.TheVariants as faults
use Rattle.wav_reader.specs.declared.fault.WavFault.TheVariants.{Truncated}
use Rattle.wav_reader.specs.declared.opened.WavOpen.{WavOpen}
use Rattle.wav_reader.specs.declared.opened.WavOpen.TheVariants.{Failed, TooLong, Wav, OutOfMemory}
use Rattle.wav_reader.specs.declared.chunks.Kind.{Kind}
use Rattle.wav_reader.specs.declared.chunks.Kind.TheVariants.{Format, Data, Other}
use Rattle.wav_reader.specs.declared.chunks.Chunk.{Chunk}
use Rattle.wav_reader.specs.declared.formats.Sound.{Sound}
use Rattle.wav_reader.specs.declared.heads.Head.{Head as FoundHead}
use Rattle.std.specs.List.{flat_map}
use Rattle.std.specs.Option.{ok_or}
use Rattle.wav_reader.specs.Chunks.{kind_at, size_at, body_length, chunk_at}
use Rattle.wav_reader.specs.Heads.{Head, sound_by}
use Rattle.wav_reader.specs.Formats.{sample_length}
use Rattle.wav_reader.specs.Supplies.{block_of}
use Rattle.wav_reader.specs.Wavs.{container, pieces_of, ring_bytes}
use Rattle.hda_outside.specs.Counts.{Rose}
use Rattle.hda_outside.specs.Shelf.{Files}
use Rattle.wav_reader.specs.Fills.{IsInFrame}
use Rattle.wav_reader.specs.Shelves.{ShelfSeen, HasFile, seen_as}

-- the chunk with this head at a place of a file of so many bytes, if it is whole
abbrev pub chunk_by : List ℕ → ℕ → ℕ → Chunk
chunk_by head at file_len = record {
  kind = kind_at head 0;
  from = at + 8;
  len = body_length (kind_at head 0) (size_at head 0) (file_len - (at + 8));
}

abbrev pub chunk_with : List ℕ → ℕ → ℕ → Option Chunk
chunk_with head at file_len = if nat_le (at + 8 + (chunk_by head at file_len).len) file_len then Some
    (chunk_by head at file_len) else None

-- the sound that is known after a chunk that is not `data`
abbrev pub known_by_kind : Kind → List ℕ → Option Sound → Chunk → Result (Option Sound) WavFault
known_by_kind Format bytes None chunk = sound_by bytes (Some chunk)
known_by_kind Format bytes (Some sound) chunk = Ok (Some sound)
known_by_kind Data bytes found chunk = Ok found
known_by_kind Other bytes found chunk = Ok found

abbrev pub known_after : List ℕ → Option Sound → Chunk → Result (Option Sound) WavFault
known_after bytes found chunk = known_by_kind chunk.kind bytes found chunk

-- what was found, as the definition has it
abbrev pub head_seen : FoundHead → Head
head_seen head = record { format = layout head.format; mono = head.mono; from = head.from; frames = head.frames }

abbrev pub seen : Result FoundHead WavFault → Result Head WavFault
seen (Ok head) = Ok (head_seen head)
seen (Err fault) = Err fault

-- what the ring gets for a sample of the file: its container, and where the file has one channel the same again
abbrev pub slot : Bool → Bits → List ℕ → List ℕ
slot mono bits sample = if mono then container bits sample ++ container bits sample else container bits sample

abbrev pub slot_length : Bool → Bits → ℕ
slot_length mono bits = if mono then 2 * container_bytes bits else container_bytes bits

-- for the first so many samples
unfoldable pub slots : Bool → Bits → List ℕ → ℕ → List ℕ
slots mono bits bytes count = flat_map (slot mono bits) (pieces_of (sample_length bits) bytes count)

-- for all whole samples
abbrev pub ring_part : Bool → Bits → List ℕ → List ℕ
ring_part mono bits bytes = slots mono bits bytes (length bytes / sample_length bits)

-- samples do not stand in the ring as they stand in the file
abbrev pub are_turned : Bool → Bits → Bool
are_turned mono B16 = mono
are_turned mono B24 = true
are_turned mono B32 = mono

-- how many samples have slots of sixteen bytes together, and the bytes of these samples in the file
abbrev pub group_length : Bool → Bits → ℕ
group_length mono bits = 16 / slot_length mono bits * sample_length bits

-- the chunk at a place of a file, or that the file is cut there
abbrev pub chunk_or_cut : List ℕ → ℕ → Result Chunk WavFault
chunk_or_cut bytes at = ok_or (chunk_at bytes at) (Truncated (length bytes))

-- a reader on a shelf answers what it shall, or a fault of the shelf, or want of memory
abbrev pub IsAnswer : {A B : Type 0} → (A → B) → Result B WavFault → Result A WavOpen → Type 0
IsAnswer as_said said (Ok found) = said ≡ Ok (as_said found)
IsAnswer as_said said (Err Failed) = Unit {0}
IsAnswer as_said said (Err TooLong) = ⊥
IsAnswer as_said said (Err (Wav fault)) = said ≡ Err fault
IsAnswer as_said said (Err OutOfMemory) = Unit {0}

-- the shelf's faults, as they are answered
abbrev pub open_of_length : ReadAll → WavOpen
open_of_length lengths.Failed = Failed
open_of_length lengths.TooLong = TooLong
open_of_length lengths.OutOfMemory = OutOfMemory

abbrev pub open_of_cut : Cut → WavOpen
open_of_cut cuts.Failed = Failed
open_of_cut (cuts.Short place) = Wav (Truncated place)
open_of_cut cuts.OutOfMemory = OutOfMemory

-- want of memory is no fault of the file
abbrev pub open_of_fault : WavFault → WavOpen
open_of_fault faults.OutOfMemory = OutOfMemory
open_of_fault fault = Wav fault

-- the ring bytes of a sound
abbrev pub total : Head → ℕ
total head = head.frames * block_of head

-- the byte at a place of the ring bytes is the 0 before a sample of 24 bits
abbrev pub is_pad : Bits → ℕ → Bool
is_pad B16 at = false
is_pad B24 at = at % 4 == 0
is_pad B32 at = false

-- the place in its sample of the byte that stands at a place of the ring bytes
abbrev pub in_sample : Bits → ℕ → ℕ
in_sample B16 at = at % 2
in_sample B24 at = at % 4 - 1
in_sample B32 at = at % 4

-- its place in the file
abbrev pub place_of : Head → ℕ → ℕ
place_of head at =
    head.from + at / slot_length head.mono head.format.bits * sample_length head.format.bits + in_sample
    head.format.bits at

-- so many bytes of the file were given for samples whose slots were put last, and where it was cut for a part of one
-- more
abbrev pub IsGivenFor : (sample slots before after : ℕ) → Result Unit Cut → Type 0
IsGivenFor sample slots before after (Ok done) = after ≤ before + slots * sample
IsGivenFor sample slots before after (Err cut) = after < before + slots * sample + sample

pub record AreGivenFor (mono : Bool) (bits : Bits) (old new : Buffer ℕ) (before after : ℕ) (result : Result Unit Cut)
    : Type 0
  where
    pub slots : ℕ
    pub long : length new.items ≡ length old.items + slots * slot_length mono bits
    pub given : IsGivenFor (sample_length bits) slots before after result

-- held bytes are the next ones of a sound, of which so many were taken
abbrev pub IsNext : (pcm : List ℕ) (taken : ℕ) (held : List ℕ) → Type 0
IsNext pcm taken held = held ≡ take (length held) (drop taken pcm)

-- so many bytes, or fewer where the reading was cut, were put last
pub record IsGrown (count : ℕ) (old new : Buffer ℕ) (result : Result Unit Cut) : Type 0 where
  pub capacity : new.capacity ≡ old.capacity
  pub kept : take (length old.items) new.items ≡ old.items
  pub least : length old.items ≤ length new.items
  pub most : length new.items ≤ length old.items + count
  pub all : OnOk result (length new.items ≡ length old.items + count)
  pub early : OnErr result (length new.items < length old.items + count)

-- what a shelf tells and has counted under a name
abbrev pub seen_under : Option Files → (faults empties : List ℕ → ℕ) → (given : ℕ) → (name : List ℕ) → ShelfSeen
seen_under told faults empties given name = seen_as told (faults name) (empties name) given

-- so many bytes of the sound under a name, or fewer where the reading was cut, were read behind those that are held, of
-- which the first is that after so many taken ones
pub record ReadsOn (count : ℕ) (name : List ℕ) (head : Head) (taken : ℕ) (before after : ShelfSeen) (old new : Buffer ℕ)
    (result : Result Unit Cut) : Type 0 where
  pub grown : IsGrown count old new result
  pub told : after.told ≡ before.told
  pub given : after.given ≤ before.given + count
  pub given_rises : before.given ≤ after.given
  -- its faults
  pub later : before.faults ≤ after.faults
  pub failed : result ≡ Err cuts.Failed → Rose before.faults after.faults
  pub empties_later : before.empties ≤ after.empties
  pub short : (place : ℕ) → result ≡ Err (cuts.Short place) → IsInFrame head (taken + length new.items) place
      × Rose before.empties after.empties
  pub not_short : ((place : ℕ) → result ≢ Err (cuts.Short place)) → after.empties ≡ before.empties
  -- where the file is told, the bytes that are held go on as its sound does, and it is not too short
  pub reads : (file : List ℕ) → HasFile before.told name head file → IsNext (ring_bytes file head) taken old.items
      → IsNext (ring_bytes file head) taken new.items
  pub never_short : (file : List ℕ) → HasFile before.told name head file → (place : ℕ) → result ≢ Err (cuts.Short place)

-- what is answered of a piece that was cut, or was not
abbrev pub answer_of : Option Cut → Result Unit Cut
answer_of None = Ok tt
answer_of (Some cut) = Err cut
