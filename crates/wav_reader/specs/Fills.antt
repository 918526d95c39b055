-- What a fill of a supply does: it reads the next bytes of the file until as much is held as may be. This project's
-- own.
use Rattle.std.specs.Prelude.{◌≡◌, ◌≢◌, ◌≤◌, ◌<◌, ℕ, ◌+◌, ◌-◌, ◌*◌, ◌/◌, ◌%◌, min, List, take, drop, length, Option}
use Rattle.std.specs.Prelude.{Some, None, Result, Ok, Err, OnOk, OnErr}
use Rattle.hda_outside.specs.Counts.{Rose}
use Rattle.hda_outside.specs.declared.pieces.Cut.{Cut}
use Rattle.hda_outside.specs.declared.pieces.Cut.TheVariants.{Failed, Short}
use Rattle.wav_reader.specs.Heads.{Head, frame_length}
use Rattle.wav_reader.specs.Wavs.{ring_bytes}
use Rattle.wav_reader.specs.Shelves.{ShelfSeen, HasFile}
use Rattle.wav_reader.specs.Supplies.{Source, Supplied, IsFilled, block_of}

-- how many bytes a fill has to read: until the ring is full or all that is left is held
abbrev pub wanted : Source → Supplied → ℕ
wanted source supply = min source.ring supply.left - length supply.held

-- the place in the file after the last frame
abbrev pub end_of_sound : Head → ℕ
end_of_sound head = head.from + head.frames * frame_length head.mono head.format

-- a place of the file in the frame whose ring bytes stand at so many bytes, before the sound's end
pub record IsInFrame (head : Head) (at place : ℕ) : Type 0 where
  pub start : head.from + at / block_of head * frame_length head.mono head.format ≤ place
  pub within : place < head.from + at / block_of head * frame_length head.mono head.format
      + frame_length head.mono head.format
  pub early : place < end_of_sound head

-- so many bytes of the file were given for ring bytes that were put behind others: those of their frames, and where it
-- was cut a part of one more
abbrev pub AreFramesGiven : Head → (old new : List ℕ) → (before after : ℕ) → Result Unit Cut → Type 0
AreFramesGiven head old new before after (Ok done) =
    after ≤ before + (length new - length old) / block_of head * frame_length head.mono head.format
AreFramesGiven head old new before after (Err cut) =
    after < before + (length new - length old) / block_of head * frame_length head.mono head.format
    + frame_length head.mono head.format

-- the held bytes are the next ones of this sound
abbrev pub IsNextOf : (pcm : List ℕ) → Supplied → Type 0
IsNextOf pcm supply = supply.held ≡ take (length supply.held) (drop supply.taken pcm)

-- all that was wanted was read, and as much is left as before
pub record IsFull (source : Source) (old new : Supplied) : Type 0 where
  pub held : length new.held ≡ length old.held + wanted source old
  pub left : new.left ≡ old.left

-- it was cut: what is held is all that is left, in whole blocks, and at least the whole blocks that were held before
pub record IsCut (source : Source) (old new : Supplied) : Type 0 where
  pub left : new.left ≡ length new.held
  pub blocks : length new.held % block_of source.head ≡ 0
  -- fewer bytes are held than were wanted
  pub early : length new.held < length old.held + wanted source old
  pub least : length old.held / block_of source.head * block_of source.head ≤ length new.held

-- a fill of a supply that reads from a file
pub record Fills (source : Source) (old new : Supplied) (before after : ShelfSeen) (result : Result Unit Cut) : Type 0
  where
    pub full : OnOk result (IsFull source old new)
    pub cut : OnErr result (IsCut source old new)
    pub taken : new.taken ≡ old.taken
    pub source_is : new.source ≡ old.source
    -- where whole blocks were held, more bytes are held now and none less
    pub filled : length old.held % block_of source.head ≡ 0 → IsFilled old new
    -- the bytes that were held stay the first ones
    pub begins : take (length new.held) old.held ≡ take (length old.held) new.held
    -- where there is nothing to read nothing is asked for
    pub idle : wanted source old ≡ 0 → (result ≡ Ok tt) × (new ≡ old) × (after ≡ before)
    -- no more bytes are given than were wanted
    pub given : after.given ≤ before.given + wanted source old
    pub given_rises : before.given ≤ after.given
    -- where whole blocks were taken and held, no byte is given twice, and none that is given is dropped, but a part of
    -- a frame at a cut
    pub frames : old.taken % block_of source.head ≡ 0 → length old.held % block_of source.head ≡ 0
        → AreFramesGiven source.head old.held new.held before.given after.given result
    -- its faults
    pub failed : result ≡ Err Failed → Rose before.faults after.faults
    pub short : (place : ℕ) → result ≡ Err (Short place) → (place < end_of_sound source.head)
        × Rose before.empties after.empties
    pub not_short : ((place : ℕ) → result ≢ Err (Short place)) → after.empties ≡ before.empties
    -- where whole blocks were taken, it is short in the frame that comes next
    pub short_at : old.taken % block_of source.head ≡ 0 → (place : ℕ) → result ≡ Err (Short place)
        → IsInFrame source.head (new.taken + length new.held) place
    -- where the file is told, the held bytes go on as its sound does, and it is not too short
    pub reads : (file : List ℕ) → HasFile before.told source.name source.head file
        → IsNextOf (ring_bytes file source.head) old → IsNextOf (ring_bytes file source.head) new
    pub never_short : (file : List ℕ) → HasFile before.told source.name source.head file → (place : ℕ)
        → result ≢ Err (Short place)

-- a fill of any supply: one that was given whole is left as it is
abbrev pub FillsBy : Option Source → (old new : Supplied) → (before after : List ℕ → ShelfSeen) → Result Unit Cut
    → Type 0
FillsBy None old new before after result = (result ≡ Ok tt) × (new ≡ old)
FillsBy (Some source) old new before after result = Fills source old new (before source.name) (after source.name) result

-- a name from which a supply does not read
abbrev pub IsBeside : Option Source → List ℕ → Type 0
IsBeside None name = Unit {0}
IsBeside (Some source) name = name ≢ source.name
