-- What a supply of sound is seen as, and which sound it may yet give. This project's own.
use Rattle.std.specs.Prelude.{◌≡◌, ◌≤◌, ℕ, ◌-◌, ◌+◌, min, List, ◌++◌, take, drop, length, Option}
use Rattle.stream_format.specs.Cadence.{bytes_of_block}
use Rattle.wav_reader.specs.Heads.{Head}

-- where a supply reads more sound: the bytes of a file's name, what the file says before its sound, and how many ring
-- bytes are held at most
pub record Source : Type 0 where
  pub name : List ℕ
  pub head : Head
  pub ring : ℕ

-- the bytes of a block of the ring
abbrev pub block_of : Head → ℕ
block_of head = bytes_of_block head.format.channels head.format.bits

-- the ring bytes that are held, how many are still to come, those among them, how many were taken so far, and where
-- more are read. Where there is no source, all sound was given at once
pub record Supplied : Type 0 where
  pub held : List ℕ
  pub left : ℕ
  pub taken : ℕ
  pub source : Option Source

-- it may yet give this sound: the held bytes are its first, and it is no longer than what is left. Where the file is
-- cut short later on, it is shorter
pub record MayGive (supply : Supplied) (sound : List ℕ) : Type 0 where
  pub later : List ℕ
  pub is : sound ≡ supply.held ++ later
  pub most : length sound ≤ supply.left

-- it holds enough for a run with this budget over a ring of so many bytes
abbrev pub Suffices : (ring budget : ℕ) → Supplied → Type 0
Suffices ring budget supply = min budget (min ring supply.left) ≤ length supply.held

-- a sound to come is empty only where nothing is left
abbrev pub EndsWith : Supplied → List ℕ → Type 0
EndsWith supply sound = length sound ≡ 0 → supply.left ≡ 0

-- after so many bytes were taken
abbrev pub without : ℕ → Supplied → Supplied
without count supply = record supply {
  held = drop count supply.held;
  left = supply.left - count;
  taken = supply.taken + count;
}

-- the bytes that were taken between two moments, and the sound at the first, by that at the second
abbrev pub taken_between : Supplied → Supplied → List ℕ
taken_between old new = take (length old.held - length new.held) old.held

abbrev pub sound_before : (old new : Supplied) (later : List ℕ) → List ℕ
sound_before old new later = taken_between old new ++ later

-- bytes were only taken
pub record IsTaken (old new : Supplied) : Type 0 where
  pub count : ℕ
  pub within : count ≤ length old.held
  pub is : new ≡ without count old

-- a fill: more bytes are held, no more are left, none were taken, and the source is the same
pub record IsFilled (old new : Supplied) : Type 0 where
  pub more : List ℕ
  pub held : new.held ≡ old.held ++ more
  pub left : new.left ≤ old.left
  pub taken : new.taken ≡ old.taken
  pub source : new.source ≡ old.source
