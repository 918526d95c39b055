-- How the supply of a driver is fed from a shelf while it plays. This project's own.
use Rattle.std.specs.Prelude.{◌≡◌, ◌≢◌, ◌⊎◌, ◌≤◌, ◌<◌, ℕ, ◌+◌, ◌*◌, ◌/◌, ◌%◌, ◌++◌, min, take, drop, []}
use Rattle.std.specs.Prelude.{List, length, Option, Some, None, Result, Ok, Err}
use Rattle.hda_outside.specs.Counts.{Rose}
use Rattle.hda_outside.specs.declared.pieces.Cut.{Cut}
use Rattle.hda_outside.specs.declared.pieces.Cut.TheVariants.{Failed, Short, OutOfMemory}
use Rattle.hda_outside.specs.Shelf.{Files}
use Rattle.wav_reader.specs.Shelves.{ShelfSeen, HasFile, seen_as}
use Rattle.wav_reader.specs.Supplies.{Source, Supplied, MayGive, block_of}
use Rattle.wav_reader.specs.Fills.{IsInFrame, IsNextOf, end_of_sound}
use Rattle.wav_reader.specs.Heads.{frame_length}
use Rattle.wav_reader.specs.Wavs.{ring_bytes}
use Rattle.period_writer.specs.declared.course.Course.{Course}
use Rattle.period_writer.specs.Accounts.{unrecorded}
use Rattle.period_writer.specs.Runs.{Measures}

-- what a shelf tells and has counted under each name
abbrev pub Shelves : Type 0
Shelves = List ℕ → ShelfSeen

-- so many bytes the sound of a source has
abbrev pub sound_bytes : Source → ℕ
sound_bytes source = source.head.frames * block_of source.head

-- what is left: without a cut all that was not taken, after one what is held, which is not all
abbrev pub IsLeftAfter : Option Cut → Source → Supplied → Type 0
IsLeftAfter None source supply = supply.taken + supply.left ≡ sound_bytes source
IsLeftAfter (Some cut) source supply =
    (supply.left ≡ length supply.held) × (supply.taken + length supply.held < sound_bytes source)

-- why the reading was cut, by what was counted under the name since a first moment
abbrev pub HasCause : Option Cut → Source → (first now : ShelfSeen) → Type 0
HasCause None source first now = now.empties ≡ first.empties
HasCause (Some Failed) source first now = Rose first.faults now.faults × (now.empties ≡ first.empties)
HasCause (Some (Short place)) source first now = (place < end_of_sound source.head) × Rose first.empties now.empties
HasCause (Some OutOfMemory) source first now = ⊥

-- where it was cut as too short, while so many bytes of the sound were read: in the frame that came next
abbrev pub IsCutAt : Option Cut → Source → (read : ℕ) → Type 0
IsCutAt None source read = Unit {0}
IsCutAt (Some Failed) source read = Unit {0}
IsCutAt (Some (Short place)) source read = IsInFrame source.head read place
IsCutAt (Some OutOfMemory) source read = Unit {0}

-- so many bytes of the file were given since a first moment for so many bytes of the sound: those of their frames, and
-- where the reading was cut a part of one more
abbrev pub AreFramesRead : Option Cut → Source → (first now read : ℕ) → Type 0
AreFramesRead None source first now read =
    now ≤ first + read / block_of source.head * frame_length source.head.mono source.head.format
AreFramesRead (Some cut) source first now read =
    now < first + read / block_of source.head * frame_length source.head.mono source.head.format
    + frame_length source.head.mono source.head.format

-- so many bytes were given since a first moment: no more than were taken and are held, or, after a cut, than were taken
-- and the ring has
abbrev pub IsAccount : (ring first now : ℕ) → Supplied → Type 0
IsAccount ring first now supply =
    (now ≤ first + (supply.taken + length supply.held))
    ⊎ ((supply.left ≡ length supply.held) × (now ≤ first + (supply.taken + ring)))

-- a supply that reads from its source through a ring with these measures, with what the shelf tells and has counted at
-- a first moment and now
pub record Streams (m : Measures) (source : Source) (first now : ShelfSeen) (cut : Option Cut) (supply : Supplied)
    (course : Course) : Type 0 where
  pub source_is : supply.source ≡ Some source
  pub ring_is : source.ring ≡ m.ring
  pub block_is : block_of source.head ≡ m.block
  -- whole blocks fit the ring, are held, left and taken
  pub ring_blocks : m.ring % m.block ≡ 0
  pub blocks : length supply.held % m.block ≡ 0
  pub left_blocks : supply.left % m.block ≡ 0
  pub taken_blocks : supply.taken % m.block ≡ 0
  pub within : length supply.held ≤ supply.left
  pub fits : length supply.held ≤ m.ring
  pub left_is : IsLeftAfter cut source supply
  pub told_is : now.told ≡ first.told
  pub later : first.faults ≤ now.faults
  pub cause : HasCause cut source first now
  -- a file that is told does not get shorter
  pub never_short : (file : List ℕ) → HasFile first.told source.name source.head file → (place : ℕ)
      → cut ≢ Some (Short place)
  pub account : IsAccount m.ring first.given now.given supply
  pub frames : AreFramesRead cut source first.given now.given (supply.taken + length supply.held)
  pub cut_at : IsCutAt cut source (supply.taken + length supply.held)
  -- all that was taken was used, but by a late run
  pub used : supply.taken ≤ course.used + unrecorded m.ring course.ran

-- a supply that was given whole
pub record IsGivenWhole (cut : Option Cut) (supply : Supplied) : Type 0 where
  pub source_is : supply.source ≡ None
  pub whole : length supply.held ≡ supply.left
  pub cut_is : cut ≡ None

-- one without sound
abbrev pub IsSilent : Supplied → Type 0
IsSilent supply = supply ≡ record { held = []; left = 0; taken = 0; source = None }

abbrev pub IsFed : Measures → Option Source → (first now : Shelves) → Option Cut → Supplied → Course → Type 0
IsFed m None first now cut supply course = IsGivenWhole cut supply
IsFed m (Some source) first now cut supply course = Streams m source (first source.name) (now source.name) cut supply
    course

-- so for some source and first moment
pub record IsFedSo (m : Measures) (now : Shelves) (cut : Option Cut) (supply : Supplied) (course : Course) : Type 0
  where
    pub source : Option Source
    pub first : Shelves
    pub is : IsFed m source first now cut supply course

-- as much is held as a ring takes, or all that is left
abbrev pub IsFilledUp : (ring : ℕ) → Supplied → Type 0
IsFilledUp ring supply = min ring supply.left ≤ length supply.held

-- how the reading was cut, after one more fill
abbrev pub cut_after : Option Cut → Result (Unit {0}) Cut → Option Cut
cut_after cut (Ok done) = cut
cut_after cut (Err reason) = Some reason

-- what a shelf tells and has counted, by its own numbers
abbrev pub shelves_of : Option Files → (faults empties : List ℕ → ℕ) → (given : ℕ) → Shelves
shelves_of told faults empties given = λ name. seen_as told (faults name) (empties name) given

-- what a driver took of its supply between two moments, whatever sound the supply may yet give: there is one that it
-- might give before, which begins with what was taken. Where the file is told these are its next bytes
pub record Took (gave : List ℕ) (told : Shelves) (old new : Supplied) : Type 0 where
  pub may : (later : List ℕ) → MayGive new later → MayGive old (gave ++ later)
  pub taken : new.taken ≡ old.taken + length gave
  pub source_is : new.source ≡ old.source
  pub next : (source : Source) (file : List ℕ) → old.source ≡ Some source
      → HasFile (told source.name).told source.name source.head file
      → IsNextOf (ring_bytes file source.head) old → IsNextOf (ring_bytes file source.head) new
  pub gave_is : (source : Source) (file : List ℕ) → old.source ≡ Some source
      → HasFile (told source.name).told source.name source.head file
      → IsNextOf (ring_bytes file source.head) old
      → gave ≡ take (length gave) (drop old.taken (ring_bytes file source.head))
