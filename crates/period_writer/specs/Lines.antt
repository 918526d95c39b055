-- The bytes of the line: zeros in its silences, and the sound in order elsewhere. This project's own.
use Rattle.std.specs.Prelude.{◌≡◌, ◌≤◌, ◌<◌, ℕ, ◌+◌, ◌-◌, ◌==◌, Bool, true, false, max, List, [], ◌∷◌, ◌++◌, length}
use Rattle.std.specs.Prelude.{take, drop, replicate, if◌then◌else◌}
use Rattle.period_writer.specs.declared.course.Span.{Span}
use Rattle.period_writer.specs.Runs.{Tally}

-- from a position on, of a line that ends at its reach
abbrev pub line_from : (at : ℕ) → List Span → (reach : ℕ) → (pcm : List ℕ) → List ℕ
line_from at [] reach pcm = take (reach - at) pcm
line_from at (silence ∷ silences) reach pcm =
    take (silence.start - at) pcm
    ++ (replicate (silence.end - silence.start) 0 ++ line_from silence.end silences reach
    (drop (silence.start - at) pcm))

abbrev pub line_of : Tally → (pcm : List ℕ) → List ℕ
line_of tally pcm = line_from 0 tally.silences tally.course.reach pcm

-- what a run leaves from its start on: so many bytes of the sound, and then silence
abbrev pub sound_and_silence : (sound room : ℕ) → (pcm : List ℕ) → List ℕ
sound_and_silence sound room pcm = take sound pcm ++ replicate (room - sound) 0

-- how many bytes of the line from a position on are sound
abbrev pub sound_in : (at : ℕ) → List Span → (reach : ℕ) → ℕ
sound_in at [] reach = reach - at
sound_in at (silence ∷ silences) reach = (silence.start - at) + sound_in silence.end silences reach

-- silences from a position on ascend in a line, none of them is empty, and no two of them touch
abbrev pub AreMaximal : (from : ℕ) → List Span → (reach : ℕ) → Type 0
AreMaximal from [] reach = from ≤ reach + 1
AreMaximal from (silence ∷ silences) reach = (from ≤ silence.start) × (silence.start < silence.end)
    × AreMaximal (silence.end + 1) silences reach

-- no sound of the line from a position on stands past another one: each stretch of sound ends at or below it
abbrev pub EndsBy : (end at : ℕ) → List Span → (reach : ℕ) → Type 0
EndsBy end at [] reach = reach ≤ max at end
EndsBy end at (silence ∷ silences) reach = (silence.start ≤ max at end) × EndsBy end silence.end silences reach

-- the silences of a line are maximal, all else is sound, and the last byte of it stands where the course says
pub record IsLine (tally : Tally) : Type 0 where
  pub maximal : AreMaximal 0 tally.silences tally.course.reach
  pub used : tally.course.used ≡ sound_in 0 tally.silences tally.course.reach
  pub ended : EndsBy tally.course.sound_end 0 tally.silences tally.course.reach
  pub inside : tally.course.sound_end ≤ tally.course.reach

-- ---- what a run does to the line as a list of bytes

-- zeros up to a reach
abbrev pub filled : (reach : ℕ) → List ℕ → List ℕ
filled reach line = line ++ replicate (reach - length line) 0

-- where a run takes silence back the line is cut and gets so many bytes of the sound. Where it doesn't, the line gets
-- them where the cut is its end. Then it gets zeros up to the reach
abbrev pub line_after : (back : Bool) → (cut sound reach : ℕ) → (line pcm : List ℕ) → List ℕ
line_after true cut sound reach line pcm = filled reach (take cut line ++ take sound pcm)
line_after false cut sound reach line pcm = filled reach (if cut == length line then line ++ take sound pcm else line)
