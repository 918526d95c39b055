-- How much of a sound was read, and how its reading was cut. This project's own.
use Rattle.std.specs.Prelude.{◌≡◌, ℕ, ◌/◌, List, Option, Some, None, string_bytes}
use Rattle.hda_outside.specs.declared.pieces.Cut.{Cut}
use Rattle.hda_outside.specs.declared.pieces.Cut.TheVariants.{Failed, Short, OutOfMemory}
use Rattle.sound_report.specs.declared.played.CutLine.{CutLine}
use Rattle.sound_report.specs.declared.played.CutLine.TheVariants as lines

-- so many frames were read, of so many with blocks of so many bytes
abbrev pub frames_read : Option Cut → (bytes block total : ℕ) → ℕ
frames_read None bytes block total = total
frames_read (Some cut) bytes block total = bytes / block

-- what the report says of a cut under this name
abbrev pub IsLineOf : (name : List ℕ) → Option Cut → Option CutLine → Type 0
IsLineOf name None line = line ≡ None
IsLineOf name (Some Failed) line = (other : _) × (line ≡ Some (lines.Failed other)) × (string_bytes other ≡ name)
IsLineOf name (Some (Short place)) line = line ≡ Some (lines.Short place)
IsLineOf name (Some OutOfMemory) line = ⊥
