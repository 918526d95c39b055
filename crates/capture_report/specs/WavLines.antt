-- The lines of the file that was recorded. This project's own.
use Rattle.std.specs.Prelude.{ℕ, ◌+◌, ◌-◌, ◌/◌, List, ◌++◌, length, map, codes}
use Rattle.std.specs.List.{flat_map, range_with_len}
use Rattle.std.specs.Fork.{slice_chunk}
use Rattle.hex.specs.Hex.{encode_lower}
use Rattle.sound_report.specs.PlanLines.{newline}

-- how many bytes of the file a line has
abbrev pub line_bytes : ℕ
line_bytes = 48

-- bytes of the file in one line, each as two lower hexadecimal digits
abbrev pub wav_line : List ℕ → List ℕ
wav_line bytes = codes "wav " ++ encode_lower bytes ++ newline

-- the file cut into the bytes of its lines, in the last as many as are left
abbrev pub wav_pieces : (file : List ℕ) → List (List ℕ)
wav_pieces file = map (slice_chunk file line_bytes) (range_with_len 0 ((length file + line_bytes - 1) / line_bytes))

-- pieces one after another
abbrev pub pieces_joined : List (List ℕ) → List ℕ
pieces_joined pieces = flat_map (λ piece. piece) pieces

abbrev pub wav_lines : (file : List ℕ) → List ℕ
wav_lines file = flat_map wav_line (wav_pieces file)
