use Rattle.std.proofs.Common.{◌≡◌, ◌++◌, drop, string_bytes}
use Rattle.std.specs.Prelude.{codes}
use Rattle.codec_dump.specs.Pieces.{each_from}
use Rattle.codec_dump.specs.Comments.{sides_line, sides_lines}
use Rattle.codec_dump.proofs.comments.push_all_sides.Given as goal

-- with the comments that are left the text is whole
abbrev pub invariant-loop-place : goal.invariant-loop-place
invariant-loop-place l = string_bytes l.text ++ each_from (sides_line (codes "gain_in")) l.place (drop l.place l.gains) ≡ string_bytes l.initial.text ++ sides_lines l.gains
