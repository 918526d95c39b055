use Rattle.std.proofs.Common.{◌≡◌, ◌++◌, ◌-◌, string_bytes}
use Rattle.std.specs.List.{flat_map, range_with_len}
use Rattle.codec_dump.specs.Texts.{further_line, further_lines}
use Rattle.codec_dump.proofs.import.further_lines.Given as goal

-- with the comments that are left the text is whole
abbrev pub invariant-loop-place : goal.invariant-loop-place
invariant-loop-place l = string_bytes l.text ++ flat_map (further_line l.name) (range_with_len l.place (l.count - l.place)) ≡ further_lines l.name l.count
