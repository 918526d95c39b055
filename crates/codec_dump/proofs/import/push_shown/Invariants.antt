use Rattle.std.proofs.Common.{◌≡◌, ◌++◌, string_bytes}
use Rattle.std.specs.Str.Iter.{chars_rest}
use Rattle.codec_dump.specs.Texts.{shown}
use Rattle.codec_dump.proofs.import.push_shown.Given as goal

-- with the characters that are left the text is whole
abbrev pub invariant-loop-c : goal.invariant-loop-c
invariant-loop-c l = string_bytes l.text ++ shown (chars_rest l.c-iterator) ≡ string_bytes l.initial.text ++ shown l.name
