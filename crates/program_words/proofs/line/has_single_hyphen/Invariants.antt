use Rattle.std.proofs.Common.{◌≡◌, drop, map, string_bytes}
use Rattle.program_words.specs.Words.{has_single}
use Rattle.program_words.proofs.line.has_single_hyphen.Given as goal

-- what is left decides
abbrev pub invariant-loop-word : goal.invariant-loop-word
invariant-loop-word l = has_single (map string_bytes l.words) ≡ has_single (map string_bytes (drop l.word-index l.words))
