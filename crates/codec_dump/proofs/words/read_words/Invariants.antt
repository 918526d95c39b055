use Rattle.std.proofs.Common.{◌≡◌, drop, map, string_bytes}
use Rattle.codec_dump.specs.Words.{said_by, nothing_said}
use Rattle.codec_dump.specs.Seen.{said_seen}
use Rattle.codec_dump.proofs.words.read_words.Given as goal

-- the words that are left, behind what was said so far, say what all say
abbrev pub invariant-loop-word : goal.invariant-loop-word
invariant-loop-word l = said_by (said_seen l.said) (map string_bytes (drop l.word-index l.given)) ≡ said_by nothing_said (map string_bytes l.given)
