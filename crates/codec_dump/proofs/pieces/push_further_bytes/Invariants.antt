use Rattle.std.proofs.Common.{◌≡◌, ◌++◌, take, string_bytes}
use Rattle.std.specs.List.{flat_map}
use Rattle.codec_dump.specs.Pieces.{further_byte}
use Rattle.codec_dump.proofs.pieces.push_further_bytes.Given as goal

-- the numbers so far are put
abbrev pub invariant-loop-byte : goal.invariant-loop-byte
invariant-loop-byte l = string_bytes l.text ≡ string_bytes l.initial.text ++ flat_map further_byte (take l.byte-index l.bytes)
