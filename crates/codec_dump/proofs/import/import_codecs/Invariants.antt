use Rattle.std.proofs.Common.{◌≡◌, [], ◌∷◌, map, take}
use Rattle.dump_reader.specs.declared.facts.CodecFacts.{CodecFacts}
use Rattle.codec_dump.specs.Imports.{AreWritten, draft_of}
use Rattle.codec_dump.proofs.import.import_codecs.Given as goal

-- the first codec and those so far have their texts
abbrev pub invariant-loop-codec : goal.invariant-loop-codec
invariant-loop-codec l = record {
  head : CodecFacts;
  all : l.codecs ≡ head ∷ l.further;
  written : AreWritten (draft_of l.is_mended l.tail head ∷ map (draft_of l.is_mended []) (take l.codec-index l.further)) l.texts;
}
