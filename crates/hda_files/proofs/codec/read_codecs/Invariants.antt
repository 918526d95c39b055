use Rattle.std.proofs.Common.{◌≡◌, ◌≤◌, [], All, drop, length}
use Rattle.hda_files.specs.Codecs.{codecs_after}
use Rattle.hda_files.specs.Arrays.{tables_in}
use Rattle.hda_files.specs.Readers.{IsReadCodec}
use Rattle.hda_files.proofs.ArrayLemmas.{tables_of_list}
use Rattle.hda_files.proofs.codec.read_codecs.Given as goal

-- the tables that are left, after the codecs read so far, mean what all mean
abbrev pub invariant-loop-value : goal.invariant-loop-value
invariant-loop-value l = record {
  few : length l.codecs.items ≤ l.value-index;
  read : All IsReadCodec l.codecs.items;
  rest : codecs_after [] (tables_in l.array) ≡ codecs_after l.codecs.items (tables_of_list (drop l.value-index l.array.items));
}
