use Rattle.std.proofs.Common.{◌≡◌, ◌*◌, length, take}
use Rattle.verb_codes.specs.Lists.{entries_of_words, entries_per_word}
use Rattle.verb_codes.proofs.Packing.{padded}
use Rattle.verb_codes.proofs.lists.pack_list.Given as goal

-- each word so far has its entries of the list that is padded with zeros
abbrev pub invariant-loop-word : goal.invariant-loop-word
invariant-loop-word l = record {
  per_word : l.per_word ≡ entries_per_word l.long;
  count : length l.words.items ≡ l.word;
  filled : entries_of_words l.long l.words.items ≡ take (entries_per_word l.long * l.word) (padded l.entries (entries_per_word l.long * l.word-end));
}
