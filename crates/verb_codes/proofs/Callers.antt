-- What the proofs of other crates cite.
use Rattle.std.proofs.Common.{◌≡◌, ◌<◌, ◌*◌, ◌^◌, ℕ, Bool, true, List, length, Some, Ok, IsTrue}
use Rattle.std.specs.Prelude.{All, ◌==◌, bit_and}
use Rattle.verb_codes.specs.declared.verbs.Command.{Command}
use Rattle.verb_codes.specs.declared.verbs.Verb.{Verb}
use Rattle.verb_codes.specs.Verbs.{row_of, is_allowed, is_verb_in_range, IsInRange, word_of, reading_of}
use Rattle.verb_codes.specs.Lists.{entries_of_words, entries_per_word, expansion_of}
use Rattle.verb_codes.proofs.Readings as readings
use Rattle.verb_codes.proofs.Commands as commands
use Rattle.verb_codes.proofs.Packing as packing
use Rattle.verb_codes.proofs.Expansions as expansions
use Rattle.verb_codes.proofs.Masks as masks
use Rattle.verb_codes.specs.Words.{has_bit}
-- the word of a command in range reads as it
pub use Rattle.verb_codes.proofs.Commands.{reading_of-complete}
-- the payload of an amplifier's setting in range reads as that setting
pub use Rattle.verb_codes.proofs.Payloads.{setting_of-payload}
-- one number more
pub use Rattle.verb_codes.proofs.Packing.{range_more}

-- the payload of a verb in range fits its width
pub payload-lt : (verb : Verb) → IsTrue (is_verb_in_range verb) → (row_of verb).payload < 2 ^ (row_of verb).width
payload-lt verb h = readings.payload-lt verb h

-- a verb in range has arguments that are allowed
pub allowed-of : (verb : Verb) → IsTrue (is_verb_in_range verb) → is_allowed verb ≡ true
allowed-of verb h = readings.allowed-of verb h

-- a word that reads as a command is the word of that command, which is in range
pub reading_of-sound : (word : ℕ) (command : Command) → reading_of word ≡ Some command → IsInRange command × (word ≡ word_of command)
reading_of-sound word command e = commands.reading_of-sound word command e

-- words have so many entries each
pub length-entries : (long : Bool) (words : List ℕ) → length (entries_of_words long words) ≡ length words * entries_per_word long
length-entries long words = packing.length-entries long words

-- each node for which a connection list stands has a node identifier of seven bits
pub expansion_of-small : (long : Bool) (entries nids : List ℕ) → expansion_of long entries ≡ Ok nids → All (λ nid. nid < 128) nids
expansion_of-small long entries nids e = expansions.expansion_of-small long entries nids e

-- a set of flags contains the flag of a bit where the bit is 1
pub contains_bit : (word at : ℕ) → (bit_and word (2 ^ at) == 2 ^ at) ≡ has_bit word at
contains_bit word at = masks.contains_bit word at
