-- Words without a command's name, where a run of the driver is meant. This project's own.
use Rattle.std.specs.Prelude.{ℕ, List, ◌∷◌, Option, Some, None, codes}
use Rattle.program_words.specs.Asked.{Asked, request_of}

-- behind `play` where they are a line of it, and else behind `walk`
abbrev pub words_behind : Option Asked → List (List ℕ) → List (List ℕ)
words_behind (Some asked) words = codes "play" ∷ words
words_behind None words = codes "walk" ∷ words

-- the same words with a command's name before them. `play` has three operands and `walk` two, so no words are a line of
-- both
abbrev pub run_words : List (List ℕ) → List (List ℕ)
run_words words = words_behind (request_of (codes "play" ∷ words)) words
