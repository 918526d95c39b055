-- Lines of `play` and of `walk` as what words ask.
use Rattle.std.proofs.Common.{◌≡◌, ◌∙◌, ℕ, List, [], ◌∷◌, Option, Some, None, ap, codes, refl, sym}
use Rattle.std.specs.Prelude.{option_and_then}
use Rattle.program_words.specs.Asked.{Asked, asked_of, make, request_of}
use Rattle.program_words.specs.Commands.{play_grammar, walk_grammar}
use Rattle.program_words.specs.Lines.{CommandLine, command_line_of}
use Rattle.program_words.specs.RunWords.{run_words, words_behind}
use Rattle.program_words.specs.declared.table.CommandName.TheVariants.{Play, Walk}

-- the words behind `play` ask what their line asks, and likewise behind `walk`
asked_play : (words : List (List ℕ)) → request_of (codes "play" ∷ words) ≡ option_and_then (asked_of Play) (command_line_of play_grammar words)
asked_play words = refl

asked_walk : (words : List (List ℕ)) → request_of (codes "walk" ∷ words) ≡ option_and_then (asked_of Walk) (command_line_of walk_grammar words)
asked_walk words = refl

behind_some : (words : List (List ℕ)) (asked : Asked) → request_of (codes "play" ∷ words) ≡ Some asked → request_of (run_words words) ≡ Some asked
behind_some words asked is =
    ap (λ (o : Option Asked). request_of (words_behind o words)) is ∙ is

behind_none : (words : List (List ℕ)) → request_of (codes "play" ∷ words) ≡ None → request_of (run_words words) ≡ request_of (codes "walk" ∷ words)
behind_none words none = ap (λ (o : Option Asked). request_of (words_behind o words)) none

-- a line of `play`
pub run_plays : (words : List (List ℕ)) (line : CommandLine) (asked : Asked) → command_line_of play_grammar words ≡ Some line → asked_of Play line ≡ Some asked
    → request_of (run_words words) ≡ Some asked
run_plays words line asked is plays =
    behind_some words asked (asked_play words ∙ ap (λ (o : Option CommandLine). option_and_then (asked_of Play) o) is ∙ plays)

-- no line of `play`, and what is asked behind `walk`
pub run_walks : (words : List (List ℕ)) (asked : Asked) → command_line_of play_grammar words ≡ None → request_of (codes "walk" ∷ words) ≡ Some asked
    → request_of (run_words words) ≡ Some asked
run_walks words asked none walks =
    behind_none words (asked_play words ∙ ap (λ (o : Option CommandLine). option_and_then (asked_of Play) o) none) ∙ walks

-- neither
pub run_none : (words : List (List ℕ)) → command_line_of play_grammar words ≡ None → request_of (codes "walk" ∷ words) ≡ None → request_of (run_words words) ≡ None
run_none words none no_walk =
    behind_none words (asked_play words ∙ ap (λ (o : Option CommandLine). option_and_then (asked_of Play) o) none) ∙ no_walk

-- a line of `walk`, and none
pub walk_asks : (words : List (List ℕ)) (line : CommandLine) (asked : Asked) → command_line_of walk_grammar words ≡ Some line → asked_of Walk line ≡ Some asked
    → request_of (codes "walk" ∷ words) ≡ Some asked
walk_asks words line asked is walks = asked_walk words ∙ (ap (λ (o : Option CommandLine). option_and_then (asked_of Walk) o) is ∙ walks)

pub walk_none : (words : List (List ℕ)) → command_line_of walk_grammar words ≡ None → request_of (codes "walk" ∷ words) ≡ None
walk_none words none = asked_walk words ∙ ap (λ (o : Option CommandLine). option_and_then (asked_of Walk) o) none

-- no words ask for no run
pub nothing_asked : request_of (run_words []) ≡ None
nothing_asked = refl

-- words behind `play` or `walk` are those of no other command
play_no_make : (line : Option CommandLine) (number : ℕ) → option_and_then (asked_of Play) line ≡ Some (make number) → ⊥
play_no_make None number e = let bad : None ≡ Some (make number) = e in cc
play_no_make (Some line) number e = cc

walk_no_make : (line : Option CommandLine) (number : ℕ) → option_and_then (asked_of Walk) line ≡ Some (make number) → ⊥
walk_no_make None number e = let bad : None ≡ Some (make number) = e in cc
walk_no_make (Some line) number e = cc

behind_no_make : (words : List (List ℕ)) (played : Option Asked) (number : ℕ) → request_of (words_behind played words) ≡ Some (make number) → ⊥
behind_no_make words (Some asked) number e = play_no_make (command_line_of play_grammar words) number (sym (asked_play words) ∙ e)
behind_no_make words None number e = walk_no_make (command_line_of walk_grammar words) number (sym (asked_walk words) ∙ e)

pub run_is_no_make : (words : List (List ℕ)) (number : ℕ) → request_of (run_words words) ≡ Some (make number) → ⊥
run_is_no_make words number e = behind_no_make words (request_of (codes "play" ∷ words)) number e
