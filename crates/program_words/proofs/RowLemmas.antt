-- Rows, one after another.
use Rattle.std.proofs.Common.{◌≡◌, ◌∙◌, ◌<◌, ◌+◌, ℕ, List, [], ◌∷◌, ◌++◌, map, take, length, refl, sym, ap, ap₂, slice_index_or, ◌≤◌}
use Rattle.std.proofs.lemmas.List.{take_all, take_more}
use Rattle.clap.specs.Words.{App, Rule, with_rule}
use Rattle.program_words.specs.Commands.{OptionGrammar}
use Rattle.program_words.specs.Tables.{option_of}
use Rattle.program_words.specs.declared.table.OptionRow.{OptionRow}
use Rattle.program_words.specs.ClapCommand.{command_app, command_shape, operand_rule, option_rule}

abbrev pub names_of_rows : List OptionRow → List (List ℕ)
names_of_rows rows = map (λ (o : OptionGrammar). o.name) (map option_of rows)

-- a command with these options, and no operands yet
abbrev pub app_with : List ℕ → List (List ℕ) → App
app_with name names = record { top = command_shape name (map option_rule names); subs = [] }

three : (xs : List OptionRow) (y : OptionRow) → map option_rule (names_of_rows (xs ++ y ∷ [])) ≡ map option_rule (names_of_rows xs) ++ option_rule y.name.now ∷ []
three [] y = refl
three (x ∷ xs) y = ap (λ (rest : List Rule). option_rule x.name.now ∷ rest) (three xs y)

-- one more row
rules_more : (xs : List OptionRow) (i : ℕ) (d : OptionRow) → i < length xs
    → map option_rule (names_of_rows (take i xs)) ++ option_rule (slice_index_or xs i d).name.now ∷ [] ≡ map option_rule (names_of_rows (take (i + 1) xs))
rules_more xs i d lt =
    sym (ap (λ (rows : List OptionRow). map option_rule (names_of_rows rows)) (take_more xs i d lt) ∙ three (take i xs) (slice_index_or xs i d))

-- a command with one more option
pub command_more : (name : List ℕ) (xs : List OptionRow) (i : ℕ) (d : OptionRow) (old new : App) (rule : Rule) → i < length xs
    → old ≡ app_with name (names_of_rows (take i xs)) → new ≡ with_rule old rule → rule ≡ option_rule (slice_index_or xs i d).name.now
    → new ≡ app_with name (names_of_rows (take (i + 1) xs))
command_more name xs i d old new rule lt before adds rule_is =
    adds ∙ (ap₂ with_rule before rule_is
    ∙ ap (λ (rules : List Rule). let app : App = record { top = command_shape name rules; subs = [] } in app) (rules_more xs i d lt))

-- a command with all its options, and its operands
pub command_done : (name : List ℕ) (xs : List OptionRow) (i : ℕ) (old new : App) (rule : Rule) → length xs ≤ i
    → old ≡ app_with name (names_of_rows (take i xs)) → new ≡ with_rule old rule → rule ≡ operand_rule → new ≡ command_app name (names_of_rows xs)
command_done name xs i old new rule end before adds rule_is =
    adds ∙ (ap₂ with_rule before rule_is ∙ ap (λ (rows : List OptionRow). command_app name (names_of_rows rows)) (take_all i xs end))
