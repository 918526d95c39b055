-- The answer of `clap` to the words after a command's name.
use Rattle.std.proofs.Common.{◌≡◌, ◌∙◌, Bool, true, false, not, List, [], ◌∷◌, drop, Option, Some, None, refl, sym, ap, subst}
use Rattle.std.proofs.Common.{inl, inr}
use Rattle.std.specs.Prelude.{◌&&◌, ◌||◌, if◌then◌else◌, fold, is_some, unwrap_or}
use Rattle.std.specs.List.{list_any}
use Rattle.clap.specs.Kinds.{HasKind, IsAmong, Kinds, or_else}
use Rattle.clap.specs.Walk.{Row, Rule, Walk, finished, has_row, idle, nothing_held, rows_after, rows_of, settled, walk, walk_from, with_default}
use Rattle.clap.specs.Faults.{built_fault, check_fault, defaults_fault, entered_fault, fault_of, is_simple_and_free, level_fault, settle_fault, walk_fault}
use Rattle.clap.specs.Takes.{is_given}
use Rattle.clap.specs.Simple.{App, HasMatchesOf, entered, matches_of, names_of}
use Rattle.clap.specs.Matches.{found_of}
use Rattle.clap.specs.Values.{kind_of}
use Rattle.clap.specs.declared.error.Error.{Error}
use Rattle.clap.specs.declared.error.kind.ErrorKind.TheVariants.{MissingRequiredArgument, OutOfMemory}
use Rattle.clap.specs.declared.parser.matches.ArgMatches.{ArgMatches}
use Rattle.clap.proofs.WalkLemmas.{raw_values-rows}
use Rattle.program_words.specs.Words.{Part, has_single, is_among, parts_of}
use Rattle.program_words.specs.ClapCommand.{FindsParts, command_app, operands_id, values_found}
use Rattle.program_words.proofs.ClapRules.{built_app, built_command, built_rules, built_shape, command_is_free, command_is_simple, has_rules}
use Rattle.program_words.proofs.ClapWalk.{Reads, Text, end_rows, total_fault, walk_at}
use Rattle.program_words.proofs.ClapParts.{words_read}
use Rattle.program_words.proofs.ClapRows.{HasKnown, operands_held, parts_known, values_held, values_in}

nothing_or_none : (b : Bool) (x : Kinds) → (if b || true then [] else x) ≡ []
nothing_or_none true x = refl
nothing_or_none false x = refl

either_way : {X : Type 0} (b : Bool) (x : X) → (if b then x else x) ≡ x
either_way true x = refl
either_way false x = refl

no_more : (a : Kinds) → or_else a [] ≡ a
no_more [] = refl
no_more (k ∷ ks) = refl

-- no argument has a default, and none is wanted
no_defaults : (names : List Text) (rows : List Row) → defaults_fault rows (built_rules names) ≡ []
unfolding defaults_fault
no_defaults [] rows = λ i. or_else (nothing_or_none (has_row operands_id rows) [] i) []
no_defaults (name ∷ names) rows =
    (λ i. or_else (nothing_or_none (has_row name rows) [] i) (defaults_fault (either_way (has_row name rows) rows i) (built_rules names)))
    ∙ no_defaults names rows

none_added : (names : List Text) (rows : List Row) → fold with_default rows (built_rules names) ≡ rows
none_added [] rows = either_way (has_row operands_id rows) rows
none_added (name ∷ names) rows = ap (λ (rs : List Row). fold with_default rs (built_rules names)) (either_way (has_row name rows) rows) ∙ none_added names rows

none_wanted : (names : List Text) (rows : List Row) → list_any (λ (a : Rule). a.required && not (is_given a.id rows)) (built_rules names) ≡ false
none_wanted [] rows = refl
none_wanted (name ∷ names) rows = none_wanted names rows

nothing_entered : (name : Text) (rules : List Rule) (stop : Option (Text × List Text)) → entered (built_app name rules) stop ≡ None
nothing_entered name rules None = refl
nothing_entered name rules (Some p) = refl

no_fault_below : (name : Text) (rules : List Rule) (stop : Option (Text × List Text)) → entered_fault (built_app name rules) stop ≡ []
no_fault_below name rules None = refl
no_fault_below name rules (Some p) = refl

abbrev walked_words : List Text → List Text → List Row
walked_words names words = end_rows (built_rules names) (walk_at nothing_held idle false) words

abbrev fault_at : Text → List Text → List Text → Kinds
fault_at name names words = total_fault name (built_rules names) (walk_at nothing_held idle false) words

fault_is : (name : Text) (names : List Text) (words : List Text) → fault_of (command_app name names) words ≡ fault_at name names (drop 1 words)
fault_is name names words =
    let rules : List Rule = built_rules names in
    let ws : List Text = drop 1 words in
    let after : Walk = walk rules [] nothing_held ws in
    let rows : List Row = (settled rules after.held).rows in
    let walking : Kinds = walk_fault (built_shape name rules) [] (walk_from nothing_held) ws in
    let settling : Kinds = settle_fault rules false after.held in
    (λ i. built_fault (built_command name names i) nothing_held ws)
    ∙ ((λ i. level_fault (built_shape name rules) [] nothing_held ws (is_some (nothing_entered name rules after.stopped i)) (no_fault_below name rules after.stopped i))
    ∙ ((λ i. or_else walking (or_else settling (or_else (no_defaults names rows i) (check_fault (built_shape name rules) (finished rules after.held) false))))
    ∙ ((λ i. or_else walking (or_else settling (if none_wanted names (finished rules after.held) i then MissingRequiredArgument ∷ [] else [])))
    ∙ (λ i. or_else walking (no_more settling i)))))

rows_are : (name : Text) (names : List Text) (words : List Text) → matches_of (command_app name names) words ≡ walked_words names (drop 1 words)
rows_are name names words =
    (λ i. rows_after (built_command name names i).top.rules (names_of (built_command name names i)) (drop 1 words))
    ∙ none_added names (walked_words names (drop 1 words))

-- what `clap` found for an id stands in the rows
found_rows : (m : ArgMatches) (id : Text) (rows : List Row) → rows_of (found_of m) ≡ rows → values_found m id ≡ values_in id rows
found_rows m id rows is = (λ i. unwrap_or (raw_values-rows (found_of m) id i) []) ∙ ap (λ (rs : List Row). values_in id rs) is

ok_by : (names : List Text) (o : Option (List Part)) (fault : Kinds) (rows : List Row) (m : ArgMatches) → is_among names operands_id ≡ false
    → Reads o fault rows [] → HasKnown names o → fault ≡ [] → rows_of (found_of m) ≡ rows → FindsParts names o m
ok_by names None fault rows m none reads known e is = reads e
ok_by names (Some parts) fault rows m none reads known e is = record {
  operands = found_rows m operands_id rows is ∙ (ap (λ (rs : List Row). values_in operands_id rs) reads.1 ∙ operands_held names none [] parts known);
  options = λ id among. found_rows m id rows is ∙ (ap (λ (rs : List Row). values_in id rs) reads.1 ∙ values_held names none id among [] parts);
}

pub read_ok : (name : Text) (names words : List Text) (m : ArgMatches) → is_among names operands_id ≡ false → has_single (drop 1 words) ≡ false
    → fault_of (command_app name names) words ≡ [] → HasMatchesOf (command_app name names) words m → FindsParts names (parts_of names (drop 1 words)) m
read_ok name names words m none single e has =
    ok_by names (parts_of names (drop 1 words)) (fault_at name names (drop 1 words)) (walked_words names (drop 1 words)) m none
    (words_read name names (built_rules names) (has_rules names none) (drop 1 words) single) (parts_known names (drop 1 words) None tt)
    (sym (fault_is name names words) ∙ e) ((has (command_is_simple name names)).0 ∙ rows_are name names words)

err_by : (o : Option (List Part)) (fault : Kinds) (rows : List Row) (e : Error) → Reads o fault rows [] → HasKind fault e → (kind_of e ≡ OutOfMemory → ⊥) → o ≡ None
err_by None fault rows e reads has other = refl
err_by (Some parts) fault rows e reads (inl memory) other = absurd (other memory)
err_by (Some parts) fault rows e reads (inr among) other = absurd (subst (λ (k : Kinds). IsAmong (kind_of e) k) reads.0 among)

pub read_err : (name : Text) (names words : List Text) (e : Error) → is_among names operands_id ≡ false → has_single (drop 1 words) ≡ false
    → HasKind (fault_of (command_app name names) words) e → (kind_of e ≡ OutOfMemory → ⊥) → parts_of names (drop 1 words) ≡ None
read_err name names words e none single has other =
    err_by (parts_of names (drop 1 words)) (fault_at name names (drop 1 words)) (walked_words names (drop 1 words)) e
    (words_read name names (built_rules names) (has_rules names none) (drop 1 words) single)
    (subst (λ (k : Kinds). HasKind k e) (fault_is name names words) has) other

-- ---- the same, of a command that was made of a row

pub finds : (name : Text) (names words : List Text) (app : App) (m : ArgMatches) → is_among names operands_id ≡ false → has_single (drop 1 words) ≡ false
    → app ≡ command_app name names → (is_simple_and_free app ≡ true → fault_of app words ≡ []) → HasMatchesOf app words m
    → FindsParts names (parts_of names (drop 1 words)) m
finds name names words app m none single is faults has =
    read_ok name names words m none single
    ((λ i. fault_of (sym is i) words) ∙ faults (ap is_simple_and_free is ∙ command_is_free name names))
    (subst (λ (a : App). HasMatchesOf a words m) is has)

pub refuses : (name : Text) (names words : List Text) (app : App) (e : Error) → is_among names operands_id ≡ false → has_single (drop 1 words) ≡ false
    → app ≡ command_app name names → (is_simple_and_free app ≡ true → HasKind (fault_of app words) e) → (kind_of e ≡ OutOfMemory → ⊥)
    → parts_of names (drop 1 words) ≡ None
refuses name names words app e none single is faults other =
    read_err name names words e none single
    (subst (λ (a : App). HasKind (fault_of a words) e) is (faults (ap is_simple_and_free is ∙ command_is_free name names))) other
