-- The rules of a command as `clap` builds them, and what its look-ups give.
use Rattle.std.proofs.Common.{◌≡◌, ◌∙◌, ℕ, Bool, true, false, not, List, [], ◌∷◌, ◌++◌, map, Option, Some, None, refl, sym, ap, true≢false}
use Rattle.std.specs.Prelude.{◌&&◌, ◌||◌, if◌then◌else◌, count_by, is_some}
use Rattle.std.specs.List.{list_any, list_all}
use Rattle.std.specs.Str.{bytes_eq}
use Rattle.std.proofs.lemmas.Slice.Eq.{bytes_eq-Decides}
use Rattle.clap.specs.Walk.{Rule, arg_by_id, arg_by_index, arg_by_long, is_early_multiple}
use Rattle.clap.specs.Simple.{App, Shape, built, filled_from, is_buildable, is_ready, is_ready_leaf, is_simple}
use Rattle.clap.specs.Faults.{is_free_app, is_simple_and_free}
use Rattle.clap.specs.declared.builder.value_parser.ValueParser.TheVariants as vp
use Rattle.program_words.specs.Words.{is_among}
use Rattle.program_words.specs.ClapCommand.{command_app, command_shape, operand_rule, operands_id, option_rule}

abbrev pub built_option : List ℕ → Rule
built_option name = record (option_rule name) {
  parser = Some vp.String;
  range = Some (record { start_inclusive = 1; end_inclusive = 1 });
}

abbrev pub built_operand : Rule
built_operand = record operand_rule {
  index = Some 1;
  parser = Some vp.String;
  range = Some (record { start_inclusive = 1; end_inclusive = 1 });
}

abbrev pub built_rules : List (List ℕ) → List Rule
built_rules names = map built_option names ++ built_operand ∷ []

abbrev pub rules_for : List (List ℕ) → List Rule
rules_for names = map option_rule names ++ operand_rule ∷ []

filled_rules : (names : List (List ℕ)) → filled_from 1 (rules_for names) ≡ built_rules names
filled_rules [] = refl
filled_rules (name ∷ names) = ap (λ rest. built_option name ∷ rest) (filled_rules names)

-- a built command
abbrev pub built_shape : List ℕ → List Rule → Shape
built_shape name rules = record (command_shape name rules) { disable_help_subcommand = true; is_built = true }

abbrev pub built_app : List ℕ → List Rule → App
built_app name rules = record { top = built_shape name rules; subs = [] }

pub built_command : (name : List ℕ) (names : List (List ℕ)) → built (command_app name names) ≡ built_app name (built_rules names)
built_command name names = ap (built_app name) (filled_rules names)

-- ---- the command is simple

all_of_rules : (p : Rule → Bool) (option : List ℕ → Rule) (operand : Rule) → ((name : List ℕ) → p (option name) ≡ true) → p operand ≡ true
    → (names : List (List ℕ)) → list_all p (map option names ++ operand ∷ []) ≡ true
all_of_rules p option operand each last [] = ap (λ b. b && true) last
all_of_rules p option operand each last (name ∷ names) =
    ap (λ b. b && list_all p (map option names ++ operand ∷ [])) (each name) ∙ all_of_rules p option operand each last names

one_index : (names : List (List ℕ)) → count_by (λ (a : Rule). is_some a.index) (built_rules names) ≡ 1
one_index [] = refl
one_index (name ∷ names) = one_index names

none_early : (names : List (List ℕ)) → list_any (is_early_multiple 1) (built_rules names) ≡ false
none_early [] = refl
none_early (name ∷ names) = none_early names

in_order : (names : List (List ℕ)) → not (list_any (is_early_multiple (count_by (λ (a : Rule). is_some a.index) (built_rules names))) (built_rules names)) ≡ true
in_order names = ap (λ n. not (list_any (is_early_multiple n) (built_rules names))) (one_index names) ∙ ap not (none_early names)

abbrev is_ready_app : App → Bool
is_ready_app a = is_ready a.top && list_all is_ready_leaf a.subs

abbrev simple_in : Bool → Bool → Bool → Bool
simple_in given all ordered = (given && true) && ((all && ordered) && true)

pub command_is_simple : (name : List ℕ) (names : List (List ℕ)) → is_simple (command_app name names) ≡ true
command_is_simple name names =
    (λ i. is_buildable (command_app name names) && (is_ready_app (built_command name names i)))
    ∙ (λ i. simple_in (all_of_rules (λ a. a.is_simple) option_rule operand_rule (λ _. refl) refl names i)
    (all_of_rules (λ a. a.is_simple) built_option built_operand (λ _. refl) refl names i) (in_order names i))

pub command_is_free : (name : List ℕ) (names : List (List ℕ)) → is_simple_and_free (command_app name names) ≡ true
command_is_free name names =
    (λ i. command_is_simple name names i && is_free_app (built_command name names i))
    ∙ ap (λ b. b && true) (all_of_rules (λ a. a.is_free) built_option built_operand (λ _. refl) refl names)

-- ---- the look-ups

choose : (b m : Bool) (u v : Rule) (r : Option Rule) → (b ≡ true → u ≡ v) → r ≡ (if m then Some v else None)
    → (if b || false then Some u else r) ≡ (if b || m then Some v else None)
choose true m u v r same e = ap Some (same refl)
choose false m u v r same e = e

same_text : (a b : List ℕ) → bytes_eq a b ≡ true → a ≡ b
same_text a b e = (bytes_eq-Decides a b).0 e

by_long : (names : List (List ℕ)) (x : List ℕ) → arg_by_long (built_rules names) x ≡ (if is_among names x then Some (built_option x) else None)
by_long [] x = refl
by_long (name ∷ names) x = choose (bytes_eq name x) (is_among names x) (built_option name) (built_option x) (arg_by_long (built_rules names) x)
    (λ e. ap built_option (same_text name x e)) (by_long names x)

choose_id : (b m : Bool) (u v : Rule) (r : Option Rule) → (b ≡ true → u ≡ v) → (b || m) ≡ true → (m ≡ true → r ≡ Some v)
    → (if b then Some u else r) ≡ Some v
choose_id true m u v r same among later = ap Some (same refl)
choose_id false m u v r same among later = later among

by_id : (names : List (List ℕ)) (x : List ℕ) → is_among names x ≡ true → arg_by_id (built_rules names) x ≡ Some (built_option x)
by_id [] x among = absurd (true≢false (sym among))
by_id (name ∷ names) x among = choose_id (bytes_eq name x) (is_among names x) (built_option name) (built_option x) (arg_by_id (built_rules names) x)
    (λ e. ap built_option (same_text name x e)) among (by_id names x)

past_id : (b m : Bool) (u v : Rule) (r : Option Rule) → (b || m) ≡ false → (m ≡ false → r ≡ Some v) → (if b then Some u else r) ≡ Some v
past_id true m u v r apart later = absurd (true≢false apart)
past_id false m u v r apart later = later apart

operand_by_id : (names : List (List ℕ)) → is_among names operands_id ≡ false → arg_by_id (built_rules names) operands_id ≡ Some built_operand
operand_by_id [] apart = refl
operand_by_id (name ∷ names) apart = past_id (bytes_eq name operands_id) (is_among names operands_id) (built_option name) built_operand
    (arg_by_id (built_rules names) operands_id) apart (operand_by_id names)

by_index : (names : List (List ℕ)) → arg_by_index (built_rules names) 1 ≡ Some built_operand
by_index [] = refl
by_index (name ∷ names) = by_index names

-- what the walk asks of the rules
pub record HasRules (names : List (List ℕ)) (rules : List Rule) : Type 0 where
  pub by_long : (x : List ℕ) → arg_by_long rules x ≡ (if is_among names x then Some (built_option x) else None)
  pub by_id : (x : List ℕ) → is_among names x ≡ true → arg_by_id rules x ≡ Some (built_option x)
  pub operand : arg_by_id rules operands_id ≡ Some built_operand
  pub by_index : arg_by_index rules 1 ≡ Some built_operand

pub has_rules : (names : List (List ℕ)) → is_among names operands_id ≡ false → HasRules names (built_rules names)
has_rules names apart = record {
  by_long = by_long names;
  by_id = by_id names;
  operand = operand_by_id names apart;
  by_index = by_index names;
}
