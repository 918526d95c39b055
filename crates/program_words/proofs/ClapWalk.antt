-- What `clap` makes of the words after a command's name: their parts.
use Rattle.std.proofs.Common.{◌≡◌, ◌∙◌, ℕ, Bool, true, false, List, [], ◌∷◌, Option, Some, None, refl, sym, subst}
use Rattle.std.specs.Prelude.{if◌then◌else◌, fold}
use Rattle.std.specs.Option.{option_map_or}
use Rattle.std.specs.Str.{bytes_eq}
use Rattle.clap.specs.Lexer.{long_of, short_of}
use Rattle.clap.specs.Kinds.{Kinds, or_else}
use Rattle.clap.specs.Walk.{Held, Outcome, Row, Rule, Step, Waiting, Walk, after_flag, after_step, arg_by_id, arg_by_index, arg_by_long, done, idle, long_met, long_or_other, long_word, next, option_word, plain_word, positional, positional_held, pushed, reacted, settled, settled_rows, short_or_plain, subcommand_met, subcommand_or_other, takes_several, to_positional, trailing, used_by_id, value, waits, walked, with_values, word_met, is_pending}
use Rattle.clap.specs.Walk as walk
use Rattle.clap.specs.Faults.{bundle_fault, flag_word_fault, long_fault, other_fault, settle_fault, step_fault, turn_fault, walk_fault, word_fault}
use Rattle.clap.specs.declared.builder.value_parser.Reading.TheVariants.{AsWritten}
use Rattle.clap.specs.declared.parser.matches.ValueSource.TheVariants.{CommandLine}
use Rattle.program_words.specs.Words.{Part, given, operand, with_part}
use Rattle.program_words.specs.ClapCommand.{operands_id}
use Rattle.program_words.proofs.ClapRules.{built_shape}
use Rattle.program_words.proofs.WordViews.{two_hyphens}

abbrev pub Text : Type 0
Text = List ℕ

-- ---- rows

-- the rows with one more part
abbrev pub row_added : Part → List Row → List Row
row_added (operand text) rows = with_values operands_id AsWritten CommandLine (text ∷ []) rows
row_added (given name text) rows = with_values name AsWritten CommandLine (text ∷ []) rows

abbrev pub rows_with : List Row → List Part → List Row
rows_with rows [] = rows
rows_with rows (part ∷ parts) = rows_with (row_added part rows) parts

-- ---- where the walk stands

abbrev pub walk_at : Held → Waiting → Bool → Walk
walk_at h waiting is_trailing = record { held = h; waiting = waiting; position = 1; is_trailing = is_trailing; stopped = None }

-- all that was read of an option or of the operands has its value, and the rows with it are these
pub record IsReady (rules : List Rule) (h : Held) (rows : List Row) : Type 0 where
  pub fault : settle_fault rules false h ≡ []
  pub rows_are : settled_rows rules h.pending h.rows ≡ rows

-- nothing waits for a value
pub data Resting : Type 0 where
  at_rest : Resting
  after_operand : Resting

abbrev pub waiting_for : Resting → Waiting
waiting_for at_rest = idle
waiting_for after_operand = positional

-- an option waits for its value
abbrev pub held_for : Text → List Row → ℕ → Held
held_for name rows skip = record { rows = rows; pending = Some (name, []); skip = skip }

-- ---- the end of the walk

abbrev pub walk_end : List Rule → Walk → List Text → Walk
walk_end rules w words = fold (walked rules []) w words

abbrev pub total_fault : Text → List Rule → Walk → List Text → Kinds
total_fault name rules w words =
    or_else (walk_fault (built_shape name rules) [] w words) (settle_fault rules false (walk_end rules w words).held)

abbrev pub end_rows : List Rule → Walk → List Text → List Row
end_rows rules w words = (settled rules (walk_end rules w words).held).rows

-- the walk has no fault and ends with the rows of the parts, or it has one
abbrev pub Reads : Option (List Part) → Kinds → List Row → List Row → Type 0
Reads None fault rows before = fault ≡ [] → ⊥
Reads (Some parts) fault rows before = (fault ≡ []) × (rows ≡ rows_with before parts)

pub first_empty : (a b : Kinds) → or_else a b ≡ [] → a ≡ []
first_empty [] b e = refl
first_empty (k ∷ ks) b e = e

pub part_reads : (part : Part) (o : Option (List Part)) (fault : Kinds) (rows before : List Row) → Reads o fault rows (row_added part before)
    → Reads (with_part part o) fault rows before
part_reads part None fault rows before h = h
part_reads part (Some parts) fault rows before h = h

-- ---- one word

none_met : (waiting : Waiting) (word : Text) → subcommand_met [] waiting word ≡ None
none_met idle word = refl
none_met (walk.option id) word = refl
none_met positional word = refl

-- what a word before any `--` is, and its fault
abbrev pub met_as : List Rule → Held → Waiting → Text → Held × Step
met_as rules h waiting word = word_met rules [] false waiting 1 word h

met_other : (rules : List Rule) (h : Held) (waiting : Waiting) (word : Text) → met_as rules h waiting word ≡ subcommand_or_other rules None waiting 1 word h
met_other rules h waiting word = λ i. subcommand_or_other rules (none_met waiting word i) waiting 1 word h

fault_other : (name : Text) (rules : List Rule) (h : Held) (waiting : Waiting) (word : Text)
    → word_fault (built_shape name rules) [] false waiting word h ≡ other_fault (built_shape name rules) None word h
fault_other name rules h waiting word = λ i. other_fault (built_shape name rules) (none_met waiting word i) word h

pub met_plain : (rules : List Rule) (h : Held) (waiting : Waiting) (word : Text) → bytes_eq word two_hyphens ≡ false → long_of word ≡ None → short_of word ≡ None
    → met_as rules h waiting word ≡ plain_word rules waiting word h
met_plain rules h waiting word e long short =
    met_other rules h waiting word
    ∙ ((λ i. if e i then (h, trailing 1) else long_or_other rules waiting word (long i) h)
    ∙ (λ i. short_or_plain rules waiting word (short i) h))

pub fault_plain : (name : Text) (rules : List Rule) (h : Held) (waiting : Waiting) (word : Text) → bytes_eq word two_hyphens ≡ false → long_of word ≡ None → short_of word ≡ None
    → word_fault (built_shape name rules) [] false waiting word h ≡ []
fault_plain name rules h waiting word e long short =
    fault_other name rules h waiting word
    ∙ ((λ i. if e i then [] else flag_word_fault rules false (long i) word h)
    ∙ (λ i. option_map_or (λ flags. bundle_fault rules false flags h) (short i) []))

pub met_ending : (rules : List Rule) (h : Held) (waiting : Waiting) (word : Text) → bytes_eq word two_hyphens ≡ true → met_as rules h waiting word ≡ (h, trailing 1)
met_ending rules h waiting word e =
    met_other rules h waiting word ∙ (λ i. if e i then (h, trailing 1) else long_or_other rules waiting word (long_of word) h)

pub fault_ending : (name : Text) (rules : List Rule) (h : Held) (waiting : Waiting) (word : Text) → bytes_eq word two_hyphens ≡ true
    → word_fault (built_shape name rules) [] false waiting word h ≡ []
fault_ending name rules h waiting word e =
    fault_other name rules h waiting word ∙ (λ i. if e i then [] else flag_word_fault rules false (long_of word) word h)

abbrev pub long_as : List Rule → Held → Waiting → Text → Option Rule → Option Text → Held × Step
long_as rules h waiting word found v = after_flag rules waiting word (long_met rules found v h).0 (long_met rules found v h).1

pub met_long : (rules : List Rule) (h : Held) (waiting : Waiting) (word x : Text) (v : Option Text) (found : Option Rule) → bytes_eq word two_hyphens ≡ false → long_of word ≡ Some (x, v)
    → arg_by_long rules x ≡ found → met_as rules h waiting word ≡ long_as rules h waiting word found v
met_long rules h waiting word x v found e long is =
    met_other rules h waiting word
    ∙ ((λ i. if e i then (h, trailing 1) else long_or_other rules waiting word (long i) h)
    ∙ (λ i. long_as rules h waiting word (is i) v))

pub fault_long : (name : Text) (rules : List Rule) (h : Held) (waiting : Waiting) (word x : Text) (v : Option Text) (found : Option Rule) → bytes_eq word two_hyphens ≡ false
    → long_of word ≡ Some (x, v) → arg_by_long rules x ≡ found → word_fault (built_shape name rules) [] false waiting word h ≡ long_fault rules false found v h
fault_long name rules h waiting word x v found e long is =
    fault_other name rules h waiting word
    ∙ ((λ i. if e i then [] else flag_word_fault rules false (long i) word h)
    ∙ (λ i. long_fault rules false (is i) v h))

-- ---- a turn

abbrev pub fault_by : Text → List Rule → Kinds → Held × Step → Kinds
fault_by name rules f met = or_else f (step_fault (built_shape name rules) 1 met.0 met.1)

pub turn_by : (name : Text) (rules : List Rule) (h : Held) (waiting : Waiting) (word : Text) (f : Kinds) (met : Held × Step)
    → word_fault (built_shape name rules) [] false waiting word h ≡ f → met_as rules h waiting word ≡ met
    → turn_fault (built_shape name rules) [] (walk_at h waiting false) word ≡ fault_by name rules f met
turn_by name rules h waiting word f met faults is = λ i. fault_by name rules (faults i) (is i)

pub walked_by : (rules : List Rule) (h : Held) (waiting : Waiting) (word : Text) (met : Held × Step) → met_as rules h waiting word ≡ met
    → walked rules [] (walk_at h waiting false) word ≡ after_step rules word (walk_at h waiting false) met.0 met.1
unfolding walked
walked_by rules h waiting word met is = λ i. after_step rules word (walk_at h waiting false) (is i).0 (is i).1

-- a turn with no fault, which leads to a walk that reads the rest
pub turn_reads : (name : Text) (rules : List Rule) (w after : Walk) (word : Text) (rest : List Text) (o : Option (List Part)) (before : List Row)
    → turn_fault (built_shape name rules) [] w word ≡ [] → walked rules [] w word ≡ after
    → Reads o (total_fault name rules after rest) (end_rows rules after rest) before
    → Reads o (total_fault name rules w (word ∷ rest)) (end_rows rules w (word ∷ rest)) before
unfolding walk_fault
turn_reads name rules w after word rest o before none is h =
    subst (λ (p : Kinds × Walk). Reads o
    (or_else (or_else p.0 (walk_fault (built_shape name rules) [] p.1 rest)) (settle_fault rules false (walk_end rules p.1 rest).held))
    (end_rows rules p.1 rest) before)
    (sym (λ i. (none i, is i))) h

-- a turn with a fault
pub turn_fails : (name : Text) (rules : List Rule) (w : Walk) (word : Text) (rest : List Text)
    → (turn_fault (built_shape name rules) [] w word ≡ [] → ⊥) → total_fault name rules w (word ∷ rest) ≡ [] → ⊥
unfolding walk_fault
turn_fails name rules w word rest fails e = fails (first_empty _ _ (first_empty _ _ e))
