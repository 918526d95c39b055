-- `clap` reads exactly the words that have parts, and finds those parts.
use Rattle.std.proofs.Common.{◌≡◌, ◌∙◌, ℕ, Bool, true, false, List, [], ◌∷◌, map, Option, Some, None, refl, sym, ap, subst, true≢false}
use Rattle.std.specs.Prelude.{◌&&◌, ◌||◌, if◌then◌else◌, nat_lt}
use Rattle.std.specs.Option.{option_map_or}
use Rattle.std.specs.Str.{bytes_eq}
use Rattle.std.proofs.lemmas.Slice.Eq.{bytes_eq-Decides}
use Rattle.clap.specs.Lexer.{long_of, short_of}
use Rattle.clap.specs.Kinds.{Kinds, or_else}
use Rattle.clap.specs.Walk.{Held, Row, Rule, Step, Waiting, Walk, after_step, arg_by_id, arg_by_index, arg_by_long, idle, next, plain_word, positional, reacted, settled, settled_rows, to_positional, trailing, used_by_id, value, walked, is_pending, pushed}
use Rattle.clap.specs.Walk as walk
use Rattle.clap.specs.Faults.{long_fault, positional_fault, settle_fault, stray_fault, turn_fault, use_fault, walk_fault}
use Rattle.clap.specs.declared.error.kind.ErrorKind.TheVariants as kind
use Rattle.program_words.specs.Words.{Part, Word, given, operand, has_single, is_among, part_met, parts_from, single_at, with_part, word_of}
use Rattle.program_words.specs.Words as words
use Rattle.program_words.specs.ClapCommand.{operands_id}
use Rattle.program_words.proofs.ClapRules.{HasRules, built_operand, built_option, built_shape}
use Rattle.program_words.proofs.WordViews.{is_ending, is_option, is_plain, is_single, two_hyphens, view_of}
use Rattle.program_words.proofs.ClapWalk.{IsReady, Reads, Resting, Text, after_operand, at_rest, end_rows, fault_by, fault_ending, fault_long, fault_plain, first_empty, held_for, long_as, met_as, met_ending, met_long, met_plain, part_reads, row_added, total_fault, turn_by, turn_fails, turn_reads, waiting_for, walk_at, walked_by}

never : {X : Type 0} (b : Bool) (x y : X) → (if b && false then x else y) ≡ y
never true x y = refl
never false x y = refl

or_false : (b : Bool) → (b || false) ≡ b
or_false true = refl
or_false false = refl

equal_texts : (a : Text) → bytes_eq a a ≡ true
equal_texts a = (bytes_eq-Decides a a).1 refl

module _ (name : Text) (names : List Text) (rules : List Rule) (facts : HasRules names rules) where
  abbrev held_one : Text → Text → List Row → ℕ → Held
  held_one id text rows skip = record { rows = rows; pending = Some (id, text ∷ []); skip = skip }

  ready_option : (x text : Text) (rows : List Row) (skip : ℕ) → is_among names x ≡ true → IsReady rules (held_one x text rows skip) (row_added (given x text) rows)
  ready_option x text rows skip among = record {
    fault = ap (λ (o : Option Rule). option_map_or (λ a. use_fault false a (text ∷ []) rows) o []) (facts.by_id x among);
    rows_are = ap (λ (o : Option Rule). used_by_id o (text ∷ []) rows) (facts.by_id x among);
  }

  ready_operand : (text : Text) (rows : List Row) (skip : ℕ) → IsReady rules (held_one operands_id text rows skip) (row_added (operand text) rows)
  ready_operand text rows skip = record {
    fault = ap (λ (o : Option Rule). option_map_or (λ a. use_fault false a (text ∷ []) rows) o []) facts.operand;
    rows_are = ap (λ (o : Option Rule). used_by_id o (text ∷ []) rows) facts.operand;
  }

  -- an option without a value is a fault
  waits_fault : (x : Text) (rows : List Row) (skip : ℕ) → is_among names x ≡ true → settle_fault rules false (held_for x rows skip) ≡ [] → ⊥
  waits_fault x rows skip among e =
      let is : settle_fault rules false (held_for x rows skip) ≡ kind.InvalidValue ∷ [] =
      ap (λ (o : Option Rule). option_map_or (λ a. use_fault false a [] rows) o []) (facts.by_id x among) in
      let bad : kind.InvalidValue ∷ [] ≡ [] = sym is ∙ e in cc

  -- ---- a word that goes to the operands

  value_fault : (h : Held) → fault_by name rules [] (h, value) ≡ settle_fault rules false h
  value_fault h =
      ap (λ (o : Option Rule). option_map_or (λ a. positional_fault rules false a h) o (stray_fault (built_shape name rules))) facts.by_index
      ∙ never (is_pending built_operand h.pending) [] (settle_fault rules false h)

  value_walked : (h : Held) (rows : List Row) (word : Text) (waiting : Waiting) (t : Bool) → settled_rows rules h.pending h.rows ≡ rows
      → after_step rules word (walk_at h waiting t) h value ≡ walk_at (held_one operands_id word rows h.skip) positional t
  value_walked h rows word waiting t is =
      ap (λ (o : Option Rule). to_positional rules o word (walk_at h waiting t) h) facts.by_index
      ∙ ((λ i. walk_at (pushed operands_id word (never (is_pending built_operand h.pending) h (settled rules h) i)) positional (or_false t i))
      ∙ (λ i. walk_at (held_one operands_id word (is i) h.skip) positional t))

  -- ---- after `--`

  trailing_turn : (h : Held) (waiting : Waiting) (word : Text) → turn_fault (built_shape name rules) [] (walk_at h waiting true) word ≡ settle_fault rules false h
  trailing_turn h waiting word = value_fault h

  trailing_walked : (h : Held) (rows : List Row) (waiting : Waiting) (word : Text) → settled_rows rules h.pending h.rows ≡ rows
      → walked rules [] (walk_at h waiting true) word ≡ walk_at (held_one operands_id word rows h.skip) positional true
  unfolding walked
  trailing_walked h rows waiting word is = value_walked h rows word waiting true is

  trailing_reads : (words : List Text) (h : Held) (rows : List Row) (waiting : Waiting) → IsReady rules h rows
      → Reads (Some (map operand words)) (total_fault name rules (walk_at h waiting true) words) (end_rows rules (walk_at h waiting true) words) rows
  unfolding walk_fault
  trailing_reads [] h rows waiting ready = (ready.fault, ready.rows_are)
  trailing_reads (word ∷ rest) h rows waiting ready =
      turn_reads name rules (walk_at h waiting true) (walk_at (held_one operands_id word rows h.skip) positional true) word rest (Some (operand word ∷ map operand rest)) rows
      (trailing_turn h waiting word ∙ ready.fault) (trailing_walked h rows waiting word ready.rows_are)
      (trailing_reads rest (held_one operands_id word rows h.skip) (row_added (operand word) rows) positional (ready_operand word rows h.skip))

  trailing_fails : (words : List Text) (x : Text) (rows : List Row) (skip : ℕ) (waiting : Waiting) → is_among names x ≡ true
      → total_fault name rules (walk_at (held_for x rows skip) waiting true) words ≡ [] → ⊥
  unfolding walk_fault
  trailing_fails [] x rows skip waiting among e = waits_fault x rows skip among e
  trailing_fails (word ∷ rest) x rows skip waiting among e =
      turn_fails name rules (walk_at (held_for x rows skip) waiting true) word rest
      (λ none. waits_fault x rows skip among (sym (trailing_turn (held_for x rows skip) waiting word) ∙ none)) e

  -- ---- the words before it

  -- nothing waits for a value, and so are the words read
  abbrev RestReads : List Text → Type 0
  RestReads words = (h : Held) (rows : List Row) (r : Resting) → IsReady rules h rows
      → Reads (parts_from names words None) (total_fault name rules (walk_at h (waiting_for r) false) words) (end_rows rules (walk_at h (waiting_for r) false) words) rows

  -- an option waits for its value
  abbrev WaitReads : List Text → Type 0
  WaitReads words = (x : Text) → is_among names x ≡ true → (rows : List Row) (skip : ℕ)
      → Reads (parts_from names words (Some x)) (total_fault name rules (walk_at (held_for x rows skip) (walk.option x) false) words)
      (end_rows rules (walk_at (held_for x rows skip) (walk.option x) false) words) rows

  plain_at_rest : (h : Held) (r : Resting) (word : Text) → plain_word rules (waiting_for r) word h ≡ (h, value)
  plain_at_rest h at_rest word = refl
  plain_at_rest h after_operand word = refl

  plain_rest : (word : Text) (rest : List Text) → word_of word ≡ words.plain → bytes_eq word two_hyphens ≡ false → long_of word ≡ None → short_of word ≡ None
      → RestReads rest → RestReads (word ∷ rest)
  plain_rest word rest is e long short later h rows r ready =
      let met : met_as rules h (waiting_for r) word ≡ (h, value) = met_plain rules h (waiting_for r) word e long short ∙ plain_at_rest h r word in
      subst (λ (k : Word). Reads (part_met names None k word rest (parts_from names rest)) (total_fault name rules (walk_at h (waiting_for r) false) (word ∷ rest))
      (end_rows rules (walk_at h (waiting_for r) false) (word ∷ rest)) rows) (sym is)
      (turn_reads name rules (walk_at h (waiting_for r) false) (walk_at (held_one operands_id word rows h.skip) positional false) word rest
      (with_part (operand word) (parts_from names rest None)) rows
      (turn_by name rules h (waiting_for r) word [] (h, value) (fault_plain name rules h (waiting_for r) word e long short) met ∙ (value_fault h ∙ ready.fault))
      (walked_by rules h (waiting_for r) word (h, value) met ∙ value_walked h rows word (waiting_for r) false ready.rows_are)
      (part_reads (operand word) (parts_from names rest None) _ _ rows
      (later (held_one operands_id word rows h.skip) (row_added (operand word) rows) after_operand (ready_operand word rows h.skip))))

  plain_value : (x : Text) (rows : List Row) (skip : ℕ) (word : Text) → is_among names x ≡ true
      → plain_word rules (walk.option x) word (held_for x rows skip) ≡ (held_one x word rows skip, next idle)
  plain_value x rows skip word among =
      (λ i. ((walk.option_word (facts.by_id x among i) x word (held_for x rows skip)).0, next (walk.option_word (facts.by_id x among i) x word (held_for x rows skip)).1))
      ∙ (λ i. (held_one x word rows skip, next (if nat_lt (if equal_texts x i then 1 else 0) 1 then walk.option x else idle)))

  plain_wait : (word : Text) (rest : List Text) → word_of word ≡ words.plain → bytes_eq word two_hyphens ≡ false → long_of word ≡ None → short_of word ≡ None
      → RestReads rest → WaitReads (word ∷ rest)
  plain_wait word rest is e long short later x among rows skip =
      let h : Held = held_for x rows skip in
      let met : met_as rules h (walk.option x) word ≡ (held_one x word rows skip, next idle) =
      met_plain rules h (walk.option x) word e long short ∙ plain_value x rows skip word among in
      subst (λ (k : Word). Reads (part_met names (Some x) k word rest (parts_from names rest)) (total_fault name rules (walk_at h (walk.option x) false) (word ∷ rest))
      (end_rows rules (walk_at h (walk.option x) false) (word ∷ rest)) rows) (sym is)
      (turn_reads name rules (walk_at h (walk.option x) false) (walk_at (held_one x word rows skip) idle false) word rest
      (with_part (given x word) (parts_from names rest None)) rows
      (turn_by name rules h (walk.option x) word [] (held_one x word rows skip, next idle) (fault_plain name rules h (walk.option x) word e long short) met)
      (walked_by rules h (walk.option x) word (held_one x word rows skip, next idle) met)
      (part_reads (given x word) (parts_from names rest None) _ _ rows
      (later (held_one x word rows skip) (row_added (given x word) rows) at_rest (ready_option x word rows skip among))))

  ending_rest : (word : Text) (rest : List Text) → word_of word ≡ words.ending → bytes_eq word two_hyphens ≡ true → RestReads (word ∷ rest)
  ending_rest word rest is e h rows r ready =
      let met : met_as rules h (waiting_for r) word ≡ (h, trailing 1) = met_ending rules h (waiting_for r) word e in
      subst (λ (k : Word). Reads (part_met names None k word rest (parts_from names rest)) (total_fault name rules (walk_at h (waiting_for r) false) (word ∷ rest))
      (end_rows rules (walk_at h (waiting_for r) false) (word ∷ rest)) rows) (sym is)
      (turn_reads name rules (walk_at h (waiting_for r) false) (walk_at h (waiting_for r) true) word rest (Some (map operand rest)) rows
      (turn_by name rules h (waiting_for r) word [] (h, trailing 1) (fault_ending name rules h (waiting_for r) word e) met)
      (walked_by rules h (waiting_for r) word (h, trailing 1) met)
      (trailing_reads rest h rows (waiting_for r) ready))

  ending_wait : (word : Text) (rest : List Text) → word_of word ≡ words.ending → bytes_eq word two_hyphens ≡ true → WaitReads (word ∷ rest)
  ending_wait word rest is e x among rows skip =
      let h : Held = held_for x rows skip in
      let met : met_as rules h (walk.option x) word ≡ (h, trailing 1) = met_ending rules h (walk.option x) word e in
      subst (λ (k : Word). Reads (part_met names (Some x) k word rest (parts_from names rest)) (total_fault name rules (walk_at h (walk.option x) false) (word ∷ rest))
      (end_rows rules (walk_at h (walk.option x) false) (word ∷ rest)) rows) (sym is)
      (turn_reads name rules (walk_at h (walk.option x) false) (walk_at h (walk.option x) true) word rest None rows
      (turn_by name rules h (walk.option x) word [] (h, trailing 1) (fault_ending name rules h (walk.option x) word e) met)
      (walked_by rules h (walk.option x) word (h, trailing 1) met)
      (trailing_fails rest x rows skip (walk.option x) among))

  -- the option that a long name finds
  found_by : (b : Bool) (x : Text) → is_among names x ≡ b → arg_by_long rules x ≡ (if b then Some (built_option x) else None)
  found_by b x e = facts.by_long x ∙ ap (λ (c : Bool). if c then Some (built_option x) else None) e

  unknown_rest : (word : Text) (rest : List Text) (x : Text) (v : Option Text) → is_among names x ≡ false → bytes_eq word two_hyphens ≡ false → long_of word ≡ Some (x, v)
      → (h : Held) (waiting : Waiting) → total_fault name rules (walk_at h waiting false) (word ∷ rest) ≡ [] → ⊥
  unknown_rest word rest x v unknown e long h waiting =
      let found : arg_by_long rules x ≡ None = found_by false x unknown in
      let turn = turn_by name rules h waiting word (long_fault rules false None v h) (long_as rules h waiting word None v)
      (fault_long name rules h waiting word x v None e long found) (met_long rules h waiting word x v None e long found) in
      turn_fails name rules (walk_at h waiting false) word rest (λ none. let bad : kind.UnknownArgument ∷ [] ≡ [] = sym turn ∙ none in cc)

  -- an option in place of a value
  option_wait : (word : Text) (rest : List Text) (x y : Text) (v : Option Text) (b : Bool) → is_among names y ≡ b → bytes_eq word two_hyphens ≡ false → long_of word ≡ Some (y, v)
      → is_among names x ≡ true → (rows : List Row) (skip : ℕ)
      → total_fault name rules (walk_at (held_for x rows skip) (walk.option x) false) (word ∷ rest) ≡ [] → ⊥
  option_wait word rest x y v false unknown e long among rows skip = unknown_rest word rest y v unknown e long (held_for x rows skip) (walk.option x)
  option_wait word rest x y None true known e long among rows skip =
      let h : Held = held_for x rows skip in
      let found : arg_by_long rules y ≡ Some (built_option y) = found_by true y known in
      let turn = turn_by name rules h (walk.option x) word (long_fault rules false (Some (built_option y)) None h) (long_as rules h (walk.option x) word (Some (built_option y)) None)
      (fault_long name rules h (walk.option x) word y None (Some (built_option y)) e long found)
      (met_long rules h (walk.option x) word y None (Some (built_option y)) e long found) in
      turn_fails name rules (walk_at h (walk.option x) false) word rest
      (λ none. waits_fault x rows skip among (first_empty _ _ (sym turn ∙ none)))
  option_wait word rest x y (Some v) true known e long among rows skip =
      let h : Held = held_for x rows skip in
      let found : arg_by_long rules y ≡ Some (built_option y) = found_by true y known in
      let turn = turn_by name rules h (walk.option x) word (long_fault rules false (Some (built_option y)) (Some v) h)
      (long_as rules h (walk.option x) word (Some (built_option y)) (Some v))
      (fault_long name rules h (walk.option x) word y (Some v) (Some (built_option y)) e long found)
      (met_long rules h (walk.option x) word y (Some v) (Some (built_option y)) e long found) in
      turn_fails name rules (walk_at h (walk.option x) false) word rest
      (λ none. waits_fault x rows skip among (first_empty _ _ (first_empty _ _ (sym turn ∙ none))))

  option_rest : (word : Text) (rest : List Text) (x : Text) (v : Option Text) (b : Bool) → is_among names x ≡ b → bytes_eq word two_hyphens ≡ false → long_of word ≡ Some (x, v)
      → RestReads rest → WaitReads rest → (h : Held) (rows : List Row) (r : Resting) → IsReady rules h rows
      → Reads (part_met names None (words.option x v) word rest (parts_from names rest)) (total_fault name rules (walk_at h (waiting_for r) false) (word ∷ rest))
      (end_rows rules (walk_at h (waiting_for r) false) (word ∷ rest)) rows
  option_rest word rest x None false unknown e long later waits h rows r ready =
      subst (λ (c : Bool). Reads (if c then parts_from names rest (Some x) else None) (total_fault name rules (walk_at h (waiting_for r) false) (word ∷ rest))
      (end_rows rules (walk_at h (waiting_for r) false) (word ∷ rest)) rows) (sym unknown)
      (unknown_rest word rest x None unknown e long h (waiting_for r))
  option_rest word rest x (Some v) false unknown e long later waits h rows r ready =
      subst (λ (c : Bool). Reads (if c then with_part (given x v) (parts_from names rest None) else None) (total_fault name rules (walk_at h (waiting_for r) false) (word ∷ rest))
      (end_rows rules (walk_at h (waiting_for r) false) (word ∷ rest)) rows) (sym unknown)
      (unknown_rest word rest x (Some v) unknown e long h (waiting_for r))
  option_rest word rest x None true known e long later waits h rows r ready =
      let found : arg_by_long rules x ≡ Some (built_option x) = found_by true x known in
      let met : met_as rules h (waiting_for r) word ≡ (held_for x (settled_rows rules h.pending h.rows) h.skip, next (walk.option x)) =
      met_long rules h (waiting_for r) word x None (Some (built_option x)) e long found in
      subst (λ (c : Bool). Reads (if c then parts_from names rest (Some x) else None) (total_fault name rules (walk_at h (waiting_for r) false) (word ∷ rest))
      (end_rows rules (walk_at h (waiting_for r) false) (word ∷ rest)) rows) (sym known)
      (turn_reads name rules (walk_at h (waiting_for r) false) (walk_at (held_for x rows h.skip) (walk.option x) false) word rest (parts_from names rest (Some x)) rows
      (turn_by name rules h (waiting_for r) word [] (held_for x (settled_rows rules h.pending h.rows) h.skip, next (walk.option x))
      (fault_long name rules h (waiting_for r) word x None (Some (built_option x)) e long found ∙ ready.fault) met)
      (walked_by rules h (waiting_for r) word _ met ∙ (λ i. walk_at (held_for x (ready.rows_are i) h.skip) (walk.option x) false))
      (waits x known rows h.skip))
  option_rest word rest x (Some v) true known e long later waits h rows r ready =
      let found : arg_by_long rules x ≡ Some (built_option x) = found_by true x known in
      let after : Held = reacted rules (built_option x) (v ∷ []) h in
      let met : met_as rules h (waiting_for r) word ≡ (after, next idle) =
      met_long rules h (waiting_for r) word x (Some v) (Some (built_option x)) e long found in
      subst (λ (c : Bool). Reads (if c then with_part (given x v) (parts_from names rest None) else None) (total_fault name rules (walk_at h (waiting_for r) false) (word ∷ rest))
      (end_rows rules (walk_at h (waiting_for r) false) (word ∷ rest)) rows) (sym known)
      (turn_reads name rules (walk_at h (waiting_for r) false) (walk_at after idle false) word rest (with_part (given x v) (parts_from names rest None)) rows
      (turn_by name rules h (waiting_for r) word [] (after, next idle)
      (fault_long name rules h (waiting_for r) word x (Some v) (Some (built_option x)) e long found ∙ ap (λ (k : Kinds). or_else k []) ready.fault) met)
      (walked_by rules h (waiting_for r) word _ met)
      (part_reads (given x v) (parts_from names rest None) _ _ rows
      (later after (row_added (given x v) rows) at_rest (record { fault = refl; rows_are = ap (λ (rs : List Row). row_added (given x v) rs) ready.rows_are }))))

  both_read : (words : List Text) → has_single words ≡ false → RestReads words × WaitReads words
  unfolding walk_fault
  both_read [] single = (
    λ h rows r ready. (ready.fault, ready.rows_are),
    λ x among rows skip. waits_fault x rows skip among,
  )
  both_read (word ∷ rest) single = elim (view_of word) [
    | is_plain is e long short ↦
        let ih = both_read rest (subst (λ (k : Word). single_at k (has_single rest) ≡ false) is single) in
        (plain_rest word rest is e long short ih.0, plain_wait word rest is e long short ih.0)
    | is_single is ↦
        let bad : true ≡ false = subst (λ (k : Word). single_at k (has_single rest) ≡ false) is single in absurd (true≢false bad)
    | is_ending is e ↦ (ending_rest word rest is e, ending_wait word rest is e)
    | is_option x v is e long ↦
        let ih = both_read rest (subst (λ (k : Word). single_at k (has_single rest) ≡ false) is single) in (
          λ h rows r ready. subst (λ (k : Word). Reads (part_met names None k word rest (parts_from names rest)) (total_fault name rules (walk_at h (waiting_for r) false) (word ∷ rest))
              (end_rows rules (walk_at h (waiting_for r) false) (word ∷ rest)) rows) (sym is)
              (option_rest word rest x v (is_among names x) refl e long ih.0 ih.1 h rows r ready),
          λ y among rows skip. subst (λ (k : Word). Reads (part_met names (Some y) k word rest (parts_from names rest))
              (total_fault name rules (walk_at (held_for y rows skip) (walk.option y) false) (word ∷ rest))
              (end_rows rules (walk_at (held_for y rows skip) (walk.option y) false) (word ∷ rest)) rows) (sym is)
              (option_wait word rest y x v (is_among names x) refl e long among rows skip),
        )
  ]

  pub words_read : (words : List Text) → has_single words ≡ false
      → Reads (parts_from names words None) (total_fault name rules (walk_at walk.nothing_held idle false) words) (end_rows rules (walk_at walk.nothing_held idle false) words) []
  words_read words single = (both_read words single).0 walk.nothing_held [] at_rest (record { fault = refl; rows_are = refl })
