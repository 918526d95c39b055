-- The values of an option or of the operands in the rows of parts.
use Rattle.std.proofs.Common.{◌≡◌, ◌∙◌, Bool, true, false, List, [], ◌∷◌, ◌++◌, map, Option, Some, None, refl, sym, ap, append_assoc}
use Rattle.std.proofs.lemmas.List.{append-nil}
use Rattle.std.specs.Prelude.{⊤, if◌then◌else◌, find, option_map, unwrap_or}
use Rattle.std.specs.Str.{bytes_eq}
use Rattle.std.proofs.lemmas.Slice.Eq.{bytes_eq-Decides}
use Rattle.clap.specs.Walk.{Row, all_of, more_values, with_values}
use Rattle.clap.specs.declared.builder.value_parser.Reading.TheVariants.{AsWritten}
use Rattle.clap.specs.declared.parser.matches.ValueSource.TheVariants.{CommandLine}
use Rattle.program_words.specs.Words.{Part, Word, given, operand, is_among, operands_of, part_met, parts_from, values_of, with_part, word_of}
use Rattle.program_words.specs.Words as words
use Rattle.program_words.specs.ClapCommand.{operands_id}
use Rattle.program_words.proofs.ClapWalk.{Text, rows_with}

abbrev pub values_in : Text → List Row → List Text
values_in id rows = unwrap_or (all_of id rows) []

same : (a b : Text) → bytes_eq a b ≡ true → a ≡ b
same a b e = (bytes_eq-Decides a b).0 e

is_same : (a b : Text) → a ≡ b → bytes_eq a b ≡ true
is_same a b e = (bytes_eq-Decides a b).1 e

abbrev more : Bool → List Text → Text → List Text
more b values text = if b then values ++ text ∷ [] else values

abbrev head_values : Bool → List Text → List Text → List Text
head_values b values others = if b then values else others

head_at : (id : Text) (r : Row) (rest : List Row) (b : Bool)
    → unwrap_or (option_map (λ (x : Row). x.values) (if b then Some r else find (λ (x : Row). bytes_eq x.id id) rest)) [] ≡ head_values b r.values (values_in id rest)
head_at id r rest true = refl
head_at id r rest false = refl

values-head : (id : Text) (r : Row) (rest : List Row) → values_in id (r ∷ rest) ≡ head_values (bytes_eq r.id id) r.values (values_in id rest)
values-head id r rest = head_at id r rest (bytes_eq r.id id)

-- the row of another id stays in front
apart_step : (b c : Bool) (mine theirs : List Text) (text : Text) (after : List Text) → (b ≡ true → c ≡ false) → after ≡ more c theirs text
    → head_values b mine after ≡ more c (head_values b mine theirs) text
apart_step true c mine theirs text after apart e = sym (ap (λ (x : Bool). more x mine text) (apart refl))
apart_step false c mine theirs text after apart e = e

here_step : (b : Bool) (mine theirs : List Text) (text : Text) → head_values b (mine ++ text ∷ []) theirs ≡ more b (head_values b mine theirs) text
here_step true mine theirs text = refl
here_step false mine theirs text = refl

abbrev added : Text → Text → List Row → List Row
added x text rows = with_values x AsWritten CommandLine (text ∷ []) rows

-- another id than that of the row
others : (id x : Text) (r : Row) (c : Bool) → bytes_eq r.id x ≡ false → bytes_eq x id ≡ c → bytes_eq r.id id ≡ true → c ≡ false
others id x r true e is here = sym (is_same r.id x (same r.id id here ∙ sym (same x id is))) ∙ e
others id x r false e is here = refl

added_at : (id x text : Text) (r : Row) (rest : List Row) (b : Bool) → bytes_eq r.id x ≡ b
    → values_in id (added x text rest) ≡ more (bytes_eq x id) (values_in id rest) text
    → values_in id (if b then more_values CommandLine (text ∷ []) r ++ rest else r ∷ added x text rest) ≡ more (bytes_eq x id) (values_in id (r ∷ rest)) text
added_at id x text r rest true e later =
    values-head id _ rest
    ∙ (here_step (bytes_eq r.id id) r.values (values_in id rest) text
    ∙ ((λ i. more (bytes_eq r.id id) (sym (values-head id r rest) i) text)
    ∙ (λ i. more (bytes_eq (same r.id x e i) id) (values_in id (r ∷ rest)) text)))
added_at id x text r rest false e later =
    values-head id r (added x text rest)
    ∙ (apart_step (bytes_eq r.id id) (bytes_eq x id) r.values (values_in id rest) text (values_in id (added x text rest))
    (λ here. others id x r (bytes_eq x id) e refl here) later
    ∙ (λ i. more (bytes_eq x id) (sym (values-head id r rest) i) text))

values_added : (id x text : Text) (rows : List Row) → values_in id (added x text rows) ≡ more (bytes_eq x id) (values_in id rows) text
values_added id x text [] = values-head id _ []
values_added id x text (r ∷ rest) = added_at id x text r rest (bytes_eq r.id x) refl (values_added id x text rest)

-- ---- the parts

-- each option that is given a value is one of the command's
abbrev pub AllKnown : List Text → List Part → Type 0
AllKnown names [] = ⊤
AllKnown names (operand text ∷ rest) = AllKnown names rest
AllKnown names (given name text ∷ rest) = (is_among names name ≡ true) × AllKnown names rest

abbrev pub HasKnown : List Text → Option (List Part) → Type 0
HasKnown names None = ⊤
HasKnown names (Some parts) = AllKnown names parts

abbrev IsKnown : List Text → Option Text → Type 0
IsKnown names None = ⊤
IsKnown names (Some name) = is_among names name ≡ true

operands_known : (names rest : List Text) → AllKnown names (map operand rest)
operands_known names [] = tt
operands_known names (word ∷ rest) = operands_known names rest

known_operand : (names : List Text) (text : Text) (o : Option (List Part)) → HasKnown names o → HasKnown names (with_part (operand text) o)
known_operand names text None h = tt
known_operand names text (Some parts) h = h

known_given : (names : List Text) (name text : Text) (o : Option (List Part)) → is_among names name ≡ true → HasKnown names o → HasKnown names (with_part (given name text) o)
known_given names name text None among h = tt
known_given names name text (Some parts) among h = (among, h)

where_known : (names : List Text) (b : Bool) (o : Option (List Part)) → (b ≡ true → HasKnown names o) → HasKnown names (if b then o else None)
where_known names true o h = h refl
where_known names false o h = tt

met_known : (names : List Text) (waiting : Option Text) (k : Word) (word : Text) (rest : List Text) (next : Option Text → Option (List Part)) → IsKnown names waiting
    → ((w : Option Text) → IsKnown names w → HasKnown names (next w)) → HasKnown names (part_met names waiting k word rest next)
met_known names (Some name) words.plain word rest next known later = known_given names name word (next None) known (later None tt)
met_known names (Some name) words.single word rest next known later = tt
met_known names (Some name) words.ending word rest next known later = tt
met_known names (Some name) (words.option x v) word rest next known later = tt
met_known names None words.plain word rest next known later = known_operand names word (next None) (later None tt)
met_known names None words.single word rest next known later = tt
met_known names None words.ending word rest next known later = operands_known names rest
met_known names None (words.option x (Some v)) word rest next known later =
    where_known names (is_among names x) (with_part (given x v) (next None)) (λ among. known_given names x v (next None) among (later None tt))
met_known names None (words.option x None) word rest next known later =
    where_known names (is_among names x) (next (Some x)) (λ among. later (Some x) among)

pub parts_known : (names ws : List Text) (waiting : Option Text) → IsKnown names waiting → HasKnown names (parts_from names ws waiting)
parts_known names [] None known = tt
parts_known names [] (Some name) known = tt
parts_known names (word ∷ rest) waiting known = met_known names waiting (word_of word) word rest (parts_from names rest) known (λ w k. parts_known names rest w k)

-- ---- the values of parts

apart : (names : List Text) (name : Text) (b : Bool) → bytes_eq name operands_id ≡ b → is_among names operands_id ≡ false → is_among names name ≡ true → b ≡ false
apart names name true e none among =
    sym (sym (ap (λ (x : Text). is_among names x) (same name operands_id e)) ∙ among) ∙ none
apart names name false e none among = refl

apart_from : (names : List Text) (name : Text) (b : Bool) → bytes_eq operands_id name ≡ b → is_among names operands_id ≡ false → is_among names name ≡ true → b ≡ false
apart_from names name true e none among =
    sym (ap (λ (x : Text). is_among names x) (same operands_id name e) ∙ among) ∙ none
apart_from names name false e none among = refl

pub operands_held : (names : List Text) → is_among names operands_id ≡ false → (rows : List Row) (parts : List Part) → AllKnown names parts
    → values_in operands_id (rows_with rows parts) ≡ values_in operands_id rows ++ operands_of parts
operands_held names none rows [] known = sym (append-nil (values_in operands_id rows))
operands_held names none rows (operand text ∷ rest) known =
    operands_held names none (added operands_id text rows) rest known
    ∙ ((λ i. values_added operands_id operands_id text rows i ++ operands_of rest)
    ∙ append_assoc (values_in operands_id rows) (text ∷ []) (operands_of rest))
operands_held names none rows (given name text ∷ rest) known =
    operands_held names none (added name text rows) rest known.1
    ∙ ((λ i. values_added operands_id name text rows i ++ operands_of rest)
    ∙ (λ i. more (apart names name (bytes_eq name operands_id) refl none known.0 i) (values_in operands_id rows) text ++ operands_of rest))

given_step : (b : Bool) (values : List Text) (text : Text) (rest : List Text) → more b values text ++ rest ≡ values ++ (if b then text ∷ rest else rest)
given_step true values text rest = append_assoc values (text ∷ []) rest
given_step false values text rest = refl

pub values_held : (names : List Text) → is_among names operands_id ≡ false → (id : Text) → is_among names id ≡ true → (rows : List Row) (parts : List Part)
    → values_in id (rows_with rows parts) ≡ values_in id rows ++ values_of id parts
values_held names none id among rows [] = sym (append-nil (values_in id rows))
values_held names none id among rows (operand text ∷ rest) =
    values_held names none id among (added operands_id text rows) rest
    ∙ ((λ i. values_added id operands_id text rows i ++ values_of id rest)
    ∙ (λ i. more (apart_from names id (bytes_eq operands_id id) refl none among i) (values_in id rows) text ++ values_of id rest))
values_held names none id among rows (given name text ∷ rest) =
    values_held names none id among (added name text rows) rest
    ∙ ((λ i. values_added id name text rows i ++ values_of id rest)
    ∙ given_step (bytes_eq name id) (values_in id rows) text (values_of id rest))
