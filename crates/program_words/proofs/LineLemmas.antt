-- What the parts of the words make of a line.
use Rattle.std.proofs.Common.{◌≡◌, ◌∙◌, ◌⊎◌, inl, inr, ℕ, Bool, true, false, List, [], ◌∷◌, map, length, Option, Some, None, refl, sym, ap, ap₂, subst, true≢false, eqb-true, take, drop, ◌-◌, arith, length-drop}
use Rattle.std.proofs.lemmas.List.{drop-map, take_all}
use Rattle.std.specs.Prelude.{⊤, ◌==◌, ◌||◌, if◌then◌else◌, option_map, option_and_then}
use Rattle.std.specs.Str.{bytes_eq}
use Rattle.std.proofs.lemmas.Slice.Eq.{bytes_eq-Decides}
use Rattle.clap.specs.declared.parser.matches.ArgMatches.{ArgMatches}
use Rattle.program_words.specs.Numbers.{Numbers, if_taken, is_taken, number_written}
use Rattle.program_words.specs.Commands.{CommandGrammar, OptionGrammar, capture_grammar, make_grammar, option_names, play_grammar, route_grammar, spdif_grammar, walk_grammar}
use Rattle.program_words.specs.Words.{Part, Word, has_single, is_among, operands_of, part_met, parts_from, parts_of, single_at, values_of, with_part, word_of}
use Rattle.program_words.specs.Words as words
use Rattle.program_words.specs.Asked.{grammar_named}
use Rattle.program_words.specs.declared.table.CommandName.{CommandName}
use Rattle.program_words.specs.declared.table.CommandName.TheVariants.{Route, Walk, Play, Make, Spdif, Capture}
use Rattle.program_words.specs.Lines.{AllTaken, CommandLine, IsLineOf, command_line_of, line_of_parts, line_with, number_of, number_once, numbers_of, with_number}
use Rattle.program_words.specs.ClapCommand.{FindsParts, HoldsParts, numbers_found, operands_id, values_found}

-- ---- a single hyphen is refused

neither : {X : Type 0} (b : Bool) → (let none : Option X = None in if b then none else none) ≡ None
neither true = refl
neither false = refl

single_met : (names : List (List ℕ)) (waiting : Option (List ℕ)) (k : Word) (word : List ℕ) (rest : List (List ℕ)) (next : Option (List ℕ) → Option (List Part))
    → single_at k (has_single rest) ≡ true → (has_single rest ≡ true → (w : Option (List ℕ)) → next w ≡ None) → part_met names waiting k word rest next ≡ None
single_met names (Some name) words.plain word rest next e later = ap (with_part (words.given name word)) (later e None)
single_met names (Some name) words.single word rest next e later = refl
single_met names (Some name) words.ending word rest next e later = refl
single_met names (Some name) (words.option x v) word rest next e later = refl
single_met names None words.plain word rest next e later = ap (with_part (words.operand word)) (later e None)
single_met names None words.single word rest next e later = refl
single_met names None words.ending word rest next e later = absurd (true≢false (sym e))
single_met names None (words.option x (Some v)) word rest next e later =
    ap (λ (o : Option (List Part)). if is_among names x then with_part (words.given x v) o else None) (later e None) ∙ neither (is_among names x)
single_met names None (words.option x None) word rest next e later =
    ap (λ (o : Option (List Part)). if is_among names x then o else None) (later e (Some x)) ∙ neither (is_among names x)

single_refused : (names ws : List (List ℕ)) → has_single ws ≡ true → (waiting : Option (List ℕ)) → parts_from names ws waiting ≡ None
single_refused names [] e waiting = absurd (true≢false (sym e))
single_refused names (word ∷ rest) e waiting = single_met names waiting (word_of word) word rest (parts_from names rest) e (λ single w. single_refused names rest single w)

pub single_no_line : (grammar : CommandGrammar) (ws : List (List ℕ)) → has_single ws ≡ true → command_line_of grammar ws ≡ None
single_no_line grammar ws e = ap (λ (o : Option (List Part)). option_and_then (line_of_parts grammar) o) (single_refused (option_names grammar) ws e None)

-- ---- the numbers

or_true : (b : Bool) → (b || true) ≡ true
or_true true = refl
or_true false = refl

abbrev AllAmong : List (List ℕ) → List OptionGrammar → Type 0
AllAmong names [] = ⊤
AllAmong names (option ∷ rest) = (is_among names option.name ≡ true) × AllAmong names rest

more_among : (name : List ℕ) (names : List (List ℕ)) (options : List OptionGrammar) → AllAmong names options → AllAmong (name ∷ names) options
more_among name names [] all = tt
more_among name names (option ∷ rest) all =
    (ap (λ (b : Bool). bytes_eq name option.name || b) all.0 ∙ or_true (bytes_eq name option.name), more_among name names rest all.1)

all_among : (options : List OptionGrammar) → AllAmong (map (λ (o : OptionGrammar). o.name) options) options
all_among [] = tt
all_among (option ∷ rest) = (
  ap (λ (b : Bool). b || is_among (map (λ (o : OptionGrammar). o.name) rest) option.name) ((bytes_eq-Decides option.name option.name).1 refl),
  more_among option.name (map (λ (o : OptionGrammar). o.name) rest) rest (all_among rest),
)

numbers_held : (names : List (List ℕ)) (options : List OptionGrammar) (parts : List Part) (m : ArgMatches) → AllAmong names options → HoldsParts names parts m
    → numbers_found options m ≡ numbers_of options parts
numbers_held names [] parts m all holds = refl
numbers_held names (option ∷ rest) parts m all holds =
    ap₂ with_number (ap (number_once option) (holds.options option.name all.0)) (numbers_held names rest parts m all.1 holds)

-- the line of words whose parts were found
line_found : (grammar : CommandGrammar) (o : Option (List Part)) (m : ArgMatches) → FindsParts (option_names grammar) o m
    → option_and_then (line_of_parts grammar) o ≡ line_with grammar (values_found m operands_id) (numbers_found grammar.options m)
line_found grammar None m found = absurd found
line_found grammar (Some parts) m found =
    ap₂ (line_with grammar) (sym found.operands) (sym (numbers_held (option_names grammar) grammar.options parts m (all_among grammar.options) found))

pub no_numbers : (grammar : CommandGrammar) (ws : List (List ℕ)) (m : ArgMatches) → FindsParts (option_names grammar) (parts_of (option_names grammar) ws) m
    → numbers_found grammar.options m ≡ None → command_line_of grammar ws ≡ None
no_numbers grammar ws m found none =
    line_found grammar (parts_of (option_names grammar) ws) m found
    ∙ (ap (line_with grammar (values_found m operands_id)) none ∙ neither (length (values_found m operands_id) == grammar.operands))

pub line_is : (grammar : CommandGrammar) (ws : List (List ℕ)) (m : ArgMatches) (numbers : List ℕ) → FindsParts (option_names grammar) (parts_of (option_names grammar) ws) m
    → (length (values_found m operands_id) == grammar.operands) ≡ true → numbers_found grammar.options m ≡ Some numbers
    → command_line_of grammar ws ≡ Some (record { operands = values_found m operands_id; numbers = numbers })
line_is grammar ws m numbers found equal is =
    line_found grammar (parts_of (option_names grammar) ws) m found
    ∙ (λ i. if equal i then option_map (λ ns. let l : CommandLine = record { operands = values_found m operands_id; numbers = ns } in l) (is i) else None)

-- ---- a line that was read is one of the command

-- each option takes what stands for it where it isn't given
abbrev HasDefaults : List OptionGrammar → Type 0
HasDefaults [] = ⊤
HasDefaults (option ∷ rest) = (is_taken option.numbers option.default ≡ true) × HasDefaults rest

taken_if : (numbers : Numbers) (n m : ℕ) (b : Bool) → is_taken numbers n ≡ b → (if b then Some n else None) ≡ Some m → is_taken numbers m ≡ true
taken_if numbers n m true e is = let same : n ≡ m = cc in subst (λ (k : ℕ). is_taken numbers k ≡ true) same e
taken_if numbers n m false e is = let bad : None ≡ Some m = is in cc

taken_of : (numbers : Numbers) (o : Option ℕ) (m : ℕ) → option_and_then (if_taken numbers) o ≡ Some m → is_taken numbers m ≡ true
taken_of numbers None m is = let bad : None ≡ Some m = is in cc
taken_of numbers (Some n) m is = taken_if numbers n m (is_taken numbers n) refl is

taken_once : (option : OptionGrammar) (values : List (List ℕ)) (n : ℕ) → is_taken option.numbers option.default ≡ true → number_once option values ≡ Some n
    → is_taken option.numbers n ≡ true
taken_once option [] n default is = let same : option.default ≡ n = cc in subst (λ (k : ℕ). is_taken option.numbers k ≡ true) same default
taken_once option (value ∷ []) n default is = taken_of option.numbers (number_written value) n is
taken_once option (value ∷ other ∷ rest) n default is = let bad : None ≡ Some n = is in cc

taken_with : (option : OptionGrammar) (options : List OptionGrammar) (number : Option ℕ) (rest : Option (List ℕ)) (ns : List ℕ)
    → ((n : ℕ) → number ≡ Some n → is_taken option.numbers n ≡ true) → ((ms : List ℕ) → rest ≡ Some ms → AllTaken options ms)
    → with_number number rest ≡ Some ns → AllTaken (option ∷ options) ns
taken_with option options None rest ns one more is = let bad : None ≡ Some ns = is in cc
taken_with option options (Some n) None ns one more is = let bad : None ≡ Some ns = is in cc
taken_with option options (Some n) (Some ms) ns one more is =
    let same : (n ∷ ms) ≡ ns = cc in subst (λ (k : List ℕ). AllTaken (option ∷ options) k) same (one n refl, more ms refl)

taken_all : (options : List OptionGrammar) (parts : List Part) (ns : List ℕ) → HasDefaults options → numbers_of options parts ≡ Some ns → AllTaken options ns
taken_all [] parts [] defaults is = tt
taken_all [] parts (n ∷ ns) defaults is = let bad : [] ≡ n ∷ ns = cc in cc
taken_all (option ∷ rest) parts ns defaults is =
    taken_with option rest (number_of option parts) (numbers_of rest parts) ns
    (λ n e. taken_once option (values_of option.name parts) n defaults.0 e) (λ ms e. taken_all rest parts ms defaults.1 e) is

fits_with : (grammar : CommandGrammar) (operands : List (List ℕ)) (numbers : Option (List ℕ)) (line : CommandLine) (b : Bool) → (length operands == grammar.operands) ≡ b
    → ((ns : List ℕ) → numbers ≡ Some ns → AllTaken grammar.options ns)
    → (if b then option_map (λ ns. let l : CommandLine = record { operands = operands; numbers = ns } in l) numbers else None) ≡ Some line → IsLineOf grammar line
fits_with grammar operands numbers line false e taken is = let bad : None ≡ Some line = is in cc
fits_with grammar operands None line true e taken is = let bad : None ≡ Some line = is in cc
fits_with grammar operands (Some ns) line true e taken is =
    let l : CommandLine = record { operands = operands; numbers = ns } in
    let same : l ≡ line = cc in
    subst (λ (k : CommandLine). IsLineOf grammar k) same (record { operands = eqb-true (length operands) grammar.operands e; numbers = taken ns refl })

fits_of : (grammar : CommandGrammar) (o : Option (List Part)) (line : CommandLine) → HasDefaults grammar.options → option_and_then (line_of_parts grammar) o ≡ Some line → IsLineOf grammar line
fits_of grammar None line defaults is = let bad : None ≡ Some line = is in cc
fits_of grammar (Some parts) line defaults is =
    fits_with grammar (operands_of parts) (numbers_of grammar.options parts) line (length (operands_of parts) == grammar.operands) refl
    (λ ns e. taken_all grammar.options parts ns defaults e) is

pub route_line : (ws : List (List ℕ)) (line : CommandLine) → command_line_of route_grammar ws ≡ Some line → IsLineOf route_grammar line
route_line ws line is = fits_of route_grammar (parts_of (option_names route_grammar) ws) line (refl, (refl, (refl, tt))) is

pub walk_line : (ws : List (List ℕ)) (line : CommandLine) → command_line_of walk_grammar ws ≡ Some line → IsLineOf walk_grammar line
walk_line ws line is = fits_of walk_grammar (parts_of (option_names walk_grammar) ws) line tt is

pub play_line : (ws : List (List ℕ)) (line : CommandLine) → command_line_of play_grammar ws ≡ Some line → IsLineOf play_grammar line
play_line ws line is = fits_of play_grammar (parts_of (option_names play_grammar) ws) line (refl, (refl, tt)) is

pub make_line : (ws : List (List ℕ)) (line : CommandLine) → command_line_of make_grammar ws ≡ Some line → IsLineOf make_grammar line
make_line ws line is = fits_of make_grammar (parts_of (option_names make_grammar) ws) line tt is

pub spdif_line : (ws : List (List ℕ)) (line : CommandLine) → command_line_of spdif_grammar ws ≡ Some line → IsLineOf spdif_grammar line
spdif_line ws line is = fits_of spdif_grammar (parts_of (option_names spdif_grammar) ws) line (refl, (refl, tt)) is

pub capture_line : (ws : List (List ℕ)) (line : CommandLine) → command_line_of capture_grammar ws ≡ Some line → IsLineOf capture_grammar line
capture_line ws line is = fits_of capture_grammar (parts_of (option_names capture_grammar) ws) line (refl, (refl, tt)) is

-- the words after the first
pub words_after : {X Y : Type 0} (f : X → Y) (xs : List X) → map f (take (length xs - 1) (drop 1 xs)) ≡ drop 1 (map f xs)
words_after f xs = ap (map f) (take_all (length xs - 1) (drop 1 xs) (simp length-drop (omega arith))) ∙ sym (drop-map f 1 xs)

-- ---- the commands

-- a command of the table
pub data IsCommand (grammar : CommandGrammar) : Type 0 where
  is_route : grammar ≡ route_grammar → IsCommand grammar
  is_walk : grammar ≡ walk_grammar → IsCommand grammar
  is_play : grammar ≡ play_grammar → IsCommand grammar
  is_make : grammar ≡ make_grammar → IsCommand grammar
  is_spdif : grammar ≡ spdif_grammar → IsCommand grammar
  is_capture : grammar ≡ capture_grammar → IsCommand grammar

named_first : (b : Bool) (first grammar : CommandGrammar) (others : Option CommandGrammar) → (if b then Some first else others) ≡ Some grammar
    → (first ≡ grammar) ⊎ (others ≡ Some grammar)
named_first true first grammar others is = let same : first ≡ grammar = cc in inl same
named_first false first grammar others is = inr is

-- the grammar with a name among the last one, the last two, the last three, the last four, and the last five
last_named : List ℕ → Option CommandGrammar
last_named name = if bytes_eq capture_grammar.name name then Some capture_grammar else None

fifth_named : List ℕ → Option CommandGrammar
fifth_named name = if bytes_eq spdif_grammar.name name then Some spdif_grammar else last_named name

fourth_named : List ℕ → Option CommandGrammar
fourth_named name = if bytes_eq make_grammar.name name then Some make_grammar else fifth_named name

third_named : List ℕ → Option CommandGrammar
third_named name = if bytes_eq play_grammar.name name then Some play_grammar else fourth_named name

later_named : List ℕ → Option CommandGrammar
later_named name = if bytes_eq walk_grammar.name name then Some walk_grammar else third_named name

named_last : (grammar : CommandGrammar) → (capture_grammar ≡ grammar) ⊎ (None ≡ Some grammar) → IsCommand grammar
named_last grammar (inl same) = is_capture (sym same)
named_last grammar (inr none) = let bad : None ≡ Some grammar = none in cc

named_fifth : (name : List ℕ) (grammar : CommandGrammar) → (spdif_grammar ≡ grammar) ⊎ (last_named name ≡ Some grammar) → IsCommand grammar
unfolding last_named
named_fifth name grammar (inl same) = is_spdif (sym same)
named_fifth name grammar (inr last) = named_last grammar (named_first (bytes_eq capture_grammar.name name) capture_grammar grammar None last)

named_fourth : (name : List ℕ) (grammar : CommandGrammar) → (make_grammar ≡ grammar) ⊎ (fifth_named name ≡ Some grammar) → IsCommand grammar
unfolding fifth_named
named_fourth name grammar (inl same) = is_make (sym same)
named_fourth name grammar (inr fifth) = named_fifth name grammar (named_first (bytes_eq spdif_grammar.name name) spdif_grammar grammar (last_named name) fifth)

named_third : (name : List ℕ) (grammar : CommandGrammar) → (play_grammar ≡ grammar) ⊎ (fourth_named name ≡ Some grammar) → IsCommand grammar
unfolding fourth_named
named_third name grammar (inl same) = is_play (sym same)
named_third name grammar (inr fourth) = named_fourth name grammar (named_first (bytes_eq make_grammar.name name) make_grammar grammar (fifth_named name) fourth)

named_later : (name : List ℕ) (grammar : CommandGrammar) → (walk_grammar ≡ grammar) ⊎ (third_named name ≡ Some grammar) → IsCommand grammar
unfolding third_named
named_later name grammar (inl same) = is_walk (sym same)
named_later name grammar (inr third) = named_third name grammar (named_first (bytes_eq play_grammar.name name) play_grammar grammar (fourth_named name) third)

named_split : (name : List ℕ) (grammar : CommandGrammar) → (route_grammar ≡ grammar) ⊎ (later_named name ≡ Some grammar) → IsCommand grammar
unfolding later_named
named_split name grammar (inl same) = is_route (sym same)
named_split name grammar (inr later) = named_later name grammar (named_first (bytes_eq walk_grammar.name name) walk_grammar grammar (third_named name) later)

-- a grammar that has a name is one of the table
pub named_command : (name : List ℕ) (grammar : CommandGrammar) → grammar_named name ≡ Some grammar → IsCommand grammar
unfolding later_named third_named fourth_named fifth_named last_named
named_command name grammar is = named_split name grammar (named_first (bytes_eq route_grammar.name name) route_grammar grammar (later_named name) is)

-- no option of the table has the name of the operands
pub command_apart : (grammar : CommandGrammar) → IsCommand grammar → is_among (option_names grammar) operands_id ≡ false
command_apart grammar (is_route same) = subst (λ (g : CommandGrammar). is_among (option_names g) operands_id ≡ false) (sym same) refl
command_apart grammar (is_walk same) = subst (λ (g : CommandGrammar). is_among (option_names g) operands_id ≡ false) (sym same) refl
command_apart grammar (is_play same) = subst (λ (g : CommandGrammar). is_among (option_names g) operands_id ≡ false) (sym same) refl
command_apart grammar (is_make same) = subst (λ (g : CommandGrammar). is_among (option_names g) operands_id ≡ false) (sym same) refl
command_apart grammar (is_spdif same) = subst (λ (g : CommandGrammar). is_among (option_names g) operands_id ≡ false) (sym same) refl
command_apart grammar (is_capture same) = subst (λ (g : CommandGrammar). is_among (option_names g) operands_id ≡ false) (sym same) refl

-- a grammar of the table is told by its command
other_command : {X : Type 0} (grammar other : CommandGrammar) (command : CommandName) → grammar ≡ other → grammar.command ≡ command → (other.command ≡ command → ⊥) → X
other_command grammar other command same named apart = absurd (apart (sym (ap (λ (g : CommandGrammar). g.command) same) ∙ named))

pub command_route : (grammar : CommandGrammar) → grammar.command ≡ Route → IsCommand grammar → grammar ≡ route_grammar
command_route grammar named (is_route same) = same
command_route grammar named (is_walk same) = other_command grammar walk_grammar Route same named (λ (e : Walk ≡ Route). cc)
command_route grammar named (is_play same) = other_command grammar play_grammar Route same named (λ (e : Play ≡ Route). cc)
command_route grammar named (is_make same) = other_command grammar make_grammar Route same named (λ (e : Make ≡ Route). cc)
command_route grammar named (is_spdif same) = other_command grammar spdif_grammar Route same named (λ (e : Spdif ≡ Route). cc)
command_route grammar named (is_capture same) = other_command grammar capture_grammar Route same named (λ (e : Capture ≡ Route). cc)

pub command_walk : (grammar : CommandGrammar) → grammar.command ≡ Walk → IsCommand grammar → grammar ≡ walk_grammar
command_walk grammar named (is_walk same) = same
command_walk grammar named (is_route same) = other_command grammar route_grammar Walk same named (λ (e : Route ≡ Walk). cc)
command_walk grammar named (is_play same) = other_command grammar play_grammar Walk same named (λ (e : Play ≡ Walk). cc)
command_walk grammar named (is_make same) = other_command grammar make_grammar Walk same named (λ (e : Make ≡ Walk). cc)
command_walk grammar named (is_spdif same) = other_command grammar spdif_grammar Walk same named (λ (e : Spdif ≡ Walk). cc)
command_walk grammar named (is_capture same) = other_command grammar capture_grammar Walk same named (λ (e : Capture ≡ Walk). cc)

pub command_play : (grammar : CommandGrammar) → grammar.command ≡ Play → IsCommand grammar → grammar ≡ play_grammar
command_play grammar named (is_play same) = same
command_play grammar named (is_route same) = other_command grammar route_grammar Play same named (λ (e : Route ≡ Play). cc)
command_play grammar named (is_walk same) = other_command grammar walk_grammar Play same named (λ (e : Walk ≡ Play). cc)
command_play grammar named (is_make same) = other_command grammar make_grammar Play same named (λ (e : Make ≡ Play). cc)
command_play grammar named (is_spdif same) = other_command grammar spdif_grammar Play same named (λ (e : Spdif ≡ Play). cc)
command_play grammar named (is_capture same) = other_command grammar capture_grammar Play same named (λ (e : Capture ≡ Play). cc)

pub command_make : (grammar : CommandGrammar) → grammar.command ≡ Make → IsCommand grammar → grammar ≡ make_grammar
command_make grammar named (is_make same) = same
command_make grammar named (is_route same) = other_command grammar route_grammar Make same named (λ (e : Route ≡ Make). cc)
command_make grammar named (is_walk same) = other_command grammar walk_grammar Make same named (λ (e : Walk ≡ Make). cc)
command_make grammar named (is_play same) = other_command grammar play_grammar Make same named (λ (e : Play ≡ Make). cc)
command_make grammar named (is_spdif same) = other_command grammar spdif_grammar Make same named (λ (e : Spdif ≡ Make). cc)
command_make grammar named (is_capture same) = other_command grammar capture_grammar Make same named (λ (e : Capture ≡ Make). cc)

pub command_spdif : (grammar : CommandGrammar) → grammar.command ≡ Spdif → IsCommand grammar → grammar ≡ spdif_grammar
command_spdif grammar named (is_spdif same) = same
command_spdif grammar named (is_route same) = other_command grammar route_grammar Spdif same named (λ (e : Route ≡ Spdif). cc)
command_spdif grammar named (is_walk same) = other_command grammar walk_grammar Spdif same named (λ (e : Walk ≡ Spdif). cc)
command_spdif grammar named (is_play same) = other_command grammar play_grammar Spdif same named (λ (e : Play ≡ Spdif). cc)
command_spdif grammar named (is_make same) = other_command grammar make_grammar Spdif same named (λ (e : Make ≡ Spdif). cc)
command_spdif grammar named (is_capture same) = other_command grammar capture_grammar Spdif same named (λ (e : Capture ≡ Spdif). cc)

pub command_capture : (grammar : CommandGrammar) → grammar.command ≡ Capture → IsCommand grammar → grammar ≡ capture_grammar
command_capture grammar named (is_capture same) = same
command_capture grammar named (is_route same) = other_command grammar route_grammar Capture same named (λ (e : Route ≡ Capture). cc)
command_capture grammar named (is_walk same) = other_command grammar walk_grammar Capture same named (λ (e : Walk ≡ Capture). cc)
command_capture grammar named (is_play same) = other_command grammar play_grammar Capture same named (λ (e : Play ≡ Capture). cc)
command_capture grammar named (is_make same) = other_command grammar make_grammar Capture same named (λ (e : Make ≡ Capture). cc)
command_capture grammar named (is_spdif same) = other_command grammar spdif_grammar Capture same named (λ (e : Spdif ≡ Capture). cc)
