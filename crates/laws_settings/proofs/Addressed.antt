-- Words go to the codecs that they name.
use Rattle.std.proofs.Common.{◌≡◌, ◌==◌, ◌&&◌, ◌/◌, ◌%◌, ◌^◌, ℕ, suc, Bool, true, false, nat_le, List, [], ◌∷◌, ◌++◌, map, drop, Option, None, Some, refl, ap, ◌∙◌, if◌then◌else◌}
use Rattle.std.specs.Prelude.{All, slice_get, filter}
use Rattle.std.specs.Option.{option_map}
use Rattle.std.specs.List.{flat_map}
use Rattle.std.proofs.lemmas.List.Elements.{All-head, All-tail, filter-append}
use Rattle.verb_codes.specs.declared.verbs.Command.{Command}
use Rattle.verb_codes.specs.declared.verbs.Verb.{Verb}
use Rattle.verb_codes.specs.Verbs.{verb_of_bits, IsInRange, word_of, command_with, reading_of}
use Rattle.laws_settings.proofs.Words.{reading_of-complete}
use Rattle.codec_graph.specs.declared.raw.RawCodec.{RawCodec}
use Rattle.codec_graph.specs.CodecStates.{CodecState}
use Rattle.hda_world.specs.Worlds.{World, TakenCommand}
use Rattle.hda_world.specs.Steps.{address_of}
use Rattle.laws_settings.specs.Histories.{words_of, words_to, Remembers}
use Rattle.laws_settings.specs.Addressed.{words_naming, commands_to, graphs_at, GoToTheirCodecs}

-- ---- the word of a command

parted : (codec nid : ℕ) (verb : Option Verb) (command : Command) → command_with codec nid verb ≡ Some command → codec ≡ command.codec
parted codec nid verb command is = by (nat_le codec 14 && nat_le nid 127) verb is
  where
    by : (narrow : Bool) (verb : Option Verb) → (if narrow then option_map (λ v. record { codec = codec; nid = nid; verb = v }) verb else None) ≡ Some command → codec ≡ command.codec
    by true (Some verb) is =
        let made : Command = record { codec = codec; nid = nid; verb = verb } in
        let same : made ≡ command = cc in
        ap (λ (c : Command). c.codec) same
    by true None is = cc
    by false verb is = cc

-- a word names the codec of the command that it reads as
pub reading_names : (word : ℕ) (command : Command) → reading_of word ≡ Some command → address_of word ≡ command.codec
unfolding reading_of
reading_names word command is = parted (word / 2 ^ 28) (word / 2 ^ 20 % 2 ^ 8) (verb_of_bits (word % 2 ^ 20)) command is

pub word_names : (command : Command) → IsInRange command → address_of (word_of command) ≡ command.codec
word_names command ranged = reading_names (word_of command) command (reading_of-complete command ranged)

-- ---- words and commands to one address

kept_if : {A B : Type 0} (f : A → B) (x : A) (xs : List A) (ys : List B) (named here : Bool) → named ≡ here → ys ≡ map f xs
    → (if named then f x ∷ ys else ys) ≡ map f (if here then x ∷ xs else xs)
kept_if {A} {B} f x xs ys true true same rest = ap (λ (l : List B). f x ∷ l) rest
kept_if {A} {B} f x xs ys false false same rest = rest
kept_if {A} {B} f x xs ys true false same rest = cc
kept_if {A} {B} f x xs ys false true same rest = cc

-- of the words of commands those of the commands to a codec name it
pub words_naming-words : (address : ℕ) (commands : List Command) → All IsInRange commands → words_naming address (map word_of commands) ≡ map word_of (commands_to address commands)
words_naming-words address [] all = refl
words_naming-words address (command ∷ commands) all =
    kept_if word_of command (commands_to address commands) (words_naming address (map word_of commands)) (address_of (word_of command) == address) (command.codec == address)
    (ap (λ (n : ℕ). n == address) (word_names command (All-head IsInRange command commands all)))
    (words_naming-words address commands (All-tail IsInRange command commands all))

-- commands that all go to one address
all_to : (here address : ℕ) (is : Bool) → (here == address) ≡ is → (commands : List Command) → All (λ (command : Command). command.codec ≡ here) commands
    → commands_to address commands ≡ (if is then commands else [])
all_to here address true is [] all = refl
all_to here address false is [] all = refl
all_to here address true is (command ∷ commands) all =
    let to : (command.codec == address) ≡ true = ap (λ (n : ℕ). n == address) (All-head (λ (command : Command). command.codec ≡ here) command commands all) ∙ is in
    let rest : commands_to address commands ≡ commands = all_to here address true is commands (All-tail (λ (command : Command). command.codec ≡ here) command commands all) in
    rw to (ap (λ (more : List Command). command ∷ more) rest)
all_to here address false is (command ∷ commands) all =
    let to : (command.codec == address) ≡ false = ap (λ (n : ℕ). n == address) (All-head (λ (command : Command). command.codec ≡ here) command commands all) ∙ is in
    rw to (all_to here address false is commands (All-tail (λ (command : Command). command.codec ≡ here) command commands all))

-- of the commands of graphs those of the graphs at an address go there
pub commands_to-graphs : (address : ℕ) (commands : RawCodec → List Command) (graphs : List RawCodec) → GoToTheirCodecs commands graphs
    → commands_to address (flat_map commands graphs) ≡ flat_map commands (graphs_at address graphs)
commands_to-graphs address commands [] all = refl
commands_to-graphs address commands (graph ∷ graphs) all =
    filter-append (λ (command : Command). command.codec == address) (commands graph) (flat_map commands graphs)
    ∙ by (graph.address == address) (all_to graph.address address (graph.address == address) refl (commands graph) (All-head (λ (graph : RawCodec). All (λ (command : Command). command.codec ≡ graph.address) (commands graph)) graph graphs all))
    (commands_to-graphs address commands graphs (All-tail (λ (graph : RawCodec). All (λ (command : Command). command.codec ≡ graph.address) (commands graph)) graph graphs all))
  where
    by : (is : Bool) → commands_to address (commands graph) ≡ (if is then commands graph else []) → commands_to address (flat_map commands graphs) ≡ flat_map commands (graphs_at address graphs)
        → commands_to address (commands graph) ++ commands_to address (flat_map commands graphs) ≡ flat_map commands (if is then graph ∷ graphs_at address graphs else graphs_at address graphs)
    by true own rest = ap (λ (l : List Command). l ++ commands_to address (flat_map commands graphs)) own ∙ ap (λ (l : List Command). commands graph ++ l) rest
    by false own rest = ap (λ (l : List Command). l ++ commands_to address (flat_map commands graphs)) own ∙ rest

-- ---- the world

named_all : (address : ℕ) (commands : List TakenCommand) → ((place : ℕ) (one : TakenCommand) → slice_get commands place ≡ Some one → one.codec.graph.address ≡ address_of one.word)
    → words_to address commands ≡ words_naming address (words_of commands)
named_all address [] named = refl
named_all address (one ∷ commands) named =
    by (one.codec.graph.address == address) (address_of one.word == address) (ap (λ (n : ℕ). n == address) (named 0 one refl))
    (named_all address commands (λ place last there. named (suc place) last there))
  where
    by : (here there : Bool) → here ≡ there → words_to address commands ≡ words_naming address (words_of commands)
        → words_of (if here then one ∷ filter (λ (one : TakenCommand). one.codec.graph.address == address) commands else filter (λ (one : TakenCommand). one.codec.graph.address == address) commands)
        ≡ (if there then one.word ∷ words_naming address (words_of commands) else words_naming address (words_of commands))
    by true true same rest = ap (λ (l : List ℕ). one.word ∷ l) rest
    by false false same rest = rest
    by true false same rest = cc
    by false true same rest = cc

-- the words that went to a codec are those that name it
pub words_to-naming : (start : List CodecState) (from : ℕ) (world : World) (address : ℕ) → Remembers start from world
    → words_to address (drop from world.commands) ≡ words_naming address (words_of (drop from world.commands))
words_to-naming start from world address is = named_all address (drop from world.commands) (λ place one there. (is.taken place one there).named)
