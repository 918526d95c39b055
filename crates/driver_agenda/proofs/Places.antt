-- Where a command stands among all commands, and that those of a walk go to its codec.
use Rattle.std.proofs.Common.{◌≡◌, ◌<◌, ◌+◌, ℕ, zero, suc, List, [], ◌∷◌, ◌++◌, length, map, Some, Bool, true, false, if◌then◌else◌, refl, ap, subst, arith}
use Rattle.std.specs.Prelude.{slice_get, All, filter}
use Rattle.std.proofs.lemmas.List.Elements.{All-append, All-cons, All-nil}
use Rattle.verb_codes.specs.declared.verbs.Command.{Command}
use Rattle.codec_graph.specs.declared.raw.RawNode.{RawNode}
use Rattle.codec_graph.specs.declared.raw.RawCodec.{RawCodec}
use Rattle.codec_graph.specs.Widget.{has_list, has_power_control}
use Rattle.codec_walk.specs.Words.{codec_words, codec_command, node_words, applies, word_command}
use Rattle.codec_walk.specs.Commands.{walk_commands, nodes_commands, node_commands}

pub get_front : {X : Type 0} (xs ys : List X) (i : ℕ) → i < length xs → slice_get (xs ++ ys) i ≡ slice_get xs i
get_front {X} [] ys i there = absurd (omega (arith, there))
get_front {X} (x ∷ xs) ys zero there = refl
get_front {X} (x ∷ xs) ys (suc i) there = get_front xs ys i (omega (arith, there))

pub get_back : {X : Type 0} (xs ys : List X) (i n : ℕ) → n ≡ length xs + i → slice_get (xs ++ ys) n ≡ slice_get ys i
get_back {X} [] ys i n is = ap (slice_get ys) (let same : n ≡ i = omega (arith, is) in same)
get_back {X} (x ∷ xs) ys i zero is = absurd (omega (arith, is))
get_back {X} (x ∷ xs) ys i (suc n) is = get_back xs ys i n (omega (arith, is))

-- ---- the commands of a walk

abbrev GoesTo : ℕ → Command → Type 0
GoesTo address command = command.codec ≡ address

all_map : {X : Type 0} (address : ℕ) (f : X → Command) → ((x : X) → GoesTo address (f x)) → (xs : List X) → All (GoesTo address) (map f xs)
all_map {X} address f goes [] = All-nil (GoesTo address)
all_map {X} address f goes (x ∷ xs) = All-cons (GoesTo address) (f x) (map f xs) (goes x) (all_map address f goes xs)

all_if_list : (address : ℕ) (is : Bool) (commands : List Command) → All (GoesTo address) commands → All (GoesTo address) (if is then commands else [])
all_if_list address true commands all = all
all_if_list address false commands all = All-nil (GoesTo address)

node_goes : (address nid : ℕ) (node : RawNode) → All (GoesTo address) (node_commands address nid node)
node_goes address nid node =
    All-cons (GoesTo address) _ _ refl
    (All-append (GoesTo address) _ _ (all_map address (word_command address nid) (λ word. refl) (filter (applies node) node_words))
    (All-append (GoesTo address) _ _
    (all_if_list address (has_list node) _ (All-cons (GoesTo address) _ _ refl (all_map address _ (λ word. refl) _)))
    (all_if_list address (has_power_control node) _ (All-cons (GoesTo address) _ [] refl (All-nil (GoesTo address))))))

nodes_go : (address nid : ℕ) (nodes : List RawNode) → All (GoesTo address) (nodes_commands address nid nodes)
nodes_go address nid [] = All-nil (GoesTo address)
nodes_go address nid (node ∷ nodes) = All-append (GoesTo address) (node_commands address nid node) (nodes_commands address (nid + 1) nodes) (node_goes address nid node) (nodes_go address (nid + 1) nodes)

pub walk_goes : (graph : RawCodec) → All (GoesTo graph.address) (walk_commands graph)
unfolding walk_commands
walk_goes graph =
    All-append (GoesTo graph.address) (map (codec_command graph) codec_words) (nodes_commands graph.address graph.first graph.nodes) (all_map graph.address (codec_command graph) (λ word. refl) codec_words) (nodes_go graph.address graph.first graph.nodes)

-- the command at a place of a walk goes to its codec
pub walked_goes : (graph : RawCodec) (commands : List Command) (i : ℕ) (command : Command) → All (GoesTo graph.address) commands → slice_get commands i ≡ Some command → command.codec ≡ graph.address
walked_goes graph [] i command all is = cc
walked_goes graph (first ∷ commands) zero command all is =
    let same : first ≡ command = cc in
    subst (GoesTo graph.address) same (all 0 first (omega arith))
walked_goes graph (first ∷ commands) (suc i) command all is =
    walked_goes graph commands i command (λ k d lt. all (suc k) d (omega (arith, lt))) is
