-- The number of the walk commands.
use Rattle.std.proofs.Common.{◌≡◌, ◌+◌, ◌*◌, ℕ, zero, suc, Bool, true, false, cond, List, [], ◌∷◌, ◌++◌, map, length, refl, sym, ap, ◌∙◌, arith, length-append}
use Rattle.std.specs.Prelude.{filter, sum_by}
use Rattle.std.proofs.lemmas.List.Sums.{sum_by-cons}
use Rattle.std.specs.List.{range_with_len}
use Rattle.codec_graph.specs.declared.raw.RawNode.{RawNode}
use Rattle.codec_graph.specs.declared.raw.RawCodec.{RawCodec}
use Rattle.codec_graph.specs.Widget.{has_list, has_power_control}
use Rattle.verb_codes.specs.declared.verbs.Command.{Command}
use Rattle.verb_codes.specs.Lists.{entries_per_word}
use Rattle.verb_codes.specs.declared.parameters.Parameter.TheVariants.{WidgetCapabilities, ListLength, PowerStates}
use Rattle.codec_walk.specs.Words.{parameter_command, list_command, node_words, applies, word_command, words_for}
use Rattle.codec_walk.specs.Commands.{entry_commands, connection_commands, power_commands, node_commands, nodes_commands, walk_commands, node_count}

length_map : {A B : Type 0} (f : A → B) (xs : List A) → length (map f xs) ≡ length xs
length_map f [] = refl
length_map f (x ∷ xs) = ap (λ n. suc n) (length_map f xs)

length_range : (from n : ℕ) → length (range_with_len from n) ≡ n
length_range from zero = refl
length_range from (suc n) = ap (λ n. suc n) (length_range (from + 1) n)

joined : (first : Command) (words connections power : List Command) → length (first ∷ (words ++ (connections ++ power))) ≡ 1 + length words + length connections + length power
joined first words connections power =
    let a = length-append words (connections ++ power) in
    let b = length-append connections power in
    omega arith

module _ (address nid : ℕ) (node : RawNode) where
  count_connections : length (connection_commands address nid node) ≡ cond (has_list node) (1 + words_for node.long (length node.entries)) 0
  count_connections = by (has_list node)
    where
      by : (b : Bool) → length (cond b (parameter_command address nid ListLength ∷ entry_commands address nid node) []) ≡ cond b (1 + words_for node.long (length node.entries)) 0
      by true =
          let e = length_map (λ word. list_command address nid (word * entries_per_word node.long)) (range_with_len 0 (words_for node.long (length node.entries))) ∙ length_range 0 (words_for node.long (length node.entries)) in
          omega arith
      by false = refl

  count_power : length (power_commands address nid node) ≡ cond (has_power_control node) 1 0
  count_power = by (has_power_control node)
    where
      by : (b : Bool) → length (cond b (parameter_command address nid PowerStates ∷ []) []) ≡ cond b 1 0
      by true = refl
      by false = refl

  count_node : length (node_commands address nid node) ≡ node_count node
  count_node =
      let words = map (word_command address nid) (filter (applies node) node_words) in
      joined (parameter_command address nid WidgetCapabilities) words (connection_commands address nid node) (power_commands address nid node)
      ∙ ap (λ (n : ℕ). 1 + n + length (connection_commands address nid node) + length (power_commands address nid node)) (length_map (word_command address nid) (filter (applies node) node_words))
      ∙ ap (λ (n : ℕ). 1 + length (filter (applies node) node_words) + n + length (power_commands address nid node)) count_connections
      ∙ ap (λ (n : ℕ). 1 + length (filter (applies node) node_words) + cond (has_list node) (1 + words_for node.long (length node.entries)) 0 + n) count_power

count_nodes : (nodes : List RawNode) (address nid : ℕ) → length (nodes_commands address nid nodes) ≡ sum_by node_count nodes
count_nodes [] address nid = refl
count_nodes (node ∷ nodes) address nid =
    let a = length-append (node_commands address nid node) (nodes_commands address (nid + 1) nodes) in
    let b = count_node address nid node in
    let c = count_nodes nodes address (nid + 1) in
    a ∙ ap (λ (n : ℕ). n + length (nodes_commands address (nid + 1) nodes)) b ∙ ap (λ (n : ℕ). node_count node + n) c ∙ sym (sum_by-cons node_count node nodes)

pub count_walk : (codec : RawCodec) → length (walk_commands codec) ≡ 10 + sum_by node_count codec.nodes
unfolding walk_commands
count_walk codec = let e = count_nodes codec.nodes codec.address codec.first in omega arith
