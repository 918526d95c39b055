-- The commands of a walk over a well-formed graph are in range, and only ask.
use Rattle.std.proofs.Common.{◌≡◌, ◌<◌, ◌≤◌, ◌+◌, ◌*◌, ◌^◌, ℕ, Bool, true, false, List, [], ◌∷◌, length, map, get_or, refl, sym, ap, subst, ◌∙◌, arith, zero-add, if◌then◌else◌}
use Rattle.std.specs.Prelude.{All, filter, IsTrue}
use Rattle.std.specs.List.{range_with_len, flat_map}
use Rattle.std.proofs.lemmas.List.{map-append}
use Rattle.std.proofs.lemmas.Bool.Decides.{nat_tests}
use Rattle.std.proofs.lemmas.List.Elements.{All-nil, All-cons, All-append, All-map, All-head, All-tail, All-weaker}
use Rattle.std.proofs.lemmas.List.FromFn.{get_or-range_with_len, length-range_with_len}
use Rattle.verb_codes.specs.declared.verbs.Command.{Command}
use Rattle.verb_codes.specs.declared.verbs.Verb.TheVariants.{GetParam, GetList, GetDefault}
use Rattle.verb_codes.specs.Verbs.{IsInRange, is_verb_in_range, word_of}
use Rattle.verb_codes.specs.Lists.{entries_per_word}
use Rattle.laws_settings.proofs.Words.{reading_of-complete}
use Rattle.codec_graph.specs.declared.raw.RawNode.{RawNode}
use Rattle.codec_graph.specs.declared.raw.RawCodec.{RawCodec}
use Rattle.codec_graph.specs.Widget.{has_list, has_power_control}
use Rattle.codec_graph.specs.Settings.{Entries}
use Rattle.codec_graph.specs.VerbMeaning.{after, writes_of}
use Rattle.codec_graph.specs.Listed.{HasReadableList}
use Rattle.codec_graph.specs.Cycles.{IsWellFormed}
use Rattle.codec_graph.proofs.Callers.{counted}
use Rattle.codec_walk.specs.declared.words.CodecWord.{CodecWord}
use Rattle.codec_walk.specs.declared.words.CodecWord.TheVariants.{Vendor, Revision, Groups, GroupType, Widgets, GroupPcm, GroupFormats, GroupAmpIn, GroupAmpOut, GroupPower}
use Rattle.codec_walk.specs.declared.words.NodeWord.{NodeWord}
use Rattle.codec_walk.specs.declared.words.NodeWord.TheVariants.{Pcm, Formats, PinCaps, Default, AmpIn, AmpOut}
use Rattle.codec_walk.specs.Words.{command_to, list_command, codec_words, codec_command, node_words, applies, word_command, words_for}
use Rattle.codec_walk.specs.Commands.{entry_commands, node_commands, nodes_commands, walk_commands}
use Rattle.laws_settings.specs.Readings.{IsReading}
use Rattle.laws_settings.specs.Histories.{after_reading}

-- ---- commands that ask

-- a command that goes to this address, is in range and sets nothing
pub record Asks (address : ℕ) (command : Command) : Type 0 where
  pub to : command.codec ≡ address
  pub in_range : IsInRange command
  pub keeps : (graph : RawCodec) (settings : Entries) → after graph settings command ≡ settings

asks_parameter : (address nid number : ℕ) → address ≤ 14 → nid ≤ 127 → IsTrue (is_verb_in_range (GetParam number)) → Asks address (command_to address nid (GetParam number))
unfolding after writes_of
asks_parameter address nid number low small fits = record {
  to = refl;
  in_range = record { codec = low; nid = small; verb = fits };
  keeps = λ graph settings. refl;
}

asks_default : (address nid : ℕ) → address ≤ 14 → nid ≤ 127 → Asks address (command_to address nid GetDefault)
unfolding after writes_of
asks_default address nid low small = record { to = refl; in_range = record { codec = low; nid = small; verb = refl }; keeps = λ graph settings. refl }

small_place : (place : ℕ) → place < 2 ^ 8 → IsTrue (is_verb_in_range (GetList place))
small_place place few = grind (arith, nat_tests)

asks_list : (address nid place : ℕ) → address ≤ 14 → nid ≤ 127 → place < 2 ^ 8 → Asks address (list_command address nid place)
unfolding after writes_of
asks_list address nid place low small few = record {
  to = refl;
  in_range = record { codec = low; nid = small; verb = small_place place few };
  keeps = λ graph settings. refl;
}

asks_codec : (graph : RawCodec) (word : CodecWord) → graph.address ≤ 14 → graph.group ≤ 127 → Asks graph.address (codec_command graph word)
asks_codec graph Vendor low small = asks_parameter graph.address 0 _ low (omega arith) refl
asks_codec graph Revision low small = asks_parameter graph.address 0 _ low (omega arith) refl
asks_codec graph Groups low small = asks_parameter graph.address 0 _ low (omega arith) refl
asks_codec graph GroupType low small = asks_parameter graph.address graph.group _ low small refl
asks_codec graph Widgets low small = asks_parameter graph.address graph.group _ low small refl
asks_codec graph GroupPcm low small = asks_parameter graph.address graph.group _ low small refl
asks_codec graph GroupFormats low small = asks_parameter graph.address graph.group _ low small refl
asks_codec graph GroupAmpIn low small = asks_parameter graph.address graph.group _ low small refl
asks_codec graph GroupAmpOut low small = asks_parameter graph.address graph.group _ low small refl
asks_codec graph GroupPower low small = asks_parameter graph.address graph.group _ low small refl

all_mapped : {X : Type 0} (address : ℕ) (f : X → Command) → ((x : X) → Asks address (f x)) → (xs : List X) → All (Asks address) (map f xs)
all_mapped {X} address f asks [] = All-nil (Asks address)
all_mapped {X} address f asks (x ∷ xs) = All-cons (Asks address) (f x) (map f xs) (asks x) (all_mapped address f asks xs)

all_if : (address : ℕ) (is : Bool) (commands : List Command) → All (Asks address) commands → All (Asks address) (if is then commands else [])
all_if address true commands all = all
all_if address false commands all = All-nil (Asks address)

-- a place that a walk asks for lies in a list of at most so many entries
place_below : (long : Bool) (entries word : ℕ) → entries ≤ 127 → word < words_for long entries → word * entries_per_word long < 2 ^ 8
place_below true entries word few within = omega (arith, few, within)
place_below false entries word few within = omega (arith, few, within)

module _ (address nid : ℕ) (low : address ≤ 14) (small : nid ≤ 127) where
  asks_word : (word : NodeWord) → Asks address (word_command address nid word)
  asks_word Pcm = asks_parameter address nid _ low small refl
  asks_word Formats = asks_parameter address nid _ low small refl
  asks_word PinCaps = asks_parameter address nid _ low small refl
  asks_word Default = asks_default address nid low small
  asks_word AmpIn = asks_parameter address nid _ low small refl
  asks_word AmpOut = asks_parameter address nid _ low small refl

  asks_entries : (node : RawNode) → HasReadableList node → All (Asks address) (entry_commands address nid node)
  asks_entries node has =
      let words = words_for node.long (length node.entries) in
      All-map (Asks address) (λ word. list_command address nid (word * entries_per_word node.long)) (range_with_len 0 words)
      (λ place other within.
      (let below : place < words = subst (λ (n : ℕ). place < n) (length-range_with_len 0 words) within in
      let is : get_or (range_with_len 0 words) place other ≡ place = get_or-range_with_len 0 words place other below ∙ zero-add place in
      subst (λ (word : ℕ). Asks address (list_command address nid (word * entries_per_word node.long))) (sym is)
      (asks_list address nid (place * entries_per_word node.long) low small (place_below node.long (length node.entries) place has.few below))))

  asks_node : (node : RawNode) → HasReadableList node → All (Asks address) (node_commands address nid node)
  asks_node node has =
      All-cons (Asks address) _ _ (asks_parameter address nid _ low small refl)
      (All-append (Asks address) _ _ (all_mapped address (word_command address nid) asks_word (filter (applies node) node_words))
      (All-append (Asks address) _ _
      (all_if address (has_list node) _ (All-cons (Asks address) _ _ (asks_parameter address nid _ low small refl) (asks_entries node has)))
      (all_if address (has_power_control node) _ (All-cons (Asks address) _ [] (asks_parameter address nid _ low small refl) (All-nil (Asks address))))))

asks_nodes : (address nid : ℕ) (nodes : List RawNode) → address ≤ 14 → nid + length nodes ≤ 128 → All HasReadableList nodes → All (Asks address) (nodes_commands address nid nodes)
asks_nodes address nid [] low below all = All-nil (Asks address)
asks_nodes address nid (node ∷ nodes) low below all =
    All-append (Asks address) (node_commands address nid node) (nodes_commands address (nid + 1) nodes)
    (asks_node address nid low (omega (arith, below)) node (All-head HasReadableList node nodes all))
    (asks_nodes address (nid + 1) nodes low (omega (arith, below)) (All-tail HasReadableList node nodes all))

-- ---- walks

pub asks_walk : (graph : RawCodec) → IsWellFormed graph → graph.address ≤ 14 → All (Asks graph.address) (walk_commands graph)
unfolding walk_commands
asks_walk graph well low =
    let is = counted graph well in
    All-append (Asks graph.address) (map (codec_command graph) codec_words) (nodes_commands graph.address graph.first graph.nodes)
    (all_mapped graph.address (codec_command graph) (λ word. asks_codec graph word low (omega (arith, is.group_below))) codec_words)
    (asks_nodes graph.address graph.first graph.nodes low (subst (λ (n : ℕ). graph.first + n ≤ 128) (sym is.as_many) is.ends) well.lists)

reading_is : (address : ℕ) (command : Command) → Asks address command → IsReading (word_of command)
reading_is address command asks graph settings = ap (after_reading graph settings) (reading_of-complete command asks.in_range) ∙ asks.keeps graph settings

pub walk_in_range : (graph : RawCodec) → IsWellFormed graph → graph.address ≤ 14 → All IsInRange (walk_commands graph)
walk_in_range graph well low = All-weaker (Asks graph.address) IsInRange (λ command asks. asks.in_range) (walk_commands graph) (asks_walk graph well low)

pub walk_goes : (graph : RawCodec) → IsWellFormed graph → graph.address ≤ 14 → All (λ (command : Command). command.codec ≡ graph.address) (walk_commands graph)
walk_goes graph well low =
    All-weaker (Asks graph.address) (λ (command : Command). command.codec ≡ graph.address) (λ command asks. asks.to) (walk_commands graph) (asks_walk graph well low)

pub walk_reads : (graph : RawCodec) → IsWellFormed graph → graph.address ≤ 14 → All IsReading (map word_of (walk_commands graph))
walk_reads graph well low =
    All-map IsReading word_of (walk_commands graph)
    (All-weaker (Asks graph.address) (λ (command : Command). IsReading (word_of command)) (reading_is graph.address) (walk_commands graph) (asks_walk graph well low))

-- one walk after the other
pub walks_read : (graphs : List RawCodec) → All IsWellFormed graphs → All (λ (graph : RawCodec). graph.address ≤ 14) graphs → All IsReading (map word_of (flat_map walk_commands graphs))
walks_read [] well low = All-nil IsReading
walks_read (graph ∷ graphs) well low =
    subst (λ (words : List ℕ). All IsReading words) (sym (map-append word_of (walk_commands graph) (flat_map walk_commands graphs)))
    (All-append IsReading (map word_of (walk_commands graph)) (map word_of (flat_map walk_commands graphs))
    (walk_reads graph (All-head IsWellFormed graph graphs well) (All-head (λ (graph : RawCodec). graph.address ≤ 14) graph graphs low))
    (walks_read graphs (All-tail IsWellFormed graph graphs well) (All-tail (λ (graph : RawCodec). graph.address ≤ 14) graph graphs low)))
