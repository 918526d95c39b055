-- Codecs that were all walked over, and then each took commands of its own.
use Rattle.std.proofs.Common.{◌≡◌, ◌≤◌, ◌==◌, ℕ, List, [], ◌∷◌, ◌++◌, map, drop, get_or, append-nil, Some, ap, subst, ◌∙◌}
use Rattle.std.specs.Prelude.{All}
use Rattle.std.specs.List.{flat_map}
use Rattle.std.proofs.lemmas.List.{map-append}
use Rattle.std.proofs.lemmas.List.Elements.{All-nil, All-head, All-tail, All-append, All-weaker, All-filter, filter-append}
use Rattle.verb_codes.specs.declared.verbs.Command.{Command}
use Rattle.verb_codes.specs.Verbs.{IsInRange, word_of}
use Rattle.codec_graph.specs.declared.raw.RawCodec.{RawCodec}
use Rattle.codec_graph.specs.Cycles.{IsWellFormed}
use Rattle.codec_graph.specs.CodecStates.{CodecState}
use Rattle.codec_walk.specs.Commands.{walk_commands}
use Rattle.setup_verbs.specs.SetUp.{IsCommandOf}
use Rattle.hda_world.specs.Worlds.{World, codec_at}
use Rattle.laws_settings.specs.Histories.{words_of, Remembers}
use Rattle.laws_settings.specs.Addressed.{words_naming, commands_to, graphs_at, GoToTheirCodecs, CanBeSent, IsSetBy}
use Rattle.laws_settings.proofs.Asking.{walk_in_range, walk_goes, walk_reads}
use Rattle.laws_settings.proofs.Addressed.{words_naming-words, commands_to-graphs, words_to-naming}
use Rattle.laws_settings.proofs.SettingUp.{codec_set}

all_flat : (P : Command → Type 0) (commands : RawCodec → List Command) (graphs : List RawCodec) → All (λ (graph : RawCodec). All P (commands graph)) graphs → All P (flat_map commands graphs)
all_flat P commands [] all = All-nil P
all_flat P commands (graph ∷ graphs) all =
    All-append P (commands graph) (flat_map commands graphs) (All-head (λ (graph : RawCodec). All P (commands graph)) graph graphs all)
    (all_flat P commands graphs (All-tail (λ (graph : RawCodec). All P (commands graph)) graph graphs all))

module _ (verbs : RawCodec → List Command) (graphs : List RawCodec) (can : CanBeSent verbs graphs) where
  walks_ranged : All (λ (graph : RawCodec). All IsInRange (walk_commands graph)) graphs
  walks_ranged = λ place other within. walk_in_range (get_or graphs place other) (can.well_formed place other within) (can.addresses place other within)

  walks_go : GoToTheirCodecs walk_commands graphs
  walks_go = λ place other within. walk_goes (get_or graphs place other) (can.well_formed place other within) (can.addresses place other within)

  verbs_ranged : All (λ (graph : RawCodec). All IsInRange (verbs graph)) graphs
  verbs_ranged = λ place other within.
      All-weaker (IsCommandOf (get_or graphs place other)) IsInRange (λ command of. of.in_range (can.addresses place other within)) (verbs (get_or graphs place other)) (can.commands_are place other within)

  verbs_go : GoToTheirCodecs verbs graphs
  verbs_go = λ place other within.
      All-weaker (IsCommandOf (get_or graphs place other)) (λ (command : Command). command.codec ≡ (get_or graphs place other).address) (λ command of. of.address) (verbs (get_or graphs place other)) (can.commands_are place other within)

  all_ranged : All IsInRange (flat_map walk_commands graphs ++ flat_map verbs graphs)
  all_ranged =
      All-append IsInRange (flat_map walk_commands graphs) (flat_map verbs graphs) (all_flat IsInRange walk_commands graphs walks_ranged) (all_flat IsInRange verbs graphs verbs_ranged)

  -- where one graph alone has its address
  module _ (graph : RawCodec) (alone : graphs_at graph.address graphs ≡ graph ∷ []) where
    of_it : (P : RawCodec → Type 0) → All P graphs → P graph
    of_it P all =
        All-head P graph [] (subst (λ (at : List RawCodec). All P at) alone (All-filter (λ (one : RawCodec). one.address == graph.address) P graphs all))

    own : (commands : RawCodec → List Command) → GoToTheirCodecs commands graphs → commands_to graph.address (flat_map commands graphs) ≡ commands graph
    own commands home = commands_to-graphs graph.address commands graphs home ∙ ap (flat_map commands) alone ∙ append-nil (commands graph)

    both : commands_to graph.address (flat_map walk_commands graphs ++ flat_map verbs graphs) ≡ walk_commands graph ++ verbs graph
    both =
        filter-append (λ (command : Command). command.codec == graph.address) (flat_map walk_commands graphs) (flat_map verbs graphs)
        ∙ ap (λ (walk : List Command). walk ++ commands_to graph.address (flat_map verbs graphs)) (own walk_commands walks_go)
        ∙ ap (λ (rest : List Command). walk_commands graph ++ rest) (own verbs verbs_go)

    words_own : words_naming graph.address (map word_of (flat_map walk_commands graphs ++ flat_map verbs graphs)) ≡ map word_of (walk_commands graph) ++ map word_of (verbs graph)
    words_own =
        words_naming-words graph.address (flat_map walk_commands graphs ++ flat_map verbs graphs) all_ranged
        ∙ ap (map word_of) both
        ∙ map-append word_of (walk_commands graph) (verbs graph)

-- the codec has the settings that its own commands make
pub takes_its_own : (start : List CodecState) (from : ℕ) (world : World) (first now : CodecState) (verbs : RawCodec → List Command) (graphs : List RawCodec) → Remembers start from world
    → codec_at first.graph.address start ≡ Some first → codec_at first.graph.address world.codecs ≡ Some now → CanBeSent verbs graphs
    → graphs_at first.graph.address graphs ≡ first.graph ∷ []
    → words_of (drop from world.commands) ≡ map word_of (flat_map walk_commands graphs ++ flat_map verbs graphs) → IsSetBy (verbs first.graph) first now
takes_its_own start from world first now verbs graphs is before after can alone told =
    let graph = first.graph in
    let well = of_it verbs graphs can graph alone IsWellFormed can.well_formed in
    let low = of_it verbs graphs can graph alone (λ (graph : RawCodec). graph.address ≤ 14) can.addresses in
    codec_set start from world first now (map word_of (walk_commands graph)) (verbs graph) is before after (walk_reads graph well low)
    (of_it verbs graphs can graph alone (λ (graph : RawCodec). All IsInRange (verbs graph)) (verbs_ranged verbs graphs can))
    (words_to-naming start from world graph.address is ∙ ap (words_naming graph.address) told ∙ words_own verbs graphs can graph alone)
