-- The commands of a machine go to its codecs.
use Rattle.codec_graph.specs.declared.pin_kind.PinKind.{PinKind}
use Rattle.std.proofs.Common.{◌≤◌, ◌<◌, ◌^◌, ℕ, List, [], ◌∷◌, map, sym, subst, arith, lit≤}
use Rattle.std.specs.Prelude.{All, Contains}
use Rattle.std.proofs.lemmas.List.Elements.{All-nil, All-cons, All-head, All-tail, All-append, All-map, Contains-append_left, Contains-append_right, Contains-push}
use Rattle.verb_codes.specs.declared.verbs.Command.{Command}
use Rattle.verb_codes.specs.Verbs.{IsInRange, word_of}
use Rattle.codec_graph.specs.declared.raw.RawCodec.{RawCodec}
use Rattle.codec_graph.specs.Cycles.{IsWellFormed}
use Rattle.stream_format.specs.declared.format.Format.{Format}
use Rattle.route_planner.specs.declared.routes.Plan.{Plan}
use Rattle.setup_verbs.proofs.Callers.{all_commands_of}
use Rattle.codec_walk.specs.Commands.{walk_commands}
use Rattle.laws_settings.proofs.Callers.{walk_goes, walk_in_range, word_names}
use Rattle.hda_world.specs.Steps.{address_of}
use Rattle.hda_files.specs.declared.machine.CodecFile.{CodecFile}
use Rattle.hda_files.specs.Machines.{IsSoundCodec}
use Rattle.heard_lists.specs.Listings.{graphs_in}
use Rattle.driver_agenda.specs.Planned.{verbs_for}
use Rattle.driver_progress.specs.Tasks.{order_of, walks_over}
use Rattle.laws_start.specs.Tasks.{stream_tag}
use Rattle.laws_serving.specs.Runs.{IsOrderTo}
use Rattle.program_runs.specs.Outputs.{HavePlansOf, verbs_by_as, commands_as}
use Rattle.program_runs.specs.Served.{codec_address}

-- ---- one command

narrow_word : (word : ℕ) → address_of word ≤ 14 → word < 2 ^ 32
narrow_word word low = omega (arith, low)

-- it goes to one of some codecs, and its word names it
abbrev pub Goes : (codecs : List ℕ) → Command → Type 0
Goes codecs command = IsOrderTo codecs (order_of command)

goes_to : (codecs : List ℕ) (command : Command) → Contains codecs command.codec → IsInRange command → Goes codecs command
goes_to codecs command there ranged =
    let names = word_names command ranged in record {
      there = there;
      names = names;
      narrow = narrow_word (word_of command) (subst (λ (codec : ℕ). codec ≤ 14) (sym names) ranged.codec);
    }

-- ---- all commands of codecs

-- the address of a graph is one of some codecs
abbrev IsAmong : (codecs : List ℕ) → RawCodec → Type 0
IsAmong codecs graph = Contains codecs graph.address

abbrev pub IsLow : RawCodec → Type 0
IsLow graph = graph.address ≤ 14

all_among : (codecs : List ℕ) (files : List CodecFile) → ((address : ℕ) → Contains (map codec_address files) address → Contains codecs address) → All (IsAmong codecs) (graphs_in files)
all_among codecs [] within = All-nil (IsAmong codecs)
all_among codecs (file ∷ files) within =
    let first : Contains (map codec_address (file ∷ files)) file.graph.address = Contains-append_left (file.graph.address ∷ []) (map codec_address files) file.graph.address (Contains-push [] file.graph.address) in
    All-cons (IsAmong codecs) file.graph (graphs_in files) (within file.graph.address first)
    (all_among codecs files (λ address there. within address (Contains-append_right (file.graph.address ∷ []) (map codec_address files) address there)))

pub all_low : (files : List CodecFile) → All IsSoundCodec files → All IsLow (graphs_in files)
all_low [] sound = All-nil IsLow
all_low (file ∷ files) sound = All-cons IsLow file.graph (graphs_in files) (All-head IsSoundCodec file files sound).address (all_low files (All-tail IsSoundCodec file files sound))

walk_goes_there : (codecs : List ℕ) (graph : RawCodec) → IsWellFormed graph → IsLow graph → IsAmong codecs graph → All (Goes codecs) (walk_commands graph)
walk_goes_there codecs graph well low among =
    let goes = walk_goes graph well low in
    let ranged = walk_in_range graph well low in
    λ k command within. goes_to codecs _ (subst (Contains codecs) (sym (goes k command within)) among) (ranged k command within)

walks_go : (codecs : List ℕ) (graphs : List RawCodec) → All IsWellFormed graphs → All IsLow graphs → All (IsAmong codecs) graphs → All (Goes codecs) (walks_over graphs)
walks_go codecs [] well low among = All-nil (Goes codecs)
walks_go codecs (graph ∷ graphs) well low among =
    All-append (Goes codecs) (walk_commands graph) (walks_over graphs)
    (walk_goes_there codecs graph (All-head IsWellFormed graph graphs well) (All-head IsLow graph graphs low) (All-head (IsAmong codecs) graph graphs among))
    (walks_go codecs graphs (All-tail IsWellFormed graph graphs well) (All-tail IsLow graph graphs low) (All-tail (IsAmong codecs) graph graphs among))

verbs_go : (kind : PinKind) (codecs : List ℕ) (format : Format) (files : List CodecFile) (plans : List Plan) → HavePlansOf kind format files plans → All IsWellFormed (graphs_in files) → All IsLow (graphs_in files) → All (IsAmong codecs) (graphs_in files)
    → All (Goes codecs) (verbs_for (verbs_by_as kind format) (graphs_in files) plans)
verbs_go kind codecs format [] plans have well low among = All-nil (Goes codecs)
verbs_go kind codecs format (file ∷ files) [] have well low among = absurd have
verbs_go kind codecs format (file ∷ files) (plan ∷ plans) have well low among =
    let graph = file.graph in
    let here = All-head (IsAmong codecs) graph (graphs_in files) among in
    let below = All-head IsLow graph (graphs_in files) low in
    let all = all_commands_of kind graph plan format stream_tag (All-head IsWellFormed graph (graphs_in files) well) have.0 (lit≤ tt) in
    All-append (Goes codecs) (verbs_by_as kind format graph plan) (verbs_for (verbs_by_as kind format) (graphs_in files) plans)
    (λ k command within. goes_to codecs _ (subst (Contains codecs) (sym (all k command within).address) here) ((all k command within).in_range below))
    (verbs_go kind codecs format files plans have.1 (All-tail IsWellFormed graph (graphs_in files) well) (All-tail IsLow graph (graphs_in files) low) (All-tail (IsAmong codecs) graph (graphs_in files) among))

pub orders_go : (kind : PinKind) (format : Format) (files : List CodecFile) (plans : List Plan) → HavePlansOf kind format files plans → All IsWellFormed (graphs_in files) → All IsSoundCodec files
    → All (IsOrderTo (map codec_address files)) (map order_of (commands_as kind format files plans))
orders_go kind format files plans have well sound =
    let codecs = map codec_address files in
    let low = all_low files sound in
    let among = all_among codecs files (λ address there. there) in
    All-map (IsOrderTo codecs) order_of (commands_as kind format files plans)
    (All-append (Goes codecs) (walks_over (graphs_in files)) (verbs_for (verbs_by_as kind format) (graphs_in files) plans) (walks_go codecs (graphs_in files) well low among) (verbs_go kind codecs format files plans have well low among))
