-- How many commands a walk over a codec has at most, and how many verbs set it up for an input.
use Rattle.std.proofs.Common.{◌≡◌, ◌≤◌, ◌+◌, ◌*◌, ◌&&◌, ◌++◌, ℕ, zero, suc, Bool, true, false, not, cond, List, [], ◌∷◌, length, map, filter, Option, Some, None, refl, arith, length-append}
use Rattle.std.specs.Prelude.{All, sum_by, nat_le, if◌then◌else◌}
use Rattle.std.specs.List.{range_with_len}
use Rattle.std.proofs.lemmas.List.{length-map}
use Rattle.std.proofs.lemmas.List.FromFn.{length-map-range_with_len}
use Rattle.std.proofs.lemmas.List.Elements.{All-head, All-tail}
use Rattle.std.proofs.lemmas.List.Sums.{sum_by-cons}
use Rattle.verb_codes.specs.declared.verbs.Command.{Command}
use Rattle.verb_codes.specs.declared.verbs.Verb.{Verb}
use Rattle.verb_codes.specs.declared.verbs.Verb.TheVariants.{SetSelect, SetPower, SetStream, SetPin, SetFormat}
use Rattle.codec_graph.specs.declared.raw.RawNode.{RawNode}
use Rattle.codec_graph.specs.declared.raw.RawCodec.{RawCodec}
use Rattle.codec_graph.specs.Widget.{node_at, is_converter, is_input_converter, is_mixer, is_pin, has_list, has_power_control, has_input_amplifier, has_output_amplifier}
use Rattle.codec_graph.specs.Listed.{HasReadableList}
use Rattle.codec_graph.specs.Cycles.{IsWellFormed}
use Rattle.codec_graph.proofs.Callers.{counted}
use Rattle.codec_walk.specs.Commands.{node_count, walk_commands}
use Rattle.codec_walk.specs.Words.{applies, node_words, words_for}
use Rattle.stream_format.specs.declared.format.Format.{Format}
use Rattle.stream_format.specs.Words.{format_word}
use Rattle.route_planner.specs.declared.routes.Plan.{Plan}
use Rattle.route_planner.proofs.Callers.{IsBounded-from_sound}
use Rattle.setup_verbs.specs.declared.roles.Role.{Role}
use Rattle.setup_verbs.specs.declared.roles.Role.TheVariants.{Unused, Passed, Source}
use Rattle.setup_verbs.specs.Roles.{is_used}
use Rattle.setup_verbs.specs.VerbList.{only_if, pass_input, power_verbs, silence_verbs, mixer_input, mixer_verbs, output_verbs, commands_to, command_to, to_below, to_all, at_widget, step_at_by, step_by}
use Rattle.input_verbs.specs.InputVerbs.{input_role_of, input_release_verbs, selects_input, input_select_verbs, input_stream_verbs, selected_verbs, input_passed_verbs, input_control, input_pin_verbs, input_route_verbs, input_verbs}

-- ---- the walk

few_filtered : {X : Type 0} (p : X → Bool) (xs : List X) → length (filter p xs) ≤ length xs
few_filtered p [] = omega arith
few_filtered p (x ∷ xs) = by (p x) (few_filtered p xs) where
  by : (here : Bool) → length (filter p xs) ≤ length xs → length (cond here (x ∷ filter p xs) (filter p xs)) ≤ suc (length xs)
  by true few = omega (arith, few)
  by false few = omega (arith, few)

few_words : (long : Bool) (entries : ℕ) → entries ≤ 127 → words_for long entries ≤ 64
few_words true entries few = omega (arith, few)
few_words false entries few = omega (arith, few)

few_node : (node : RawNode) → HasReadableList node → node_count node ≤ 73
few_node node readable =
    let words = few_filtered (applies node) node_words in
    let entries = few_words node.long (length node.entries) readable.few in
    by (length (filter (applies node) node_words)) (words_for node.long (length node.entries)) (has_list node) (has_power_control node) words entries
  where
    by : (words entries : ℕ) (list power : Bool) → words ≤ 6 → entries ≤ 64 → 1 + words + (if list then 1 + entries else 0) + (if power then 1 else 0) ≤ 73
    by words entries true true a b = omega (arith, a, b)
    by words entries true false a b = omega (arith, a, b)
    by words entries false true a b = omega (arith, a, b)
    by words entries false false a b = omega (arith, a, b)

few_nodes : (nodes : List RawNode) → All HasReadableList nodes → sum_by node_count nodes ≤ 73 * length nodes
few_nodes [] readable = omega arith
few_nodes (node ∷ nodes) readable =
    let here = few_node node (All-head HasReadableList node nodes readable) in
    let rest = few_nodes nodes (All-tail HasReadableList node nodes readable) in
    let sum = sum_by-cons node_count node nodes in
    omega (arith, here, rest, sum)

-- so many commands a walk has at most
pub few_walk : (codec : RawCodec) → IsWellFormed codec → length (walk_commands codec) ≡ 10 + sum_by node_count codec.nodes → length (walk_commands codec) ≤ 10000
few_walk codec well counts =
    let all = few_nodes codec.nodes well.lists in
    let count = counted codec well in
    let end = count.ends in
    let many = count.as_many in
    omega (arith, all, counts, end, many)

-- ---- the verbs at a node

few_if : (applies : Bool) (verb : Verb) → length (only_if applies verb) ≤ 1
few_if true verb = omega arith
few_if false verb = omega arith

few_mixer : (codec : RawCodec) (node : RawNode) (index : ℕ) → length (mixer_verbs codec node index) ≤ length node.list
few_mixer codec node index = by (is_mixer node && has_input_amplifier node) where
  by : (applies : Bool) → length (cond applies (map (mixer_input codec node index) (range_with_len 0 (length node.list))) []) ≤ length node.list
  by true = (let same = length-map-range_with_len (mixer_input codec node index) 0 (length node.list) in omega (arith, same))
  by false = omega arith

few_stream : (format : Format) (tag : ℕ) (node : RawNode) → length (input_stream_verbs format tag node) ≤ 2
few_stream format tag node = by (is_input_converter node) where
  by : (applies : Bool) → length (cond applies (SetFormat (format_word format) ∷ SetStream (tag * 16) ∷ []) []) ≤ 2
  by true = omega arith
  by false = omega arith

few_output : (codec : RawCodec) (node : RawNode) → length (output_verbs codec node) ≤ 1
few_output codec node = few_if (has_output_amplifier node) _

five : (one two three four last : List Verb) (most : ℕ) → length one ≤ most → length two ≤ 1 → length three ≤ 2 → length four ≤ 1 → length last ≤ 1
    → length (one ++ (two ++ (three ++ (four ++ last)))) ≤ most + 5
five one two three four last most a b c d e =
    let first = length-append one (two ++ (three ++ (four ++ last))) in
    let second = length-append two (three ++ (four ++ last)) in
    let third = length-append three (four ++ last) in
    let fourth = length-append four last in
    omega (arith, first, second, third, fourth, a, b, c, d, e)

few_passed : (codec : RawCodec) (format : Format) (tag : ℕ) (node : RawNode) (index : ℕ) → length node.list ≤ 64 → length (input_passed_verbs codec format tag node index) ≤ 70
few_passed codec format tag node index short =
    let all =
    five (mixer_verbs codec node index) (input_select_verbs node index) (input_stream_verbs format tag node) (selected_verbs codec node index) (output_verbs codec node) (length node.list)
    (few_mixer codec node index) (few_if (selects_input node && nat_le 2 (length node.list)) (SetSelect index)) (few_stream format tag node)
    (few_if (selects_input node && has_input_amplifier node) (pass_input codec node index)) (few_output codec node) in
    omega (arith, all, short)

few_pin : (codec : RawCodec) (node : RawNode) → length (input_pin_verbs codec node) ≤ 70
few_pin codec node =
    let pass = few_if (has_input_amplifier node) (pass_input codec node 0) in
    let control = few_if (is_pin node) (SetPin input_control) in
    let output = few_output codec node in
    let first = length-append (only_if (has_input_amplifier node) (pass_input codec node 0)) (only_if (is_pin node) (SetPin input_control) ++ output_verbs codec node) in
    let second = length-append (only_if (is_pin node) (SetPin input_control)) (output_verbs codec node) in
    omega (arith, pass, control, output, first, second)

few_route : (codec : RawCodec) (format : Format) (tag : ℕ) (node : RawNode) (role : Role) → length node.list ≤ 64 → length (input_route_verbs codec format tag node role) ≤ 70
few_route codec format tag node Unused short = omega arith
few_route codec format tag node (Passed index) short = few_passed codec format tag node index short
few_route codec format tag node (Source pair) short = few_pin codec node

-- ---- all nodes

-- at each widget that is there a step has so many verbs at most
abbrev AreFew : RawCodec → (ℕ → RawNode → Role → List Verb) → Type 0
AreFew codec verbs = (nid : ℕ) (node : RawNode) (role : Role) → node_at codec nid ≡ Some node → length (verbs nid node role) ≤ 70

few_at : (codec : RawCodec) (roles : ℕ → Role) (verbs : ℕ → RawNode → Role → List Verb) → AreFew codec verbs → (nid : ℕ) → length (step_at_by codec roles verbs nid) ≤ 70
few_at codec roles verbs few nid = by (node_at codec nid) refl where
  by : (found : Option RawNode) → node_at codec nid ≡ found → length (commands_to codec nid (at_widget (verbs nid) found (roles nid))) ≤ 70
  by None is = omega arith
  by (Some node) is =
      let same = length-map (verbs nid node (roles nid)) (command_to codec nid) in
      let here = few nid node (roles nid) is in
      omega (arith, same, here)

few_below : (at : ℕ → List Command) → ((nid : ℕ) → length (at nid) ≤ 70) → (end : ℕ) → length (to_below at end) ≤ 70 * end
few_below at few zero = omega arith
few_below at few (suc end) =
    let rest = few_below at few end in
    let here = few end in
    let all = length-append (to_below at end) (at end) in
    omega (arith, rest, here, all)

few_step : (codec : RawCodec) (roles : ℕ → Role) (verbs : ℕ → RawNode → Role → List Verb) → AreFew codec verbs → length (step_by codec roles verbs) ≤ 8960
unfolding to_all
few_step codec roles verbs few = few_below (step_at_by codec roles verbs) (few_at codec roles verbs few) 128

few_power : (codec : RawCodec) → AreFew codec (λ _. power_verbs)
few_power codec nid node role is = (let few : length (power_verbs node role) ≤ 1 = few_if (is_used role && has_power_control node) (SetPower 0) in omega (arith, few))

few_silence : (codec : RawCodec) → AreFew codec (λ _. silence_verbs)
few_silence codec nid node role is = (let few : length (silence_verbs node role) ≤ 1 = few_if (not (is_used role) && is_pin node) (SetPin 0) in omega (arith, few))

few_release : (codec : RawCodec) → AreFew codec (λ _. input_release_verbs)
few_release codec nid node role is = (let few : length (input_release_verbs node role) ≤ 1 = few_if (not (is_used role) && is_converter node) (SetStream 0) in omega (arith, few))

few_routes : (codec : RawCodec) (format : Format) (tag : ℕ) → IsWellFormed codec → AreFew codec (λ _. input_route_verbs codec format tag)
few_routes codec format tag well nid node role is =
    let bounded = IsBounded-from_sound codec well.tables in
    few_route codec format tag node role (rw is at (bounded.short nid))

-- so many verbs set a codec up for an input at most
pub few_input : (codec : RawCodec) (plan : Plan) (format : Format) (tag : ℕ) → IsWellFormed codec → length (input_verbs codec plan format tag) ≤ 40000
unfolding input_verbs
few_input codec plan format tag well =
    let roles = input_role_of plan in
    four (step_by codec roles (λ _. power_verbs)) (step_by codec roles (λ _. silence_verbs)) (step_by codec roles (λ _. input_release_verbs)) (step_by codec roles (λ _. input_route_verbs codec format tag))
    (few_step codec roles (λ _. power_verbs) (few_power codec)) (few_step codec roles (λ _. silence_verbs) (few_silence codec)) (few_step codec roles (λ _. input_release_verbs) (few_release codec))
    (few_step codec roles (λ _. input_route_verbs codec format tag) (few_routes codec format tag well))
  where
    four : (power silence release route : List Command) → length power ≤ 8960 → length silence ≤ 8960 → length release ≤ 8960 → length route ≤ 8960
        → suc (length (power ++ (silence ++ (release ++ route)))) ≤ 40000
    four power silence release route a b c d =
        let first = length-append power (silence ++ (release ++ route)) in
        let second = length-append silence (release ++ route) in
        let third = length-append release route in
        omega (arith, first, second, third, a, b, c, d)
