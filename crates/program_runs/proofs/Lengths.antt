-- How many verbs set a codec up at most, and how many widgets it has.
use Rattle.codec_graph.specs.declared.pin_kind.PinKind.{PinKind}
use Rattle.codec_graph.specs.declared.pin_kind.PinKind.TheVariants.{Analog, Digital}
use Rattle.std.proofs.Common.{◌≡◌, ◌≤◌, ◌+◌, ◌*◌, ◌&&◌, ◌++◌, ℕ, zero, suc, Bool, true, false, not, cond, List, [], length, map, Option, Some, None, refl, arith, length-append}
use Rattle.std.specs.List.{range_with_len}
use Rattle.std.proofs.lemmas.List.{length-map}
use Rattle.std.proofs.lemmas.List.FromFn.{length-map-range_with_len}
use Rattle.verb_codes.specs.declared.verbs.Command.{Command}
use Rattle.verb_codes.specs.declared.verbs.Verb.{Verb}
use Rattle.verb_codes.specs.declared.verbs.Verb.TheVariants.{SetSelect, SetPower, SetStream, SetPin, SetUnsol, SetEapd}
use Rattle.codec_graph.specs.declared.raw.RawNode.{RawNode}
use Rattle.codec_graph.specs.declared.raw.RawCodec.{RawCodec}
use Rattle.codec_graph.specs.Widget.{node_at, is_output_converter, is_mixer, is_selector, is_pin, has_power_control, has_input_amplifier, has_output_amplifier}
use Rattle.codec_graph.specs.Settings.{has_eapd, detects_presence, sends_unsolicited}
use Rattle.codec_graph.specs.Cycles.{IsWellFormed}
use Rattle.stream_format.specs.declared.format.Format.{Format}
use Rattle.route_planner.specs.declared.routes.Plan.{Plan}
use Rattle.route_planner.proofs.Callers.{IsBounded-from_sound}
use Rattle.setup_verbs.specs.Roles.{role_of, is_used}
use Rattle.program_runs.proofs.Given.{role_of_plan}
use Rattle.setup_verbs.specs.VerbList.{only_if, has_choice, pass_input, pin_control, event_tag, power_verbs, silence_verbs, release_verbs, enable_verbs, source_verbs, source_verbs_as, mixer_input, mixer_verbs, select_verbs, selector_verbs, output_verbs, pin_verbs, digital_pin_verbs, passed_verbs, passed_verbs_as, route_verbs, commands_to, command_to, to_below, to_all, at_widget, step_at, step, setup_verbs_as}

few_if : (applies : Bool) (verb : Verb) → length (only_if applies verb) ≤ 1
few_if true verb = omega arith
few_if false verb = omega arith

few_mixer : (codec : RawCodec) (node : RawNode) (index : ℕ) → length (mixer_verbs codec node index) ≤ length node.list
few_mixer codec node index = by (is_mixer node && has_input_amplifier node) where
  by : (applies : Bool) → length (cond applies (map (mixer_input codec node index) (range_with_len 0 (length node.list))) []) ≤ length node.list
  by true = (let same = length-map-range_with_len (mixer_input codec node index) 0 (length node.list) in omega (arith, same))
  by false = omega arith

few_pin : (plan : Plan) (nid : ℕ) (node : RawNode) → length (pin_verbs plan nid node) ≤ 3
few_pin plan nid node =
    let amplified = SetEapd 0x02 in
    let told = SetUnsol (0x80 + event_tag plan nid) in
    let enabled = SetPin (pin_control node) in
    three (only_if (has_eapd node) amplified) (only_if (detects_presence node && sends_unsolicited node) told) (only_if (is_pin node) enabled)
    (few_if (has_eapd node) amplified) (few_if (detects_presence node && sends_unsolicited node) told) (few_if (is_pin node) enabled)
  where
    three : (one other last : List Verb) → length one ≤ 1 → length other ≤ 1 → length last ≤ 1 → length (one ++ (other ++ last)) ≤ 3
    three one other last a b c = (let first = length-append one (other ++ last) in let second = length-append other last in omega (arith, first, second, a, b, c))

few_select : (node : RawNode) (index : ℕ) → length (select_verbs node index) ≤ 1
few_select node index = few_if (has_choice node) (SetSelect index)

few_selector : (codec : RawCodec) (node : RawNode) (index : ℕ) → length (selector_verbs codec node index) ≤ 1
few_selector codec node index = few_if (is_selector node && has_input_amplifier node) (pass_input codec node index)

few_output : (codec : RawCodec) (node : RawNode) → length (output_verbs codec node) ≤ 1
few_output codec node = few_if (has_output_amplifier node) _

few_passed : (codec : RawCodec) (plan : Plan) (nid : ℕ) (node : RawNode) (index : ℕ) → length node.list ≤ 64 → length (passed_verbs codec plan nid node index) ≤ 70
few_passed codec plan nid node index short =
    five (mixer_verbs codec node index) (select_verbs node index) (selector_verbs codec node index) (output_verbs codec node) (pin_verbs plan nid node)
    (few_mixer codec node index) (few_select node index) (few_selector codec node index) (few_output codec node) (few_pin plan nid node)
  where
    five : (mixer select selector output pin : List Verb) → length mixer ≤ length node.list → length select ≤ 1 → length selector ≤ 1 → length output ≤ 1 → length pin ≤ 3
        → length (mixer ++ (select ++ (selector ++ (output ++ pin)))) ≤ 70
    five mixer select selector output pin a b c d e =
        let first = length-append mixer (select ++ (selector ++ (output ++ pin))) in
        let second = length-append select (selector ++ (output ++ pin)) in
        let third = length-append selector (output ++ pin) in
        let fourth = length-append output pin in
        omega (arith, first, second, third, fourth, a, b, c, d, e, short)

few_digital_pin : (node : RawNode) → length (digital_pin_verbs node) ≤ 2
few_digital_pin node =
    let amplified = few_if (has_eapd node) (SetEapd 0x02) in
    let enabled = few_if (is_pin node) (SetPin 0x40) in
    let both = length-append (only_if (has_eapd node) (SetEapd 0x02)) (only_if (is_pin node) (SetPin 0x40)) in
    omega (arith, amplified, enabled, both)

few_passed_as : (kind : PinKind) (codec : RawCodec) (plan : Plan) (nid : ℕ) (node : RawNode) (index : ℕ) → length node.list ≤ 64 → length (passed_verbs_as kind codec plan nid node index) ≤ 70
few_passed_as Analog codec plan nid node index short = few_passed codec plan nid node index short
few_passed_as Digital codec plan nid node index short =
    let select = few_select node index in
    let output = few_output codec node in
    let pin = few_digital_pin node in
    let first = length-append (select_verbs node index) (output_verbs codec node ++ digital_pin_verbs node) in
    let second = length-append (output_verbs codec node) (digital_pin_verbs node) in
    omega (arith, select, output, pin, first, second)

few_enable : (kind : PinKind) → length (enable_verbs kind) ≤ 1
few_enable Analog = omega arith
few_enable Digital = omega arith

few_source : (kind : PinKind) (codec : RawCodec) (format : Format) (tag pair : ℕ) (node : RawNode) → length (source_verbs_as kind format tag pair ++ output_verbs codec node) ≤ 70
few_source kind codec format tag pair node =
    let output = few_output codec node in
    let enable = few_enable kind in
    let source = length-append (source_verbs format tag pair) (enable_verbs kind) in
    let all = length-append (source_verbs_as kind format tag pair) (output_verbs codec node) in
    omega (arith, all, source, enable, output)

few_route : (kind : PinKind) (codec : RawCodec) (plan : Plan) (format : Format) (tag nid : ℕ) (node : RawNode) → length node.list ≤ 64 → length (route_verbs kind codec plan format tag nid node (role_of plan nid)) ≤ 70
few_route kind codec plan format tag nid node short =
    role_of_plan plan nid (λ role. length (route_verbs kind codec plan format tag nid node role) ≤ 70) (omega arith) (λ index. few_passed_as kind codec plan nid node index short)
    (λ pair. few_source kind codec format tag pair node)

-- ---- all nodes

-- at each widget that is there a step has so many verbs at most
abbrev AreFew : {R : Type 0} → RawCodec → (ℕ → R) → (ℕ → RawNode → R → List Verb) → Type 0
AreFew {R} codec role verbs = (nid : ℕ) (node : RawNode) → node_at codec nid ≡ Some node → length (verbs nid node (role nid)) ≤ 70

few_at : (codec : RawCodec) (plan : Plan) (verbs : ℕ → RawNode → _ → List Verb) → AreFew codec (role_of plan) verbs → (nid : ℕ) → length (step_at codec plan verbs nid) ≤ 70
few_at codec plan verbs few nid = by (node_at codec nid) refl where
  by : (found : Option RawNode) → node_at codec nid ≡ found → length (commands_to codec nid (at_widget (verbs nid) found (role_of plan nid))) ≤ 70
  by None is = omega arith
  by (Some node) is =
      let same = length-map (verbs nid node (role_of plan nid)) (command_to codec nid) in
      let here = few nid node is in
      omega (arith, same, here)

few_below : (at : ℕ → List Command) → ((nid : ℕ) → length (at nid) ≤ 70) → (end : ℕ) → length (to_below at end) ≤ 70 * end
few_below at few zero = omega arith
few_below at few (suc end) =
    let rest = few_below at few end in
    let here = few end in
    let all = length-append (to_below at end) (at end) in
    omega (arith, rest, here, all)

few_step : (codec : RawCodec) (plan : Plan) (verbs : ℕ → RawNode → _ → List Verb) → AreFew codec (role_of plan) verbs → length (step codec plan verbs) ≤ 8960
unfolding to_all
few_step codec plan verbs few = few_below (step_at codec plan verbs) (few_at codec plan verbs few) 128

few_power : (codec : RawCodec) (plan : Plan) → AreFew codec (role_of plan) (λ _. power_verbs)
few_power codec plan nid node is = (let few : length (power_verbs node (role_of plan nid)) ≤ 1 = few_if (is_used (role_of plan nid) && has_power_control node) (SetPower 0) in omega (arith, few))

few_silence : (codec : RawCodec) (plan : Plan) → AreFew codec (role_of plan) (λ _. silence_verbs)
few_silence codec plan nid node is = (let few : length (silence_verbs node (role_of plan nid)) ≤ 1 = few_if (not (is_used (role_of plan nid)) && is_pin node) (SetPin 0) in omega (arith, few))

few_release : (codec : RawCodec) (plan : Plan) → AreFew codec (role_of plan) (λ _. release_verbs)
few_release codec plan nid node is = (let few : length (release_verbs node (role_of plan nid)) ≤ 1 = few_if (not (is_used (role_of plan nid)) && is_output_converter node) (SetStream 0) in omega (arith, few))

few_routes : (kind : PinKind) (codec : RawCodec) (plan : Plan) (format : Format) (tag : ℕ) → IsWellFormed codec → AreFew codec (role_of plan) (route_verbs kind codec plan format tag)
few_routes kind codec plan format tag well nid node is =
    let bounded = IsBounded-from_sound codec well.tables in
    few_route kind codec plan format tag nid node (rw is at (bounded.short nid))

-- so many verbs set a codec up at most
pub few_setup : (kind : PinKind) (codec : RawCodec) (plan : Plan) (format : Format) (tag : ℕ) → IsWellFormed codec → length (setup_verbs_as kind codec plan format tag) ≤ 40000
unfolding setup_verbs_as
few_setup kind codec plan format tag well =
    four (step codec plan (λ _. power_verbs)) (step codec plan (λ _. silence_verbs)) (step codec plan (λ _. release_verbs)) (step codec plan (route_verbs kind codec plan format tag))
    (few_step codec plan (λ _. power_verbs) (few_power codec plan)) (few_step codec plan (λ _. silence_verbs) (few_silence codec plan)) (few_step codec plan (λ _. release_verbs) (few_release codec plan))
    (few_step codec plan (route_verbs kind codec plan format tag) (few_routes kind codec plan format tag well))
  where
    four : (power silence release route : List Command) → length power ≤ 8960 → length silence ≤ 8960 → length release ≤ 8960 → length route ≤ 8960
        → suc (length (power ++ (silence ++ (release ++ route)))) ≤ 40000
    four power silence release route a b c d =
        let first = length-append power (silence ++ (release ++ route)) in
        let second = length-append silence (release ++ route) in
        let third = length-append release route in
        omega (arith, first, second, third, a, b, c, d)
