-- The verbs that set a codec up for an input, in four steps: power, pins off the route, converters off the route, and
-- the nodes of the route. The first two are those of set-up for outputs. Within a step nodes ascend. In a codec whose
-- plan has no entry no node is on the route. Verbs: High Definition Audio 1.0a, 7.3.3. The list is this project's own.
use Rattle.std.specs.Prelude.{ℕ, Bool, ◌&&◌, ◌||◌, not, ◌*◌, ◌^◌, List, [], ◌∷◌, ◌++◌, length, nat_le, if◌then◌else◌}
use Rattle.std.specs.List.{flat_map}
use Rattle.codec_graph.specs.declared.raw.RawNode.{RawNode}
use Rattle.codec_graph.specs.declared.raw.RawCodec.{RawCodec}
use Rattle.codec_graph.specs.Widget.{is_converter, is_input_converter, is_selector, is_pin, has_input_amplifier}
use Rattle.verb_codes.specs.declared.verbs.Command.{Command}
use Rattle.verb_codes.specs.declared.verbs.Verb.{Verb}
use Rattle.verb_codes.specs.declared.verbs.Verb.TheVariants.{SetSelect, SetStream, SetPin, SetFormat}
use Rattle.stream_format.specs.declared.format.Format.{Format}
use Rattle.stream_format.specs.Words.{format_word}
use Rattle.route_planner.specs.declared.routes.Outcome.{Outcome}
use Rattle.route_planner.specs.declared.routes.Outcome.TheVariants as outcome
use Rattle.route_planner.specs.declared.routes.PinPlan.{PinPlan}
use Rattle.route_planner.specs.declared.routes.Plan.{Plan}
use Rattle.setup_verbs.specs.declared.roles.Role.{Role}
use Rattle.setup_verbs.specs.declared.roles.Role.TheVariants.{Unused, Passed, Source}
use Rattle.setup_verbs.specs.Roles.{Uses, route_uses, role_among, is_used}
use Rattle.setup_verbs.specs.VerbList.{only_if, power_verbs, silence_verbs, mixer_verbs, pass_input, output_verbs}
use Rattle.setup_verbs.specs.VerbList.{in_steps}

-- ---- what the route makes of each node

-- it passes the node that each hop leaves, and has its sound from the pin
abbrev pub input_outcome_uses : (pin pair : ℕ) → Outcome → Uses
input_outcome_uses pin pair (outcome.Route route) = route_uses route.hops pin pair
input_outcome_uses pin pair outcome.Blocked = []
input_outcome_uses pin pair outcome.NoPath = []

abbrev pub input_entry_uses : PinPlan → Uses
input_entry_uses entry = input_outcome_uses entry.pin entry.pair entry.outcome

abbrev pub input_uses_of : List PinPlan → Uses
input_uses_of entries = flat_map input_entry_uses entries

unfoldable pub input_role_of : Plan → ℕ → Role
input_role_of plan nid = role_among (input_uses_of plan.pins) nid

-- ---- step 3

-- a converter off the route takes no stream and gives none (7.3.3.11)
abbrev pub input_release_verbs : RawNode → Role → List Verb
input_release_verbs node role = only_if (not (is_used role) && is_converter node) (SetStream 0)

-- ---- step 4

-- the route's converter or a selector: it has one connection selected
abbrev pub selects_input : RawNode → Bool
selects_input node = is_selector node || is_input_converter node

-- where it has a choice, that of the route (7.3.3.2)
abbrev pub input_select_verbs : RawNode → ℕ → List Verb
input_select_verbs node index = only_if (selects_input node && nat_le 2 (length node.list)) (SetSelect index)

-- the converter gives its stream in the format (7.3.3.8), from the first channel on (7.3.3.11)
abbrev pub input_stream_verbs : Format → (tag : ℕ) → RawNode → List Verb
input_stream_verbs format tag node =
    if is_input_converter node then SetFormat (format_word format) ∷ SetStream (tag * 2 ^ 4) ∷ [] else []

-- the input that is selected passes at 0 dB
abbrev pub selected_verbs : RawCodec → RawNode → ℕ → List Verb
selected_verbs codec node index =
    only_if (selects_input node && has_input_amplifier node) (pass_input codec node index)

abbrev pub input_passed_verbs : RawCodec → Format → (tag : ℕ) → RawNode → ℕ → List Verb
input_passed_verbs codec format tag node index =
    mixer_verbs codec node index
    ++ (input_select_verbs node index
    ++ (input_stream_verbs format tag node
    ++ (selected_verbs codec node index
    ++ output_verbs codec node)))

-- the control of a pin that takes sound in (7.3.3.13)
abbrev pub input_control : ℕ
input_control = 0x20

-- the pin's first input passes at 0 dB, and its input is enabled
abbrev pub input_pin_verbs : RawCodec → RawNode → List Verb
input_pin_verbs codec node =
    only_if (has_input_amplifier node) (pass_input codec node 0)
    ++ (only_if (is_pin node) (SetPin input_control) ++ output_verbs codec node)

abbrev pub input_route_verbs : RawCodec → Format → (tag : ℕ) → RawNode → Role → List Verb
input_route_verbs codec format tag node Unused = []
input_route_verbs codec format tag node (Passed index) = input_passed_verbs codec format tag node index
input_route_verbs codec format tag node (Source pair) = input_pin_verbs codec node

-- ---- all steps

unfoldable pub input_verbs : RawCodec → Plan → Format → (tag : ℕ) → List Command
input_verbs codec plan format tag =
    in_steps codec (input_role_of plan) (λ _. power_verbs) (λ _. silence_verbs) (λ _. input_release_verbs)
    (λ _. input_route_verbs codec format tag)
