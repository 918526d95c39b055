-- The verbs that set a codec up for the plan of its graph for a kind of pins, in four steps: power, pins without a
-- route, converters on no route, and the nodes of the routes. The first three are the same for each kind. Within a step
-- nodes ascend. Verbs: High Definition Audio 1.0a, 7.3.3. The list is this project's own.
use Rattle.std.specs.Prelude.{ℕ, zero, suc, Bool, true, false, ◌==◌, ◌&&◌, ◌||◌, not, ◌+◌, ◌*◌, ◌^◌, List, [], ◌∷◌}
use Rattle.std.specs.Prelude.{◌++◌, map, length, nat_le, if◌then◌else◌, Option, Some, None}
use Rattle.std.specs.List.{range_with_len}
use Rattle.codec_graph.specs.declared.raw.RawNode.{RawNode}
use Rattle.codec_graph.specs.declared.raw.RawCodec.{RawCodec}
use Rattle.codec_graph.specs.Widget.{node_identifiers, node_at, is_output_converter, is_mixer, is_selector, is_pin}
use Rattle.codec_graph.specs.Widget.{has_power_control, has_input_amplifier, has_output_amplifier, input_amplifier_word}
use Rattle.codec_graph.specs.Widget.{output_amplifier_word, amplifier_offset}
use Rattle.codec_graph.specs.Settings.{sends_unsolicited, detects_presence, has_eapd}
use Rattle.verb_codes.specs.declared.verbs.Command.{Command}
use Rattle.verb_codes.specs.declared.verbs.Verb.{Verb}
use Rattle.verb_codes.specs.declared.verbs.Verb.TheVariants.{SetSelect, SetPower, SetStream, SetPin, SetUnsol, SetEapd}
use Rattle.verb_codes.specs.declared.verbs.Verb.TheVariants.{SetFormat, SetDigital, SetAmp}
use Rattle.verb_codes.specs.declared.amplifiers.AmpSetting.{AmpSetting}
use Rattle.verb_codes.specs.Amplifiers.{setting_payload}
use Rattle.verb_codes.specs.Words.{has_bit}
use Rattle.stream_format.specs.declared.format.Format.{Format}
use Rattle.stream_format.specs.Words.{format_word}
use Rattle.codec_graph.specs.declared.pin_kind.PinKind.{PinKind}
use Rattle.codec_graph.specs.declared.pin_kind.PinKind.TheVariants.{Analog, Digital}
use Rattle.route_planner.specs.declared.routes.Plan.{Plan}
use Rattle.route_planner.specs.Pairs.{is_headphone_node}
use Rattle.setup_verbs.specs.declared.roles.Role.{Role}
use Rattle.setup_verbs.specs.declared.roles.Role.TheVariants.{Unused, Passed, Source}
use Rattle.setup_verbs.specs.Roles.{role_of, is_used, place_among}

abbrev pub only_if : Bool → Verb → List Verb
only_if applies verb = if applies then verb ∷ [] else []

-- ---- steps 1 to 3

-- a node of some route is put into the power state 0, fully on (7.3.3.10)
abbrev pub power_verbs : RawNode → Role → List Verb
power_verbs node role = only_if (is_used role && has_power_control node) (SetPower 0)

-- a pin without a route drives nothing, and takes nothing in (7.3.3.13)
abbrev pub silence_verbs : RawNode → Role → List Verb
silence_verbs node role = only_if (not (is_used role) && is_pin node) (SetPin 0)

-- a converter on no route takes no stream (7.3.3.11)
abbrev pub release_verbs : RawNode → Role → List Verb
release_verbs node role = only_if (not (is_used role) && is_output_converter node) (SetStream 0)

-- ---- step 4

-- the converter of a route takes the stream in its format (7.3.3.8), from the first channel of the pair on (7.3.3.11)
abbrev pub source_verbs : Format → (tag pair : ℕ) → List Verb
source_verbs format tag pair = SetFormat (format_word format) ∷ SetStream (tag * 2 ^ 4 + 2 * pair) ∷ []

-- the output of a digital one is enabled: DigEn alone (7.3.3.9)
abbrev pub enable_verbs : PinKind → List Verb
enable_verbs Analog = []
enable_verbs Digital = SetDigital 0x01 ∷ []

abbrev pub source_verbs_as : PinKind → Format → (tag pair : ℕ) → List Verb
source_verbs_as kind format tag pair = source_verbs format tag pair ++ enable_verbs kind

-- both sides of an amplifier (7.3.3.7): of the input at a place, and of the output
abbrev pub input_setting : ℕ → Bool → ℕ → AmpSetting
input_setting place mute gain = record {
  output = false;
  input = true;
  left = true;
  right = true;
  place = place;
  mute = mute;
  gain = gain;
}

abbrev pub output_setting : ℕ → AmpSetting
output_setting gain = record {
  output = true;
  input = false;
  left = true;
  right = true;
  place = 0;
  mute = false;
  gain = gain;
}

-- the input passes at 0 dB, or is muted
abbrev pub pass_input : RawCodec → RawNode → ℕ → Verb
pass_input codec node place = SetAmp
    (setting_payload (input_setting place false (amplifier_offset (input_amplifier_word codec node))))

abbrev pub mute_input : ℕ → Verb
mute_input place = SetAmp (setting_payload (input_setting place true 0))

-- of a mixer's inputs the one of the route passes, and all others are muted
abbrev pub mixer_input : RawCodec → RawNode → ℕ → ℕ → Verb
mixer_input codec node index place = if place == index then pass_input codec node place else mute_input place

abbrev pub mixer_verbs : RawCodec → RawNode → ℕ → List Verb
mixer_verbs codec node index =
    if is_mixer node && has_input_amplifier node then map (mixer_input codec node index)
    (range_with_len 0 (length node.list)) else []

-- a selector or pin that has a choice selects the route's connection (7.3.3.2)
abbrev pub has_choice : RawNode → Bool
has_choice node = (is_selector node || is_pin node) && nat_le 2 (length node.list)

abbrev pub select_verbs : RawNode → ℕ → List Verb
select_verbs node index = only_if (has_choice node) (SetSelect index)

abbrev pub selector_verbs : RawCodec → RawNode → ℕ → List Verb
selector_verbs codec node index = only_if (is_selector node && has_input_amplifier node) (pass_input codec node index)

abbrev pub output_verbs : RawCodec → RawNode → List Verb
output_verbs codec node =
    only_if (has_output_amplifier node)
    (SetAmp (setting_payload (output_setting (amplifier_offset (output_amplifier_word codec node)))))

-- a headphone that has the drive for one is driven so (7.3.3.13, 7.3.4.9)
abbrev pub drives_headphone : RawNode → Bool
drives_headphone node = is_headphone_node node && has_bit node.pin_caps 3

abbrev pub pin_control : RawNode → ℕ
pin_control node = if drives_headphone node then 0xC0 else 0x40

-- a pin's external amplifier is on (7.3.3.16); where the pin can tell of a change it does, by its own tag (7.3.3.14):
-- its place in the order of pins, from 1; its output is enabled
abbrev pub event_tag : Plan → ℕ → ℕ
event_tag plan pin = place_among plan.pins pin + 1

abbrev pub pin_verbs : Plan → ℕ → RawNode → List Verb
pin_verbs plan nid node =
    only_if (has_eapd node) (SetEapd 0x02)
    ++ (only_if (detects_presence node && sends_unsolicited node) (SetUnsol (0x80 + event_tag plan nid))
    ++ only_if (is_pin node) (SetPin (pin_control node)))

abbrev pub passed_verbs : RawCodec → Plan → ℕ → RawNode → ℕ → List Verb
passed_verbs codec plan nid node index =
    mixer_verbs codec node index
    ++ (select_verbs node index
    ++ (selector_verbs codec node index
    ++ (output_verbs codec node
    ++ pin_verbs plan nid node)))

-- a digital pin's external amplifier is on, and its output is enabled; it tells of no change
abbrev pub digital_pin_verbs : RawNode → List Verb
digital_pin_verbs node = only_if (has_eapd node) (SetEapd 0x02) ++ only_if (is_pin node) (SetPin 0x40)

-- a digital route passes no mixer and no input amplifier
abbrev pub passed_verbs_as : PinKind → RawCodec → Plan → ℕ → RawNode → ℕ → List Verb
passed_verbs_as Analog codec plan nid node index = passed_verbs codec plan nid node index
passed_verbs_as Digital codec plan nid node index =
    select_verbs node index ++ (output_verbs codec node ++ digital_pin_verbs node)

abbrev pub route_verbs : PinKind → RawCodec → Plan → Format → ℕ → ℕ → RawNode → Role → List Verb
route_verbs kind codec plan format tag nid node Unused = []
route_verbs kind codec plan format tag nid node (Passed index) = passed_verbs_as kind codec plan nid node index
route_verbs kind codec plan format tag nid node (Source pair) =
    source_verbs_as kind format tag pair ++ output_verbs codec node

-- ---- all steps

-- the verb at the node of the codec
abbrev pub command_to : RawCodec → ℕ → Verb → Command
command_to codec nid verb = record { codec = codec.address; nid = nid; verb = verb }

abbrev pub commands_to : RawCodec → ℕ → List Verb → List Command
commands_to codec nid verbs = map (command_to codec nid) verbs

-- what each node below this one gets, ascending
abbrev pub to_below : (ℕ → List Command) → ℕ → List Command
to_below step zero = []
to_below step (suc nid) = to_below step nid ++ step nid

-- what each node gets, ascending
unfoldable pub to_all : (ℕ → List Command) → List Command
to_all step = to_below step node_identifiers

-- the verbs of a step at a node, by the widget there and what the routes make of it
abbrev pub at_widget : (RawNode → Role → List Verb) → Option RawNode → Role → List Verb
at_widget verbs None role = []
at_widget verbs (Some node) role = verbs node role

-- where `roles` says what the routes make of each node
abbrev pub step_at_by : RawCodec → (roles : ℕ → Role) → (ℕ → RawNode → Role → List Verb) → ℕ → List Command
step_at_by codec roles verbs nid = commands_to codec nid (at_widget (verbs nid) (node_at codec nid) (roles nid))

abbrev pub step_by : RawCodec → (roles : ℕ → Role) → (ℕ → RawNode → Role → List Verb) → List Command
step_by codec roles verbs = to_all (step_at_by codec roles verbs)

-- the function group is put into the power state 0, and then four steps follow
abbrev pub in_steps : RawCodec → (roles : ℕ → Role) → (power silence release route : ℕ → RawNode → Role → List Verb)
    → List Command
in_steps codec roles power silence release route =
    command_to codec codec.group (SetPower 0)
    ∷ (step_by codec roles power
    ++ (step_by codec roles silence
    ++ (step_by codec roles release
    ++ step_by codec roles route)))

-- so for the roles of a plan
abbrev pub step_at : RawCodec → Plan → (ℕ → RawNode → Role → List Verb) → ℕ → List Command
step_at codec plan = step_at_by codec (role_of plan)

abbrev pub step : RawCodec → Plan → (ℕ → RawNode → Role → List Verb) → List Command
step codec plan = step_by codec (role_of plan)

-- all set-up verbs for a kind of pins
unfoldable pub setup_verbs_as : PinKind → RawCodec → Plan → Format → ℕ → List Command
setup_verbs_as kind codec plan format tag =
    in_steps codec (role_of plan) (λ _. power_verbs) (λ _. silence_verbs) (λ _. release_verbs)
    (route_verbs kind codec plan format tag)

-- for analog pins
abbrev pub setup_verbs : RawCodec → Plan → Format → ℕ → List Command
setup_verbs = setup_verbs_as Analog
