-- Jacks for headphones, and the speakers that are silent while something is plugged into one. Configuration default: High
-- Definition Audio 1.0a, 7.3.3.31; what a pin can tell: 7.3.4.6 and 7.3.4.9. Which pins they are is this project's own.
use Rattle.std.specs.Prelude.{ℕ, ◌+◌, ◌==◌, ◌&&◌, Bool, List, [], ◌∷◌, ◌++◌, filter, Option, None, Some, if◌then◌else◌}
use Rattle.std.specs.List.{list_any}
use Rattle.codec_graph.specs.declared.raw.RawNode.{RawNode}
use Rattle.codec_graph.specs.declared.raw.RawCodec.{RawCodec}
use Rattle.codec_graph.specs.Candidates.{device, association}
use Rattle.codec_graph.specs.Settings.{sends_unsolicited, detects_presence}
use Rattle.codec_graph.specs.Widget.{node_at, is_pin}
use Rattle.route_planner.specs.declared.routes.Outcome.{Outcome}
use Rattle.route_planner.specs.declared.routes.Outcome.TheVariants.{Route, Blocked, NoPath}
use Rattle.route_planner.specs.declared.routes.PinPlan.{PinPlan}
use Rattle.route_planner.specs.declared.routes.Plan.{Plan}
use Rattle.route_planner.specs.Pairs.{is_headphone_node}
use Rattle.jack_rules.specs.declared.pins.JackPin.{JackPin}
use Rattle.jack_rules.specs.declared.pins.SpeakerPin.{SpeakerPin}

-- a headphone that detects whether something is plugged in, and can tell of a change unasked
abbrev pub is_jack_node : RawNode → Bool
is_jack_node node = is_headphone_node node && detects_presence node && sends_unsolicited node

-- bits 23:20 of the configuration default
abbrev pub speaker_device : ℕ
speaker_device = 1

abbrev pub is_speaker_node : RawNode → Bool
is_speaker_node node = is_pin node && device node == speaker_device

-- ---- of one entry of a plan, by its place from 0: its tag is its place from 1

abbrev pub jack_of : RawCodec → (place pin : ℕ) → Option RawNode → Option JackPin
jack_of codec place pin None = None
jack_of codec place pin (Some node) =
    if is_jack_node node
    then Some (record { codec = codec.address; pin = pin; tag = place + 1; association = association node })
    else None

abbrev pub jack_at : RawCodec → (place pin : ℕ) → Outcome → Option JackPin
jack_at codec place pin (Route route) = jack_of codec place pin (node_at codec pin)
jack_at codec place pin Blocked = None
jack_at codec place pin NoPath = None

abbrev pub speaker_of : RawCodec → (pin : ℕ) → Option RawNode → Option SpeakerPin
speaker_of codec pin None = None
speaker_of codec pin (Some node) =
    if is_speaker_node node
    then Some (record { codec = codec.address; pin = pin; association = association node })
    else None

abbrev pub speaker_at : RawCodec → (pin : ℕ) → Outcome → Option SpeakerPin
speaker_at codec pin (Route route) = speaker_of codec pin (node_at codec pin)
speaker_at codec pin Blocked = None
speaker_at codec pin NoPath = None

-- ---- of the entries of a plan from a place on, and of all plans

-- a value before others, if there is one
abbrev pub put_first : {X : Type 0} → Option X → List X → List X
put_first None rest = rest
put_first (Some value) rest = value ∷ rest

abbrev pub jacks_from : RawCodec → (place : ℕ) → List PinPlan → List JackPin
jacks_from codec place [] = []
jacks_from codec place (entry ∷ entries) =
    put_first (jack_at codec place entry.pin entry.outcome) (jacks_from codec (place + 1) entries)

-- one plan for each codec, in order
abbrev pub jacks_of : List RawCodec → List Plan → List JackPin
jacks_of [] plans = []
jacks_of (codec ∷ codecs) [] = []
jacks_of (codec ∷ codecs) (plan ∷ plans) = jacks_from codec 0 plan.pins ++ jacks_of codecs plans

-- whether some jack is of a speaker's codec and association
abbrev pub is_companion : SpeakerPin → JackPin → Bool
is_companion speaker jack = jack.codec == speaker.codec && jack.association == speaker.association

abbrev pub has_jack : List JackPin → SpeakerPin → Bool
has_jack jacks speaker = list_any (is_companion speaker) jacks

abbrev pub speaker_if : List JackPin → Option SpeakerPin → Option SpeakerPin
speaker_if jacks None = None
speaker_if jacks (Some speaker) = if has_jack jacks speaker then Some speaker else None

abbrev pub speakers_from : List JackPin → RawCodec → List PinPlan → List SpeakerPin
speakers_from jacks codec [] = []
speakers_from jacks codec (entry ∷ entries) =
    put_first (speaker_if jacks (speaker_at codec entry.pin entry.outcome)) (speakers_from jacks codec entries)

abbrev pub speakers_among : List JackPin → List RawCodec → List Plan → List SpeakerPin
speakers_among jacks [] plans = []
speakers_among jacks (codec ∷ codecs) [] = []
speakers_among jacks (codec ∷ codecs) (plan ∷ plans) =
    speakers_from jacks codec plan.pins ++ speakers_among jacks codecs plans

abbrev pub speakers_of : List RawCodec → List Plan → List SpeakerPin
speakers_of codecs plans = speakers_among (jacks_of codecs plans) codecs plans
