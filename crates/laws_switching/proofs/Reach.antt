-- Jacks and speakers of well-formed codecs are in reach, so commands to them can be sent.
use Rattle.std.proofs.Common.{◌≡◌, ◌≤◌, ◌+◌, ℕ, Bool, true, false, List, [], ◌∷◌, map, Option, None, Some, refl, sym, subst, arith, if◌then◌else◌}
use Rattle.std.specs.Prelude.{All}
use Rattle.std.proofs.lemmas.List.Elements.{All-append, All-cons, All-head, All-nil, All-tail}
use Rattle.codec_graph.specs.declared.raw.RawCodec.{RawCodec}
use Rattle.codec_graph.specs.declared.raw.RawNode.{RawNode}
use Rattle.codec_graph.specs.Candidates.{association}
use Rattle.codec_graph.specs.Cycles.{IsWellFormed}
use Rattle.codec_graph.specs.Widget.{node_at}
use Rattle.codec_graph.proofs.Callers.{node_below}
use Rattle.route_planner.specs.declared.routes.Outcome.{Outcome}
use Rattle.route_planner.specs.declared.routes.Outcome.TheVariants.{Route, Blocked, NoPath}
use Rattle.route_planner.specs.declared.routes.PinPlan.{PinPlan}
use Rattle.route_planner.specs.declared.routes.Plan.{Plan}
use Rattle.command_engine.specs.Fetchings.{AscendFrom}
use Rattle.jack_rules.specs.declared.pins.JackPin.{JackPin}
use Rattle.jack_rules.specs.declared.pins.SpeakerPin.{SpeakerPin}
use Rattle.jack_rules.specs.declared.pins.JackState.{JackState}
use Rattle.jack_rules.specs.declared.pins.SpeakerState.{SpeakerState}
use Rattle.jack_rules.specs.JackPins.{is_jack_node, is_speaker_node, jack_of, jack_at, put_first, jacks_from, jacks_of, speaker_of, speaker_at, has_jack, speaker_if, speakers_from, speakers_among}
use Rattle.jack_rules.specs.Switching.{SwitchingState, pin_of, IsInReach, JacksReach, SpeakersReach, AreInReach}
use Rattle.jack_switch.specs.JackDrivers.{IsSwitchingOf}

abbrev JackReaches : JackPin → Type 0
JackReaches jack = IsInReach jack.codec jack.pin

abbrev SpeakerReaches : SpeakerPin → Type 0
SpeakerReaches speaker = IsInReach speaker.codec speaker.pin

-- ---- pins of a codec

jack_of_reach : (codec : RawCodec) (place pin : ℕ) (found : Option RawNode) → IsWellFormed codec → codec.address ≤ 14 → node_at codec pin ≡ found → (jack : JackPin) → jack_of codec place pin found ≡ Some jack → JackReaches jack
jack_of_reach codec place pin None well few there jack is = cc
jack_of_reach codec place pin (Some node) well few there jack is = by (is_jack_node node) is
  where
    made : JackPin
    made = record { codec = codec.address; pin = pin; tag = place + 1; association = association node }

    by : (test : Bool) → (if test then Some made else None) ≡ Some jack → JackReaches jack
    by true is =
        let low = node_below codec pin node well there in
        let same : made ≡ jack = cc in
        subst JackReaches same (record { codec_is = few; pin_is = omega (arith, low) })
    by false is = cc

jack_at_reach : (codec : RawCodec) (place pin : ℕ) (outcome : Outcome) → IsWellFormed codec → codec.address ≤ 14 → (jack : JackPin) → jack_at codec place pin outcome ≡ Some jack → JackReaches jack
jack_at_reach codec place pin (Route route) well few jack is = jack_of_reach codec place pin (node_at codec pin) well few refl jack is
jack_at_reach codec place pin Blocked well few jack is = cc
jack_at_reach codec place pin NoPath well few jack is = cc

speaker_of_reach : (codec : RawCodec) (pin : ℕ) (found : Option RawNode) → IsWellFormed codec → codec.address ≤ 14 → node_at codec pin ≡ found → (speaker : SpeakerPin) → speaker_of codec pin found ≡ Some speaker → SpeakerReaches speaker
speaker_of_reach codec pin None well few there speaker is = cc
speaker_of_reach codec pin (Some node) well few there speaker is = by (is_speaker_node node) is
  where
    made : SpeakerPin
    made = record { codec = codec.address; pin = pin; association = association node }

    by : (test : Bool) → (if test then Some made else None) ≡ Some speaker → SpeakerReaches speaker
    by true is =
        let low = node_below codec pin node well there in
        let same : made ≡ speaker = cc in
        subst SpeakerReaches same (record { codec_is = few; pin_is = omega (arith, low) })
    by false is = cc

speaker_at_reach : (codec : RawCodec) (pin : ℕ) (outcome : Outcome) → IsWellFormed codec → codec.address ≤ 14 → (speaker : SpeakerPin) → speaker_at codec pin outcome ≡ Some speaker → SpeakerReaches speaker
speaker_at_reach codec pin (Route route) well few speaker is = speaker_of_reach codec pin (node_at codec pin) well few refl speaker is
speaker_at_reach codec pin Blocked well few speaker is = cc
speaker_at_reach codec pin NoPath well few speaker is = cc

speaker_if_reach : (jacks : List JackPin) (found : Option SpeakerPin) → ((speaker : SpeakerPin) → found ≡ Some speaker → SpeakerReaches speaker) → (speaker : SpeakerPin) → speaker_if jacks found ≡ Some speaker → SpeakerReaches speaker
speaker_if_reach jacks None one speaker is = cc
speaker_if_reach jacks (Some found) one speaker is = by (has_jack jacks found) is
  where
    by : (test : Bool) → (if test then Some found else None) ≡ Some speaker → SpeakerReaches speaker
    by true is = one speaker is
    by false is = cc

put_all : {X : Type 0} (P : X → Type 0) (found : Option X) (rest : List X) → ((x : X) → found ≡ Some x → P x) → All P rest → All P (put_first found rest)
put_all {X} P None rest one more = more
put_all {X} P (Some x) rest one more = All-cons P x rest (one x refl) more

jacks_from_reach : (codec : RawCodec) (place : ℕ) (entries : List PinPlan) → IsWellFormed codec → codec.address ≤ 14 → All JackReaches (jacks_from codec place entries)
jacks_from_reach codec place [] well few = All-nil JackReaches
jacks_from_reach codec place (entry ∷ entries) well few =
    put_all JackReaches (jack_at codec place entry.pin entry.outcome) (jacks_from codec (place + 1) entries) (jack_at_reach codec place entry.pin entry.outcome well few) (jacks_from_reach codec (place + 1) entries well few)

speakers_from_reach : (jacks : List JackPin) (codec : RawCodec) (entries : List PinPlan) → IsWellFormed codec → codec.address ≤ 14 → All SpeakerReaches (speakers_from jacks codec entries)
speakers_from_reach jacks codec [] well few = All-nil SpeakerReaches
speakers_from_reach jacks codec (entry ∷ entries) well few =
    put_all SpeakerReaches (speaker_if jacks (speaker_at codec entry.pin entry.outcome)) (speakers_from jacks codec entries)
    (speaker_if_reach jacks (speaker_at codec entry.pin entry.outcome) (speaker_at_reach codec entry.pin entry.outcome well few)) (speakers_from_reach jacks codec entries well few)

-- ---- of all codecs

jacks_reach : (graphs : List RawCodec) (plans : List Plan) (from : ℕ) → All IsWellFormed graphs → AscendFrom from graphs → All JackReaches (jacks_of graphs plans)
jacks_reach [] plans from well ascend = All-nil JackReaches
jacks_reach (graph ∷ graphs) [] from well ascend = All-nil JackReaches
jacks_reach (graph ∷ graphs) (plan ∷ plans) from well ascend =
    All-append JackReaches (jacks_from graph 0 plan.pins) (jacks_of graphs plans) (jacks_from_reach graph 0 plan.pins (All-head IsWellFormed graph graphs well) ascend.1)
    (jacks_reach graphs plans (graph.address + 1) (All-tail IsWellFormed graph graphs well) ascend.2)

speakers_reach : (jacks : List JackPin) (graphs : List RawCodec) (plans : List Plan) (from : ℕ) → All IsWellFormed graphs → AscendFrom from graphs → All SpeakerReaches (speakers_among jacks graphs plans)
speakers_reach jacks [] plans from well ascend = All-nil SpeakerReaches
speakers_reach jacks (graph ∷ graphs) [] from well ascend = All-nil SpeakerReaches
speakers_reach jacks (graph ∷ graphs) (plan ∷ plans) from well ascend =
    All-append SpeakerReaches (speakers_from jacks graph plan.pins) (speakers_among jacks graphs plans) (speakers_from_reach jacks graph plan.pins (All-head IsWellFormed graph graphs well) ascend.1)
    (speakers_reach jacks graphs plans (graph.address + 1) (All-tail IsWellFormed graph graphs well) ascend.2)

jacks_of_pins : (jacks : List JackState) → All JackReaches (map pin_of jacks) → JacksReach jacks
jacks_of_pins [] all = All-nil (λ (state : JackState). IsInReach state.jack.codec state.jack.pin)
jacks_of_pins (jack ∷ jacks) all =
    All-cons (λ (state : JackState). IsInReach state.jack.codec state.jack.pin) jack jacks (All-head JackReaches jack.jack (map pin_of jacks) all) (jacks_of_pins jacks (All-tail JackReaches jack.jack (map pin_of jacks) all))

speakers_of_pins : (speakers : List SpeakerState) → All SpeakerReaches (map (λ (state : SpeakerState). state.speaker) speakers) → SpeakersReach speakers
speakers_of_pins [] all = All-nil (λ (state : SpeakerState). IsInReach state.speaker.codec state.speaker.pin)
speakers_of_pins (speaker ∷ speakers) all =
    All-cons (λ (state : SpeakerState). IsInReach state.speaker.codec state.speaker.pin) speaker speakers
    (All-head SpeakerReaches speaker.speaker (map (λ (state : SpeakerState). state.speaker) speakers) all)
    (speakers_of_pins speakers (All-tail SpeakerReaches speaker.speaker (map (λ (state : SpeakerState). state.speaker) speakers) all))

-- what the rules keep of them is in reach
pub pins_reach : (graphs : List RawCodec) (plans : List Plan) (switching : SwitchingState) → All IsWellFormed graphs → AscendFrom 0 graphs → IsSwitchingOf graphs plans switching → AreInReach switching
pins_reach graphs plans switching well ascend of = record {
  jacks = jacks_of_pins switching.jacks (subst (All JackReaches) (sym of.jacks) (jacks_reach graphs plans 0 well ascend));
  speakers = speakers_of_pins switching.speakers (subst (All SpeakerReaches) (sym of.speakers) (speakers_reach (jacks_of graphs plans) graphs plans 0 well ascend));
}
