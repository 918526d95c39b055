-- What the set-up verbs are for: routes that are open under some settings, and codecs that are set up for a plan. This
-- project's own.
use Rattle.std.specs.Prelude.{◌≡◌, ◌≢◌, ◌≤◌, ◌<◌, ℕ, true, List, length, fold, All, Some}
use Rattle.codec_graph.specs.declared.raw.RawNode.{RawNode}
use Rattle.codec_graph.specs.declared.raw.RawCodec.{RawCodec}
use Rattle.codec_graph.specs.declared.controls.Control.TheVariants.{Select, InLeft, InRight}
use Rattle.codec_graph.specs.Widget.{node_at, is_mixer, is_pin}
use Rattle.codec_graph.specs.Settings.{Entries, setting_of, IsSettingsOf}
use Rattle.codec_graph.specs.VerbMeaning.{after}
use Rattle.codec_sound.specs.declared.signals.Signal.TheVariants.{Silence, Pair}
use Rattle.codec_sound.specs.Amplifiers.{is_muted}
use Rattle.codec_sound.specs.Signals.{stream_of, signal_as, signal_of, digital_signal_of}
use Rattle.verb_codes.specs.declared.verbs.Command.{Command}
use Rattle.verb_codes.specs.Verbs.{IsInRange}
use Rattle.stream_format.specs.declared.format.Format.{Format}
use Rattle.codec_graph.specs.declared.pin_kind.PinKind.{PinKind}
use Rattle.codec_graph.specs.declared.pin_kind.PinKind.TheVariants.{Analog, Digital}
use Rattle.route_planner.specs.declared.routes.Hop.{Hop}
use Rattle.route_planner.specs.declared.routes.Route as declared_route
use Rattle.route_planner.specs.declared.routes.Outcome.{Outcome}
use Rattle.route_planner.specs.declared.routes.Outcome.TheVariants as outcome
use Rattle.route_planner.specs.declared.routes.PinPlan.{PinPlan}
use Rattle.route_planner.specs.declared.routes.Plan.{Plan}
use Rattle.route_planner.specs.Paths.{passes}
use Rattle.setup_verbs.specs.VerbList.{has_choice}

-- a hop that leaves a selector or pin with a choice has its index selected
abbrev pub IsSelected : RawCodec → Entries → Hop → Type 0
IsSelected codec settings hop = passes has_choice (node_at codec hop.nid) ≡ true
    → setting_of settings hop.nid Select ≡ hop.index

-- both sides of an input's amplifier are muted
pub record AreSidesMuted (settings : Entries) (nid place : ℕ) : Type 0 where
  pub left : is_muted (setting_of settings nid (InLeft place)) ≡ true
  pub right : is_muted (setting_of settings nid (InRight place)) ≡ true

-- a hop that leaves a mixer has each other input of it muted
abbrev pub AreOthersMuted : RawCodec → Entries → Hop → Type 0
AreOthersMuted codec settings hop =
    (node : RawNode) → node_at codec hop.nid ≡ Some node → is_mixer node ≡ true
    → (place : ℕ) → place < length node.list → place ≢ hop.index → AreSidesMuted settings hop.nid place

-- a pin's route with a pair of channels is open while the stream with this tag and format plays
pub record IsOpen (codec : RawCodec) (settings : Entries) (format : Format) (tag pin pair : ℕ)
    (route : declared_route.Route) : Type 0 where
  pub selected : All (IsSelected codec settings) route.hops
  pub muted : All (AreOthersMuted codec settings) route.hops
  pub heard : signal_of codec settings (stream_of tag format) pin ≡ Pair pair

abbrev pub IsOutcomeOpen : RawCodec → Entries → Format → (tag pin pair : ℕ) → Outcome → Type 0
IsOutcomeOpen codec settings format tag pin pair (outcome.Route route) = IsOpen codec settings format tag pin pair route
IsOutcomeOpen codec settings format tag pin pair outcome.Blocked = Unit {0}
IsOutcomeOpen codec settings format tag pin pair outcome.NoPath = Unit {0}

-- the outcome is no route
abbrev pub IsNoRoute : Outcome → Type 0
IsNoRoute (outcome.Route route) = ⊥
IsNoRoute outcome.Blocked = Unit {0}
IsNoRoute outcome.NoPath = Unit {0}

-- no route of the plan leaves the pin
abbrev pub HasNoRoute : Plan → ℕ → Type 0
HasNoRoute plan pin = All (λ (entry : PinPlan). entry.pin ≡ pin → IsNoRoute entry.outcome) plan.pins

-- every route of the plan is open, and every other pin widget is silent
pub record IsSetUp (codec : RawCodec) (settings : Entries) (plan : Plan) (format : Format) (tag : ℕ) : Type 0 where
  pub routes : All (λ (entry : PinPlan). IsOutcomeOpen codec settings format tag entry.pin entry.pair entry.outcome)
      plan.pins
  pub others : (pin : ℕ) → passes is_pin (node_at codec pin) ≡ true → HasNoRoute plan pin
      → signal_of codec settings (stream_of tag format) pin ≡ Silence

-- ---- of each kind

-- the pin of a route hears its pair of channels as a pin of the kind
abbrev pub IsRouteHeard : PinKind → RawCodec → Entries → Format → (tag pin pair : ℕ) → Outcome → Type 0
IsRouteHeard kind codec settings format tag pin pair (outcome.Route route) =
    signal_as kind codec settings (stream_of tag format) pin ≡ Pair pair
IsRouteHeard kind codec settings format tag pin pair outcome.Blocked = Unit {0}
IsRouteHeard kind codec settings format tag pin pair outcome.NoPath = Unit {0}

-- every route's pin hears its pair as a pin of the kind, and every other pin widget is silent, of whichever kind it is
-- heard as
pub record AreRoutesHeard (kind : PinKind) (codec : RawCodec) (settings : Entries) (plan : Plan) (format : Format)
    (tag : ℕ)
    : Type 0 where
  pub routes : All (λ (entry : PinPlan). IsRouteHeard kind codec settings format tag entry.pin entry.pair entry.outcome)
      plan.pins
  pub others : (other : PinKind) (pin : ℕ) → passes is_pin (node_at codec pin) ≡ true → HasNoRoute plan pin
      → signal_as other codec settings (stream_of tag format) pin ≡ Silence

-- every route's pin hears the first pair as a digital pin, and every other pin widget is silent, heard as an analog pin
-- and as a digital one
pub record IsDigitallySetUp (codec : RawCodec) (settings : Entries) (plan : Plan) (format : Format) (tag : ℕ) : Type 0
  where
    pub routes : All (λ (entry : PinPlan). IsRouteHeard Digital codec settings format tag entry.pin 0 entry.outcome)
        plan.pins
    pub others : (pin : ℕ) → passes is_pin (node_at codec pin) ≡ true → HasNoRoute plan pin
        → (signal_of codec settings (stream_of tag format) pin ≡ Silence)
        × (digital_signal_of codec settings (stream_of tag format) pin ≡ Silence)

-- so for the plan of a kind of pins
abbrev pub IsSetUpFor : PinKind → RawCodec → Entries → Plan → Format → (tag : ℕ) → Type 0
IsSetUpFor Analog codec settings plan format tag = IsSetUp codec settings plan format tag
IsSetUpFor Digital codec settings plan format tag = IsDigitallySetUp codec settings plan format tag

-- the settings after some commands
abbrev pub settings_after : RawCodec → Entries → List Command → Entries
settings_after codec settings commands = fold (after codec) settings commands

-- some commands lead from any settings of the codec to one that is set up
abbrev pub LeadToSetUp : RawCodec → Plan → Format → ℕ → List Command → Type 0
LeadToSetUp codec plan format tag commands =
    (settings : Entries) → IsSettingsOf codec settings → IsSetUp codec (settings_after codec settings commands) plan
    format tag

-- and to one in which the routes of the kind are heard
abbrev pub LeadToHearing : PinKind → RawCodec → Plan → Format → ℕ → List Command → Type 0
LeadToHearing kind codec plan format tag commands =
    (settings : Entries) → IsSettingsOf codec settings
    → AreRoutesHeard kind codec (settings_after codec settings commands) plan format tag

-- the command goes to the codec, and where that is one of 0 to 14 it can be encoded
pub record IsCommandOf (codec : RawCodec) (command : Command) : Type 0 where
  pub address : command.codec ≡ codec.address
  pub in_range : codec.address ≤ 14 → IsInRange command
