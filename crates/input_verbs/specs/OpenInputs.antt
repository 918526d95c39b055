-- What the verbs of an input are for: a converter that gives the sound of one pin as its stream, and no other that
-- gives the stream. This project's own.
use Rattle.std.specs.Prelude.{◌≡◌, ◌≢◌, ◌⊎◌, ◌==◌, ℕ, Bool, true, false, List, [], All}
use Rattle.std.specs.List.{filter, range_with_len}
use Rattle.codec_graph.specs.declared.raw.RawCodec.{RawCodec}
use Rattle.codec_graph.specs.declared.controls.Control.TheVariants as control
use Rattle.codec_graph.specs.Widget.{node_identifiers, node_at, is_input_converter}
use Rattle.codec_graph.specs.Settings.{Entries, setting_of, IsSettingsOf}
use Rattle.codec_sound.specs.declared.in_heard.InHeard.TheVariants.{Pin}
use Rattle.codec_sound.specs.Signals.{tag_at}
use Rattle.codec_sound.specs.Inward.{in_signal_of, is_taking}
use Rattle.verb_codes.specs.declared.verbs.Command.{Command}
use Rattle.stream_format.specs.declared.format.Format.{Format}
use Rattle.stream_format.specs.Words.{format_word}
use Rattle.route_planner.specs.declared.routes.Route as declared_route
use Rattle.route_planner.specs.declared.routes.Outcome.{Outcome}
use Rattle.route_planner.specs.declared.routes.Outcome.TheVariants as outcome
use Rattle.route_planner.specs.declared.routes.PinPlan.{PinPlan}
use Rattle.route_planner.specs.declared.routes.Plan.{Plan}
use Rattle.route_planner.specs.Paths.{passes}
use Rattle.route_planner.specs.Inputs.{IsInputPlan}
use Rattle.setup_verbs.specs.SetUp.{settings_after}

-- the plan of the graph for an input, or one without an entry: that of a codec from which nothing is recorded
abbrev pub IsInputPlanOrNone : RawCodec → Format → Plan → Type 0
IsInputPlanOrNone codec format plan = IsInputPlan codec format plan ⊎ (plan.pins ≡ [])

-- of several codecs one is recorded from: its plan is that of its graph, and that of every other one has no entry
abbrev pub IsInputPlanIf : (records : Bool) → RawCodec → Format → Plan → Type 0
IsInputPlanIf true codec format plan = IsInputPlan codec format plan
IsInputPlanIf false codec format plan = plan.pins ≡ []

-- so where it is the one at this address
abbrev pub IsInputPlanAt : (address : ℕ) → RawCodec → Format → Plan → Type 0
IsInputPlanAt address codec format plan = IsInputPlanIf (codec.address == address) codec format plan

-- the route's converter gives the stream with this tag and format, and hears the route's pin
pub record IsInputOpen (codec : RawCodec) (settings : Entries) (format : Format) (tag pin : ℕ)
    (route : declared_route.Route) : Type 0 where
  pub tag_is : tag_at settings route.converter ≡ tag
  pub format_is : setting_of settings route.converter control.Format ≡ format_word format
  pub hears : in_signal_of codec settings route.converter ≡ Pin pin

abbrev pub IsInputOutcomeOpen : RawCodec → Entries → Format → (tag pin : ℕ) → Outcome → Type 0
IsInputOutcomeOpen codec settings format tag pin (outcome.Route route) = IsInputOpen codec settings format tag pin route
IsInputOutcomeOpen codec settings format tag pin outcome.Blocked = Unit {0}
IsInputOutcomeOpen codec settings format tag pin outcome.NoPath = Unit {0}

-- the outcome is no route that begins at the converter
abbrev pub BeginsElsewhere : ℕ → Outcome → Type 0
BeginsElsewhere nid (outcome.Route route) = route.converter ≢ nid
BeginsElsewhere nid outcome.Blocked = Unit {0}
BeginsElsewhere nid outcome.NoPath = Unit {0}

-- no route of the plan begins at the converter
abbrev pub BeginsNoRoute : Plan → ℕ → Type 0
BeginsNoRoute plan nid = All (λ (entry : PinPlan). BeginsElsewhere nid entry.outcome) plan.pins

-- the plan's route is open, and no other input converter has the tag
pub record IsOpenIn (codec : RawCodec) (settings : Entries) (plan : Plan) (format : Format) (tag : ℕ) : Type 0 where
  pub routes : All (λ (entry : PinPlan). IsInputOutcomeOpen codec settings format tag entry.pin entry.outcome) plan.pins
  pub others : (nid : ℕ) → passes is_input_converter (node_at codec nid) ≡ true → BeginsNoRoute plan nid
      → tag_at settings nid ≢ tag

-- some commands lead from any settings of the codec to ones with which the input is open
abbrev pub LeadToOpenIn : RawCodec → Plan → Format → (tag : ℕ) → List Command → Type 0
LeadToOpenIn codec plan format tag commands =
    (settings : Entries) → IsSettingsOf codec settings → IsOpenIn codec (settings_after codec settings commands) plan
    format tag

-- just these nodes of the codec take the stream with this tag and format word
abbrev pub TakeAlone : RawCodec → Entries → (tag word : ℕ) → List ℕ → Type 0
TakeAlone codec settings tag word nids =
    filter (λ nid. is_taking settings tag word nid (node_at codec nid)) (range_with_len 0 node_identifiers) ≡ nids
