-- Codecs that are set up but for the speakers that are off. This project's own.
use Rattle.std.specs.Prelude.{◌≡◌, ℕ, Bool, true, false, All, Option}
use Rattle.codec_graph.specs.declared.raw.RawCodec.{RawCodec}
use Rattle.codec_graph.specs.Widget.{node_at, is_pin}
use Rattle.codec_graph.specs.Settings.{Entries}
use Rattle.codec_sound.specs.declared.signals.Signal.TheVariants.{Silence}
use Rattle.codec_sound.specs.Signals.{stream_of, signal_of}
use Rattle.stream_format.specs.declared.format.Format.{Format}
use Rattle.route_planner.specs.declared.routes.Outcome.{Outcome}
use Rattle.route_planner.specs.declared.routes.Outcome.TheVariants as outcome
use Rattle.route_planner.specs.declared.routes.PinPlan.{PinPlan}
use Rattle.route_planner.specs.declared.routes.Plan.{Plan}
use Rattle.route_planner.specs.Paths.{passes}
use Rattle.setup_verbs.specs.SetUp.{IsOpen, HasNoRoute}
use Rattle.laws_speakers.specs.Pins.{is_on}

-- a route is open where its pin is on, and else its pin is silent
abbrev pub IsOpenOrOff : (on : Bool) → RawCodec → Entries → Format → (tag pin pair : ℕ) → Outcome → Type 0
IsOpenOrOff true codec settings format tag pin pair (outcome.Route route) =
    IsOpen codec settings format tag pin pair route
IsOpenOrOff false codec settings format tag pin pair (outcome.Route route) =
    signal_of codec settings (stream_of tag format) pin ≡ Silence
IsOpenOrOff on codec settings format tag pin pair outcome.Blocked = Unit {0}
IsOpenOrOff on codec settings format tag pin pair outcome.NoPath = Unit {0}

-- every route of the plan is open, or its pin silent where the last number that was put into the pin's control has out
-- enable clear; before any was put it is open. Every other pin widget is silent
pub record IsSetUpBut (last : (pin : ℕ) → Option ℕ) (codec : RawCodec) (settings : Entries) (plan : Plan)
    (format : Format) (tag : ℕ) : Type 0 where
  pub routes : All (λ (entry : PinPlan). IsOpenOrOff (is_on (last entry.pin)) codec settings format tag entry.pin
      entry.pair entry.outcome) plan.pins
  pub others : (pin : ℕ) → passes is_pin (node_at codec pin) ≡ true → HasNoRoute plan pin
      → signal_of codec settings (stream_of tag format) pin ≡ Silence

-- by the last numbers that were put, the pin of each route is on
abbrev pub IsRouteOn : (on : Bool) → Outcome → Type 0
IsRouteOn on (outcome.Route route) = on ≡ true
IsRouteOn on outcome.Blocked = Unit {0}
IsRouteOn on outcome.NoPath = Unit {0}

abbrev pub AreRoutesOn : (last : (pin : ℕ) → Option ℕ) → Plan → Type 0
AreRoutesOn last plan = All (λ (entry : PinPlan). IsRouteOn (is_on (last entry.pin)) entry.outcome) plan.pins
