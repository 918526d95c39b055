-- What follows from the plan's definition: a graph has one plan, and with one pair of channels no pin is blocked.
use Rattle.std.specs.Prelude.{◌≡◌, ℕ, All}
use Rattle.codec_graph.specs.declared.raw.RawCodec.{RawCodec}
use Rattle.stream_format.specs.declared.format.Format.{Format}
use Rattle.codec_graph.specs.declared.pin_kind.PinKind.{PinKind}
use Rattle.codec_graph.specs.declared.pin_kind.PinKind.TheVariants.{Analog, Digital}
use Rattle.route_planner.specs.declared.routes.Outcome.{Outcome}
use Rattle.route_planner.specs.declared.routes.Outcome.TheVariants as outcome
use Rattle.route_planner.specs.declared.routes.PinPlan.{PinPlan}
use Rattle.route_planner.specs.declared.routes.Plan.{Plan}
use Rattle.route_planner.specs.Pairs.{pair_as}
use Rattle.route_planner.specs.Plans.{IsPlanAs}

-- every plan of the graph is this one: so the order is one list, and the least path of each pin is one path
abbrev pub IsOnlyPlanAs : PinKind → RawCodec → Format → Plan → Type 0
IsOnlyPlanAs kind codec format plan = (other : Plan) → IsPlanAs kind codec format other → other ≡ plan

abbrev pub IsOnlyPlan : RawCodec → Format → Plan → Type 0
IsOnlyPlan = IsOnlyPlanAs Analog

abbrev pub IsOnlyDigitalPlan : RawCodec → Format → Plan → Type 0
IsOnlyDigitalPlan = IsOnlyPlanAs Digital

-- all pins have the first pair of channels: those of a stream of two channels, and digital ones
abbrev pub HaveOnePair : PinKind → RawCodec → ℕ → Type 0
HaveOnePair kind codec channels = (pin : ℕ) → pair_as kind codec channels pin ≡ 0

abbrev pub IsNotBlocked : Outcome → Type 0
IsNotBlocked (outcome.Route route) = Unit {0}
IsNotBlocked outcome.Blocked = ⊥
IsNotBlocked outcome.NoPath = Unit {0}

-- each pin that has an admissible path has a route
abbrev pub HasNoBlocked : Plan → Type 0
HasNoBlocked plan = All (λ (entry : PinPlan). IsNotBlocked entry.outcome) plan.pins
