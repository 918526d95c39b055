-- The plan of a graph for a kind of pins: for each candidate pin, in order, the least admissible path that earlier
-- routes leave open. This project's own.
use Rattle.std.specs.Prelude.{◌≡◌, ℕ, List, [], ◌∷◌, ◌++◌, map, All}
use Rattle.codec_graph.specs.declared.raw.RawCodec.{RawCodec}
use Rattle.stream_format.specs.declared.format.Format.{Format}
use Rattle.codec_graph.specs.declared.pin_kind.PinKind.{PinKind}
use Rattle.codec_graph.specs.declared.pin_kind.PinKind.TheVariants.{Analog, Digital}
use Rattle.route_planner.specs.declared.routes.Route as declared_route
use Rattle.route_planner.specs.declared.routes.Outcome.{Outcome}
use Rattle.route_planner.specs.declared.routes.Outcome.TheVariants as outcome
use Rattle.route_planner.specs.declared.routes.PinPlan.{PinPlan}
use Rattle.route_planner.specs.declared.routes.Plan.{Plan}
use Rattle.codec_graph.specs.Order.{IsOrderAs}
use Rattle.route_planner.specs.Pairs.{pair_as}
use Rattle.route_planner.specs.Paths.{IsAdmissibleAs, IsCompatible, IsNoLarger}

-- the entry of an earlier pin leaves a route with its pair open: it has no route itself, or a compatible one
abbrev pub LeavesOpen : RawCodec → declared_route.Route → ℕ → ℕ → Outcome → Type 0
LeavesOpen codec route pair other_pair (outcome.Route other) = IsCompatible codec route pair other other_pair
LeavesOpen codec route pair other_pair outcome.Blocked = Unit {0}
LeavesOpen codec route pair other_pair outcome.NoPath = Unit {0}

-- an admissible path of the pin that all earlier entries leave open
abbrev pub IsOpenPathAs : PinKind → RawCodec → Format → List PinPlan → ℕ → ℕ → declared_route.Route → Type 0
IsOpenPathAs kind codec format earlier pair pin route =
    IsAdmissibleAs kind codec format pin route
    × All (λ (entry : PinPlan). LeavesOpen codec route pair entry.pair entry.outcome) earlier

-- the right outcome of a pin, after some earlier entries
abbrev pub IsOutcomeAs : PinKind → RawCodec → Format → List PinPlan → ℕ → ℕ → Outcome → Type 0
IsOutcomeAs kind codec format earlier pair pin (outcome.Route route) =
    IsOpenPathAs kind codec format earlier pair pin route
    × ((other : declared_route.Route) → IsOpenPathAs kind codec format earlier pair pin other → IsNoLarger route other)
IsOutcomeAs kind codec format earlier pair pin outcome.Blocked =
    ((some : declared_route.Route) × IsAdmissibleAs kind codec format pin some)
    × ((other : declared_route.Route) → IsOpenPathAs kind codec format earlier pair pin other → ⊥)
IsOutcomeAs kind codec format earlier pair pin outcome.NoPath =
    (other : declared_route.Route) → IsAdmissibleAs kind codec format pin other → ⊥

-- each entry has the right outcome after those before it
abbrev pub HaveOutcomesAs : PinKind → RawCodec → Format → List PinPlan → List PinPlan → Type 0
HaveOutcomesAs kind codec format earlier [] = Unit {0}
HaveOutcomesAs kind codec format earlier (entry ∷ entries) =
    IsOutcomeAs kind codec format earlier entry.pair entry.pin entry.outcome
    × HaveOutcomesAs kind codec format (earlier ++ entry ∷ []) entries

-- the entries are those of the candidate pins, in order, each with its channel pair
pub record HasPinsAs (kind : PinKind) (codec : RawCodec) (format : Format) (plan : Plan) : Type 0 where
  pub in_order : IsOrderAs kind codec (map (λ (entry : PinPlan). entry.pin) plan.pins)
  pub pairs : All (λ (entry : PinPlan). entry.pair ≡ pair_as kind codec format.channels entry.pin) plan.pins

-- the plan of a graph for a stream format
pub record IsPlanAs (kind : PinKind) (codec : RawCodec) (format : Format) (plan : Plan) : Type 0 where
  pub pins : HasPinsAs kind codec format plan
  pub outcomes : HaveOutcomesAs kind codec format [] plan.pins

-- the outcome is no route or an admissible path of the pin
abbrev pub IsAdmissibleOutcomeAs : PinKind → RawCodec → Format → ℕ → Outcome → Type 0
IsAdmissibleOutcomeAs kind codec format pin (outcome.Route route) = IsAdmissibleAs kind codec format pin route
IsAdmissibleOutcomeAs kind codec format pin outcome.Blocked = Unit {0}
IsAdmissibleOutcomeAs kind codec format pin outcome.NoPath = Unit {0}

-- a list of the candidate pins in which each route is an admissible path of its pin
pub record HasAdmissibleRoutesAs (kind : PinKind) (codec : RawCodec) (format : Format) (plan : Plan) : Type 0 where
  pub pins : HasPinsAs kind codec format plan
  pub admissible : All (λ (entry : PinPlan). IsAdmissibleOutcomeAs kind codec format entry.pin entry.outcome) plan.pins

-- ---- of analog pins

abbrev pub IsOpenPath : RawCodec → Format → List PinPlan → ℕ → ℕ → declared_route.Route → Type 0
IsOpenPath = IsOpenPathAs Analog

abbrev pub IsOutcome : RawCodec → Format → List PinPlan → ℕ → ℕ → Outcome → Type 0
IsOutcome = IsOutcomeAs Analog

abbrev pub HaveOutcomes : RawCodec → Format → List PinPlan → List PinPlan → Type 0
HaveOutcomes = HaveOutcomesAs Analog

abbrev pub IsPlan : RawCodec → Format → Plan → Type 0
IsPlan = IsPlanAs Analog

abbrev pub IsAdmissibleOutcome : RawCodec → Format → ℕ → Outcome → Type 0
IsAdmissibleOutcome = IsAdmissibleOutcomeAs Analog

abbrev pub HasAdmissibleRoutes : RawCodec → Format → Plan → Type 0
HasAdmissibleRoutes = HasAdmissibleRoutesAs Analog

-- ---- of digital pins

abbrev pub IsDigitalPlan : RawCodec → Format → Plan → Type 0
IsDigitalPlan = IsPlanAs Digital

abbrev pub HasDigitalRoutes : RawCodec → Format → Plan → Type 0
HasDigitalRoutes = HasAdmissibleRoutesAs Digital
