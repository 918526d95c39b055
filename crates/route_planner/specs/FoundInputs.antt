-- What the search for the plan of an input has found so far: paths from one converter, from the converters below a node
-- identifier, and of the candidate pins below one. This project's own.
use Rattle.std.specs.Prelude.{◌≡◌, ◌≢◌, ◌<◌, ℕ, Bool, true, nat_lt, length, Option, None, Some, MatchOption}
use Rattle.codec_graph.specs.declared.raw.RawCodec.{RawCodec}
use Rattle.stream_format.specs.declared.format.Format.{Format}
use Rattle.route_planner.specs.declared.routes.Route.{Route}
use Rattle.route_planner.specs.declared.routes.Outcome.TheVariants as outcome
use Rattle.route_planner.specs.declared.routes.PinPlan.{PinPlan}
use Rattle.codec_graph.specs.Order.{comes_before}
use Rattle.route_planner.specs.Ways.{AreNoLarger}
use Rattle.route_planner.specs.Inputs.{is_input_candidate, IsInputAdmissible, IsNoLargerInput, IsLeastInput}
use Rattle.route_planner.specs.Inputs.{HasInputPath}

-- ---- from one converter

-- no admissible path of the pin begins at the node
abbrev pub HasNoPathFrom : RawCodec → Format → ℕ → ℕ → Type 0
HasNoPathFrom codec format pin from = (other : Route) → IsInputAdmissible codec format pin other
    → other.converter ≢ from

-- the least admissible path of the pin that begins at the node
pub record IsLeastFrom (codec : RawCodec) (format : Format) (pin from : ℕ) (route : Route) : Type 0 where
  pub begins : route.converter ≡ from
  pub admissible : IsInputAdmissible codec format pin route
  pub least : (other : Route) → IsInputAdmissible codec format pin other → other.converter ≡ from
      → AreNoLarger route.hops other.hops

abbrev pub IsFoundFrom : RawCodec → Format → ℕ → ℕ → Option Route → Type 0
IsFoundFrom codec format pin from found =
    MatchOption found (HasNoPathFrom codec format pin from) (IsLeastFrom codec format pin from)

-- ---- from the converters below a node identifier

-- no admissible path of the pin begins below the identifier
abbrev pub HasNoPathBelow : RawCodec → Format → ℕ → ℕ → Type 0
HasNoPathBelow codec format pin below =
    (other : Route) → IsInputAdmissible codec format pin other → other.converter < below → ⊥

-- the least admissible path of the pin that begins below the identifier
pub record IsLeastBelow (codec : RawCodec) (format : Format) (pin below : ℕ) (route : Route) : Type 0 where
  pub begins : route.converter < below
  pub admissible : IsInputAdmissible codec format pin route
  pub least : (other : Route) → IsInputAdmissible codec format pin other → other.converter < below
      → IsNoLargerInput route other

abbrev pub IsFoundBelow : RawCodec → Format → ℕ → ℕ → Option Route → Type 0
IsFoundBelow codec format pin below found =
    MatchOption found (HasNoPathBelow codec format pin below) (IsLeastBelow codec format pin below)

-- whether a path has fewer hops than the one so far, if there is one
abbrev pub is_shorter : Route → Option Route → Bool
is_shorter route None = true
is_shorter route (Some other) = nat_lt (length route.hops) (length other.hops)

-- ---- of one pin

abbrev pub IsFoundInput : RawCodec → Format → ℕ → Option Route → Type 0
IsFoundInput codec format pin found =
    MatchOption found (HasInputPath codec format pin → ⊥) (IsLeastInput codec format pin)

-- ---- of the candidate pins below a node identifier

-- no candidate below the identifier has an admissible path
abbrev pub HasNoInputBelow : RawCodec → Format → ℕ → Type 0
HasNoInputBelow codec format below =
    (pin : ℕ) → pin < below → is_input_candidate codec pin ≡ true → HasInputPath codec format pin → ⊥

-- the entry of the first candidate below the identifier that has one
pub record IsEntryBelow (codec : RawCodec) (format : Format) (below : ℕ) (entry : PinPlan) : Type 0 where
  pub route : Route
  pub within : entry.pin < below
  pub candidate : is_input_candidate codec entry.pin ≡ true
  pub before : (other : ℕ) → other < below → is_input_candidate codec other ≡ true → HasInputPath codec format other
      → other ≢ entry.pin → comes_before codec entry.pin other ≡ true
  pub pair : entry.pair ≡ 0
  pub outcome_is : entry.outcome ≡ outcome.Route route
  pub least : IsLeastInput codec format entry.pin route

abbrev pub IsFirstBelow : RawCodec → Format → ℕ → Option PinPlan → Type 0
IsFirstBelow codec format below first =
    MatchOption first (HasNoInputBelow codec format below) (IsEntryBelow codec format below)

-- whether a pin comes before that of the entry so far, if there is one
abbrev pub is_earlier : RawCodec → ℕ → Option PinPlan → Bool
is_earlier codec pin None = true
is_earlier codec pin (Some entry) = comes_before codec pin entry.pin
