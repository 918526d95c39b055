-- What a search for the least open path of a pin finds. This project's own.
use Rattle.std.specs.Prelude.{◌≡◌, ℕ, List}
use Rattle.codec_graph.specs.declared.raw.RawCodec.{RawCodec}
use Rattle.stream_format.specs.declared.format.Format.{Format}
use Rattle.codec_graph.specs.declared.pin_kind.PinKind.{PinKind}
use Rattle.route_planner.specs.declared.routes.Route.{Route}
use Rattle.route_planner.specs.declared.routes.PinPlan.{PinPlan}
use Rattle.route_planner.specs.Paths.{IsNoLarger}
use Rattle.route_planner.specs.Plans.{IsOpenPathAs, IsOutcomeAs}
use Rattle.route_planner.specs.Pairs.{pair_as}

-- an admissible path that the earlier entries leave open, and no larger than any other
pub record IsLeastOpen (kind : PinKind) (codec : RawCodec) (format : Format) (earlier : List PinPlan) (pair pin : ℕ)
    (route : Route)
    : Type 0 where
  pub is_open : IsOpenPathAs kind codec format earlier pair pin route
  pub least : (other : Route) → IsOpenPathAs kind codec format earlier pair pin other → IsNoLarger route other

-- the earlier entries leave no admissible path open
abbrev pub HasNoOpenPath : PinKind → RawCodec → Format → List PinPlan → ℕ → ℕ → Type 0
HasNoOpenPath kind codec format earlier pair pin = (other : Route)
    → IsOpenPathAs kind codec format earlier pair pin other → ⊥

-- the entry of a pin after some earlier entries
pub record IsEntry (kind : PinKind) (codec : RawCodec) (format : Format) (earlier : List PinPlan) (pin : ℕ)
    (entry : PinPlan) : Type 0
  where
    pub of_pin : entry.pin ≡ pin
    pub of_pair : entry.pair ≡ pair_as kind codec format.channels pin
    pub of_outcome : IsOutcomeAs kind codec format earlier entry.pair pin entry.outcome
