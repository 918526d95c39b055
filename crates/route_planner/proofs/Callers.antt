-- What the proofs of other crates cite.
use Rattle.std.proofs.Common.{◌<◌, ◌≤◌, ℕ, List, [], take, drop, length, get_or}
use Rattle.codec_graph.specs.declared.raw.RawCodec.{RawCodec}
use Rattle.codec_graph.specs.Cycles.{HasSoundTables}
use Rattle.stream_format.specs.declared.format.Format.{Format}
use Rattle.codec_graph.specs.declared.pin_kind.PinKind.{PinKind}
use Rattle.route_planner.specs.declared.routes.Hop.{Hop}
use Rattle.route_planner.specs.declared.routes.PinPlan.{PinPlan}
use Rattle.route_planner.specs.declared.routes.Plan.{Plan}
use Rattle.route_planner.specs.Paths.{LeadsTo}
use Rattle.route_planner.specs.Plans.{IsOutcomeAs, IsPlanAs}
use Rattle.route_planner.specs.Search.{IsBounded}
use Rattle.route_planner.proofs.Bounds as bounds
use Rattle.route_planner.proofs.PlanParts as parts
-- a graph has one plan
pub use Rattle.route_planner.proofs.OnlyPlan.{only_plan}
-- and one for an input
pub use Rattle.route_planner.proofs.OnlyInput.{only_input_plan}
-- what holds of a number that is there
pub use Rattle.route_planner.proofs.Bridge.{match_some}
-- the entries of a plan are admissible
pub use Rattle.route_planner.proofs.OnlyPlan.{admissible_entries}
-- no pin comes before itself
pub use Rattle.codec_graph.proofs.Callers.{not_before}

-- in a graph whose tables have no fault, widgets have node identifiers below 128 and at most 64 connections each
pub IsBounded-from_sound : (codec : RawCodec) → HasSoundTables codec → IsBounded codec
IsBounded-from_sound codec sound = bounds.IsBounded-from_sound codec sound

-- the entry at a place of a plan has the right outcome after those before it
pub outcome_at : (kind : PinKind) (codec : RawCodec) (format : Format) (plan : Plan) (k : ℕ) (d : PinPlan) → IsPlanAs kind codec format plan → k < length plan.pins
    → IsOutcomeAs kind codec format (take k plan.pins) (get_or plan.pins k d).pair (get_or plan.pins k d).pin (get_or plan.pins k d).outcome
outcome_at kind codec format plan k d is within = parts.outcome_at kind codec format [] plan.pins k d is.outcomes within

-- the hops of a path from a place on lead from some node to the same end
pub leads_from : (codec : RawCodec) (hops : List Hop) (from to k : ℕ) → LeadsTo codec from hops to → k ≤ length hops → (through : ℕ) × LeadsTo codec through (drop k hops) to
leads_from codec hops from to k leads within = parts.leads_from codec hops from to k leads within
