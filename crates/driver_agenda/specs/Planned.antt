-- Plans of graphs, and the verbs for them. This project's own.
use Rattle.std.specs.Prelude.{Bool, true, false, List, [], ◌∷◌, ◌++◌}
use Rattle.std.specs.List.{list_any}
use Rattle.verb_codes.specs.declared.verbs.Command.{Command}
use Rattle.codec_graph.specs.declared.raw.RawCodec.{RawCodec}
use Rattle.route_planner.specs.declared.routes.Outcome.{Outcome}
use Rattle.route_planner.specs.declared.routes.Outcome.TheVariants as outcome
use Rattle.route_planner.specs.declared.routes.PinPlan.{PinPlan}
use Rattle.route_planner.specs.declared.routes.Plan.{Plan}

-- each graph has its plan
abbrev pub ArePlansBy : (RawCodec → Plan → Type 0) → List RawCodec → List Plan → Type 0
ArePlansBy IsPlanBy [] [] = Unit {0}
ArePlansBy IsPlanBy [] (plan ∷ plans) = ⊥
ArePlansBy IsPlanBy (graph ∷ graphs) [] = ⊥
ArePlansBy IsPlanBy (graph ∷ graphs) (plan ∷ plans) = IsPlanBy graph plan × ArePlansBy IsPlanBy graphs plans

-- the verbs of each graph for its plan, one graph's after the other's
abbrev pub verbs_for : (RawCodec → Plan → List Command) → List RawCodec → List Plan → List Command
verbs_for verbs_by [] plans = []
verbs_for verbs_by (graph ∷ graphs) [] = []
verbs_for verbs_by (graph ∷ graphs) (plan ∷ plans) = verbs_by graph plan ++ verbs_for verbs_by graphs plans

abbrev pub is_route : Outcome → Bool
is_route (outcome.Route route) = true
is_route outcome.Blocked = false
is_route outcome.NoPath = false

-- whether a pin of the plan has a route
abbrev pub has_route : Plan → Bool
has_route plan = list_any (λ (entry : PinPlan). is_route entry.outcome) plan.pins

-- whether a pin of some plan has one
abbrev pub have_route : List Plan → Bool
have_route plans = list_any has_route plans
