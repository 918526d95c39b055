use Rattle.std.proofs.Common.{take}
use Rattle.driver_agenda.specs.declared.plans.TheConstants.{TAG}
use Rattle.driver_agenda.specs.Planned.{ArePlansBy}
use Rattle.driver_agenda.proofs.plans.plans_of.Given as goal

abbrev pub invariant-loop-graph : goal.invariant-loop-graph
invariant-loop-graph g l = ArePlansBy (g.T.Setter.means l.setter l.format TAG).IsPlanBy (take l.graph-index l.graphs) l.plans.items
