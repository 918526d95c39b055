use Rattle.std.proofs.Common.{◌≡◌, take}
use Rattle.std.specs.Prelude.{All}
use Rattle.verb_codes.specs.Verbs.{IsInRange}
use Rattle.driver_agenda.specs.Planned.{verbs_for}
use Rattle.driver_agenda.specs.declared.plans.TheConstants.{TAG}
use Rattle.driver_agenda.proofs.plans.verbs_of.Given as goal

abbrev pub invariant-loop-index : goal.invariant-loop-index
invariant-loop-index g l = record {
  in_range : All IsInRange l.all.items;
  value : l.all.items ≡ verbs_for (g.T.Setter.means l.setter l.format TAG).verbs_by (take l.index l.graphs) (take l.index l.plans);
}
