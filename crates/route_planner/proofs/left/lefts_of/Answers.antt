use Rattle.route_planner.proofs.LeftLemmas.{all_free}
use Rattle.route_planner.proofs.left.lefts_of.Goals as goal

pub loop-entry-init : goal.loop-entry-init
loop-entry-init c = λ nid index h. all_free 256 nid index h
