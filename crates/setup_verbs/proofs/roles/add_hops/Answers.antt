use Rattle.std.proofs.Common.{rules, ◌∙◌, sym, ap}
use Rattle.route_planner.specs.declared.routes.Hop.{Hop}
use Rattle.setup_verbs.specs.Roles.{first_role}
use Rattle.setup_verbs.specs.Roles.{role_in}
use Rattle.setup_verbs.proofs.RoleLists.{hops_more, add_more}
use Rattle.setup_verbs.proofs.roles.add_hops.Goals as goal

pub loop-hop-preserved : goal.loop-hop-preserved
loop-hop-preserved c =
    let d : Hop = record { nid = 0; index = 0 } in
    record {
      whole = search rules;
      added = λ nid below. add_more _ _ _ _ _ (c.loop-hop.invariant.added nid below) (c.add_role.ensures nid below) ∙ ap (λ r. first_role (role_in c.args.roles.now nid) r) (sym (hops_more c.args.hops.now c.loop-hop.hop-index d nid c.loop-hop-test.true));
    }
