use Rattle.std.proofs.Common.{◌≡◌, ◌≤◌, ℕ, List, ◌∙◌, sym, ap, subst}
use Rattle.codec_graph.specs.declared.raw.RawCodec.{RawCodec}
use Rattle.codec_graph.specs.Cycles.{IsWellFormed}
use Rattle.route_planner.specs.Plans.{IsPlanAs}
use Rattle.route_planner.specs.declared.routes.PinPlan.{PinPlan}
use Rattle.setup_verbs.specs.Roles.{role_of, role_among, uses_of}
use Rattle.setup_verbs.specs.Steps.{FitsVerbs}
use Rattle.setup_verbs.specs.VerbList.{setup_verbs_as}
use Rattle.stream_format.specs.declared.format.Format.{Format}
use Rattle.codec_graph.specs.declared.pin_kind.PinKind.{PinKind}
use Rattle.route_planner.specs.declared.routes.Plan.{Plan}
use Rattle.std.specs.Prelude.{All}
use Rattle.verb_codes.specs.declared.verbs.Command.{Command}
use Rattle.setup_verbs.specs.SetUp.{IsCommandOf, LeadToHearing}
use Rattle.setup_verbs.proofs.Final.{lead_to_hearing}
use Rattle.setup_verbs.proofs.Ranged.{all_commands_of}
use Rattle.setup_verbs.proofs.Fitting.{fits_verbs}
use Rattle.setup_verbs.proofs.Lists.{five_lists}
use Rattle.setup_verbs.proofs.setup.verbs_as.Goals as goal

fitting : (kind : PinKind) (graph codec : RawCodec) (format : Format) (plan : Plan) → codec ≡ graph → IsWellFormed graph → IsPlanAs kind graph format plan → FitsVerbs codec plan
fitting kind graph codec format plan same well is = subst (λ g. FitsVerbs g plan) (sym same) (fits_verbs kind graph format plan well is)

-- what holds of the list holds of the commands
record AllClauses (kind : PinKind) (graph : RawCodec) (plan : Plan) (format : Format) (tag : ℕ) (commands : List Command) : Type 0 where
  pub list : commands ≡ setup_verbs_as kind graph plan format tag
  pub set_up : LeadToHearing kind graph plan format tag commands
  pub encodable : All (IsCommandOf graph) commands

all_clauses : (kind : PinKind) (graph : RawCodec) (plan : Plan) (format : Format) (tag : ℕ) (commands : List Command) → IsWellFormed graph → IsPlanAs kind graph format plan → 1 ≤ tag → tag ≤ 15 → commands ≡ setup_verbs_as kind graph plan format tag → AllClauses kind graph plan format tag commands
all_clauses kind graph plan format tag commands well is some few same = record {
  list = same;
  set_up = subst (λ (l : List Command). LeadToHearing kind graph plan format tag l) (sym same) (lead_to_hearing kind graph plan format tag well is some few);
  encodable = subst (λ (l : List Command). All (IsCommandOf graph) l) (sym same) (all_commands_of kind graph plan format tag well is few);
}

pub send_step-requires-clause-roles : goal.send_step-requires-clause-roles
unfolding role_of
send_step-requires-clause-roles c = λ nid below. c.roles_of-roles.ensures nid below ∙ ap (λ (pins : List PinPlan). role_among (uses_of pins) nid) c.as_slice.ensures

pub send_step-requires-2-clause-roles : goal.send_step-requires-2-clause-roles
unfolding role_of
send_step-requires-2-clause-roles c = λ nid below. c.roles_of-roles.ensures nid below ∙ ap (λ (pins : List PinPlan). role_among (uses_of pins) nid) c.as_slice.ensures

pub send_step-requires-3-clause-roles : goal.send_step-requires-3-clause-roles
unfolding role_of
send_step-requires-3-clause-roles c = λ nid below. c.roles_of-roles.ensures nid below ∙ ap (λ (pins : List PinPlan). role_among (uses_of pins) nid) c.as_slice.ensures

pub send_step-requires-4-clause-roles : goal.send_step-requires-4-clause-roles
unfolding role_of
send_step-requires-4-clause-roles c = λ nid below. c.roles_of-roles.ensures nid below ∙ ap (λ (pins : List PinPlan). role_among (uses_of pins) nid) c.as_slice.ensures

pub send_step-requires-clause-fits : goal.send_step-requires-clause-fits
send_step-requires-clause-fits c = fitting c.args.kind c.args.graph.now c.raw-codec.result.now c.args.format c.args.plan.now c.raw-codec.ensures.value c.raw-codec.ensures.well_formed c.requires.plan

pub send_step-requires-2-clause-fits : goal.send_step-requires-2-clause-fits
send_step-requires-2-clause-fits c = fitting c.args.kind c.args.graph.now c.raw-codec.result.now c.args.format c.args.plan.now c.raw-codec.ensures.value c.raw-codec.ensures.well_formed c.requires.plan

pub send_step-requires-3-clause-fits : goal.send_step-requires-3-clause-fits
send_step-requires-3-clause-fits c = fitting c.args.kind c.args.graph.now c.raw-codec.result.now c.args.format c.args.plan.now c.raw-codec.ensures.value c.raw-codec.ensures.well_formed c.requires.plan

pub send_step-requires-4-clause-fits : goal.send_step-requires-4-clause-fits
send_step-requires-4-clause-fits c = fitting c.args.kind c.args.graph.now c.raw-codec.result.now c.args.format c.args.plan.now c.raw-codec.ensures.value c.raw-codec.ensures.well_formed c.requires.plan

pub returns : goal.returns
unfolding setup_verbs_as
returns c =
    let z = all_clauses c.args.kind c.args.graph.now c.args.plan.now c.args.format c.args.tag c.send_step-4.new.commands.items c.raw-codec.ensures.well_formed c.requires.plan c.requires.some c.requires.few
    (five_lists _ c.new-commands.result.items c.send_if.new.commands.items c.send_step.new.commands.items c.send_step-2.new.commands.items c.send_step-3.new.commands.items c.send_step-4.new.commands.items _ _ _ _
    c.new-commands.ensures.items c.in_ok-send_if.ensures c.in_ok-send_step.ensures c.in_ok-send_step-2.ensures c.in_ok-send_step-3.ensures c.in_ok-send_step-4.ensures
    ∙ ap (λ (g : RawCodec). setup_verbs_as c.args.kind g c.args.plan.now c.args.format c.args.tag) c.raw-codec.ensures.value) in
    record { list = z.list; set_up = z.set_up; encodable = z.encodable }
