use Rattle.std.proofs.Common.{◌≡◌, ◌≤◌, ◌<◌, ℕ, List, ◌∙◌, sym, ap, subst, arith}
use Rattle.std.specs.Prelude.{All}
use Rattle.codec_graph.specs.declared.raw.RawCodec.{RawCodec}
use Rattle.codec_graph.specs.Cycles.{IsWellFormed}
use Rattle.codec_graph.proofs.Callers.{node_below}
use Rattle.route_planner.specs.declared.routes.PinPlan.{PinPlan}
use Rattle.route_planner.specs.declared.routes.Plan.{Plan}
use Rattle.stream_format.specs.declared.format.Format.{Format}
use Rattle.verb_codes.specs.declared.verbs.Command.{Command}
use Rattle.setup_verbs.specs.declared.roles.Role.{Role}
use Rattle.setup_verbs.specs.Roles.{role_among, role_in}
use Rattle.setup_verbs.specs.SetUp.{IsCommandOf}
use Rattle.setup_verbs.specs.Steps.{all_steps}
use Rattle.setup_verbs.proofs.Callers.{five_lists}
use Rattle.input_verbs.specs.InputVerbs.{input_uses_of, input_role_of, input_verbs}
use Rattle.input_verbs.specs.InputSteps.{FitsInput, FitsInputVerbs, input_step_verbs}
use Rattle.input_verbs.specs.OpenInputs.{IsInputPlanOrNone, LeadToOpenIn}
use Rattle.input_verbs.proofs.OpenedIn.{fits_input_verbs, lead_to_open_in}
use Rattle.input_verbs.proofs.InRanged.{all_input_commands}
use Rattle.input_verbs.proofs.RoleTables.{same_steps}
use Rattle.input_verbs.proofs.setup.verbs.Goals as goal

-- the table has the roles of the plan
abbrev AreInputRoles : Plan → List Role → Type 0
AreInputRoles plan roles = (nid : ℕ) → nid < 256 → role_in roles nid ≡ input_role_of plan nid

are_roles : (plan : Plan) (pins : List PinPlan) (roles : List Role) → pins ≡ plan.pins → ((nid : ℕ) → nid < 256 → role_in roles nid ≡ role_among (input_uses_of pins) nid) → AreInputRoles plan roles
unfolding input_role_of
are_roles plan pins roles same are nid below = are nid below ∙ ap (λ (ps : List PinPlan). role_among (input_uses_of ps) nid) same

fitting : (graph codec : RawCodec) (format : Format) (plan : Plan) (roles : List Role) → codec ≡ graph → IsWellFormed graph → IsInputPlanOrNone graph format plan → AreInputRoles plan roles → FitsInputVerbs codec (role_in roles)
fitting graph codec format plan roles same well is are = subst (λ g. FitsInputVerbs g (role_in roles)) (sym same) (record {
  at = λ nid node there. let low = node_below graph nid node well there in subst (λ r. FitsInput node r) (sym (are nid (omega arith))) ((fits_input_verbs graph format plan well is).at nid node there);
})

-- what holds of the list holds of the commands
record AllClauses (graph : RawCodec) (plan : Plan) (format : Format) (tag : ℕ) (commands : List Command) : Type 0 where
  pub list : commands ≡ input_verbs graph plan format tag
  pub opens : LeadToOpenIn graph plan format tag commands
  pub encodable : All (IsCommandOf graph) commands

all_clauses : (graph : RawCodec) (plan : Plan) (format : Format) (tag : ℕ) (commands : List Command) → IsWellFormed graph → IsInputPlanOrNone graph format plan → 1 ≤ tag → tag ≤ 15 → commands ≡ input_verbs graph plan format tag → AllClauses graph plan format tag commands
all_clauses graph plan format tag commands well is some few same = record {
  list = same;
  opens = subst (λ (l : List Command). LeadToOpenIn graph plan format tag l) (sym same) (lead_to_open_in graph plan format tag well is some few);
  encodable = subst (λ (l : List Command). All (IsCommandOf graph) l) (sym same) (all_input_commands graph plan format tag well is few);
}

by_table : (graph codec : RawCodec) (plan : Plan) (format : Format) (tag : ℕ) (roles : List Role) → codec ≡ graph → AreInputRoles plan roles → all_steps codec (role_in roles) (input_step_verbs codec format tag) ≡ input_verbs graph plan format tag
unfolding input_verbs
by_table graph codec plan format tag roles same are =
    same_steps codec (role_in roles) (input_role_of plan) (input_step_verbs codec format tag) (λ nid low. are nid (omega arith))
    ∙ ap (λ (g : RawCodec). input_verbs g plan format tag) same

pub send_step-requires-clause-fits : goal.send_step-requires-clause-fits
send_step-requires-clause-fits c = fitting c.args.graph.now c.raw-codec.result.now c.args.format c.args.plan.now c.roles_of-roles.result c.raw-codec.ensures.value c.raw-codec.ensures.well_formed c.requires.plan (are_roles c.args.plan.now _ c.roles_of-roles.result c.as_slice.ensures c.roles_of-roles.ensures)

pub send_step-requires-2-clause-fits : goal.send_step-requires-2-clause-fits
send_step-requires-2-clause-fits c = fitting c.args.graph.now c.raw-codec.result.now c.args.format c.args.plan.now c.roles_of-roles.result c.raw-codec.ensures.value c.raw-codec.ensures.well_formed c.requires.plan (are_roles c.args.plan.now _ c.roles_of-roles.result c.as_slice.ensures c.roles_of-roles.ensures)

pub send_step-requires-3-clause-fits : goal.send_step-requires-3-clause-fits
send_step-requires-3-clause-fits c = fitting c.args.graph.now c.raw-codec.result.now c.args.format c.args.plan.now c.roles_of-roles.result c.raw-codec.ensures.value c.raw-codec.ensures.well_formed c.requires.plan (are_roles c.args.plan.now _ c.roles_of-roles.result c.as_slice.ensures c.roles_of-roles.ensures)

pub send_step-requires-4-clause-fits : goal.send_step-requires-4-clause-fits
send_step-requires-4-clause-fits c = fitting c.args.graph.now c.raw-codec.result.now c.args.format c.args.plan.now c.roles_of-roles.result c.raw-codec.ensures.value c.raw-codec.ensures.well_formed c.requires.plan (are_roles c.args.plan.now _ c.roles_of-roles.result c.as_slice.ensures c.roles_of-roles.ensures)

pub returns : goal.returns
returns c =
    let z = all_clauses c.args.graph.now c.args.plan.now c.args.format c.args.tag c.send_step-4.new.commands.items c.raw-codec.ensures.well_formed c.requires.plan c.requires.some c.requires.few
    (five_lists _ c.new-commands.result.items c.send_if.new.commands.items c.send_step.new.commands.items c.send_step-2.new.commands.items c.send_step-3.new.commands.items c.send_step-4.new.commands.items _ _ _ _
    c.new-commands.ensures.items c.in_ok-send_if.ensures c.in_ok-send_step.ensures c.in_ok-send_step-2.ensures c.in_ok-send_step-3.ensures c.in_ok-send_step-4.ensures
    ∙ by_table c.args.graph.now c.raw-codec.result.now c.args.plan.now c.args.format c.args.tag c.roles_of-roles.result c.raw-codec.ensures.value (are_roles c.args.plan.now _ c.roles_of-roles.result c.as_slice.ensures c.roles_of-roles.ensures)) in
    record { list = z.list; opens = z.opens; encodable = z.encodable }
