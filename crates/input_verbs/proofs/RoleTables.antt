-- Tables of roles, and what their roles lead to.
use Rattle.std.proofs.Common.{◌≡◌, ◌<◌, ℕ, zero, suc, List, ◌++◌, refl, sym, ap, ◌∙◌, arith}
use Rattle.route_planner.specs.declared.routes.Hop.{Hop}
use Rattle.route_planner.specs.declared.routes.Outcome.{Outcome}
use Rattle.route_planner.specs.declared.routes.Outcome.TheVariants as outcome
use Rattle.codec_graph.specs.declared.raw.RawCodec.{RawCodec}
use Rattle.codec_graph.specs.Widget.{node_at}
use Rattle.verb_codes.specs.declared.verbs.Command.{Command}
use Rattle.setup_verbs.specs.declared.roles.Role.{Role}
use Rattle.setup_verbs.specs.Roles.{route_uses, first_role, role_among}
use Rattle.setup_verbs.specs.Steps.{StepVerbs, all_steps}
use Rattle.setup_verbs.specs.declared.steps.Step.{Step}
use Rattle.setup_verbs.specs.declared.steps.Step.TheVariants.{Power, Silence, Release, Route}
use Rattle.setup_verbs.specs.VerbList.{commands_to, at_widget, to_below, to_all, step_at_by, step_by}
use Rattle.input_verbs.specs.InputVerbs.{input_outcome_uses}

-- the roles after those of an entry's route
pub input_outcome_more : (before here : Role) (pin pair nid : ℕ) (given : Outcome) (hops shown : List Hop) (converter : ℕ) → given ≡ outcome.Route (record { hops = hops; converter = converter }) → shown ≡ hops
    → here ≡ first_role before (role_among (route_uses shown pin pair) nid) → here ≡ first_role before (role_among (input_outcome_uses pin pair given) nid)
input_outcome_more before here pin pair nid given hops shown converter is same e =
    e ∙ ap (λ (hs : List Hop). first_role before (role_among (route_uses hs pin pair) nid)) same
    ∙ ap (λ (o : Outcome). first_role before (role_among (input_outcome_uses pin pair o) nid)) (sym is)

-- lists made of the same parts are the same
same_below : (step other : ℕ → List Command) (n : ℕ) → ((nid : ℕ) → nid < n → step nid ≡ other nid) → to_below step n ≡ to_below other n
same_below step other zero same = refl
same_below step other (suc n) same =
    ap (λ (l : List Command). l ++ step n) (same_below step other n (λ nid lt. same nid (omega arith)))
    ∙ ap (λ (l : List Command). to_below other n ++ l) (same n (omega arith))

same_step : (codec : RawCodec) (roles others : ℕ → Role) (verbs : StepVerbs) (s : Step) → ((nid : ℕ) → nid < 128 → roles nid ≡ others nid) → step_by codec roles (verbs s) ≡ step_by codec others (verbs s)
unfolding to_all
same_step codec roles others verbs s same =
    same_below (step_at_by codec roles (verbs s)) (step_at_by codec others (verbs s)) 128
    (λ nid lt. ap (λ (r : Role). commands_to codec nid (at_widget (verbs s nid) (node_at codec nid) r)) (same nid lt))

-- roles that agree at all nodes have the same verbs
pub same_steps : (codec : RawCodec) (roles others : ℕ → Role) (verbs : StepVerbs) → ((nid : ℕ) → nid < 128 → roles nid ≡ others nid) → all_steps codec roles verbs ≡ all_steps codec others verbs
same_steps codec roles others verbs same = rw (same_step codec roles others verbs Power same, same_step codec roles others verbs Silence same, same_step codec roles others verbs Release same, same_step codec roles others verbs Route same) refl
