-- What the routes of a plan make of a node is one of three things.
use Rattle.std.proofs.Common.{◌++◌, ℕ, List, [], ◌∷◌, inl, inr, sym, subst, append_assoc}
use Rattle.std.proofs.lemmas.Bool.Decides.{eqb_tells}
use Rattle.route_planner.specs.declared.routes.Hop.{Hop}
use Rattle.route_planner.specs.declared.routes.Outcome.{Outcome}
use Rattle.route_planner.specs.declared.routes.Outcome.TheVariants as outcome
use Rattle.route_planner.specs.declared.routes.PinPlan.{PinPlan}
use Rattle.route_planner.specs.declared.routes.Plan.{Plan}
use Rattle.setup_verbs.specs.Roles.{Uses, hop_uses, outcome_uses, uses_of, role_among, role_of}

-- a hop that is left by this connection, and a route of one node
abbrev hop_by : ℕ → Hop
hop_by index = record { nid = 0; index = index }

abbrev direct : Outcome
direct = outcome.Route (record { hops = []; converter = 0 })

module _ (nid : ℕ) (Holds : _ → Type 0) (unused : Holds (role_among [] nid)) (passed : (index : ℕ) → Holds (role_among (hop_uses (hop_by index ∷ [])) 0)) (source : (pair : ℕ) → Holds (role_among (outcome_uses pair direct) 0)) where
  hops : (list : List Hop) (rest : Uses) → Holds (role_among rest nid) → Holds (role_among (hop_uses list ++ rest) nid)
  hops [] rest holds = holds
  hops (hop ∷ list) rest holds =
      let later = hops list rest holds in
      elim (eqb_tells hop.nid nid) [
        | inl same ↦ rw same.0 (passed hop.index)
        | inr other ↦ rw other.0 later
      ]

  one : (pair : ℕ) (of : Outcome) (rest : Uses) → Holds (role_among rest nid) → Holds (role_among (outcome_uses pair of ++ rest) nid)
  one pair outcome.Blocked rest holds = holds
  one pair outcome.NoPath rest holds = holds
  one pair (outcome.Route route) rest holds =
      let ends : Holds (role_among (outcome_uses pair (outcome.Route (record { hops = []; converter = route.converter })) ++ rest) nid) =
      elim (eqb_tells route.converter nid) [ inl same ↦ rw same.0 (source pair) | inr other ↦ rw other.0 holds ] in
      let converter = outcome_uses pair (outcome.Route (record { hops = []; converter = route.converter })) in
      subst (λ (uses : Uses). Holds (role_among uses nid)) (sym (append_assoc (hop_uses route.hops) converter rest)) (hops route.hops (converter ++ rest) ends)

  all : (entries : List PinPlan) → Holds (role_among (uses_of entries) nid)
  all [] = unused
  all (entry ∷ entries) = one entry.pair entry.outcome (uses_of entries) (all entries)

-- what holds where no route has the node, where one leaves it and where one ends in it holds of its role
pub role_of_plan : (plan : Plan) (nid : ℕ) (Holds : _ → Type 0) → Holds (role_among [] nid) → ((index : ℕ) → Holds (role_among (hop_uses (hop_by index ∷ [])) 0)) → ((pair : ℕ) → Holds (role_among (outcome_uses pair direct) 0))
    → Holds (role_of plan nid)
unfolding role_of
role_of_plan plan nid Holds unused passed source = all nid Holds unused passed source plan.pins
