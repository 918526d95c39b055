-- What the routes of a plan make of each node. This project's own.
use Rattle.std.specs.Prelude.{ℕ, Bool, true, false, ◌==◌, ◌+◌, List, [], ◌∷◌, ◌++◌, map, slice_index_or}
use Rattle.std.specs.Prelude.{if◌then◌else◌}
use Rattle.std.specs.List.{flat_map}
use Rattle.route_planner.specs.declared.routes.Hop.{Hop}
use Rattle.route_planner.specs.declared.routes.Outcome.{Outcome}
use Rattle.route_planner.specs.declared.routes.Outcome.TheVariants as outcome
use Rattle.route_planner.specs.declared.routes.PinPlan.{PinPlan}
use Rattle.route_planner.specs.declared.routes.Plan.{Plan}
use Rattle.setup_verbs.specs.declared.roles.Role.{Role}
use Rattle.setup_verbs.specs.declared.roles.Role.TheVariants.{Unused, Passed, Source}

-- some nodes, each with what a route makes of it
abbrev pub Uses : Type 0
Uses = List (ℕ × Role)

-- a route passes the node that each of its hops leaves
abbrev pub hop_uses : List Hop → Uses
hop_uses hops = map (λ (hop : Hop). (hop.nid, Passed hop.index)) hops

-- and has its sound from the node at its source
abbrev pub route_uses : List Hop → (source pair : ℕ) → Uses
route_uses hops source pair = hop_uses hops ++ (source, Source pair) ∷ []

-- on the way out its pair of channels from its converter
abbrev pub outcome_uses : ℕ → Outcome → Uses
outcome_uses pair (outcome.Route route) = route_uses route.hops route.converter pair
outcome_uses pair outcome.Blocked = []
outcome_uses pair outcome.NoPath = []

abbrev pub entry_uses : PinPlan → Uses
entry_uses entry = outcome_uses entry.pair entry.outcome

-- all routes of some entries, in order
abbrev pub uses_of : List PinPlan → Uses
uses_of entries = flat_map entry_uses entries

-- the first of two roles, unless it is unused
abbrev pub first_role : Role → Role → Role
first_role Unused other = other
first_role (Passed index) other = Passed index
first_role (Source pair) other = Source pair

-- what the first of some routes that has the node makes of it
abbrev pub role_among : Uses → ℕ → Role
role_among [] nid = Unused
role_among (used ∷ uses) nid = first_role (if used.0 == nid then used.1 else Unused) (role_among uses nid)

-- the role at a node's place of a table
abbrev pub role_in : List Role → ℕ → Role
role_in roles nid = slice_index_or roles nid Unused

-- what the routes of a plan make of a node: in the plan of a well-formed graph all routes that have it make the same of
-- it
unfoldable pub role_of : Plan → ℕ → Role
role_of plan nid = role_among (uses_of plan.pins) nid

abbrev pub is_used : Role → Bool
is_used Unused = false
is_used (Passed index) = true
is_used (Source pair) = true

-- the place of a pin's entry, from 0
abbrev pub place_among : List PinPlan → ℕ → ℕ
place_among [] pin = 0
place_among (entry ∷ entries) pin = if entry.pin == pin then 0 else place_among entries pin + 1
