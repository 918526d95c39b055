-- What several routes make of a node.
use Rattle.std.proofs.Common.{◌≡◌, ◌==◌, ◌<◌, ◌+◌, ℕ, cond, List, [], ◌∷◌, ◌++◌, take, length, get_or, replicate, append-nil, refl, sym, ap, ◌∙◌}
use Rattle.std.specs.List.{flat_map}
use Rattle.std.proofs.lemmas.List.{take_more, map-append, get_or-replicate}
use Rattle.std.proofs.lemmas.List.Concat.{flat_map-append}
use Rattle.route_planner.specs.declared.routes.Hop.{Hop}
use Rattle.route_planner.specs.declared.routes.Outcome.{Outcome}
use Rattle.route_planner.specs.declared.routes.Outcome.TheVariants as outcome
use Rattle.route_planner.specs.declared.routes.PinPlan.{PinPlan}
use Rattle.setup_verbs.specs.declared.roles.Role.{Role}
use Rattle.setup_verbs.specs.declared.roles.Role.TheVariants.{Unused, Passed, Source}
use Rattle.setup_verbs.specs.Roles.{Uses, hop_uses, route_uses, outcome_uses, first_role, role_among, role_in}

pub first_role-assoc : (a b c : Role) → first_role (first_role a b) c ≡ first_role a (first_role b c)
first_role-assoc Unused b c = refl
first_role-assoc (Passed index) b c = refl
first_role-assoc (Source pair) b c = refl

pub first_role-none : (a : Role) → first_role a Unused ≡ a
first_role-none Unused = refl
first_role-none (Passed index) = refl
first_role-none (Source pair) = refl

pub role_among-append : (xs ys : Uses) (nid : ℕ) → role_among (xs ++ ys) nid ≡ first_role (role_among xs nid) (role_among ys nid)
role_among-append [] ys nid = refl
role_among-append (used ∷ xs) ys nid =
    ap (λ r. first_role (cond (used.0 == nid) used.1 Unused) r) (role_among-append xs ys nid)
    ∙ sym (first_role-assoc (cond (used.0 == nid) used.1 Unused) (role_among xs nid) (role_among ys nid))

-- one use alone
pub role_among-one : (nid other : ℕ) (role : Role) → role_among ((nid, role) ∷ []) other ≡ cond (nid == other) role Unused
role_among-one nid other role = first_role-none (cond (nid == other) role Unused)

-- one use more, of a hop or of an entry
pub hops_more : (hops : List Hop) (i : ℕ) (d : Hop) (nid : ℕ) → i < length hops
    → role_among (hop_uses (take (i + 1) hops)) nid ≡ first_role (role_among (hop_uses (take i hops)) nid) (cond ((get_or hops i d).nid == nid) (Passed (get_or hops i d).index) Unused)
hops_more hops i d nid within =
    ap (λ (hs : List Hop). role_among (hop_uses hs) nid) (take_more hops i d within)
    ∙ ap (λ (us : Uses). role_among us nid) (map-append (λ (hop : Hop). (hop.nid, Passed hop.index)) (take i hops) (get_or hops i d ∷ []))
    ∙ role_among-append (hop_uses (take i hops)) (hop_uses (get_or hops i d ∷ [])) nid
    ∙ ap (λ r. first_role (role_among (hop_uses (take i hops)) nid) r) (role_among-one (get_or hops i d).nid nid (Passed (get_or hops i d).index))

pub entries_more : (uses_by : PinPlan → Uses) (entries : List PinPlan) (i : ℕ) (d : PinPlan) (nid : ℕ) → i < length entries
    → role_among (flat_map uses_by (take (i + 1) entries)) nid ≡ first_role (role_among (flat_map uses_by (take i entries)) nid) (role_among (uses_by (get_or entries i d)) nid)
entries_more uses_by entries i d nid within =
    ap (λ (es : List PinPlan). role_among (flat_map uses_by es) nid) (take_more entries i d within)
    ∙ ap (λ (us : Uses). role_among us nid) (flat_map-append uses_by (take i entries) (get_or entries i d ∷ []))
    ∙ role_among-append (flat_map uses_by (take i entries)) (flat_map uses_by (get_or entries i d ∷ [])) nid
    ∙ ap (λ (us : Uses). first_role (role_among (flat_map uses_by (take i entries)) nid) (role_among us nid)) (append-nil (uses_by (get_or entries i d)))

-- the roles after some more uses
pub add_more : (before here old : Role) (some more : Role) → before ≡ first_role old some → here ≡ first_role before more → here ≡ first_role old (first_role some more)
add_more before here old some more e f = f ∙ ap (λ r. first_role r more) e ∙ first_role-assoc old some more

-- at first none has a role
pub unused_at : (n nid : ℕ) → nid < n → role_in (replicate n Unused) nid ≡ Unused
unused_at n nid within = get_or-replicate n nid Unused Unused within

-- one entry more, of which `uses_by` says what it makes of nodes
pub entry_more : (uses_by : PinPlan → Uses) (entries : List PinPlan) (i : ℕ) (d : PinPlan) (nid : ℕ) (old new : Role) → i < length entries → d ≡ get_or entries i d → old ≡ role_among (flat_map uses_by (take i entries)) nid → new ≡ first_role old (role_among (uses_by d) nid)
    → new ≡ role_among (flat_map uses_by (take (i + 1) entries)) nid
entry_more uses_by entries i d nid old new within is e f =
    f ∙ ap (λ r. first_role r (role_among (uses_by d) nid)) e
    ∙ ap (λ (p : PinPlan). first_role (role_among (flat_map uses_by (take i entries)) nid) (role_among (uses_by p) nid)) is
    ∙ sym (entries_more uses_by entries i d nid within)

-- the roles after those of a route
pub route_more : (before middle here : Role) (hops : List Hop) (source pair nid : ℕ) → middle ≡ first_role before (role_among (hop_uses hops) nid) → here ≡ first_role middle (cond (source == nid) (Source pair) Unused)
    → here ≡ first_role before (role_among (route_uses hops source pair) nid)
route_more before middle here hops source pair nid e f =
    add_more middle here before (role_among (hop_uses hops) nid) (cond (source == nid) (Source pair) Unused) e f
    ∙ ap (λ r. first_role before (first_role (role_among (hop_uses hops) nid) r)) (sym (role_among-one source nid (Source pair)))
    ∙ ap (λ r. first_role before r) (sym (role_among-append (hop_uses hops) ((source, Source pair) ∷ []) nid))

-- and after those of an entry's route
pub outcome_more : (before here : Role) (pair nid : ℕ) (given : Outcome) (hops shown : List Hop) (converter : ℕ) → given ≡ outcome.Route (record { hops = hops; converter = converter }) → shown ≡ hops
    → here ≡ first_role before (role_among (route_uses shown converter pair) nid) → here ≡ first_role before (role_among (outcome_uses pair given) nid)
outcome_more before here pair nid given hops shown converter is same e =
    e ∙ ap (λ (hs : List Hop). first_role before (role_among (route_uses hs converter pair) nid)) same
    ∙ ap (λ (o : Outcome). first_role before (role_among (outcome_uses pair o) nid)) (sym is)
