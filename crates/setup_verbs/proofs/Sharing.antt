-- Compatible routes agree at each node that they share, so each hop and converter of a plan has its role.
use Rattle.std.proofs.Common.{◌≡◌, ◌<◌, ◌==◌, ◌||◌, ◌⊎◌, ℕ, zero, suc, Bool, true, false, cond, List, [], ◌∷◌, length, get_or, Option, Some, None, refl, sym, ap, subst, ◌∙◌, inl, inr, arith}
use Rattle.std.specs.Prelude.{All, Contains, drop, slice_get}
use Rattle.std.proofs.lemmas.Bool.{eqb-true, eq-eqb, true≢false}
use Rattle.std.proofs.lemmas.Option.{none-some}
use Rattle.verb_codes.specs.Words.{bits_of}
use Rattle.std.proofs.lemmas.List.Elements.{All-head, All-tail}
use Rattle.codec_graph.specs.declared.raw.RawNode.{RawNode}
use Rattle.codec_graph.specs.declared.raw.RawCodec.{RawCodec}
use Rattle.codec_graph.specs.Widget.{node_at, is_inner, is_pin, is_output_converter}
use Rattle.codec_graph.specs.Cycles.{IsWellFormed, inner_list, inner_list_of, Leads, Reaches}
use Rattle.route_planner.specs.declared.routes.Hop.{Hop}
use Rattle.route_planner.specs.Paths.{passes, list_of, connection, LeadsTo}
use Rattle.route_planner.proofs.Callers.{match_some}
use Rattle.setup_verbs.specs.declared.roles.Role.{Role}
use Rattle.setup_verbs.specs.declared.roles.Role.TheVariants.{Unused}
use Rattle.setup_verbs.specs.Roles.{Uses, first_role, role_among}

-- ---- uses that agree

-- a role that is not unused stays
abbrev pub IsSolid : Role → Type 0
IsSolid role = (other : Role) → first_role role other ≡ role

-- a use with which all others agree is what all make of the node
pub role_found : (uses : Uses) (k nid : ℕ) (role : Role) → IsSolid role → k < length uses → get_or uses k (nid, role) ≡ (nid, role) → All (λ (t : ℕ × Role). t.0 ≡ nid → t.1 ≡ role) uses → role_among uses nid ≡ role
role_found [] k nid role solid within is all = absurd (omega arith)
role_found (t ∷ uses) zero nid role solid within is all =
    rw (eq-eqb t.0 nid (ap (λ (u : ℕ × Role). u.0) is)) (ap (λ r. first_role r (role_among uses nid)) (ap (λ (u : ℕ × Role). u.1) is) ∙ solid (role_among uses nid))
role_found (t ∷ uses) (suc k) nid role solid within is all = by (t.0 == nid) refl (role_found uses k nid role solid (omega arith) is (All-tail (λ (t : ℕ × Role). t.0 ≡ nid → t.1 ≡ role) t uses all))
  where
    by : (b : Bool) → (t.0 == nid) ≡ b → role_among uses nid ≡ role → first_role (cond b t.1 Unused) (role_among uses nid) ≡ role
    by true e rest = ap (λ r. first_role r (role_among uses nid)) (All-head (λ (t : ℕ × Role). t.0 ≡ nid → t.1 ≡ role) t uses all (eqb-true t.0 nid e)) ∙ solid (role_among uses nid)
    by false e rest = rest

-- ---- kinds of nodes

-- a node is of one kind
pub inner_no_pin : (o : Option RawNode) → passes is_inner o ≡ true → passes is_pin o ≡ true → ⊥
inner_no_pin None e f = absurd (true≢false (sym e))
inner_no_pin (Some node) e f = apart (bits_of node.caps 20 4) e (eqb-true (bits_of node.caps 20 4) 4 f)
  where
    apart : (n : ℕ) → (n == 2 || n == 3) ≡ true → n ≡ 4 → ⊥
    apart n e f = let z : (n == 2 || n == 3) ≡ false = rw f refl in absurd (true≢false (sym e ∙ z))

pub inner_no_converter : (o : Option RawNode) → passes is_inner o ≡ true → passes is_output_converter o ≡ true → ⊥
inner_no_converter None e f = absurd (true≢false (sym e))
inner_no_converter (Some node) e f = apart (bits_of node.caps 20 4) e (eqb-true (bits_of node.caps 20 4) 0 f)
  where
    apart : (n : ℕ) → (n == 2 || n == 3) ≡ true → n ≡ 0 → ⊥
    apart n e f = let z : (n == 2 || n == 3) ≡ false = rw f refl in absurd (true≢false (sym e ∙ z))

pub pin_no_converter : (o : Option RawNode) → passes is_pin o ≡ true → passes is_output_converter o ≡ true → ⊥
pin_no_converter None e f = absurd (true≢false (sym e))
pin_no_converter (Some node) e f = apart (bits_of node.caps 20 4) (eqb-true (bits_of node.caps 20 4) 4 e) (eqb-true (bits_of node.caps 20 4) 0 f)
  where
    apart : (n : ℕ) → n ≡ 4 → n ≡ 0 → ⊥
    apart n e f = absurd (omega arith)

-- ---- hops of one route

found_in : (xs : List ℕ) (i n : ℕ) → slice_get xs i ≡ Some n → Contains xs n
found_in [] i n e = absurd (none-some n e)
found_in (x ∷ xs) zero n e = let same : x ≡ n = cc in (0, omega arith, same)
found_in (x ∷ xs) (suc i) n e = let rest = found_in xs i n e in (suc rest.0, omega (arith, rest.1), rest.2)

-- a connection of a mixer or selector
inner_connection : (codec : RawCodec) (nid index next : ℕ) → passes is_inner (node_at codec nid) ≡ true → connection codec nid index ≡ Some next → Contains (inner_list codec nid) next
inner_connection codec nid index next inner leads = by (node_at codec nid) inner leads
  where
    by : (o : Option RawNode) → passes is_inner o ≡ true → slice_get (list_of o) index ≡ Some next → Contains (inner_list_of o) next
    by None e l = absurd (true≢false (sym e))
    by (Some node) e l = subst (λ b. Contains (cond b node.list []) next) (sym e) (found_in node.list index next l)

abbrev pub AreInner : RawCodec → List Hop → Type 0
AreInner codec hops = All (λ (hop : Hop). passes is_inner (node_at codec hop.nid) ≡ true) hops

-- from where a path through mixers and selectors begins, it reaches each of its nodes
reaches : (codec : RawCodec) (hops : List Hop) (from to k : ℕ) (d : Hop) → LeadsTo codec from hops to → AreInner codec hops → k < length hops → (from ≡ (get_or hops k d).nid) ⊎ Reaches codec from (get_or hops k d).nid
reaches codec [] from to k d leads inner within = absurd (omega arith)
reaches codec (hop ∷ hops) from to zero d leads inner within = inl (sym leads.0)
reaches codec (hop ∷ hops) from to (suc k) d leads inner within =
    let next = match_some (connection codec from hop.index) (λ n. LeadsTo codec n hops to) leads.1 in
    let here : passes is_inner (node_at codec from) ≡ true = ap (λ n. passes is_inner (node_at codec n)) (sym leads.0) ∙ All-head (λ (h : Hop). passes is_inner (node_at codec h.nid) ≡ true) hop hops inner in
    let listed : Contains (inner_list codec from) next.0 = inner_connection codec from hop.index next.0 here next.1 in
    on next.0 listed (reaches codec hops next.0 to k d next.2 (All-tail (λ (h : Hop). passes is_inner (node_at codec h.nid) ≡ true) hop hops inner) (omega arith))
  where
    on : (n : ℕ) → Contains (inner_list codec from) n → (n ≡ (get_or hops k d).nid) ⊎ Reaches codec n (get_or hops k d).nid → (from ≡ (get_or hops k d).nid) ⊎ Reaches codec from (get_or hops k d).nid
    on n listed (inl same) = inr ([], subst (λ m. Contains (inner_list codec from) m) same listed)
    on n listed (inr way) = inr (n ∷ way.0, (listed, way.1))

-- no mixer or selector stands twice in a path
not_twice : (codec : RawCodec) (hop : Hop) (hops : List Hop) (from to k : ℕ) (d : Hop) → IsWellFormed codec → LeadsTo codec from (hop ∷ hops) to → AreInner codec (hop ∷ hops) → k < length hops → hop.nid ≡ (get_or hops k d).nid → ⊥
not_twice codec hop hops from to k d well leads inner within same =
    let next = match_some (connection codec from hop.index) (λ n. LeadsTo codec n hops to) leads.1 in
    let here : passes is_inner (node_at codec from) ≡ true = ap (λ n. passes is_inner (node_at codec n)) (sym leads.0) ∙ All-head (λ (h : Hop). passes is_inner (node_at codec h.nid) ≡ true) hop hops inner in
    let listed : Contains (inner_list codec from) next.0 = inner_connection codec from hop.index next.0 here next.1 in
    on next.0 listed (reaches codec hops next.0 to k d next.2 (All-tail (λ (h : Hop). passes is_inner (node_at codec h.nid) ≡ true) hop hops inner) within) (sym leads.0 ∙ same)
  where
    on : (n : ℕ) → Contains (inner_list codec from) n → (n ≡ (get_or hops k d).nid) ⊎ Reaches codec n (get_or hops k d).nid → from ≡ (get_or hops k d).nid → ⊥
    on n listed (inl e) f = well.acyclic from ([], subst (λ m. Contains (inner_list codec from) m) (e ∙ sym f) listed)
    on n listed (inr way) f = well.acyclic from (n ∷ way.0, (listed, subst (λ m. Leads codec n way.0 m) (sym f) way.1))

-- so hops of a path that leave one node are one
inner_alike : (codec : RawCodec) (hops : List Hop) (from to i j : ℕ) (d : Hop) → IsWellFormed codec → LeadsTo codec from hops to → AreInner codec hops → i < length hops → j < length hops
    → (get_or hops i d).nid ≡ (get_or hops j d).nid → (get_or hops i d).index ≡ (get_or hops j d).index
inner_alike codec [] from to i j d well leads inner within within' same = absurd (omega arith)
inner_alike codec (hop ∷ hops) from to zero zero d well leads inner within within' same = refl
inner_alike codec (hop ∷ hops) from to zero (suc j) d well leads inner within within' same = absurd (not_twice codec hop hops from to j d well leads inner (omega arith) same)
inner_alike codec (hop ∷ hops) from to (suc i) zero d well leads inner within within' same = absurd (not_twice codec hop hops from to i d well leads inner (omega arith) (sym same))
inner_alike codec (hop ∷ hops) from to (suc i) (suc j) d well leads inner within within' same =
    let next = match_some (connection codec from hop.index) (λ n. LeadsTo codec n hops to) leads.1 in
    inner_alike codec hops next.0 to i j d well next.2 (All-tail (λ (h : Hop). passes is_inner (node_at codec h.nid) ≡ true) hop hops inner) (omega arith) (omega arith) same

-- the hops of a path that begins at no mixer or selector: that of the node it begins at, and those of mixers and selectors
pub hops_alike : (codec : RawCodec) (hops : List Hop) (from to i j : ℕ) (d : Hop) → IsWellFormed codec → (passes is_inner (node_at codec from) ≡ true → ⊥) → LeadsTo codec from hops to → AreInner codec (drop 1 hops) → i < length hops → j < length hops
    → (get_or hops i d).nid ≡ (get_or hops j d).nid → (get_or hops i d).index ≡ (get_or hops j d).index
hops_alike codec [] from to i j d well outer leads inner within within' same = absurd (omega arith)
hops_alike codec (hop ∷ hops) from to zero zero d well outer leads inner within within' same = refl
hops_alike codec (hop ∷ hops) from to zero (suc j) d well outer leads inner within within' same =
    absurd (outer (ap (λ n. passes is_inner (node_at codec n)) (sym leads.0 ∙ same) ∙ inner j d (omega arith)))
hops_alike codec (hop ∷ hops) from to (suc i) zero d well outer leads inner within within' same =
    absurd (outer (ap (λ n. passes is_inner (node_at codec n)) (sym leads.0 ∙ sym same) ∙ inner i d (omega arith)))
hops_alike codec (hop ∷ hops) from to (suc i) (suc j) d well outer leads inner within within' same =
    let next = match_some (connection codec from hop.index) (λ n. LeadsTo codec n hops to) leads.1 in
    inner_alike codec hops next.0 to i j d well next.2 inner (omega arith) (omega arith) same

-- so those of a pin's path
pub path_alike : (codec : RawCodec) (hops : List Hop) (pin to i j : ℕ) (d : Hop) → IsWellFormed codec → passes is_pin (node_at codec pin) ≡ true → LeadsTo codec pin hops to → AreInner codec (drop 1 hops) → i < length hops → j < length hops
    → (get_or hops i d).nid ≡ (get_or hops j d).nid → (get_or hops i d).index ≡ (get_or hops j d).index
path_alike codec hops pin to i j d well is leads inner within within' same = hops_alike codec hops pin to i j d well (λ e. inner_no_pin (node_at codec pin) e is) leads inner within within' same

-- a hop of a path leaves the node at which it begins, or a mixer or selector
pub hop_kind : (codec : RawCodec) (hops : List Hop) (from to : ℕ) → LeadsTo codec from hops to → AreInner codec (drop 1 hops) → (k : ℕ) (d : Hop) → k < length hops → ((get_or hops k d).nid ≡ from) ⊎ (passes is_inner (node_at codec (get_or hops k d).nid) ≡ true)
hop_kind codec [] from to leads inner k d within = absurd (omega arith)
hop_kind codec (hop ∷ hops) from to leads inner zero d within = inl leads.0
hop_kind codec (hop ∷ hops) from to leads inner (suc k) d within = inr (inner k d (omega arith))
