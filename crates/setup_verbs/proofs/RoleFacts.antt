-- What holds of each node of a plan's routes.
use Rattle.std.proofs.Common.{◌≡◌, ◌<◌, ◌≤◌, ◌+◌, ◌*◌, ◌/◌, ◌%◌, ◌==◌, ℕ, zero, suc, Bool, true, false, cond, List, [], ◌∷◌, map, length, get_or, Some, refl, ap, subst, ◌∙◌, arith}
use Rattle.std.specs.Prelude.{All, Contains, slice_get, if◌then◌else◌}
use Rattle.std.proofs.Math.ListN.{get_or-map}
use Rattle.std.proofs.lemmas.List.{length-map}
use Rattle.std.proofs.lemmas.Nat.{mod_below}
use Rattle.std.proofs.lemmas.Bool.{eqb-true}
use Rattle.std.proofs.lemmas.List.Elements.{All-nil, All-cons, All-append, All-map, All-head, All-tail, All-contains, Contains-push, Contains-append_left, Contains-get_or}
use Rattle.codec_graph.specs.declared.raw.RawCodec.{RawCodec}
use Rattle.codec_graph.specs.Widget.{node_at, is_output_converter}
use Rattle.stream_format.specs.declared.format.Format.{Format}
use Rattle.codec_graph.specs.declared.pin_kind.PinKind.{PinKind}
use Rattle.codec_graph.specs.declared.pin_kind.PinKind.TheVariants.{Analog, Digital}
use Rattle.route_planner.specs.declared.routes.Hop.{Hop}
use Rattle.route_planner.specs.declared.routes.Route as declared_route
use Rattle.route_planner.specs.declared.routes.Outcome.{Outcome}
use Rattle.route_planner.specs.declared.routes.Outcome.TheVariants as outcome
use Rattle.route_planner.specs.declared.routes.PinPlan.{PinPlan}
use Rattle.route_planner.specs.declared.routes.Plan.{Plan}
use Rattle.route_planner.specs.Pairs.{is_headphone, pair_as, rank_of}
use Rattle.route_planner.specs.Paths.{passes, list_of, connection, LeadsTo, nodes_of, can_carry, can_be_left_as}
use Rattle.route_planner.specs.Plans.{IsPlanAs, IsAdmissibleOutcomeAs}
use Rattle.std.proofs.lemmas.Option.{none-some}
use Rattle.route_planner.proofs.Callers.{match_some, admissible_entries}
use Rattle.setup_verbs.specs.declared.roles.Role.{Role}
use Rattle.setup_verbs.specs.declared.roles.Role.TheVariants.{Unused, Passed, Source}
use Rattle.setup_verbs.specs.Roles.{Uses, hop_uses, outcome_uses, entry_uses, uses_of, first_role, role_among, role_of}

-- a fact of all uses is one of each node's role
pub role_all : (P : ℕ → Role → Type 0) → ((nid : ℕ) → P nid Unused) → (uses : Uses) (nid : ℕ) → All (λ (used : ℕ × Role). P used.0 used.1) uses → P nid (role_among uses nid)
role_all P none [] nid all = none nid
role_all P none (used ∷ uses) nid all = by (used.0 == nid) refl (role_all P none uses nid (All-tail (λ (u : ℕ × Role). P u.0 u.1) used uses all))
  where
    first : (role rest : Role) → P nid role → P nid rest → P nid (first_role role rest)
    first Unused rest h r = r
    first (Passed index) rest h r = h
    first (Source pair) rest h r = h

    by : (b : Bool) → (used.0 == nid) ≡ b → P nid (role_among uses nid) → P nid (first_role (cond b used.1 Unused) (role_among uses nid))
    by true e rest = first used.1 (role_among uses nid) (subst (λ n. P n used.1) (eqb-true used.0 nid e) (All-head (λ (u : ℕ × Role). P u.0 u.1) used uses all)) rest
    by false e rest = rest

-- a list has what a look-up finds
pub within_list : (xs : List ℕ) (i n : ℕ) → slice_get xs i ≡ Some n → i < length xs
within_list [] i n e = absurd (none-some n e)
within_list (x ∷ xs) zero n e = omega arith
within_list (x ∷ xs) (suc i) n e = omega (arith, within_list xs i n e)

-- each hop has its connection
pub leads_by : (codec : RawCodec) (hops : List Hop) (from to : ℕ) → LeadsTo codec from hops to → (k : ℕ) (d : Hop) → k < length hops → (next : ℕ) × (connection codec (get_or hops k d).nid (get_or hops k d).index ≡ Some next)
leads_by codec [] from to leads k d within = absurd (omega arith)
leads_by codec (hop ∷ hops) from to leads zero d within =
    let next = match_some (connection codec from hop.index) (λ n. LeadsTo codec n hops to) leads.1 in
    (next.0, ap (λ n. connection codec n hop.index) leads.0 ∙ next.1)
leads_by codec (hop ∷ hops) from to leads (suc k) d within =
    let next = match_some (connection codec from hop.index) (λ n. LeadsTo codec n hops to) leads.1 in
    leads_by codec hops next.0 to next.2 k d (omega arith)

-- what an admissible path says of a node by its role
pub record IsPassedWell (kind : PinKind) (codec : RawCodec) (nid index : ℕ) : Type 0 where
  pub carried : passes (can_carry kind) (node_at codec nid) ≡ true
  pub left_well : passes (can_be_left_as kind codec index) (node_at codec nid) ≡ true
  pub listed : index < length (list_of (node_at codec nid))

pub record IsSourceWell (kind : PinKind) (codec : RawCodec) (channels nid pair : ℕ) : Type 0 where
  pub carried : passes (can_carry kind) (node_at codec nid) ≡ true
  pub converts : passes is_output_converter (node_at codec nid) ≡ true
  pub pair_fits : 2 * pair + 1 < channels

abbrev pub IsUsedWell : PinKind → RawCodec → ℕ → ℕ → Role → Type 0
IsUsedWell kind codec channels nid Unused = Unit {0}
IsUsedWell kind codec channels nid (Passed index) = IsPassedWell kind codec nid index
IsUsedWell kind codec channels nid (Source pair) = IsSourceWell kind codec channels nid pair

route_stereo : (kind : PinKind) (codec : RawCodec) (route : declared_route.Route) → All (λ nid. passes (can_carry kind) (node_at codec nid) ≡ true) (nodes_of route) → (hop : Hop) → Contains route.hops hop → passes (can_carry kind) (node_at codec hop.nid) ≡ true
route_stereo kind codec route all hop has = All-contains (λ nid. passes (can_carry kind) (node_at codec nid) ≡ true) (nodes_of route) hop.nid all (Contains-append_left (map (λ (h : Hop). h.nid) route.hops) (route.converter ∷ []) hop.nid (mapped route.hops hop has))
  where
    mapped : (hops : List Hop) (h : Hop) → Contains hops h → Contains (map (λ (x : Hop). x.nid) hops) h.nid
    mapped hops h c = (c.0, rw length-map c.1, get_or-map (λ (x : Hop). x.nid) hops c.0 h ∙ ap (λ (x : Hop). x.nid) c.2)

outcome_well : (kind : PinKind) (codec : RawCodec) (format : Format) (pin pair : ℕ) (o : Outcome) → IsAdmissibleOutcomeAs kind codec format pin o → 2 * pair + 1 < format.channels → All (λ (used : ℕ × Role). IsUsedWell kind codec format.channels used.0 used.1) (outcome_uses pair o)
outcome_well kind codec format pin pair (outcome.Route route) well fits =
    All-append (λ (used : ℕ × Role). IsUsedWell kind codec format.channels used.0 used.1) (hop_uses route.hops) ((route.converter, Source pair) ∷ [])
    (All-map (λ (used : ℕ × Role). IsUsedWell kind codec format.channels used.0 used.1) (λ (hop : Hop). (hop.nid, Passed hop.index)) route.hops
    (λ k d within. record {
      carried = route_stereo kind codec route well.carried (get_or route.hops k d) (Contains-get_or route.hops k d within);
      left_well = well.left_well k d within;
      listed = let next = leads_by codec route.hops pin route.converter well.path.leads k d within in within_list (list_of (node_at codec (get_or route.hops k d).nid)) (get_or route.hops k d).index next.0 next.1;
    }))
    (All-cons (λ (used : ℕ × Role). IsUsedWell kind codec format.channels used.0 used.1) (route.converter, Source pair) [] (record {
      carried = All-contains (λ nid. passes (can_carry kind) (node_at codec nid) ≡ true) (nodes_of route) route.converter well.carried (Contains-push (map (λ (hop : Hop). hop.nid) route.hops) route.converter);
      converts = well.path.ends;
      pair_fits = fits;
    }) (All-nil (λ (used : ℕ × Role). IsUsedWell kind codec format.channels used.0 used.1)))
outcome_well kind codec format pin pair outcome.Blocked well fits = All-nil (λ (used : ℕ × Role). IsUsedWell kind codec format.channels used.0 used.1)
outcome_well kind codec format pin pair outcome.NoPath well fits = All-nil (λ (used : ℕ × Role). IsUsedWell kind codec format.channels used.0 used.1)

pub all_uses : (P : ℕ × Role → Type 0) (entries : List PinPlan) → All (λ (entry : PinPlan). All P (entry_uses entry)) entries → All P (uses_of entries)
all_uses P [] all = All-nil P
all_uses P (entry ∷ entries) all =
    All-append P (entry_uses entry) (uses_of entries) (All-head (λ (e : PinPlan). All P (entry_uses e)) entry entries all) (all_uses P entries (All-tail (λ (e : PinPlan). All P (entry_uses e)) entry entries all))

small : (rank channels pair : ℕ) → channels % 2 ≡ 0 → 2 ≤ channels → pair ≡ rank % (channels / 2) → 2 * pair + 1 < channels
small rank channels pair even some is =
    let z : rank % (channels / 2) < channels / 2 = mod_below rank (channels / 2) (omega arith) in
    let y : pair < channels / 2 = rw is z in
    omega (arith, y)

-- so is that of a headphone
fits : (headphone : Bool) (rank channels pair : ℕ) → channels % 2 ≡ 0 → 2 ≤ channels → pair ≡ (if headphone then 0 else rank % (channels / 2)) → 2 * pair + 1 < channels
fits true rank channels pair even some is = omega (arith, is)
fits false rank channels pair even some is = small rank channels pair even some is

-- pairs are those of the stream's channels
pub pair_within : (kind : PinKind) (codec : RawCodec) (channels pin pair : ℕ) → channels % 2 ≡ 0 → 2 ≤ channels → pair ≡ pair_as kind codec channels pin → 2 * pair + 1 < channels
pair_within Analog codec channels pin pair even some is = fits (is_headphone codec pin) (rank_of codec pin) channels pair even some is
pair_within Digital codec channels pin pair even some is = omega (arith, is)

pub entry_well : (kind : PinKind) (codec : RawCodec) (format : Format) (plan : Plan) → IsPlanAs kind codec format plan → All (λ (used : ℕ × Role). IsUsedWell kind codec format.channels used.0 used.1) (uses_of plan.pins)
entry_well kind codec format plan is =
    all_uses (λ (used : ℕ × Role). IsUsedWell kind codec format.channels used.0 used.1) plan.pins
    (λ k d within. let entry = get_or plan.pins k d in
    outcome_well kind codec format entry.pin entry.pair entry.outcome (admissible_entries kind codec format [] plan.pins is.outcomes k d within) (pair_within kind codec format.channels entry.pin entry.pair format.even format.some (is.pins.pairs k d within)))

pub role_well : (kind : PinKind) (codec : RawCodec) (format : Format) (plan : Plan) (nid : ℕ) → IsPlanAs kind codec format plan → IsUsedWell kind codec format.channels nid (role_of plan nid)
unfolding role_of
role_well kind codec format plan nid is = role_all (λ n r. IsUsedWell kind codec format.channels n r) (λ n. tt) (uses_of plan.pins) nid (entry_well kind codec format plan is)
