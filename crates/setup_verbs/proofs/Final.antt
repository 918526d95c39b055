-- After the set-up verbs the codec is set up.
use Rattle.std.proofs.Common.{◌≡◌, ◌≢◌, ◌<◌, ◌≤◌, ◌&&◌, ◌||◌, not, ℕ, zero, suc, Bool, true, false, cond, List, [], ◌∷◌, length, get_or, drop, Option, Some, None, refl, sym, ap, subst, ◌∙◌, arith}
use Rattle.std.specs.Prelude.{All, slice_get}
use Rattle.std.proofs.lemmas.Bool.{true≢false, and_parts}
use Rattle.std.proofs.Math.ListN.{get_or-map}
use Rattle.std.proofs.lemmas.List.{length-map}
use Rattle.std.proofs.lemmas.List.Elements.{All-head, All-tail, Contains-get_or}
use Rattle.codec_graph.specs.declared.raw.RawNode.{RawNode}
use Rattle.codec_graph.specs.declared.raw.RawCodec.{RawCodec}
use Rattle.codec_graph.specs.declared.controls.Control.TheVariants as control
use Rattle.codec_graph.specs.Widget.{node_at, is_output_converter, is_mixer, is_pin, is_inner, is_stereo, is_digital}
use Rattle.codec_graph.specs.Candidates.{is_candidate_at}
use Rattle.codec_graph.specs.Kinds.{is_candidate_at_as, is_candidate_as}
use Rattle.codec_graph.specs.Settings.{Entries, setting_of, IsSettingsOf}
use Rattle.codec_graph.specs.Cycles.{IsWellFormed}
use Rattle.verb_codes.specs.Words.{has_bit}
use Rattle.stream_format.specs.declared.format.Format.{Format}
use Rattle.codec_sound.specs.declared.signals.Signal.{Signal}
use Rattle.codec_sound.specs.declared.signals.Signal.TheVariants.{Silence, Pair}
use Rattle.codec_sound.specs.Signals.{stream_of, is_off, is_foreign, given_at, gives_from, out_as, pin_hears, hears, signal_as}
use Rattle.codec_sound.proofs.Callers.{out-gives}
use Rattle.codec_graph.specs.declared.pin_kind.PinKind.{PinKind}
use Rattle.codec_graph.specs.declared.pin_kind.PinKind.TheVariants.{Analog, Digital}
use Rattle.route_planner.specs.declared.routes.Hop.{Hop}
use Rattle.route_planner.specs.declared.routes.Route as declared_route
use Rattle.route_planner.specs.declared.routes.Outcome.{Outcome}
use Rattle.route_planner.specs.declared.routes.Outcome.TheVariants as outcome
use Rattle.route_planner.specs.declared.routes.PinPlan.{PinPlan}
use Rattle.route_planner.specs.declared.routes.Plan.{Plan}
use Rattle.route_planner.specs.Paths.{passes, list_of, connection, LeadsTo, can_carry, can_be_left_as, IsAdmissibleAs}
use Rattle.route_planner.specs.Plans.{IsPlan, IsPlanAs, IsAdmissibleOutcomeAs}
use Rattle.route_planner.proofs.Callers.{match_some, admissible_entries}
use Rattle.setup_verbs.specs.declared.roles.Role.TheVariants.{Passed, Source}
use Rattle.setup_verbs.specs.Roles.{role_of}
use Rattle.setup_verbs.specs.VerbList.{has_choice, setup_verbs, setup_verbs_as}
use Rattle.setup_verbs.specs.SetUp.{IsSelected, AreOthersMuted, IsOutcomeOpen, IsRouteHeard, AreRoutesHeard, HasNoRoute, IsSetUp, settings_after, LeadToHearing, LeadToSetUp}
use Rattle.setup_verbs.proofs.RoleFacts.{within_list, leads_by, IsPassedWell, IsSourceWell, IsUsedWell, role_well}
use Rattle.setup_verbs.proofs.Fitting.{fits_verbs}
use Rattle.setup_verbs.proofs.Sharing.{AreInner}
use Rattle.setup_verbs.proofs.Agreeing.{entry_is_pin, hop_role, end_role, unused_pin}
use Rattle.setup_verbs.proofs.Passing.{IsLeft, left_from}
use Rattle.setup_verbs.proofs.Opened.{PassedSet, passed_set, source_set, unused_pin_set}
use Rattle.setup_verbs.proofs.Heard.{others_muted, inner_gives, converter_gives, pin_hears_it}

-- the node that passes a test
pub record Passing (test : RawNode → Bool) (o : Option RawNode) : Type 0 where
  pub node : RawNode
  pub there : o ≡ Some node
  pub passed : test node ≡ true

pub passing : (test : RawNode → Bool) (o : Option RawNode) → passes test o ≡ true → Passing test o
passing test None e = absurd (true≢false (sym e))
passing test (Some node) e = record { node = node; there = refl; passed = e }

pub passed_at : (test : RawNode → Bool) (o : Option RawNode) (node : RawNode) → o ≡ Some node → passes test o ≡ true → test node ≡ true
passed_at test o node there e = ap (λ p. passes test p) (sym there) ∙ e

pub not_true : (b : Bool) → not b ≡ true → b ≡ false
not_true true e = cc
not_true false e = refl

-- the fourth of seven tests that all pass
pub fourth : (a b c d f g h : Bool) → (a && b && c && d && f && g && h) ≡ true → d ≡ true
fourth a b c true f g h e' = refl
fourth true true true false f g h e' = cc
fourth true true false d f g h e' = cc
fourth true false c d f g h e' = cc
fourth false b c d f g h e' = cc

drives_of : (kind : PinKind) (o : Option RawNode) (node : RawNode) → o ≡ Some node → is_candidate_at_as kind o ≡ true → has_bit node.pin_caps 4 ≡ true
drives_of Analog o node there e = fourth (is_pin node) (is_stereo node) (not (is_digital node)) (has_bit node.pin_caps 4) _ _ _ (ap is_candidate_at (sym there) ∙ e)
drives_of Digital o node there e = fourth (is_pin node) (is_stereo node) (is_digital node) (has_bit node.pin_caps 4) _ _ _ (ap (is_candidate_at_as Digital) (sym there) ∙ e)

-- a node of a route is stereo and of the route's kind
carried_parts : (kind : PinKind) (node : RawNode) → can_carry kind node ≡ true → (is_stereo node ≡ true) × (is_foreign kind node ≡ false)
carried_parts Analog node e = let parts = and_parts (is_stereo node) (not (is_digital node)) e in (parts.0, not_true (is_digital node) parts.1)
carried_parts Digital node e = let parts = and_parts (is_stereo node) (is_digital node) e in (parts.0, ap not parts.1)

module _ (kind : PinKind) (codec : RawCodec) (plan : Plan) (format : Format) (tag : ℕ) (well : IsWellFormed codec) (is : IsPlanAs kind codec format plan) (some : 1 ≤ tag) (few : tag ≤ 15) (settings : Entries) (of : IsSettingsOf codec settings) where
  -- a hop whose node has its role
  record IsHop (nid index next : ℕ) : Type 0 where
    pub node : RawNode
    pub there : node_at codec nid ≡ Some node
    pub stereo : is_stereo node ≡ true
    pub own : is_foreign kind node ≡ false
    pub left : IsLeft kind codec index node
    pub leads : slice_get node.list index ≡ Some next
    pub set : PassedSet kind codec (settings_after codec settings (setup_verbs_as kind codec plan format tag)) nid node index

  is_hop : (nid index next : ℕ) → role_of plan nid ≡ Passed index → connection codec nid index ≡ Some next → IsHop nid index next
  is_hop nid index next role leads =
      let w : IsPassedWell kind codec nid index = subst (λ r. IsUsedWell kind codec format.channels nid r) role (role_well kind codec format plan nid is) in
      let p = passing (can_carry kind) (node_at codec nid) w.carried in
      let parts = carried_parts kind p.node p.passed in
      let left = left_from kind codec index p.node (passed_at (can_be_left_as kind codec index) (node_at codec nid) p.node p.there w.left_well) in
      let by-list : slice_get p.node.list index ≡ Some next = ap (λ (o : Option RawNode). slice_get (list_of o) index) (sym p.there) ∙ leads in
      record {
        node = p.node;
        there = p.there;
        stereo = parts.0;
        own = parts.1;
        left = left;
        leads = by-list;
        set = passed_set kind codec plan format tag well (fits_verbs kind codec format plan well is) settings of nid p.node p.there index role (within_list p.node.list index next by-list) left.unmixed;
      }

  -- a mixer or selector of a route gives what its connection gives
  inner_step : (nid index next : ℕ) → role_of plan nid ≡ Passed index → connection codec nid index ≡ Some next → passes is_inner (node_at codec nid) ≡ true
      → out_as kind codec (settings_after codec settings (setup_verbs_as kind codec plan format tag)) (stream_of tag format) nid ≡ out_as kind codec (settings_after codec settings (setup_verbs_as kind codec plan format tag)) (stream_of tag format) next
  unfolding gives_from
  inner_step nid index next role leads inner =
      let h = is_hop nid index next role leads in
      let S = settings_after codec settings (setup_verbs_as kind codec plan format tag) in
      out-gives kind codec S (stream_of tag format) well nid
      ∙ ap (λ (o : Option RawNode). given_at kind codec S (stream_of tag format) (out_as kind codec S (stream_of tag format)) nid o) h.there
      ∙ inner_gives kind codec well S nid h.node h.there (stream_of tag format) (out_as kind codec S (stream_of tag format)) index next h.set h.left (passed_at is_inner (node_at codec nid) h.node h.there inner) h.stereo h.leads

  -- so does each node of a way
  way_gives : (hops : List Hop) (from to : ℕ) → LeadsTo codec from hops to → AreInner codec hops → All (λ (hop : Hop). role_of plan hop.nid ≡ Passed hop.index) hops
      → out_as kind codec (settings_after codec settings (setup_verbs_as kind codec plan format tag)) (stream_of tag format) from ≡ out_as kind codec (settings_after codec settings (setup_verbs_as kind codec plan format tag)) (stream_of tag format) to
  way_gives [] from to leads inner roles = ap (λ n. out_as kind codec (settings_after codec settings (setup_verbs_as kind codec plan format tag)) (stream_of tag format) n) leads
  way_gives (hop ∷ hops) from to leads inner roles =
      let next = match_some (connection codec from hop.index) (λ n. LeadsTo codec n hops to) leads.1 in
      inner_step from hop.index next.0
      (ap (λ n. role_of plan n) (sym leads.0) ∙ All-head (λ (h : Hop). role_of plan h.nid ≡ Passed h.index) hop hops roles) next.1
      (ap (λ n. passes is_inner (node_at codec n)) (sym leads.0) ∙ All-head (λ (h : Hop). passes is_inner (node_at codec h.nid) ≡ true) hop hops inner)
      ∙ way_gives hops next.0 to next.2 (All-tail (λ (h : Hop). passes is_inner (node_at codec h.nid) ≡ true) hop hops inner) (All-tail (λ (h : Hop). role_of plan h.nid ≡ Passed h.index) hop hops roles)

  -- the converter gives the pair
  end_gives : (nid pair : ℕ) → role_of plan nid ≡ Source pair → out_as kind codec (settings_after codec settings (setup_verbs_as kind codec plan format tag)) (stream_of tag format) nid ≡ Pair pair
  unfolding gives_from
  end_gives nid pair role =
      let w : IsSourceWell kind codec format.channels nid pair = subst (λ r. IsUsedWell kind codec format.channels nid r) role (role_well kind codec format plan nid is) in
      let p = passing (can_carry kind) (node_at codec nid) w.carried in
      let parts = carried_parts kind p.node p.passed in
      let converts = passed_at is_output_converter (node_at codec nid) p.node p.there w.converts in
      let S = settings_after codec settings (setup_verbs_as kind codec plan format tag) in
      out-gives kind codec S (stream_of tag format) well nid
      ∙ ap (λ (o : Option RawNode). given_at kind codec S (stream_of tag format) (out_as kind codec S (stream_of tag format)) nid o) p.there
      ∙ converter_gives kind codec well S nid p.node p.there format tag pair (out_as kind codec S (stream_of tag format)) some few
      (source_set kind codec plan format tag well (fits_verbs kind codec format plan well is) settings of nid p.node p.there pair role converts parts.1) converts parts.0 parts.1 w.pair_fits

  -- what the pin hears
  heard_by : (hops : List Hop) (pin to pair : ℕ) → hops ≢ [] → LeadsTo codec pin hops to → AreInner codec (drop 1 hops) → All (λ (hop : Hop). role_of plan hop.nid ≡ Passed hop.index) hops → passes is_pin (node_at codec pin) ≡ true → is_candidate_as kind codec pin ≡ true → role_of plan to ≡ Source pair
      → signal_as kind codec (settings_after codec settings (setup_verbs_as kind codec plan format tag)) (stream_of tag format) pin ≡ Pair pair
  heard_by [] pin to pair some-hop leads inner roles is-pin candidate end = absurd (some-hop refl)
  heard_by (hop ∷ hops) pin to pair some-hop leads inner roles is-pin candidate end =
      let S = settings_after codec settings (setup_verbs_as kind codec plan format tag) in
      let next = match_some (connection codec pin hop.index) (λ n. LeadsTo codec n hops to) leads.1 in
      let h = is_hop pin hop.index next.0 (ap (λ n. role_of plan n) (sym leads.0) ∙ All-head (λ (x : Hop). role_of plan x.nid ≡ Passed x.index) hop hops roles) next.1 in
      let pin-is : is_pin h.node ≡ true = passed_at is_pin (node_at codec pin) h.node h.there is-pin in
      ap (λ (o : Option RawNode). hears kind codec S (out_as kind codec S (stream_of tag format)) pin o) h.there
      ∙ ap (λ b. cond b (pin_hears kind codec S (out_as kind codec S (stream_of tag format)) pin h.node) Silence) pin-is
      ∙ pin_hears_it kind codec well S pin h.node h.there (out_as kind codec S (stream_of tag format)) hop.index next.0 h.set pin-is h.stereo h.own (drives_of kind (node_at codec pin) h.node h.there candidate) h.leads
      ∙ way_gives hops next.0 to next.2 inner (All-tail (λ (x : Hop). role_of plan x.nid ≡ Passed x.index) hop hops roles)
      ∙ end_gives to pair end

  candidate_at : (k : ℕ) (d : PinPlan) → k < length plan.pins → is_candidate_as kind codec (get_or plan.pins k d).pin ≡ true
  candidate_at k d within =
      (is.pins.in_order.exactly (get_or plan.pins k d).pin).0 (k, rw length-map within, get_or-map (λ (entry : PinPlan). entry.pin) plan.pins k (get_or plan.pins k d) ∙ ap (λ (e : PinPlan). e.pin) (same plan.pins k (get_or plan.pins k d) d within))
    where
      same : (xs : List PinPlan) (i : ℕ) (a b : PinPlan) → i < length xs → get_or xs i a ≡ get_or xs i b
      same [] i a b lt = absurd (omega arith)
      same (x ∷ xs) zero a b lt = refl
      same (x ∷ xs) (suc i) a b lt = same xs i a b (omega arith)

  -- the route of an entry has its connections selected, its mixers' other inputs muted, and its pin hears its pair
  pub record IsThrough (pin pair : ℕ) (route : declared_route.Route) : Type 0 where
    pub selected : All (IsSelected codec (settings_after codec settings (setup_verbs_as kind codec plan format tag))) route.hops
    pub muted : All (AreOthersMuted codec (settings_after codec settings (setup_verbs_as kind codec plan format tag))) route.hops
    pub heard : signal_as kind codec (settings_after codec settings (setup_verbs_as kind codec plan format tag)) (stream_of tag format) pin ≡ Pair pair

  pub route_through : (k : ℕ) (d : PinPlan) (route : declared_route.Route) → k < length plan.pins → (get_or plan.pins k d).outcome ≡ outcome.Route route → IsAdmissibleAs kind codec format (get_or plan.pins k d).pin route
      → IsThrough (get_or plan.pins k d).pin (get_or plan.pins k d).pair route
  route_through k d route within it a = record {
    selected = λ i h low chooses. let x = hop_at i h low in x.set.select (passed_at has_choice (node_at codec (get_or route.hops i h).nid) x.node x.there chooses);
    muted = λ i h low node there mixes place inside other.
        let x = hop_at i h low in
        let same : x.node ≡ node = cc (x.there, there) in
        others_muted kind codec well (settings_after codec settings (setup_verbs_as kind codec plan format tag)) (get_or route.hops i h).nid x.node x.there (get_or route.hops i h).index place x.set x.left
        (subst (λ (n : RawNode). is_mixer n ≡ true) (sym same) mixes) (within_list x.node.list (get_or route.hops i h).index (next_of i h low) x.leads) (subst (λ (n : RawNode). place < length n.list) (sym same) inside) other;
    heard = heard_by route.hops (get_or plan.pins k d).pin route.converter (get_or plan.pins k d).pair a.path.leaves_pin a.path.leads a.path.passes_inner roles (entry_is_pin kind codec format plan is k d within) (candidate_at k d within)
        (end_role kind codec format plan k d route well is within it);
  }
    where
      roles : All (λ (hop : Hop). role_of plan hop.nid ≡ Passed hop.index) route.hops
      roles i h low = hop_role kind codec format plan k d route (get_or route.hops i h) well is within it (Contains-get_or route.hops i h low)

      next_of : (i : ℕ) (h : Hop) → i < length route.hops → ℕ
      next_of i h low = (leads_by codec route.hops (get_or plan.pins k d).pin route.converter a.path.leads i h low).0

      hop_at : (i : ℕ) (h : Hop) (low : i < length route.hops) → IsHop (get_or route.hops i h).nid (get_or route.hops i h).index (leads_by codec route.hops (get_or plan.pins k d).pin route.converter a.path.leads i h low).0
      hop_at i h low = is_hop (get_or route.hops i h).nid (get_or route.hops i h).index (leads_by codec route.hops (get_or plan.pins k d).pin route.converter a.path.leads i h low).0 (hop_role kind codec format plan k d route (get_or route.hops i h) well is within it (Contains-get_or route.hops i h low)) (leads_by codec route.hops (get_or plan.pins k d).pin route.converter a.path.leads i h low).1

  -- a pin without a route is silent, of whichever kind it is heard as
  pub other_silent : (other : PinKind) (pin : ℕ) → passes is_pin (node_at codec pin) ≡ true → HasNoRoute plan pin → signal_as other codec (settings_after codec settings (setup_verbs_as kind codec plan format tag)) (stream_of tag format) pin ≡ Silence
  other_silent other pin is-pin none =
      let S = settings_after codec settings (setup_verbs_as kind codec plan format tag) in
      let p = passing is_pin (node_at codec pin) is-pin in
      let zero-control = unused_pin_set kind codec plan format tag well (fits_verbs kind codec format plan well is) settings of pin p.node p.there (unused_pin kind codec format plan pin is is-pin none) p.passed in
      ap (λ (o : Option RawNode). hears other codec S (out_as other codec S (stream_of tag format)) pin o) p.there
      ∙ ap (λ b. cond b (pin_hears other codec S (out_as other codec S (stream_of tag format)) pin p.node) Silence) p.passed
      ∙ quiet (is_off codec S pin p.node) (has_bit (setting_of S pin control.Pin) 6) _ _ _ (ap (λ v. has_bit v 6) zero-control)
    where
      quiet : (a b c d : Bool) (x : Signal) → b ≡ false → cond (a || not b || c || d) Silence x ≡ Silence
      quiet true b c d x e = refl
      quiet false true c d x e = cc
      quiet false false c d x e = refl

  route_heard : (k : ℕ) (d : PinPlan) (o : Outcome) → k < length plan.pins → (get_or plan.pins k d).outcome ≡ o → IsAdmissibleOutcomeAs kind codec format (get_or plan.pins k d).pin o
      → IsRouteHeard kind codec (settings_after codec settings (setup_verbs_as kind codec plan format tag)) format tag (get_or plan.pins k d).pin (get_or plan.pins k d).pair o
  route_heard k d outcome.Blocked within it a = tt
  route_heard k d outcome.NoPath within it a = tt
  route_heard k d (outcome.Route route) within it a = (route_through k d route within it a).heard

  pub are_heard : AreRoutesHeard kind codec (settings_after codec settings (setup_verbs_as kind codec plan format tag)) plan format tag
  are_heard = record {
    routes = λ k d within. route_heard k d (get_or plan.pins k d).outcome within refl (admissible_entries kind codec format [] plan.pins is.outcomes k d within);
    others = other_silent;
  }

-- the routes of a kind are heard after its set-up verbs, from any settings
pub lead_to_hearing : (kind : PinKind) (codec : RawCodec) (plan : Plan) (format : Format) (tag : ℕ) → IsWellFormed codec → IsPlanAs kind codec format plan → 1 ≤ tag → tag ≤ 15 → LeadToHearing kind codec plan format tag (setup_verbs_as kind codec plan format tag)
lead_to_hearing kind codec plan format tag well is some few settings of = are_heard kind codec plan format tag well is some few settings of

-- those of analog pins are open
module _ (codec : RawCodec) (plan : Plan) (format : Format) (tag : ℕ) (well : IsWellFormed codec) (is : IsPlan codec format plan) (some : 1 ≤ tag) (few : tag ≤ 15) (settings : Entries) (of : IsSettingsOf codec settings) where
  route_open : (k : ℕ) (d : PinPlan) (o : Outcome) → k < length plan.pins → (get_or plan.pins k d).outcome ≡ o → IsAdmissibleOutcomeAs Analog codec format (get_or plan.pins k d).pin o
      → IsOutcomeOpen codec (settings_after codec settings (setup_verbs codec plan format tag)) format tag (get_or plan.pins k d).pin (get_or plan.pins k d).pair o
  route_open k d outcome.Blocked within it a = tt
  route_open k d outcome.NoPath within it a = tt
  route_open k d (outcome.Route route) within it a =
      let through = route_through Analog codec plan format tag well is some few settings of k d route within it a in
      record { selected = through.selected; muted = through.muted; heard = through.heard }

  pub is_set_up : IsSetUp codec (settings_after codec settings (setup_verbs codec plan format tag)) plan format tag
  is_set_up = record {
    routes = λ k d within. route_open k d (get_or plan.pins k d).outcome within refl (admissible_entries Analog codec format [] plan.pins is.outcomes k d within);
    others = other_silent Analog codec plan format tag well is some few settings of Analog;
  }

-- the set-up verbs lead from any settings to ones that are set up
pub lead_to_set_up : (codec : RawCodec) (plan : Plan) (format : Format) (tag : ℕ) → IsWellFormed codec → IsPlan codec format plan → 1 ≤ tag → tag ≤ 15 → LeadToSetUp codec plan format tag (setup_verbs codec plan format tag)
lead_to_set_up codec plan format tag well is some few settings of = is_set_up codec plan format tag well is some few settings of
