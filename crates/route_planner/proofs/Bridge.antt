-- The ways of the search are the paths along allowed connections, in either direction.
use Rattle.std.proofs.Common.{◌≡◌, ◌≢◌, ◌&&◌, ◌||◌, ℕ, Bool, true, false, not, cond, List, [], ◌∷◌, ◌++◌, map, drop, Option, Some, None, refl, sym, ap, subst, ◌∙◌}
use Rattle.std.specs.Prelude.{All, MatchOption}
use Rattle.std.specs.List.{list_all}
use Rattle.std.proofs.lemmas.Bool.{and_parts, and_from}
use Rattle.std.proofs.lemmas.List.Elements.{All-nil, All-cons, All-head, All-tail, All-push, All-map, All-contains, Contains-push}
use Rattle.codec_graph.specs.declared.raw.RawNode.{RawNode}
use Rattle.codec_graph.specs.declared.raw.RawCodec.{RawCodec}
use Rattle.codec_graph.specs.Widget.{node_at, is_inner, is_output_converter}
use Rattle.route_planner.specs.declared.direction.Direction.{Direction}
use Rattle.codec_graph.specs.declared.pin_kind.PinKind.{PinKind}
use Rattle.route_planner.specs.declared.left.Left.{Left}
use Rattle.route_planner.specs.declared.routes.Hop.{Hop}
use Rattle.route_planner.specs.declared.routes.PinPlan.{PinPlan}
use Rattle.stream_format.specs.declared.format.Format.{Format}
use Rattle.route_planner.specs.Formats.{supports}
use Rattle.route_planner.specs.Paths.{passes, connection, LeadsTo, can_carry}
use Rattle.route_planner.specs.Search.{left_at, allows, carries_alike, can_carry_along, can_be_left_along, can_leave, can_end, target, is_inner_at, is_end}
use Rattle.route_planner.specs.Ways.{IsWay, IsWayOut}

-- what an allowed connection says, and what makes one
pub target-parts : (direction : Direction) (codec : RawCodec) (lefts : List Left) (nid index to : ℕ) → target direction codec lefts nid index ≡ Some to → (passes (can_leave direction codec (left_at lefts nid) index) (node_at codec nid) ≡ true) × (connection codec nid index ≡ Some to)
unfolding target
target-parts direction codec lefts nid index to e =
    elim (passes (can_leave direction codec (left_at lefts nid) index) (node_at codec nid)) as (λ b. cond b (connection codec nid index) None ≡ Some to → (b ≡ true) × (connection codec nid index ≡ Some to)) [
      | true ↦ λ w. (refl, w)
      | false ↦ λ w. cc
    ] e

pub target-made : (direction : Direction) (codec : RawCodec) (lefts : List Left) (nid index to : ℕ) → passes (can_leave direction codec (left_at lefts nid) index) (node_at codec nid) ≡ true → connection codec nid index ≡ Some to → target direction codec lefts nid index ≡ Some to
unfolding target
target-made direction codec lefts nid index to can e = ap (λ (b : Bool). cond b (connection codec nid index) None) can ∙ e

or_made : (a b : Bool) → (a ≡ true → b ≡ true) → (not a || b) ≡ true
or_made true b h = h refl
or_made false b h = refl

or_used : (a b : Bool) → (not a || b) ≡ true → a ≡ true → b ≡ true
or_used true b h e = h
or_used false b h e = cc

-- the three parts of whether a node may be left
abbrev pub CanLeave : Direction → RawCodec → Left → ℕ → Option RawNode → Type 0
CanLeave direction codec left index found =
    (passes (can_carry_along direction) found ≡ true) × (passes (can_be_left_along direction codec index) found ≡ true) × (passes is_inner found ≡ true → allows left index ≡ true)

pub can_leave-parts : (direction : Direction) (codec : RawCodec) (left : Left) (index : ℕ) (found : Option RawNode) → passes (can_leave direction codec left index) found ≡ true → CanLeave direction codec left index found
can_leave-parts direction codec left index None e = cc
can_leave-parts direction codec left index (Some node) e =
    let both = and_parts (can_carry_along direction node && can_be_left_along direction codec index node) (not (is_inner node) || allows left index) e in
    let first = and_parts (can_carry_along direction node) (can_be_left_along direction codec index node) both.0 in
    (first.0, first.1, or_used (is_inner node) (allows left index) both.1)

pub can_leave-made : (direction : Direction) (codec : RawCodec) (left : Left) (index : ℕ) (found : Option RawNode) → CanLeave direction codec left index found → passes (can_leave direction codec left index) found ≡ true
can_leave-made direction codec left index None h = h.0
can_leave-made direction codec left index (Some node) h =
    and_from (can_carry_along direction node && can_be_left_along direction codec index node) (not (is_inner node) || allows left index) (and_from (can_carry_along direction node) (can_be_left_along direction codec index node) h.0 h.1) (or_made (is_inner node) (allows left index) h.2)

-- the parts of whether a route may end at a node
abbrev pub CanEnd : PinKind → RawCodec → Format → Option RawNode → Type 0
CanEnd kind codec format found =
    (passes is_output_converter found ≡ true) × (passes (can_carry kind) found ≡ true) × (passes (supports codec format.rate format.bits) found ≡ true)

can_end-parts : (kind : PinKind) (codec : RawCodec) (format : Format) (found : Option RawNode) → passes (can_end kind codec format) found ≡ true → CanEnd kind codec format found
can_end-parts kind codec format None e = cc
can_end-parts kind codec format (Some node) e =
    let both = and_parts (is_output_converter node && can_carry kind node) (supports codec format.rate format.bits node) e in
    let first = and_parts (is_output_converter node) (can_carry kind node) both.0 in
    (first.0, first.1, both.1)

can_end-made : (kind : PinKind) (codec : RawCodec) (format : Format) (found : Option RawNode) → CanEnd kind codec format found → passes (can_end kind codec format) found ≡ true
can_end-made kind codec format None h = h.0
can_end-made kind codec format (Some node) h =
    and_from (is_output_converter node && can_carry kind node) (supports codec format.rate format.bits node) (and_from (is_output_converter node) (can_carry kind node) h.0 h.1) h.2

pub is_end-parts : (kind : PinKind) (codec : RawCodec) (format : Format) (earlier : List PinPlan) (pair nid : ℕ) → is_end kind codec format earlier pair nid ≡ true → CanEnd kind codec format (node_at codec nid) × (list_all (carries_alike pair nid) earlier ≡ true)
unfolding is_end
is_end-parts kind codec format earlier pair nid e =
    let both = and_parts (passes (can_end kind codec format) (node_at codec nid)) (list_all (carries_alike pair nid) earlier) e in
    (can_end-parts kind codec format (node_at codec nid) both.0, both.1)

pub is_end-made : (kind : PinKind) (codec : RawCodec) (format : Format) (earlier : List PinPlan) (pair nid : ℕ) → CanEnd kind codec format (node_at codec nid) → list_all (carries_alike pair nid) earlier ≡ true → is_end kind codec format earlier pair nid ≡ true
unfolding is_end
is_end-made kind codec format earlier pair nid can all =
    and_from (passes (can_end kind codec format) (node_at codec nid)) (list_all (carries_alike pair nid) earlier) (can_end-made kind codec format (node_at codec nid) can) all

-- what holds of hops along allowed connections, wherever they lead
pub record AreAllowed (direction : Direction) (codec : RawCodec) (lefts : List Left) (from : ℕ) (hops : List Hop) (to : ℕ) : Type 0 where
  pub leads : LeadsTo codec from hops to
  pub carried : All (λ (hop : Hop). passes (can_carry_along direction) (node_at codec hop.nid) ≡ true) hops
  pub well : All (λ (hop : Hop). passes (can_be_left_along direction codec hop.index) (node_at codec hop.nid) ≡ true) hops
  pub kept : All (λ (hop : Hop). passes is_inner (node_at codec hop.nid) ≡ true → allows (left_at lefts hop.nid) hop.index ≡ true) hops

abbrev pub AllInner : RawCodec → List Hop → Type 0
AllInner codec hops = All (λ (hop : Hop). passes is_inner (node_at codec hop.nid) ≡ true) hops

AreAllowed-nil : (direction : Direction) (codec : RawCodec) (lefts : List Left) (to : ℕ) → AreAllowed direction codec lefts to [] to
AreAllowed-nil direction codec lefts to = record {
  leads = refl;
  carried = All-nil (λ (hop : Hop). passes (can_carry_along direction) (node_at codec hop.nid) ≡ true);
  well = All-nil (λ (hop : Hop). passes (can_be_left_along direction codec hop.index) (node_at codec hop.nid) ≡ true);
  kept = All-nil (λ (hop : Hop). passes is_inner (node_at codec hop.nid) ≡ true → allows (left_at lefts hop.nid) hop.index ≡ true);
}

AreAllowed-cons : (direction : Direction) (codec : RawCodec) (lefts : List Left) (hop : Hop) (hops : List Hop) (n to : ℕ) → target direction codec lefts hop.nid hop.index ≡ Some n → AreAllowed direction codec lefts n hops to → AreAllowed direction codec lefts hop.nid (hop ∷ hops) to
AreAllowed-cons direction codec lefts hop hops n to e rest =
    let parts = target-parts direction codec lefts hop.nid hop.index n e in
    let can = can_leave-parts direction codec (left_at lefts hop.nid) hop.index (node_at codec hop.nid) parts.0 in
    record {
      leads = (refl, subst (λ (o : Option ℕ). MatchOption o ⊥ (λ next. LeadsTo codec next hops to)) (sym parts.1) rest.leads);
      carried = All-cons (λ (hop : Hop). passes (can_carry_along direction) (node_at codec hop.nid) ≡ true) hop hops can.0 rest.carried;
      well = All-cons (λ (hop : Hop). passes (can_be_left_along direction codec hop.index) (node_at codec hop.nid) ≡ true) hop hops can.1 rest.well;
      kept = All-cons (λ (hop : Hop). passes is_inner (node_at codec hop.nid) ≡ true → allows (left_at lefts hop.nid) hop.index ≡ true) hop hops can.2 rest.kept;
    }

pub match_some : (o : Option ℕ) (Q : ℕ → Type 0) → MatchOption o ⊥ Q → (n : ℕ) × (o ≡ Some n) × Q n
match_some None Q h = absurd h
match_some (Some n) Q h = (n, refl, h)

pub inner_as : (codec : RawCodec) (nid : ℕ) → is_inner_at codec nid ≡ true → passes is_inner (node_at codec nid) ≡ true
unfolding is_inner_at
inner_as codec nid e = e

pub as_inner : (codec : RawCodec) (nid : ℕ) → passes is_inner (node_at codec nid) ≡ true → is_inner_at codec nid ≡ true
unfolding is_inner_at
as_inner codec nid e = e

-- a way goes along allowed connections, through mixers and selectors alone, to an end
allowed_from_way : (direction : Direction) (codec : RawCodec) (lefts : List Left) (end : ℕ → Bool) (hops : List Hop) (from to : ℕ) → IsWay (is_inner_at codec) (target direction codec lefts) end from hops to → AreAllowed direction codec lefts from hops to × AllInner codec hops × (end to ≡ true)
allowed_from_way direction codec lefts end [] from to way =
    (subst (λ (n : ℕ). AreAllowed direction codec lefts n [] to) (sym way.0) (AreAllowed-nil direction codec lefts to), All-nil (λ (hop : Hop). passes is_inner (node_at codec hop.nid) ≡ true), way.1)
allowed_from_way direction codec lefts end (hop ∷ hops) from to way =
    let at : hop.nid ≡ from = way.1.0 in
    let rest = allowed_from_way direction codec lefts end hops way.1.1.0 to way.1.1.2 in
    let leads : target direction codec lefts hop.nid hop.index ≡ Some way.1.1.0 = ap (λ (n : ℕ). target direction codec lefts n hop.index) at ∙ way.1.1.1 in
    let here : passes is_inner (node_at codec hop.nid) ≡ true = inner_as codec hop.nid (ap (is_inner_at codec) at ∙ way.0) in
    (subst (λ (n : ℕ). AreAllowed direction codec lefts n (hop ∷ hops) to) at (AreAllowed-cons direction codec lefts hop hops way.1.1.0 to leads rest.0), All-cons (λ (hop : Hop). passes is_inner (node_at codec hop.nid) ≡ true) hop hops here rest.1, rest.2)

-- and such hops are a way
AreAllowed-step : (direction : Direction) (codec : RawCodec) (lefts : List Left) (from : ℕ) (hop : Hop) (hops : List Hop) (to : ℕ) → AreAllowed direction codec lefts from (hop ∷ hops) to → (hop.nid ≡ from) × ((n : ℕ) × (target direction codec lefts from hop.index ≡ Some n) × AreAllowed direction codec lefts n hops to)
AreAllowed-step direction codec lefts from hop hops to allowed =
    let at : hop.nid ≡ from = allowed.leads.0 in
    let found = match_some (connection codec from hop.index) (λ next. LeadsTo codec next hops to) allowed.leads.1 in
    let carried = All-head (λ (hop : Hop). passes (can_carry_along direction) (node_at codec hop.nid) ≡ true) hop hops allowed.carried in
    let well = All-head (λ (hop : Hop). passes (can_be_left_along direction codec hop.index) (node_at codec hop.nid) ≡ true) hop hops allowed.well in
    let kept = All-head (λ (hop : Hop). passes is_inner (node_at codec hop.nid) ≡ true → allows (left_at lefts hop.nid) hop.index ≡ true) hop hops allowed.kept in
    let can = can_leave-made direction codec (left_at lefts hop.nid) hop.index (node_at codec hop.nid) (carried, well, kept) in
    let can_from = subst (λ (n : ℕ). passes (can_leave direction codec (left_at lefts n) hop.index) (node_at codec n) ≡ true) at can in (
      at,
      (
        found.0,
        target-made direction codec lefts from hop.index found.0 can_from found.1,
        record {
          leads = found.2;
          carried = All-tail (λ (hop : Hop). passes (can_carry_along direction) (node_at codec hop.nid) ≡ true) hop hops allowed.carried;
          well = All-tail (λ (hop : Hop). passes (can_be_left_along direction codec hop.index) (node_at codec hop.nid) ≡ true) hop hops allowed.well;
          kept = All-tail (λ (hop : Hop). passes is_inner (node_at codec hop.nid) ≡ true → allows (left_at lefts hop.nid) hop.index ≡ true) hop hops allowed.kept;
        },
      ),
    )

way_from_allowed : (direction : Direction) (codec : RawCodec) (lefts : List Left) (end : ℕ → Bool) (hops : List Hop) (from to : ℕ) → AreAllowed direction codec lefts from hops to → AllInner codec hops → end to ≡ true → IsWay (is_inner_at codec) (target direction codec lefts) end from hops to
way_from_allowed direction codec lefts end [] from to allowed inner ends = (allowed.leads, ends)
way_from_allowed direction codec lefts end (hop ∷ hops) from to allowed inner ends =
    let step = AreAllowed-step direction codec lefts from hop hops to allowed in
    let here = All-head (λ (hop : Hop). passes is_inner (node_at codec hop.nid) ≡ true) hop hops inner in
    let rest = All-tail (λ (hop : Hop). passes is_inner (node_at codec hop.nid) ≡ true) hop hops inner in
    (as_inner codec from (subst (λ (n : ℕ). passes is_inner (node_at codec n) ≡ true) step.0 here), (step.0, (step.1.0, step.1.1, way_from_allowed direction codec lefts end hops step.1.0 to step.1.2 rest ends)))

-- the same for ways out of a node
pub allowed_from_way_out : (direction : Direction) (codec : RawCodec) (lefts : List Left) (end : ℕ → Bool) (hops : List Hop) (from to : ℕ) → IsWayOut (is_inner_at codec) (target direction codec lefts) end from hops to → AreAllowed direction codec lefts from hops to × AllInner codec (drop 1 hops) × (hops ≢ []) × (end to ≡ true)
allowed_from_way_out direction codec lefts end [] from to way = absurd way
allowed_from_way_out direction codec lefts end (hop ∷ hops) from to way =
    let at : hop.nid ≡ from = way.0 in
    let rest = allowed_from_way direction codec lefts end hops way.1.0 to way.1.2 in
    let leads : target direction codec lefts hop.nid hop.index ≡ Some way.1.0 = ap (λ (n : ℕ). target direction codec lefts n hop.index) at ∙ way.1.1 in
    (subst (λ (n : ℕ). AreAllowed direction codec lefts n (hop ∷ hops) to) at (AreAllowed-cons direction codec lefts hop hops way.1.0 to leads rest.0), rest.1, λ e. cc, rest.2)

pub way_out_from_allowed : (direction : Direction) (codec : RawCodec) (lefts : List Left) (end : ℕ → Bool) (hops : List Hop) (from to : ℕ) → AreAllowed direction codec lefts from hops to → AllInner codec (drop 1 hops) → hops ≢ [] → end to ≡ true → IsWayOut (is_inner_at codec) (target direction codec lefts) end from hops to
way_out_from_allowed direction codec lefts end [] from to allowed inner some ends = absurd (some refl)
way_out_from_allowed direction codec lefts end (hop ∷ hops) from to allowed inner some ends =
    let step = AreAllowed-step direction codec lefts from hop hops to allowed in
    (step.0, (step.1.0, step.1.1, way_from_allowed direction codec lefts end hops step.1.0 to step.1.2 inner ends))

-- what holds of the nodes that the hops leave and of the last one, by the hops and the last one
pub nodes_from_hops : (P : ℕ → Type 0) (hops : List Hop) (to : ℕ) → All (λ (hop : Hop). P hop.nid) hops → P to → All P (map (λ (hop : Hop). hop.nid) hops ++ to ∷ [])
nodes_from_hops P hops to each last =
    All-push P (map (λ (hop : Hop). hop.nid) hops) to (All-map P (λ (hop : Hop). hop.nid) hops each) last

pub hops_from_nodes : (P : ℕ → Type 0) (hops : List Hop) (to : ℕ) → All P (map (λ (hop : Hop). hop.nid) hops ++ to ∷ []) → All (λ (hop : Hop). P hop.nid) hops
hops_from_nodes P [] to all = All-nil (λ (hop : Hop). P hop.nid)
hops_from_nodes P (hop ∷ hops) to all =
    let nids = map (λ (hop : Hop). hop.nid) hops ++ to ∷ [] in
    All-cons (λ (hop : Hop). P hop.nid) hop hops (All-head P hop.nid nids all) (hops_from_nodes P hops to (All-tail P hop.nid nids all))

pub last_from_nodes : (P : ℕ → Type 0) (hops : List Hop) (to : ℕ) → All P (map (λ (hop : Hop). hop.nid) hops ++ to ∷ []) → P to
last_from_nodes P hops to all =
    All-contains P (map (λ (hop : Hop). hop.nid) hops ++ to ∷ []) to all (Contains-push (map (λ (hop : Hop). hop.nid) hops) to)
