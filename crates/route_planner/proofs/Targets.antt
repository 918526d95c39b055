-- What is known of a node that was found: where its connections lead, and whether it is an end.
use Rattle.std.proofs.Common.{◌≡◌, ◌<◌, ℕ, true, false, ◌&&◌, cond, List, length, get_or, Option, Some, None, refl, sym, ap, ◌∙◌}
use Rattle.std.specs.Prelude.{slice_get, is_some}
use Rattle.std.specs.List.{list_all}
use Rattle.std.proofs.lemmas.Option.{slice_get-get_or, slice_get_within, get_or_from_slice_get}
use Rattle.codec_graph.specs.declared.raw.RawNode.{RawNode}
use Rattle.codec_graph.specs.declared.raw.RawCodec.{RawCodec}
use Rattle.codec_graph.specs.Widget.{node_at, is_inner}
use Rattle.route_planner.specs.declared.direction.Direction.{Direction}
use Rattle.codec_graph.specs.declared.pin_kind.PinKind.{PinKind}
use Rattle.route_planner.specs.declared.left.Left.{Left}
use Rattle.route_planner.specs.declared.routes.PinPlan.{PinPlan}
use Rattle.stream_format.specs.declared.format.Format.{Format}
use Rattle.route_planner.specs.Paths.{passes, list_of}
use Rattle.route_planner.specs.Search.{left_at, can_leave, can_end, carries_alike, target, is_inner_at, is_end, IsBounded}

pub is_inner_at-node : (codec : RawCodec) (nid : ℕ) (found : Option RawNode) → found ≡ node_at codec nid → passes is_inner found ≡ is_inner_at codec nid
unfolding is_inner_at
is_inner_at-node codec nid found e = ap (passes is_inner) e

pub is_end-node : (kind : PinKind) (codec : RawCodec) (format : Format) (earlier : List PinPlan) (pair nid : ℕ) (found : Option RawNode) → found ≡ node_at codec nid → (passes (can_end kind codec format) found && list_all (carries_alike pair nid) earlier) ≡ is_end kind codec format earlier pair nid
unfolding is_end
is_end-node kind codec format earlier pair nid found e = ap (λ o. passes (can_end kind codec format) o && list_all (carries_alike pair nid) earlier) e

abbrev target_of : Direction → RawCodec → Left → ℕ → Option RawNode → Option ℕ
target_of direction codec left index found = cond (passes (can_leave direction codec left index) found) (slice_get (list_of found) index) None

target-node : (direction : Direction) (codec : RawCodec) (lefts : List Left) (nid index : ℕ) (found : Option RawNode) → found ≡ node_at codec nid → target_of direction codec (left_at lefts nid) index found ≡ target direction codec lefts nid index
unfolding target
target-node direction codec lefts nid index found e = ap (target_of direction codec (left_at lefts nid) index) e

-- a connection that may be taken leads to its entry of the list
pub target-allowed : (direction : Direction) (codec : RawCodec) (lefts : List Left) (nid index : ℕ) (node : RawNode) → Some node ≡ node_at codec nid → can_leave direction codec (left_at lefts nid) index node ≡ true → index < length node.list → target direction codec lefts nid index ≡ Some (get_or node.list index 0)
target-allowed direction codec lefts nid index node e allowed within =
    sym (target-node direction codec lefts nid index (Some node) e) ∙ (ap (λ b. cond b (slice_get node.list index) None) allowed ∙ slice_get-get_or node.list index 0 within)

-- where a connection leads somewhere, it may be taken and is in the list
pub target-taken : (direction : Direction) (codec : RawCodec) (lefts : List Left) (nid index to : ℕ) (node : RawNode) → Some node ≡ node_at codec nid → target direction codec lefts nid index ≡ Some to → (can_leave direction codec (left_at lefts nid) index node ≡ true) × (index < length node.list) × (get_or node.list index 0 ≡ to)
target-taken direction codec lefts nid index to node e taken =
    let whole = target-node direction codec lefts nid index (Some node) e ∙ taken in
    let allowed : can_leave direction codec (left_at lefts nid) index node ≡ true =
    elim (can_leave direction codec (left_at lefts nid) index node) as (λ b. cond b (slice_get node.list index) None ≡ Some to → b ≡ true) [ true ↦ λ w. refl | false ↦ λ w. cc ] whole
    in
    let entry : slice_get node.list index ≡ Some to =
    elim (can_leave direction codec (left_at lefts nid) index node) as (λ b. cond b (slice_get node.list index) None ≡ Some to → slice_get node.list index ≡ Some to) [ true ↦ λ w. w | false ↦ λ w. cc ] whole
    in
    (allowed, slice_get_within node.list index to entry, get_or_from_slice_get node.list index to 0 entry)

-- where there is no node, no connection leads anywhere
pub target-nowhere : (direction : Direction) (codec : RawCodec) (lefts : List Left) (nid index to : ℕ) → None ≡ node_at codec nid → target direction codec lefts nid index ≡ Some to → ⊥
target-nowhere direction codec lefts nid index to e taken = let whole = target-node direction codec lefts nid index None e ∙ taken in cc

-- a node that is an end has a node identifier below 128
pub is_end-below : (kind : PinKind) (codec : RawCodec) (format : Format) (earlier : List PinPlan) (pair nid : ℕ) → IsBounded codec → is_end kind codec format earlier pair nid ≡ true → nid < 128
is_end-below kind codec format earlier pair nid bounded e =
    let whole = is_end-node kind codec format earlier pair nid (node_at codec nid) refl ∙ e in
    let there : is_some (node_at codec nid) ≡ true =
    elim (node_at codec nid) as (λ o. (passes (can_end kind codec format) o && list_all (carries_alike pair nid) earlier) ≡ true → is_some o ≡ true) [ Some node ↦ λ w. refl | None ↦ λ w. cc ] whole
    in
    bounded.within nid there

-- and one that is a mixer or selector
pub is_inner_at-below : (codec : RawCodec) (nid : ℕ) → IsBounded codec → is_inner_at codec nid ≡ true → nid < 128
is_inner_at-below codec nid bounded e =
    let whole = is_inner_at-node codec nid (node_at codec nid) refl ∙ e in
    let there : is_some (node_at codec nid) ≡ true =
    elim (node_at codec nid) as (λ o. passes is_inner o ≡ true → is_some o ≡ true) [ Some node ↦ λ w. refl | None ↦ λ w. cc ] whole
    in
    bounded.within nid there
