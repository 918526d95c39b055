-- How the planner searches: which connections it may take, how far each node is from an end, and the ways along allowed
-- connections. This project's own.
use Rattle.std.specs.Prelude.{◌≡◌, ◌<◌, ◌≤◌, ℕ, Bool, true, false, ◌&&◌, ◌||◌, ◌==◌, not, List, length, Option, None}
use Rattle.std.specs.Prelude.{is_some, slice_index_or, if◌then◌else◌, count_by}
use Rattle.std.specs.List.{list_all}
use Rattle.codec_graph.specs.declared.raw.RawNode.{RawNode}
use Rattle.codec_graph.specs.declared.raw.RawCodec.{RawCodec}
use Rattle.codec_graph.specs.Faults.{most_listed}
use Rattle.codec_graph.specs.Widget.{node_identifiers, node_at, is_inner, is_output_converter, is_input_converter}
use Rattle.route_planner.specs.declared.left.Left.{Left}
use Rattle.route_planner.specs.declared.left.Left.TheVariants.{Free, By, Never}
use Rattle.route_planner.specs.declared.direction.Direction.{Direction}
use Rattle.route_planner.specs.declared.direction.Direction.TheVariants.{Out, In}
use Rattle.codec_graph.specs.declared.pin_kind.PinKind.{PinKind}
use Rattle.route_planner.specs.declared.routes.Hop.{Hop}
use Rattle.route_planner.specs.declared.routes.Outcome.{Outcome}
use Rattle.route_planner.specs.declared.routes.Outcome.TheVariants as outcome
use Rattle.route_planner.specs.declared.routes.PinPlan.{PinPlan}
use Rattle.stream_format.specs.declared.format.Format.{Format}
use Rattle.route_planner.specs.Formats.{supports}
use Rattle.route_planner.specs.Paths.{passes, list_of, connection, is_analog_stereo, can_carry, can_be_left_as}
use Rattle.route_planner.specs.Inputs.{can_be_left_in}

-- whether a node may be left by a connection
abbrev pub allows : Left → ℕ → Bool
allows Free index = true
allows (By kept) index = index == kept
allows Never index = false

-- by which connections a node may be left
abbrev pub left_at : List Left → ℕ → Left
left_at lefts nid = slice_index_or lefts nid Free

-- the hop doesn't leave the node, or by this index
abbrev pub is_alike : ℕ → ℕ → Hop → Bool
is_alike nid index hop = not (hop.nid == nid) || index == hop.index

-- the entry's route, if it has one, leaves the node by this index alone
abbrev pub outcome_alike : ℕ → ℕ → Outcome → Bool
outcome_alike nid index (outcome.Route other) = list_all (is_alike nid index) other.hops
outcome_alike nid index outcome.Blocked = true
outcome_alike nid index outcome.NoPath = true

abbrev pub leaves_alike : ℕ → ℕ → PinPlan → Bool
leaves_alike nid index entry = outcome_alike nid index entry.outcome

-- the entry's route, if it has one, ends in another converter or has the same pair of channels
abbrev pub outcome_carries : ℕ → ℕ → ℕ → Outcome → Bool
outcome_carries pair nid other_pair (outcome.Route other) = not (other.converter == nid) || pair == other_pair
outcome_carries pair nid other_pair outcome.Blocked = true
outcome_carries pair nid other_pair outcome.NoPath = true

abbrev pub carries_alike : ℕ → ℕ → PinPlan → Bool
carries_alike pair nid entry = outcome_carries pair nid entry.pair entry.outcome

-- whether a path of a direction may have the node, and whether it may leave it by the connection at an index
abbrev pub can_carry_along : Direction → RawNode → Bool
can_carry_along (Out kind) node = can_carry kind node
can_carry_along In node = is_analog_stereo node

abbrev pub can_be_left_along : Direction → RawCodec → ℕ → RawNode → Bool
can_be_left_along (Out kind) codec index node = can_be_left_as kind codec index node
can_be_left_along In codec index node = can_be_left_in codec index node

-- the same beside other paths: these say by which connections a mixer or selector may be left
abbrev pub can_leave : Direction → RawCodec → Left → ℕ → RawNode → Bool
can_leave direction codec left index node =
    can_carry_along direction node && can_be_left_along direction codec index node
    && (not (is_inner node) || allows left index)

-- the node to which an allowed connection leads
unfoldable pub target : Direction → RawCodec → List Left → ℕ → ℕ → Option ℕ
target direction codec lefts nid index =
    if passes (can_leave direction codec (left_at lefts nid) index) (node_at codec nid) then connection codec nid index
    else None

unfoldable pub is_inner_at : RawCodec → ℕ → Bool
is_inner_at codec nid = passes is_inner (node_at codec nid)

-- a converter of the kind that can take the format
abbrev pub can_end : PinKind → RawCodec → Format → RawNode → Bool
can_end kind codec format node =
    is_output_converter node && can_carry kind node && supports codec format.rate format.bits node

-- a converter at which a route with this pair of channels may end, beside those of the earlier entries
unfoldable pub is_end : PinKind → RawCodec → Format → List PinPlan → ℕ → ℕ → Bool
is_end kind codec format earlier pair nid =
    passes (can_end kind codec format) (node_at codec nid) && list_all (carries_alike pair nid) earlier

-- an input converter that can give the format
abbrev pub can_begin : RawCodec → Format → RawNode → Bool
can_begin codec format node = is_input_converter node && supports codec format.rate format.bits node

-- whether a path of an input may begin at the node
abbrev pub is_begin : RawCodec → Format → ℕ → Bool
is_begin codec format nid = passes (can_begin codec format) (node_at codec nid)

-- the one end of the paths of an input
abbrev pub is_pin_end : ℕ → ℕ → Bool
is_pin_end pin nid = nid == pin

-- the widgets have node identifiers, and no more connections than a widget may list
pub record IsBounded (codec : RawCodec) : Type 0 where
  pub within : (nid : ℕ) → is_some (node_at codec nid) ≡ true → nid < node_identifiers
  pub short : (nid : ℕ) → length (list_of (node_at codec nid)) ≤ most_listed

-- how many hops lead from a node to an end; 65535 where none are known
abbrev pub level_of : List ℕ → ℕ → ℕ
level_of levels nid = slice_index_or levels nid 65535

-- how many nodes have no level
abbrev pub count_far : List ℕ → ℕ
count_far levels = count_by (λ level. level == 65535) levels
