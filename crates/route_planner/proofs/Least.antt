-- From the least way to the least open path.
use Rattle.std.proofs.Common.{◌≡◌, ℕ, Bool, true, List, [], ◌∷◌}
use Rattle.std.proofs.lemmas.Bool.{eqb-true, eq-eqb}
use Rattle.codec_graph.specs.declared.raw.RawCodec.{RawCodec}
use Rattle.std.specs.Prelude.{Option}
use Rattle.route_planner.specs.declared.direction.Direction.TheVariants.{Out}
use Rattle.codec_graph.specs.declared.pin_kind.PinKind.{PinKind}
use Rattle.route_planner.specs.declared.left.Left.{Left}
use Rattle.route_planner.specs.declared.routes.Hop.{Hop}
use Rattle.route_planner.specs.declared.routes.Route.{Route}
use Rattle.route_planner.specs.declared.walk.Way.{Way}
use Rattle.route_planner.specs.declared.routes.PinPlan.{PinPlan}
use Rattle.stream_format.specs.declared.format.Format.{Format}
use Rattle.route_planner.specs.Search.{level_of, target, is_inner_at, is_end, IsBounded}
use Rattle.route_planner.specs.Ways.{IsWay, IsWayOut, LeadsToNoEnd, IsNearest, has_level_0, IsLeastWay}
use Rattle.route_planner.specs.Found.{IsLeastOpen, HasNoOpenPath}
use Rattle.route_planner.proofs.Compatible.{AreLefts, open_path_from_way, way_from_open_path}

way_to : (inner : ℕ → Bool) (next : ℕ → ℕ → Option ℕ) (end goal : ℕ → Bool) → ((nid : ℕ) → end nid ≡ true → goal nid ≡ true) → (hops : List Hop) (from to : ℕ) → IsWay inner next end from hops to → IsWay inner next goal from hops to
way_to inner next end goal h [] from to way = (way.0, h to way.1)
way_to inner next end goal h (hop ∷ hops) from to way =
    (way.0, (way.1.0, (way.1.1.0, way.1.1.1, way_to inner next end goal h hops way.1.1.0 to way.1.1.2)))

pub way_out_to : (inner : ℕ → Bool) (next : ℕ → ℕ → Option ℕ) (end goal : ℕ → Bool) → ((nid : ℕ) → end nid ≡ true → goal nid ≡ true) → (hops : List Hop) (from to : ℕ) → IsWayOut inner next end from hops to → IsWayOut inner next goal from hops to
way_out_to inner next end goal h [] from to way = absurd way
way_out_to inner next end goal h (hop ∷ hops) from to way =
    (way.0, (way.1.0, way.1.1, way_to inner next end goal h hops way.1.0 to way.1.2))

-- the nodes of level 0 are the ends
pub nearest_at_0 : (inner : ℕ → Bool) (next : ℕ → ℕ → Option ℕ) (end : ℕ → Bool) (levels : List ℕ) (from level : ℕ) → IsNearest inner next end levels from level → IsNearest inner next (has_level_0 levels) levels from level
nearest_at_0 inner next end levels from level nearest = record {
  right = record {
    whole = nearest.right.whole;
    at_ends = λ nid e. eqb-true (level_of levels nid) 0 e;
    are_ends = λ nid e. eq-eqb (level_of levels nid) 0 e;
    below = nearest.right.below;
    behind = nearest.right.behind;
    near = nearest.right.near;
  };
  below = nearest.below;
  leads = nearest.leads;
  least = nearest.least;
}

-- the least way to the nodes of level 0 is the least to the ends
pub least_to_end : (inner : ℕ → Bool) (next : ℕ → ℕ → Option ℕ) (end : ℕ → Bool) (levels : List ℕ) (from level : ℕ) (way : Way) → IsNearest inner next end levels from level → IsLeastWay inner next (has_level_0 levels) from way → IsLeastWay inner next end from way
least_to_end inner next end levels from level way nearest least =
    let to_end : (nid : ℕ) → has_level_0 levels nid ≡ true → end nid ≡ true = λ nid e. nearest.right.are_ends nid (eqb-true (level_of levels nid) 0 e) in
    let from_end : (nid : ℕ) → end nid ≡ true → has_level_0 levels nid ≡ true = λ nid e. eq-eqb (level_of levels nid) 0 (nearest.right.at_ends nid e) in
    record {
      leads = way_out_to inner next (has_level_0 levels) end to_end way.hops from way.end least.leads;
      least = λ others to other. least.least others to (way_out_to inner next end (has_level_0 levels) from_end others from to other);
    }

abbrev pub route_of : Way → Route
route_of way = record { hops = way.hops; converter = way.end }

pub least_open_from_way : (kind : PinKind) (codec : RawCodec) (format : Format) (lefts : List Left) (earlier : List PinPlan) (pair pin : ℕ) (way : Way) → IsBounded codec → AreLefts lefts earlier → IsLeastWay (is_inner_at codec) (target (Out kind) codec lefts) (is_end kind codec format earlier pair) pin way → IsLeastOpen kind codec format earlier pair pin (route_of way)
least_open_from_way kind codec format lefts earlier pair pin way bounded are least = record {
  is_open = open_path_from_way kind codec format lefts earlier pair pin bounded are (route_of way) least.leads;
  least = λ other path. least.least other.hops other.converter (way_from_open_path kind codec format lefts earlier pair pin bounded are other path);
}

pub no_open_path_from_none : (kind : PinKind) (codec : RawCodec) (format : Format) (lefts : List Left) (earlier : List PinPlan) (pair pin : ℕ) → IsBounded codec → AreLefts lefts earlier → LeadsToNoEnd (is_inner_at codec) (target (Out kind) codec lefts) (is_end kind codec format earlier pair) pin → HasNoOpenPath kind codec format earlier pair pin
no_open_path_from_none kind codec format lefts earlier pair pin bounded are none other path =
    none other.hops other.converter (way_from_open_path kind codec format lefts earlier pair pin bounded are other path)
