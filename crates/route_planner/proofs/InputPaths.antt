-- The ways of an input's search are the admissible paths of its pin.
use Rattle.std.proofs.Common.{◌≡◌, ◌<◌, ◌==◌, ◌&&◌, ◌||◌, not, ℕ, Bool, true, false, List, get_or, Option, Some, None, refl, sym, subst, ◌∙◌}
use Rattle.std.specs.Prelude.{is_some}
use Rattle.std.proofs.lemmas.Bool.{eqb-true, eq-eqb, false≢true, and_parts, and_from}
use Rattle.codec_graph.specs.declared.raw.RawNode.{RawNode}
use Rattle.codec_graph.specs.declared.raw.RawCodec.{RawCodec}
use Rattle.codec_graph.specs.Widget.{node_at, is_input_converter, is_pin, is_stereo, is_digital}
use Rattle.codec_graph.specs.Candidates.{connectivity, device, association}
use Rattle.verb_codes.specs.Words.{has_bit}
use Rattle.stream_format.specs.declared.format.Format.{Format}
use Rattle.route_planner.specs.declared.direction.Direction.TheVariants.{In}
use Rattle.route_planner.specs.declared.left.Left.{Left}
use Rattle.route_planner.specs.declared.routes.Hop.{Hop}
use Rattle.route_planner.specs.declared.routes.Route.{Route}
use Rattle.route_planner.specs.declared.walk.Way.{Way}
use Rattle.route_planner.specs.Formats.{supports}
use Rattle.route_planner.specs.Paths.{passes, LeadsTo, is_analog_stereo}
use Rattle.route_planner.specs.Inputs.{is_input_candidate_node, is_input_candidate, IsInputAdmissible}
use Rattle.route_planner.specs.FoundInputs.{HasNoPathFrom, IsLeastFrom}
use Rattle.route_planner.specs.Search.{left_at, allows, target, is_inner_at, can_begin, is_begin, is_pin_end, IsBounded}
use Rattle.route_planner.specs.Ways.{IsWayOut, LeadsToNoEnd, IsLeastWay}
use Rattle.route_planner.proofs.Bridge.{allowed_from_way_out, way_out_from_allowed, nodes_from_hops, hops_from_nodes}
use Rattle.route_planner.proofs.Compatible.{inner_below}

-- no node is kept for other paths
pub record AreFree (lefts : List Left) : Type 0 where
  pub free : (nid index : ℕ) → nid < 256 → allows (left_at lefts nid) index ≡ true

-- the first three of seven tests that all pass
first_three : (a b c d e f g : Bool) → (a && b && c && d && e && f && g) ≡ true → (a ≡ true) × ((b && c) ≡ true)
first_three true true true d e f g can = (refl, refl)
first_three true true false d e f g can = cc
first_three true false c d e f g can = cc
first_three false b c d e f g can = cc

-- a candidate is an analog pin of two channels
candidate_parts : (found : Option RawNode) → passes is_input_candidate_node found ≡ true → (passes is_pin found ≡ true) × (passes is_analog_stereo found ≡ true)
candidate_parts None can = absurd (false≢true can)
candidate_parts (Some node) can =
    first_three (is_pin node) (is_stereo node) (not (is_digital node)) (has_bit node.pin_caps 5) (not (connectivity node == 1)) (device node == 0x8 || device node == 0xA) (not (association node == 0)) can

begin_parts : (codec : RawCodec) (format : Format) (found : Option RawNode) → passes (can_begin codec format) found ≡ true → (passes is_input_converter found ≡ true) × (passes (supports codec format.rate format.bits) found ≡ true)
begin_parts codec format None e = absurd (false≢true e)
begin_parts codec format (Some node) e = and_parts (is_input_converter node) (supports codec format.rate format.bits node) e

begin_made : (codec : RawCodec) (format : Format) (found : Option RawNode) → passes is_input_converter found ≡ true → passes (supports codec format.rate format.bits) found ≡ true → passes (can_begin codec format) found ≡ true
begin_made codec format None is gives = is
begin_made codec format (Some node) is gives = and_from (is_input_converter node) (supports codec format.rate format.bits node) is gives

-- a node that passes a test is a widget, so its identifier is below 128
there : (test : RawNode → Bool) (found : Option RawNode) → passes test found ≡ true → is_some found ≡ true
there test None e = absurd (false≢true e)
there test (Some node) e = refl

pub passes_below : (codec : RawCodec) (test : RawNode → Bool) (nid : ℕ) → IsBounded codec → passes test (node_at codec nid) ≡ true → nid < 128
passes_below codec test nid bounded e = bounded.within nid (there test (node_at codec nid) e)

abbrev route_of : List Hop → ℕ → Route
route_of hops from = record { hops = hops; converter = from }

-- a way from a converter is an admissible path of the pin
path_from_way : (codec : RawCodec) (format : Format) (lefts : List Left) (pin from : ℕ) (hops : List Hop) (to : ℕ) → is_input_candidate codec pin ≡ true → is_begin codec format from ≡ true → IsWayOut (is_inner_at codec) (target In codec lefts) (is_pin_end pin) from hops to → IsInputAdmissible codec format pin (route_of hops from)
path_from_way codec format lefts pin from hops to candidate can way =
    let facts = allowed_from_way_out In codec lefts (is_pin_end pin) hops from to way in
    let at : to ≡ pin = eqb-true to pin facts.3 in
    let begins = begin_parts codec format (node_at codec from) can in
    let ends = candidate_parts (node_at codec pin) candidate in
    record {
      path = record {
        leaves_converter = facts.2;
        begins = begins.0;
        leads = subst (λ (n : ℕ). LeadsTo codec from hops n) at facts.0.leads;
        passes_inner = facts.1;
        ends = ends.0;
      };
      carried = nodes_from_hops (λ nid. passes is_analog_stereo (node_at codec nid) ≡ true) hops pin facts.0.carried ends.1;
      left_well = facts.0.well;
      supported = begins.1;
    }

-- and an admissible path is a way
way_from_path : (codec : RawCodec) (format : Format) (lefts : List Left) (pin : ℕ) (route : Route) → IsBounded codec → AreFree lefts → IsInputAdmissible codec format pin route → IsWayOut (is_inner_at codec) (target In codec lefts) (is_pin_end pin) route.converter route.hops pin
way_from_path codec format lefts pin route bounded are right =
    way_out_from_allowed In codec lefts (is_pin_end pin) route.hops route.converter pin record {
      leads = right.path.leads;
      carried = hops_from_nodes (λ nid. passes is_analog_stereo (node_at codec nid) ≡ true) route.hops pin right.carried;
      well = right.left_well;
      kept = λ k d within inner.
          let hop = get_or route.hops k d in
          are.free hop.nid hop.index (inner_below codec hop.nid bounded inner);
    } right.path.passes_inner right.path.leaves_converter (eq-eqb pin pin refl)

way_from_other : (codec : RawCodec) (format : Format) (lefts : List Left) (pin from : ℕ) (other : Route) → IsBounded codec → AreFree lefts → IsInputAdmissible codec format pin other → other.converter ≡ from → IsWayOut (is_inner_at codec) (target In codec lefts) (is_pin_end pin) from other.hops pin
way_from_other codec format lefts pin from other bounded are right at =
    subst (λ (n : ℕ). IsWayOut (is_inner_at codec) (target In codec lefts) (is_pin_end pin) n other.hops pin) at (way_from_path codec format lefts pin other bounded are right)

-- the least way from a converter is the least admissible path from it
pub least_from_way : (codec : RawCodec) (format : Format) (lefts : List Left) (pin from : ℕ) (way : Way) → IsBounded codec → AreFree lefts → is_input_candidate codec pin ≡ true → is_begin codec format from ≡ true → IsLeastWay (is_inner_at codec) (target In codec lefts) (is_pin_end pin) from way → IsLeastFrom codec format pin from (route_of way.hops from)
least_from_way codec format lefts pin from way bounded are candidate can least = record {
  begins = refl;
  admissible = path_from_way codec format lefts pin from way.hops way.end candidate can least.leads;
  least = λ other right at. least.least other.hops pin (way_from_other codec format lefts pin from other bounded are right at);
}

-- where no way leads to the pin, or none may begin, there is no admissible path
pub no_path_from_way : (codec : RawCodec) (format : Format) (lefts : List Left) (pin from : ℕ) → IsBounded codec → AreFree lefts → LeadsToNoEnd (is_inner_at codec) (target In codec lefts) (is_pin_end pin) from → HasNoPathFrom codec format pin from
no_path_from_way codec format lefts pin from bounded are none other right at =
    none other.hops pin (way_from_other codec format lefts pin from other bounded are right at)

pub no_path_from_begin : (codec : RawCodec) (format : Format) (pin from : ℕ) → is_begin codec format from ≡ false → HasNoPathFrom codec format pin from
no_path_from_begin codec format pin from e other right at =
    let can = begin_made codec format (node_at codec other.converter) right.path.begins right.supported in
    false≢true (sym e ∙ subst (λ (n : ℕ). is_begin codec format n ≡ true) at can)
