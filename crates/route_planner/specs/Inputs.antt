-- The pins that can record, the paths from an input converter to one of them along connection lists (High Definition
-- Audio 1.0a, 7.1.3), which of these can carry a stream, and the plan of a graph for an input: its first candidate that
-- has such a path, with the least one. Default devices: 7.3.3.31. Pin capabilities: 7.3.4.9. Candidates, conditions and
-- plan are this project's own.
use Rattle.std.specs.Prelude.{◌≡◌, ◌≢◌, ◌<◌, ◌⊎◌, ℕ, Bool, true, ◌==◌, ◌&&◌, ◌||◌, not, nat_le, List, [], ◌∷◌}
use Rattle.std.specs.Prelude.{◌++◌, map, drop, length, All, if◌then◌else◌}
use Rattle.codec_graph.specs.declared.raw.RawNode.{RawNode}
use Rattle.codec_graph.specs.declared.raw.RawCodec.{RawCodec}
use Rattle.codec_graph.specs.Widget.{node_at, is_inner, is_input_converter, is_pin, is_stereo, is_digital}
use Rattle.codec_graph.specs.Widget.{has_input_amplifier}
use Rattle.codec_graph.specs.Candidates.{connectivity, device, association}
use Rattle.verb_codes.specs.Words.{has_bit}
use Rattle.stream_format.specs.declared.format.Format.{Format}
use Rattle.route_planner.specs.declared.routes.Hop.{Hop}
use Rattle.route_planner.specs.declared.routes.Route.{Route}
use Rattle.route_planner.specs.declared.routes.Outcome.TheVariants as outcome
use Rattle.route_planner.specs.declared.routes.PinPlan.{PinPlan}
use Rattle.route_planner.specs.declared.routes.Plan.{Plan}
use Rattle.route_planner.specs.Formats.{supports}
use Rattle.codec_graph.specs.Order.{comes_before}
use Rattle.route_planner.specs.Paths.{passes, LeadsTo, is_analog_stereo, can_be_left, IsNoLater, indexes}

-- ---- candidates

-- the default devices of an input: Line In and Mic In
abbrev pub line_in_device : ℕ
line_in_device = 0x8

abbrev pub mic_in_device : ℕ
mic_in_device = 0xA

-- a stereo analog pin that can take an input, is connected to something, is a line in or a microphone, and belongs to
-- an association
abbrev pub is_input_candidate_node : RawNode → Bool
is_input_candidate_node node =
    is_pin node && is_stereo node && not (is_digital node) && has_bit node.pin_caps 5
    && not (connectivity node == 1) && (device node == line_in_device || device node == mic_in_device)
    && not (association node == 0)

-- whether the node identifier is that of such a pin
abbrev pub is_input_candidate : RawCodec → ℕ → Bool
is_input_candidate codec nid = passes is_input_candidate_node (node_at codec nid)

-- ---- paths

-- the nodes that the hops leave, and the pin
abbrev pub input_nodes : List Hop → ℕ → List ℕ
input_nodes hops pin = map (λ (hop : Hop). hop.nid) hops ++ pin ∷ []

-- a path of a pin: from an input converter, which is that of the route, through mixers and selectors to the pin
pub record IsInputPath (codec : RawCodec) (pin : ℕ) (route : Route) : Type 0 where
  pub leaves_converter : route.hops ≢ []
  pub begins : passes is_input_converter (node_at codec route.converter) ≡ true
  pub leads : LeadsTo codec route.converter route.hops pin
  pub passes_inner : All (λ (hop : Hop). passes is_inner (node_at codec hop.nid) ≡ true) (drop 1 route.hops)
  pub ends : passes is_pin (node_at codec pin) ≡ true

-- whether set-up can open the node for the connection at an index alone: what it asks of nodes on the way out, and an
-- input converter with an input amplifier has to reach that of the index
abbrev pub can_be_left_in : RawCodec → ℕ → RawNode → Bool
can_be_left_in codec index node =
    can_be_left codec index node && (if is_input_converter node && has_input_amplifier node then nat_le index 15 else
    true)

-- an admissible path of a pin for a stream format
pub record IsInputAdmissible (codec : RawCodec) (format : Format) (pin : ℕ) (route : Route) : Type 0 where
  pub path : IsInputPath codec pin route
  pub carried : All (λ nid. passes is_analog_stereo (node_at codec nid) ≡ true) (input_nodes route.hops pin)
  pub left_well : All (λ (hop : Hop). passes (can_be_left_in codec hop.index) (node_at codec hop.nid) ≡ true) route.hops
  pub supported : passes (supports codec format.rate format.bits) (node_at codec route.converter) ≡ true

-- a path is no larger than another: by the number of hops, then by the converter's node identifier, and then by the
-- indexes compared in order
abbrev pub IsNoLargerInput : Route → Route → Type 0
IsNoLargerInput route other =
    (length route.hops < length other.hops)
    ⊎ ((length route.hops ≡ length other.hops)
    × ((route.converter < other.converter)
    ⊎ ((route.converter ≡ other.converter) × IsNoLater (indexes route) (indexes other))))

pub record IsLeastInput (codec : RawCodec) (format : Format) (pin : ℕ) (route : Route) : Type 0 where
  pub admissible : IsInputAdmissible codec format pin route
  pub least : (other : Route) → IsInputAdmissible codec format pin other → IsNoLargerInput route other

-- ---- the plan

abbrev pub HasInputPath : RawCodec → Format → ℕ → Type 0
HasInputPath codec format pin = (route : Route) × IsInputAdmissible codec format pin route

-- the first candidate pin, in the order of all pins, that has an admissible path
pub record IsFirstInput (codec : RawCodec) (format : Format) (pin : ℕ) : Type 0 where
  pub candidate : is_input_candidate codec pin ≡ true
  pub has_path : HasInputPath codec format pin
  pub before : (other : ℕ) → is_input_candidate codec other ≡ true → HasInputPath codec format other → other ≢ pin
      → comes_before codec pin other ≡ true

-- the entry of a plan for an input: that pin with its least path. It has no pair of channels to tell, so the pair is 0
pub record IsInputEntry (codec : RawCodec) (format : Format) (entry : PinPlan) : Type 0 where
  pub route : Route
  pub first : IsFirstInput codec format entry.pin
  pub pair : entry.pair ≡ 0
  pub outcome_is : entry.outcome ≡ outcome.Route route
  pub least : IsLeastInput codec format entry.pin route

-- the entries of the plan: that one, or none where no candidate has an admissible path
abbrev pub AreInputEntries : RawCodec → Format → List PinPlan → Type 0
AreInputEntries codec format [] = (pin : ℕ) → is_input_candidate codec pin ≡ true → HasInputPath codec format pin → ⊥
AreInputEntries codec format (entry ∷ []) = IsInputEntry codec format entry
AreInputEntries codec format (entry ∷ other ∷ rest) = ⊥

abbrev pub IsInputPlan : RawCodec → Format → Plan → Type 0
IsInputPlan codec format plan = AreInputEntries codec format plan.pins

-- every plan of the graph for an input is this one: so the pin is one, and its least path is one path
abbrev pub IsOnlyInputPlan : RawCodec → Format → Plan → Type 0
IsOnlyInputPlan codec format plan = (other : Plan) → IsInputPlan codec format other → other ≡ plan
