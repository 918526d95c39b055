-- Paths from a pin to an output converter along connection lists (High Definition Audio 1.0a, 7.1.3), and which of them
-- can carry a stream, for analog pins and for digital ones. The conditions of an admissible path are this project's
-- own.
use Rattle.std.specs.Prelude.{◌≡◌, ◌≢◌, ◌<◌, ◌⊎◌, ℕ, Bool, true, false, ◌&&◌, not, nat_le, List, [], ◌∷◌, ◌++◌, map}
use Rattle.std.specs.Prelude.{drop, length, Option, Some, None, MatchOption, slice_get, All, Contains, if◌then◌else◌}
use Rattle.codec_graph.specs.declared.raw.RawNode.{RawNode}
use Rattle.codec_graph.specs.declared.raw.RawCodec.{RawCodec}
use Rattle.codec_graph.specs.Widget.{node_at, is_mixer, is_selector, is_inner, is_output_converter, is_stereo}
use Rattle.codec_graph.specs.Widget.{is_digital, has_input_amplifier, input_amplifier_word, can_mute}
use Rattle.codec_graph.specs.declared.pin_kind.PinKind.{PinKind}
use Rattle.codec_graph.specs.declared.pin_kind.PinKind.TheVariants.{Analog, Digital}
use Rattle.route_planner.specs.declared.routes.Hop.{Hop}
use Rattle.route_planner.specs.declared.routes.Route.{Route}
use Rattle.stream_format.specs.declared.format.Format.{Format}
use Rattle.route_planner.specs.Formats.{supports}

-- whether there is a node and it passes the test
abbrev pub passes : (RawNode → Bool) → Option RawNode → Bool
passes test None = false
passes test (Some node) = test node

-- the connections of a node
abbrev pub list_of : Option RawNode → List ℕ
list_of None = []
list_of (Some node) = node.list

-- the node to which the connection of a node at an index leads
abbrev pub connection : RawCodec → ℕ → ℕ → Option ℕ
connection codec nid index = slice_get (list_of (node_at codec nid)) index

-- the hops lead from one node to another, each by the connection at its index
abbrev pub LeadsTo : RawCodec → ℕ → List Hop → ℕ → Type 0
LeadsTo codec from [] to = from ≡ to
LeadsTo codec from (hop ∷ hops) to =
    (hop.nid ≡ from) × MatchOption (connection codec from hop.index) ⊥ (λ next. LeadsTo codec next hops to)

-- a path of a pin: from the pin through mixers and selectors to an output converter
pub record IsPath (codec : RawCodec) (pin : ℕ) (route : Route) : Type 0 where
  pub leaves_pin : route.hops ≢ []
  pub leads : LeadsTo codec pin route.hops route.converter
  pub passes_inner : All (λ (hop : Hop). passes is_inner (node_at codec hop.nid) ≡ true) (drop 1 route.hops)
  pub ends : passes is_output_converter (node_at codec route.converter) ≡ true

-- the nodes of a route
abbrev pub nodes_of : Route → List ℕ
nodes_of route = map (λ (hop : Hop). hop.nid) route.hops ++ route.converter ∷ []

abbrev pub is_analog_stereo : RawNode → Bool
is_analog_stereo node = is_stereo node && not (is_digital node)

-- whether set-up can open the node for one connection alone: a mixer of two or more has to mute the others,
-- and a selector with an input amplifier has to reach that of the index
abbrev pub can_be_left : RawCodec → ℕ → RawNode → Bool
can_be_left codec index node =
    (if is_mixer node && nat_le 2 (length node.list) then has_input_amplifier node && can_mute
    (input_amplifier_word codec node) else true)
    && (if is_selector node && has_input_amplifier node then nat_le index 15 else true)

-- a digital stream has two channels in each node
abbrev pub is_digital_stereo : RawNode → Bool
is_digital_stereo node = is_stereo node && is_digital node

-- it passes no mixer, and no amplifier of a selector's input
abbrev pub passes_digital : RawNode → Bool
passes_digital node = not (is_mixer node) && not (is_selector node && has_input_amplifier node)

-- a node that the routes of a kind of pins may have, and whether they may leave it by the connection at an index
abbrev pub can_carry : PinKind → RawNode → Bool
can_carry Analog node = is_analog_stereo node
can_carry Digital node = is_digital_stereo node

abbrev pub can_be_left_as : PinKind → RawCodec → ℕ → RawNode → Bool
can_be_left_as Analog codec index node = can_be_left codec index node
can_be_left_as Digital codec index node = passes_digital node

-- an admissible path of a pin of a kind for a stream format
pub record IsAdmissibleAs (kind : PinKind) (codec : RawCodec) (format : Format) (pin : ℕ) (route : Route) : Type 0 where
  pub path : IsPath codec pin route
  pub carried : All (λ nid. passes (can_carry kind) (node_at codec nid) ≡ true) (nodes_of route)
  pub left_well : All (λ (hop : Hop). passes (can_be_left_as kind codec hop.index) (node_at codec hop.nid) ≡ true)
      route.hops
  pub supported : passes (supports codec format.rate format.bits) (node_at codec route.converter) ≡ true

-- of an analog pin: all its nodes are analog and stereo, and set-up can open each for its connection alone
abbrev pub IsAdmissible : RawCodec → Format → ℕ → Route → Type 0
IsAdmissible = IsAdmissibleAs Analog

-- of a digital pin: all its nodes are digital and stereo, and between pin and converter are selectors without input
-- amplifier
abbrev pub IsDigitallyAdmissible : RawCodec → Format → ℕ → Route → Type 0
IsDigitallyAdmissible = IsAdmissibleAs Digital

-- two routes leave each mixer or selector that they share by the same index
abbrev pub LeaveAlike : RawCodec → Route → Route → Type 0
LeaveAlike codec route other =
    (hop twin : Hop) → Contains route.hops hop → Contains other.hops twin → hop.nid ≡ twin.nid
    → passes is_inner (node_at codec hop.nid) ≡ true → hop.index ≡ twin.index

-- two routes with their channel pairs can be open together
pub record IsCompatible (codec : RawCodec) (route : Route) (pair : ℕ) (other : Route) (other_pair : ℕ) : Type 0 where
  pub leave_alike : LeaveAlike codec route other
  pub same_pair : route.converter ≡ other.converter → pair ≡ other_pair

-- a list of indexes comes no later than another of its length, compared in order
abbrev pub IsNoLater : List ℕ → List ℕ → Type 0
IsNoLater [] ys = Unit {0}
IsNoLater (x ∷ xs) [] = ⊥
IsNoLater (x ∷ xs) (y ∷ ys) = (x < y) ⊎ ((x ≡ y) × IsNoLater xs ys)

abbrev pub indexes : Route → List ℕ
indexes route = map (λ (hop : Hop). hop.index) route.hops

-- a route is no larger than another: by the number of hops, and then by the indexes compared in order
abbrev pub IsNoLarger : Route → Route → Type 0
IsNoLarger route other =
    (length route.hops < length other.hops)
    ⊎ ((length route.hops ≡ length other.hops) × IsNoLater (indexes route) (indexes other))
