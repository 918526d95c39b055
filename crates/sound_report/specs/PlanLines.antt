-- The lines of plans: what was found for each candidate pin. This project's own.
use Rattle.std.specs.Prelude.{ℕ, List, [], ◌∷◌, ◌++◌, codes, decimal}
use Rattle.std.specs.List.{flat_map, zip}
use Rattle.hex.specs.Hex.{encode_lower}
use Rattle.hda_files.specs.declared.machine.CodecFile.{CodecFile}
use Rattle.route_planner.specs.declared.routes.Hop.{Hop}
use Rattle.route_planner.specs.declared.routes.Outcome.{Outcome}
use Rattle.route_planner.specs.declared.routes.Outcome.TheVariants as outcome
use Rattle.route_planner.specs.declared.routes.PinPlan.{PinPlan}
use Rattle.route_planner.specs.declared.routes.Plan.{Plan}

-- a node identifier: two lower hexadecimal digits
unfoldable pub nid_text : ℕ → List ℕ
nid_text nid = encode_lower (nid ∷ [])

-- the end of a line
abbrev pub newline : List ℕ
newline = 10 ∷ []

-- a hop of a route: the node, a point, the index, and a space
abbrev pub hop_text : Hop → List ℕ
hop_text hop = nid_text hop.nid ++ codes "." ++ decimal hop.index ++ codes " "

-- the codec, the pin and its pair, after the word for what was found
abbrev pub entry_head : List ℕ → ℕ → PinPlan → List ℕ
entry_head word address entry =
    word ++ codes " " ++ decimal address ++ codes " " ++ nid_text entry.pin ++ codes " pair " ++ decimal entry.pair

-- what was found for a pin
abbrev pub outcome_line : ℕ → PinPlan → Outcome → List ℕ
outcome_line address entry (outcome.Route route) =
    entry_head (codes "route") address entry ++ codes " via " ++ flat_map hop_text route.hops ++ nid_text
    route.converter ++ newline
outcome_line address entry outcome.Blocked = entry_head (codes "blocked") address entry ++ newline
outcome_line address entry outcome.NoPath = entry_head (codes "nopath") address entry ++ newline

-- the line of a pin
abbrev pub entry_line : ℕ → PinPlan → List ℕ
entry_line address entry = outcome_line address entry entry.outcome

-- the lines of a codec's plan
abbrev pub plan_lines : ℕ → Plan → List ℕ
plan_lines address plan = flat_map (entry_line address) plan.pins

abbrev pub codec_lines : CodecFile × Plan → List ℕ
codec_lines codec = plan_lines codec.0.graph.address codec.1

-- the lines of the plans, codec by codec
abbrev pub plans_lines : List CodecFile → List Plan → List ℕ
plans_lines files plans = flat_map codec_lines (zip files plans)
