-- The codec from which is recorded, among the first ones. What private functions promise one another; this project's
-- own.
use Rattle.std.specs.Prelude.{◌≡◌, ℕ, List, [], ◌∷◌, All, Option, Some, None}
use Rattle.std.specs.List.{AllZip}
use Rattle.codec_graph.specs.declared.raw.RawCodec.{RawCodec}
use Rattle.stream_format.specs.declared.format.Format.{Format}
use Rattle.route_planner.specs.declared.routes.PinPlan.{PinPlan}
use Rattle.route_planner.specs.declared.routes.Plan.{Plan}
use Rattle.route_planner.specs.Inputs.{IsInputPlan}
use Rattle.hda_files.specs.declared.machine.CodecFile.{CodecFile}
use Rattle.program_captures.specs.Inputs.{IsInputOf, IsWithoutInput}

-- the plan of the next codec, where one was found before it or none was
abbrev pub IsNextPlan : Option ℕ → RawCodec → Format → Plan → Type 0
IsNextPlan (Some address) graph format plan = plan.pins ≡ []
IsNextPlan None graph format plan = IsInputPlan graph format plan

-- the address of the one that is found with the next codec
abbrev pub address_by : RawCodec → List PinPlan → Option ℕ
address_by graph [] = None
address_by graph (entry ∷ entries) = Some graph.address

abbrev pub address_with : Option ℕ → RawCodec → Plan → Option ℕ
address_with (Some address) graph plan = Some address
address_with None graph plan = address_by graph plan.pins

abbrev pub HasNoEntry : CodecFile → Plan → Type 0
HasNoEntry file plan = plan.pins ≡ []

-- what was found among codecs, with their plans
abbrev pub IsFound : Format → List CodecFile → Option ℕ → List Plan → Type 0
IsFound format files (Some address) plans = IsInputOf format files address plans
IsFound format files None plans = All (IsWithoutInput format) files × AllZip HasNoEntry files plans
