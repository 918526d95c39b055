-- The one codec of a machine from which is recorded, and the plans of all. This project's own.
use Rattle.std.specs.Prelude.{◌≡◌, ℕ, List, [], ◌∷◌, ◌++◌, length, map, All}
use Rattle.std.specs.List.Sorted.{IsStrictlyIncreasing}
use Rattle.stream_format.specs.declared.format.Format.{Format}
use Rattle.route_planner.specs.declared.routes.PinPlan.{PinPlan}
use Rattle.route_planner.specs.declared.routes.Plan.{Plan}
use Rattle.route_planner.specs.Inputs.{AreInputEntries, IsInputEntry}
use Rattle.route_setup.specs.Means.{Means}
use Rattle.analog_in.specs.Means.{analog_in}
use Rattle.hda_files.specs.declared.machine.CodecFile.{CodecFile}
use Rattle.laws_start.specs.Tasks.{HavePlansBy, commands_meant, stream_tag}

-- the codecs ascend by address, each once
abbrev pub Ascend : List CodecFile → Type 0
Ascend files = IsStrictlyIncreasing (map (λ (file : CodecFile). file.graph.address) files)

-- no candidate pin of the codec has an admissible path
abbrev pub IsWithoutInput : Format → CodecFile → Type 0
IsWithoutInput format file = AreInputEntries file.graph format []

-- some has: the first one, with its least path
abbrev pub HasInputPin : Format → CodecFile → Type 0
HasInputPin format file = (entry : PinPlan) × IsInputEntry file.graph format entry

-- what the set-up of the input means in a format, where the codec at the address is recorded from
abbrev pub capture_means : (address : ℕ) → Format → Means
capture_means address format = analog_in address format stream_tag

-- the input of a machine in a format: the first codec, ascending, of which some candidate pin has an admissible path.
-- Its plan has that pin and path, and the plan of each other codec has no entry
pub record IsInputOf (format : Format) (files : List CodecFile) (address : ℕ) (plans : List Plan) : Type 0 where
  pub before : List CodecFile
  pub file : CodecFile
  pub behind : List CodecFile
  pub among : files ≡ before ++ file ∷ behind
  pub first : All (IsWithoutInput format) before
  pub has : HasInputPin format file
  pub address_is : address ≡ file.graph.address
  pub planned : HavePlansBy (capture_means address format) files plans

-- no codec of a machine has one
abbrev pub HasNoInput : Format → List CodecFile → Type 0
HasNoInput format files = All (IsWithoutInput format) files

-- how many commands it takes to walk over these codecs and to set them up by these plans
abbrev pub capture_total : (address : ℕ) → Format → List CodecFile → List Plan → ℕ
capture_total address format files plans = length (commands_meant (capture_means address format) files plans)
