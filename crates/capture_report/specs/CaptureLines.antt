-- The lines of the input, of recorded runs and of how a capture ended. This project's own.
use Rattle.std.specs.Prelude.{ℕ, List, [], ◌++◌, codes, decimal, Option, Some, None}
use Rattle.std.specs.List.{flat_map, zip}
use Rattle.hda_files.specs.declared.machine.CodecFile.{CodecFile}
use Rattle.route_planner.specs.declared.routes.Outcome.{Outcome}
use Rattle.route_planner.specs.declared.routes.Outcome.TheVariants as outcome
use Rattle.route_planner.specs.declared.routes.PinPlan.{PinPlan}
use Rattle.route_planner.specs.declared.routes.Plan.{Plan}
use Rattle.hda_capture.specs.declared.course.RecordedRun.{RecordedRun}
use Rattle.sound_report.specs.PlanLines.{hop_text, nid_text, newline}
use Rattle.sound_report.specs.Texts.{unanswered_line, late_line, commands_left_line}
use Rattle.sound_report.specs.declared.played.PlayFault.{PlayFault}
use Rattle.sound_report.specs.declared.played.PlayFault.TheVariants.{Unanswered, Late, CommandsLeft, FramesLeft}

-- ---- the input

-- the codec, each node that the way leaves with the index of the connection by which it does, and the pin
abbrev pub input_line : ℕ → PinPlan → Outcome → List ℕ
input_line address entry (outcome.Route route) =
    codes "input " ++ decimal address ++ codes " via " ++ flat_map hop_text route.hops ++ nid_text entry.pin ++ newline
input_line address entry outcome.Blocked = []
input_line address entry outcome.NoPath = []

abbrev pub entry_line_of : ℕ → PinPlan → List ℕ
entry_line_of address entry = input_line address entry entry.outcome

-- those of a codec's plan
abbrev pub codec_inputs : ℕ → Plan → List ℕ
codec_inputs address plan = flat_map (entry_line_of address) plan.pins

abbrev pub inputs_in : CodecFile × Plan → List ℕ
inputs_in codec = codec_inputs codec.0.graph.address codec.1

-- those of plans, codec by codec
abbrev pub input_lines : List CodecFile → List Plan → List ℕ
input_lines files plans = flat_map inputs_in (zip files plans)

-- ---- the runs

-- where the link stood, the clocks that it read first and last, and how many bytes it read from the ring
abbrev pub record_line : RecordedRun → List ℕ
record_line run =
    codes "run " ++ decimal run.at ++ codes " " ++ decimal run.from ++ codes " " ++ decimal run.to
    ++ codes " " ++ decimal run.read ++ newline

-- ---- the end

-- frames were left: how many were read, and of how many
abbrev pub frames_read_line : (read of : ℕ) → List ℕ
frames_read_line read of = codes "schedule ended: frames " ++ decimal read ++ codes " of " ++ decimal of ++ newline

-- why a capture ended before all was recorded. Where frames were left, the number that were written counts those that
-- were read
abbrev pub capture_fault_line : PlayFault → List ℕ
capture_fault_line (Unanswered codec command issued noticed) = unanswered_line codec command issued noticed
capture_fault_line (Late from to limit) = late_line from to limit
capture_fault_line (CommandsLeft sent of) = commands_left_line sent of
capture_fault_line (FramesLeft written heard of) = frames_read_line written of

-- all was recorded: so many frames
abbrev pub captured_line : ℕ → List ℕ
captured_line total = codes "captured " ++ decimal total ++ newline

-- how it ended: why it did early, or else how much was recorded
abbrev pub capture_end : (total : ℕ) → Option PlayFault → List ℕ
capture_end total None = captured_line total
capture_end total (Some fault) = capture_fault_line fault
