-- What a command comes to: a status and a text, and the run of the driver or the capture that it made, if it made one.
-- This project's own.
use Rattle.std.specs.Prelude.{ℕ, List, ◌++◌, string_bytes, Option, Some, None, Result, Ok, Err}
use Rattle.route_planner.specs.declared.routes.Plan.{Plan}
use Rattle.hda_files.specs.declared.machine.CodecFile.{CodecFile}
use Rattle.hda_outside.specs.declared.fault.Fault.{Fault}
use Rattle.hda_outside.specs.declared.fault.Fault.TheVariants as outside
use Rattle.sound_report.specs.declared.played.Played.{Played}
use Rattle.sound_report.specs.declared.played.PlayFault.{PlayFault}
use Rattle.sound_report.specs.declared.played.PlayFault.TheVariants as fault
use Rattle.sound_report.specs.declared.played.CutLine.{CutLine}
use Rattle.sound_report.specs.declared.played.CutLine.TheVariants as cuts
use Rattle.capture_report.specs.declared.captured.Captured.{Captured}
use Rattle.capture_report.specs.CaptureTexts.{capture_text}
use Rattle.sound_report.specs.declared.status.Status.{Status}
use Rattle.sound_report.specs.declared.status.Status.TheVariants.{Done, ShelfFailed, SinkFailed, NothingRouted}
use Rattle.sound_report.specs.declared.status.Status.TheVariants.{Unanswered, Late, ScheduleEnded, OutOfMemory}
use Rattle.sound_report.specs.declared.status.Status.TheVariants.{WavShrank}
use Rattle.sound_report.specs.PlanLines.{plans_lines}
use Rattle.sound_report.specs.Statuses.{number_of}
use Rattle.sound_report.specs.Texts.{text_of}
use Rattle.program_runs.specs.MadeLines.{made_line}
use Rattle.hda_program.specs.declared.message.Message.{Message}
use Rattle.hda_program.specs.declared.answer.Answer.{Answer}
use Rattle.hda_program.specs.declared.answer.Answer.TheVariants as answer
use Rattle.hda_program.specs.Text.{nothing_routed_line}

pub record Meant : Type 0 where
  pub status : Status
  pub text : List ℕ
  pub play : Option Played
  pub capture : Option Captured

-- a status and a text, with no run and no capture
abbrev pub telling : Status → List ℕ → Meant
telling status text = record { status = status; text = text; play = None; capture = None }

-- whether all was done, or why a run of the driver ended early
abbrev pub fault_status : Option PlayFault → Status
fault_status None = Done
fault_status (Some (fault.Unanswered codec command issued noticed)) = Unanswered
fault_status (Some (fault.Late from to limit)) = Late
fault_status (Some (fault.CommandsLeft sent of)) = ScheduleEnded
fault_status (Some (fault.FramesLeft written heard of)) = ScheduleEnded

-- how it ended: where the reading of its sound was cut that comes first
abbrev pub end_status : Option CutLine → Option PlayFault → Status
end_status (Some (cuts.Failed name)) end = ShelfFailed
end_status (Some (cuts.Short place)) end = WavShrank
end_status None end = fault_status end

abbrev pub status_of : Played → Status
status_of played = end_status played.cut played.fault

-- what the status of a text comes to once it was written: its own, or that of the fault
abbrev pub written_status : Result (Unit {0}) Fault → Status → Status
written_status (Ok done) status = status
written_status (Err outside.Failed) status = SinkFailed
written_status (Err outside.OutOfMemory) status = OutOfMemory

-- a run that is told by this text
abbrev pub run_meant : Played → (text : List ℕ) → Meant
run_meant played text = record { status = status_of played; text = text; play = Some played; capture = None }

-- a run, with its report for a text
abbrev pub of_run : Played → Meant
of_run played = run_meant played (text_of played)

-- a run of the inputs that are made of a number, with its line for a text
abbrev pub of_made : (number : ℕ) → Played → Meant
of_made number played = run_meant played (made_line number (number_of (status_of played)) played)

-- a capture, with its text. Its sound was read before, so that no cut comes first
abbrev pub capture_status : Captured → Status
capture_status captured = fault_status captured.fault

abbrev pub of_capture : Captured → Meant
of_capture captured = record {
  status = capture_status captured;
  text = capture_text captured;
  play = None;
  capture = Some captured;
}

-- plans of which none has a route, and a line that says so
abbrev pub unrouted : List CodecFile → List Plan → Meant
unrouted files plans = telling NothingRouted (plans_lines files plans ++ nothing_routed_line)

-- what the program's answers come to
abbrev pub message_meant : Message → Meant
message_meant message = telling message.status (string_bytes message.text)

abbrev pub answer_meant : Answer → Meant
answer_meant (answer.Message message) = message_meant message
answer_meant (answer.Run played) = of_run played
answer_meant (answer.Made number played) = of_made number played
answer_meant (answer.Captured captured) = of_capture captured
