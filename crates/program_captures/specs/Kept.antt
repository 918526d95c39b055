-- What is kept of a capture. What private functions promise one another; this project's own.
use Rattle.std.specs.Prelude.{◌≡◌, ◌/◌, ℕ, List, length}
use Rattle.stream_format.specs.Cadence.{block_bytes}
use Rattle.route_planner.specs.declared.routes.Plan.{Plan}
use Rattle.wav_reader.specs.Written.{block_file}
use Rattle.hda_world.specs.JournalEvents.{events_of}
use Rattle.hda_world.specs.Tellings.{world_of}
use Rattle.capture_report.specs.declared.captured.Captured.{Captured}
use Rattle.rig.specs.Rigs.{telling_of, setting_of}
use Rattle.rig.specs.declared.rig.Rig.{Rig}
use Rattle.program_captures.specs.declared.closing.Driven.{Driven}
use Rattle.program_captures.specs.declared.terms.CaptureTerms.{CaptureTerms}
use Rattle.program_captures.specs.Captures.{capture_fault}

-- the machine, the marks and the journal are the rig's, all else is what is left of the driver, and the file is that of
-- its bytes
pub record IsKept (terms : CaptureTerms) (rig : Rig) (plans : List Plan) (driven : Driven) (commands : ℕ)
    (captured : Captured) : Type 0 where
  pub machine : captured.machine ≡ (setting_of rig).machine
  pub format_is : captured.format ≡ terms.geometry.format
  pub total_is : captured.total ≡ terms.frames
  pub commands_are : captured.commands ≡ commands
  pub plans_are : captured.plans ≡ plans
  pub graphs : captured.graphs ≡ driven.graphs.items
  pub runs : captured.runs ≡ driven.runs.items
  pub taken : captured.taken ≡ (world_of (telling_of rig)).came
  pub file : captured.file ≡ block_file terms.geometry.format driven.bytes.items
  pub journal : events_of captured.journal ≡ (telling_of rig).journal
  pub fault : captured.fault ≡ capture_fault driven.phase driven.sent commands
      (length driven.bytes.items / block_bytes terms.geometry.format) terms.frames
