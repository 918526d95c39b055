-- Sounds are played through the output pins of a kind: the plans of a machine's codecs, and the commands that set the
-- codecs up. This project's own.
use Rattle.std.specs.Prelude.{ℕ, Bool, List}
use Rattle.verb_codes.specs.declared.verbs.Command.{Command}
use Rattle.codec_graph.specs.declared.raw.RawCodec.{RawCodec}
use Rattle.stream_format.specs.declared.format.Format.{Format}
use Rattle.codec_graph.specs.declared.pin_kind.PinKind.{PinKind}
use Rattle.route_planner.specs.declared.routes.Plan.{Plan}
use Rattle.digital_out.specs.Means.{outputs}
use Rattle.hda_files.specs.declared.machine.CodecFile.{CodecFile}
use Rattle.hda_files.specs.declared.machine.Machine.{Machine}
use Rattle.period_writer.specs.declared.geometry.Geometry.{Geometry}
use Rattle.driver_progress.specs.Tasks.{Task, Blocks}
use Rattle.laws_start.specs.Tasks.{HavePlansBy, commands_meant, verbs_meant, task_meant, stream_tag}

-- each codec of the file has the plan of its pins of the kind, in order
abbrev pub HavePlansOf : PinKind → Format → List CodecFile → List Plan → Type 0
HavePlansOf kind format files plans = HavePlansBy (outputs kind format stream_tag) files plans

-- the verbs of a codec by its plan, of one of some codecs, and all commands
abbrev pub verbs_by_as : PinKind → Format → RawCodec → Plan → List Command
verbs_by_as kind format = (outputs kind format stream_tag).verbs_by

abbrev pub verbs_in_as : PinKind → Format → List CodecFile → List Plan → RawCodec → List Command
verbs_in_as kind format files plans = verbs_meant (outputs kind format stream_tag) files plans

abbrev pub commands_as : PinKind → Format → List CodecFile → List Plan → List Command
commands_as kind format files plans = commands_meant (outputs kind format stream_tag) files plans

-- what is to be done with these blocks
abbrev pub task_as : PinKind → Format → Machine → List Plan → Geometry → (plays : Bool) → (pcm : List ℕ) → Blocks → Task
task_as kind format machine plans geometry plays pcm blocks =
    task_meant (outputs kind format stream_tag) machine plans geometry plays pcm blocks
