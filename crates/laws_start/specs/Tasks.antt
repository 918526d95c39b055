-- What a driver has to do for a machine that a codec file describes. This project's own.
use Rattle.std.specs.Prelude.{ℕ, Bool, ◌==◌, List, [], ◌∷◌, ◌++◌, length, map, if◌then◌else◌}
use Rattle.std.specs.List.{AllZip}
use Rattle.verb_codes.specs.declared.verbs.Command.{Command}
use Rattle.codec_graph.specs.declared.raw.RawCodec.{RawCodec}
use Rattle.stream_format.specs.declared.format.Format.{Format}
use Rattle.route_planner.specs.declared.routes.Plan.{Plan}
use Rattle.route_setup.specs.Means.{Means, analog}
use Rattle.driver_agenda.specs.Planned.{verbs_for}
use Rattle.hda_files.specs.declared.machine.CodecFile.{CodecFile}
use Rattle.heard_lists.specs.Listings.{graphs_in}
use Rattle.hda_files.specs.declared.machine.Machine.{Machine}
use Rattle.period_writer.specs.declared.geometry.Geometry.{Geometry}
use Rattle.period_writer.specs.Writers.{WriterState}
use Rattle.period_writer.specs.Blocks.{addresses_of}
use Rattle.driver_progress.specs.Tasks.{Task, Blocks, order_of, walks_over}
use Rattle.driver_bring_up.specs.declared.bringing.BringUp.{BringUp}

-- ---- by what a setter means for a stream

-- each codec of the file has its plan, in order
abbrev pub HavePlansBy : Means → List CodecFile → List Plan → Type 0
HavePlansBy means files plans = AllZip (λ (file : CodecFile) (plan : Plan). means.IsPlanBy file.graph plan) files plans

-- the verbs of the first of some codecs that has the graph's address, by its plan
abbrev pub verbs_meant : Means → List CodecFile → List Plan → RawCodec → List Command
verbs_meant means [] plans graph = []
verbs_meant means (file ∷ files) [] graph = []
verbs_meant means (file ∷ files) (plan ∷ plans) graph =
    if file.graph.address == graph.address then means.verbs_by file.graph plan else verbs_meant means files plans graph

-- all commands: the walks over the codecs, and then the verbs of each codec by its plan
abbrev pub commands_meant : Means → List CodecFile → List Plan → List Command
commands_meant means files plans = walks_over (graphs_in files) ++ verbs_for means.verbs_by (graphs_in files) plans

-- what is to be done with these blocks: these commands, and this sound to play where it plays
abbrev pub task_meant : Means → Machine → List Plan → Geometry → (plays : Bool) → (pcm : List ℕ) → Blocks → Task
task_meant means machine plans geometry plays pcm blocks = record {
  orders = map order_of (commands_meant means machine.codecs plans);
  walks = length (walks_over (graphs_in machine.codecs));
  geometry = geometry;
  pcm = pcm;
  plays = plays;
  blocks = blocks;
}

-- ---- of analog outputs, for the stream that is played

-- the stream's tag
abbrev pub stream_tag : ℕ
stream_tag = 1

abbrev pub HavePlans : Format → List CodecFile → List Plan → Type 0
HavePlans format files plans = HavePlansBy (analog format stream_tag) files plans

abbrev pub verbs_by : Format → RawCodec → Plan → List Command
verbs_by format = (analog format stream_tag).verbs_by

abbrev pub verbs_in : Format → List CodecFile → List Plan → RawCodec → List Command
verbs_in format files plans = verbs_meant (analog format stream_tag) files plans

abbrev pub commands_of : Format → List CodecFile → List Plan → List Command
commands_of format files plans = commands_meant (analog format stream_tag) files plans

abbrev pub task_of : Format → Machine → List Plan → Geometry → (plays : Bool) → (pcm : List ℕ) → Blocks → Task
task_of format machine plans geometry plays pcm blocks =
    task_meant (analog format stream_tag) machine plans geometry plays pcm blocks

-- ---- where the blocks of a driver lie

abbrev pub blocks_of : BringUp → WriterState → Blocks
blocks_of bring_up writer = record {
  corb = bring_up.engine.corb.address;
  rirb = bring_up.engine.rirb.address;
  list = writer.list.address;
  periods = addresses_of writer.periods;
}
