-- What the pins of a machine's codecs heard of a sound. This project's own.
use Rattle.std.specs.Prelude.{◌≡◌, ◌≤◌, ◌/◌, ℕ, List, [], length, map, All}
use Rattle.std.specs.List.{flat_map, zip}
use Rattle.stream_format.specs.declared.format.Format.{Format}
use Rattle.stream_format.specs.Layouts.{layout}
use Rattle.heard_frames.specs.declared.heard.Heard.{Heard}
use Rattle.heard_frames.specs.HeardLists.{block_size, heard_as}
use Rattle.heard_lists.specs.declared.pin_list.PinHeard.{PinHeard}
use Rattle.codec_graph.specs.declared.pin_kind.PinKind.{PinKind}
use Rattle.route_planner.specs.declared.routes.Outcome.{Outcome}
use Rattle.route_planner.specs.declared.routes.Outcome.TheVariants as outcome
use Rattle.route_planner.specs.declared.routes.PinPlan.{PinPlan}
use Rattle.route_planner.specs.declared.routes.Plan.{Plan}
use Rattle.hda_files.specs.declared.machine.CodecFile.{CodecFile}
use Rattle.hda_world.specs.Worlds.{CarriedFrame}
use Rattle.hda_world.specs.Tellings.{Telling, world_of}
use Rattle.period_writer.specs.declared.course.Ran.TheVariants as ran
use Rattle.period_writer.specs.Runs.{Tally, tally_opened}
use Rattle.period_writer.specs.Lines.{line_of}
use Rattle.laws_hearing.specs.Plays.{Plays, WasSent, IsSilent, without_holes}
use Rattle.laws_stream.specs.Lives.{Along, IsStopped}

-- what link frames carried, as each candidate pin of the kind of some codecs hears it, in the order of their plans
abbrev pub heard_of : PinKind → List CarriedFrame → CodecFile → PinPlan → PinHeard
heard_of kind carried file entry = record {
  codec = file.graph.address;
  pin = entry.pin;
  list = heard_as kind file.graph.address entry.pin carried;
}

abbrev pub heard_by : PinKind → List CarriedFrame → CodecFile × Plan → List PinHeard
heard_by kind carried codec = map (heard_of kind carried codec.0) codec.1.pins

abbrev pub lists_heard : PinKind → List CarriedFrame → List CodecFile → List Plan → List PinHeard
lists_heard kind carried files plans = flat_map (heard_by kind carried) (zip files plans)

-- the list of a pin with a route: its pair of the line, by how the last run ended, and nothing else but holes. Of a
-- late run it is the line up to the last recorded reach, which is lower where that run took silence back. Once the line
-- has drained it has all blocks that end at or below where the link stood at the last run
pub record HearsItsPair (format : Format) (pcm : List ℕ) (tally : Tally) (pair : ℕ) (list : List Heard) : Type 0 where
  pub plays : Plays tally.course.ran (layout format) pair (line_of tally pcm) tally.course.sure list
  pub alone : All WasSent list
  pub all : tally.course.ran ≡ ran.Drained → tally.course.at / block_size (layout format) ≤ length (without_holes list)

-- every other pin heard nothing
abbrev pub HearsBy : Format → (pcm : List ℕ) → Tally → (pair : ℕ) → Outcome → List Heard → Type 0
HearsBy format pcm tally pair (outcome.Route route) list = HearsItsPair format pcm tally pair list
HearsBy format pcm tally pair outcome.Blocked list = All IsSilent list
HearsBy format pcm tally pair outcome.NoPath list = All IsSilent list

-- so did the candidate pins of the kind of a codec with this plan
abbrev pub HearTheirs : PinKind → Format → (pcm : List ℕ) → Tally → List CarriedFrame → CodecFile → Plan → Type 0
HearTheirs kind format pcm tally carried file plan =
    All (λ (entry : PinPlan). HearsBy format pcm tally entry.pair entry.outcome
    (heard_as kind file.graph.address entry.pin carried)) plan.pins

-- all sound was written, and the link had played the last of it
pub record HasPlayedAll (pcm : List ℕ) (tally : Tally) : Type 0 where
  pub written : tally.course.used ≡ length pcm
  pub past : tally.course.sound_end ≤ tally.course.at

-- the stream was never set going: nothing was recorded, and nothing was carried
pub record WasSilent (tally : Tally) (telling : Telling) : Type 0 where
  pub none : tally ≡ tally_opened
  pub stopped : Along IsStopped telling.journal telling.start
  pub carried : (world_of telling).carried ≡ []
