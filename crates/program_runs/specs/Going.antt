-- How calls of a driver go on over a rig, item by item. This project's own.
use Rattle.std.specs.Prelude.{◌≡◌, ◌≤◌, ◌+◌, ◌++◌, [], ◌∷◌, Bool, false, ℕ, List, length, All, Option}
use Rattle.verb_codes.specs.declared.verbs.Command.{Command}
use Rattle.codec_graph.specs.declared.raw.RawCodec.{RawCodec}
use Rattle.stream_format.specs.declared.format.Format.{Format}
use Rattle.schedule_reader.specs.declared.schedule.Item.{Item}
use Rattle.schedule_reader.specs.declared.schedule.Item.TheVariants.{Drive}
use Rattle.schedule_reader.specs.declared.schedule.DriverLine.{DriverLine as Line}
use Rattle.hda_world.specs.Events.{Event, IsNoStep}
use Rattle.hda_world.specs.Tellings.{Telling, Went}
use Rattle.driver_progress.specs.Tasks.{Task, DriverLine}
use Rattle.driver_bring_up.specs.declared.answers.TheConstants.{TAG}
use Rattle.driver_bring_up.specs.Counted.{IsCount}
use Rattle.driver_bring_up.specs.Jacks.{Counts}
use Rattle.driver_bring_up.specs.declared.bringing.BringUp.{BringUp}
use Rattle.route_setup.specs.Means.{StreamMeaning}
use Rattle.laws_bring_up.specs.Standing.{IsTaskOfCodecs}
use Rattle.hda_outside.specs.declared.pieces.Cut.{Cut}
use Rattle.wav_reader.specs.Supplies.{Source, Supplied, MayGive, EndsWith, IsTaken, sound_before}
use Rattle.period_writer.specs.Writers.{WriterState}
use Rattle.period_writer.specs.Runs.{Tally}
use Rattle.period_writer.specs.Accounts.{Accounts}
use Rattle.period_writer.specs.declared.course.Course.{Course}
use Rattle.period_writer.specs.Writers.{measures_of}
use Rattle.audio_driver.specs.States.{phase_with}
use Rattle.audio_driver.specs.declared.driver.closing.Closed.{Closed}
use Rattle.laws_driver.specs.Sounding.{Parts, tally_in}
use Rattle.laws_driver.specs.Keeping.{DriverGoesOn, DriverHasGone}
use Rattle.schedule_reader.specs.declared.schedule.Schedule.{Schedule}
use Rattle.rig.specs.Follows.{FollowItems, AreAccesses, Follows}
use Rattle.rig.specs.Rigs.{telling_of, setting_of}
use Rattle.rig.specs.declared.rig.Rig.{Rig}
use Rattle.rig.specs.Stretches.{stretch}
use Rattle.program_runs.specs.Lines.{lines_in, lines_of}
use Rattle.program_runs.specs.Events.{told_in}
use Rattle.program_runs.specs.LinkFrames.{IsShort}
use Rattle.program_runs.specs.Feeding.{Shelves, Took, IsFed}

-- a driver with its supply, of which it is not known yet what it will have given
pub record Player : Type 0 where
  pub bring_up : BringUp
  pub writer : WriterState
  pub supply : Supplied

abbrev pub parts_of : BringUp → WriterState → Supplied → Player
parts_of bring_up writer supply = record { bring_up = bring_up; writer = writer; supply = supply }

-- the parts of a driver that are told, with this sound to come
abbrev pub parts_with : BringUp → WriterState → (sound : List ℕ) → Parts
parts_with bring_up writer sound = record { bring_up = bring_up; writer = writer; supply = sound }

abbrev pub sounded : Player → (sound : List ℕ) → Parts
sounded player sound = parts_with player.bring_up player.writer sound

-- a driver with its supply over a rig, the shelf that the supply reads from, and how the reading was cut, if it was
pub record Stand : Type 0 where
  pub player : Player
  pub shelf : Shelves
  pub cut : Option Cut
  pub rig : Rig

abbrev pub stand_of : BringUp → WriterState → Supplied → Shelves → Option Cut → Rig → Stand
stand_of bring_up writer supply shelf cut rig = record {
  player = parts_of bring_up writer supply;
  shelf = shelf;
  cut = cut;
  rig = rig;
}

-- its supply is fed from a source since a first moment
abbrev pub IsFedFrom : Option Source → (first : Shelves) → Stand → Type 0
IsFedFrom source first stand =
    let player = stand.player in
    IsFed (measures_of player.writer) source first stand.shelf stand.cut player.supply player.writer.course

-- what is to be done for codecs with these graphs, with sound or without
pub record IsTask (means : StreamMeaning) (format : Format) (play : Bool) (verbs : RawCodec → List Command)
    (graphs : List RawCodec) (task : Task) : Type 0 where
  pub of_codecs : IsTaskOfCodecs (means format TAG) verbs graphs task
  pub plays_is : task.plays ≡ play

-- between two calls of a driver, with these lines left
abbrev pub UnderWay : StreamMeaning → Format → (RawCodec → List Command) → List RawCodec → Task
    → (all left : List DriverLine) → Parts → Telling → Type 0
UnderWay means format verbs graphs task all left parts telling =
    DriverGoesOn (means format TAG) verbs graphs task all left parts telling

-- for each task, a driver with these lines and others left leads on to where the others are left, while the journal is
-- short
abbrev pub LeadsOn : StreamMeaning → Format → (play : Bool)
    → (lines : List DriverLine) (old new : Parts) (before after : Telling) → Type 0
LeadsOn means format play lines old new before after =
    (verbs : RawCodec → List Command) (graphs : List RawCodec) (task : Task) (all left : List DriverLine)
    → IsTask means format play verbs graphs task → IsShort after
    → UnderWay means format verbs graphs task all (lines ++ left) old before
    → UnderWay means format verbs graphs task all left new after

-- these items were run, one after another
pub record Goes (means : StreamMeaning) (format : Format) (play : Bool) (items : List Item) (old new : Parts)
    (before after : Telling) : Type 0 where
  pub events : List Event
  pub went : Went before after events
  pub follow : FollowItems items events
  pub leads : LeadsOn means format play (lines_in items) old new before after
  -- jacks count what codecs told meanwhile
  pub counted : (first : List Event) → IsCount (told_in first) old.bring_up.jacks
      → IsCount (told_in (first ++ events)) new.bring_up.jacks
  pub format_is : new.bring_up.agenda.format ≡ old.bring_up.agenda.format
  -- of one that plays nothing nothing is recorded
  pub silent : play ≡ false → new.writer ≡ old.writer

-- a driver line was run, for which the supply was filled
pub record RanLine (means : StreamMeaning) (format : Format) (play : Bool) (line : Line) (old new : Player)
    (before after : Rig)
    : Type 0 where
  pub taken : IsTaken old.supply new.supply
  pub accounts : Accounts (measures_of old.writer) old.supply new.supply old.writer.course new.writer.course
  pub goes : (later : List ℕ) → MayGive new.supply later
      → Goes means format play (Drive line ∷ []) (sounded old (sound_before old.supply new.supply later))
      (sounded new later) (telling_of before) (telling_of after)
  pub format_is : new.bring_up.agenda.format ≡ old.bring_up.agenda.format
  pub between : (setting_of after).in_run ≡ false
  pub machine : (setting_of after).machine ≡ (setting_of before).machine
  pub kind : (setting_of after).kind ≡ (setting_of before).kind

-- so a rig went on, from between two runs to between two runs
pub record Ran (means : StreamMeaning) (format : Format) (play : Bool) (items : List Item) (old new : Stand)
    : Type 0 where
  pub gave : List ℕ
  pub took : Took gave old.shelf old.player.supply new.player.supply
  -- it went on so over each sound that the supply may yet give at the end, with what was taken before it
  pub goes : (later : List ℕ) → MayGive new.player.supply later
      → Goes means format play items (sounded old.player (gave ++ later)) (sounded new.player later)
      (telling_of old.rig) (telling_of new.rig)
  pub fed : (source : Option Source) (first : Shelves) → IsFedFrom source first old → IsFedFrom source first new
  pub told_is : (name : List ℕ) → (new.shelf name).told ≡ (old.shelf name).told
  pub format_is : new.player.bring_up.agenda.format ≡ old.player.bring_up.agenda.format
  pub between : (setting_of new.rig).in_run ≡ false
  pub machine : (setting_of new.rig).machine ≡ (setting_of old.rig).machine
  pub kind : (setting_of new.rig).kind ≡ (setting_of old.rig).kind

-- what is left of a closed driver, of which the last call left this bring-up and this tally
pub record Leaves (play : Bool) (old : Parts) (ended : BringUp) (tally : Tally) (closed : Closed) : Type 0 where
  pub phase : closed.phase ≡ phase_with ended tally
  pub sent : closed.sent ≡ ended.sent
  pub graphs : closed.graphs ≡ ended.agenda.graphs
  pub runs : closed.runs.items ≡ tally.runs
  pub silences : closed.silences.items ≡ tally.silences
  -- where nothing is played nothing is recorded
  pub silent : play ≡ false → tally ≡ tally_in old

-- the last call was made, in a run without steps
pub record IsClosed (means : StreamMeaning) (format : Format) (play : Bool) (old : Parts) (closed : Closed)
    (before after : Telling) : Type 0 where
  pub accesses : List Event
  pub are : AreAccesses accesses
  pub went : Went before after (stretch [] accesses)
  pub ended : BringUp
  pub tally : Tally
  pub over : (verbs : RawCodec → List Command) (graphs : List RawCodec) (task : Task) (all : List DriverLine)
      → IsTask means format play verbs graphs task → IsShort after
      → UnderWay means format verbs graphs task all [] old before
      → DriverHasGone (means format TAG) graphs task all ended tally (stretch [] accesses) after
  pub counted : (first : List Event) → IsCount (told_in first) old.bring_up.jacks
      → Counts (told_in (first ++ stretch [] accesses)) closed.jacks.items
  -- no less was used than before
  pub grows : old.writer.course.used ≤ tally.course.used
  pub leaves : Leaves play old ended tally closed

-- a whole schedule was run, and then the last call was made, with these events, in which the device made no step
pub record IsDriven (means : StreamMeaning) (format : Format) (play : Bool) (schedule : Schedule) (old : Parts)
    (closed : Closed) (before after : Telling) : Type 0 where
  pub events : List Event
  pub went : Went before after events
  pub follows : Follows schedule events
  pub last : List Event
  pub no_steps : All IsNoStep last
  pub ended : BringUp
  pub tally : Tally
  pub over : (verbs : RawCodec → List Command) (graphs : List RawCodec) (task : Task) (all : List DriverLine)
      → IsTask means format play verbs graphs task → IsShort after
      → UnderWay means format verbs graphs task all (lines_of schedule) old before
      → DriverHasGone (means format TAG) graphs task all ended tally last after
  pub counted : (first : List Event) → IsCount (told_in first) old.bring_up.jacks
      → Counts (told_in (first ++ events)) closed.jacks.items
  pub leaves : Leaves play old ended tally closed

-- a whole schedule was run, and then the last call was made, while so many bytes of the sound were read. The supply
-- that was left at the last call gives one more sound, or none: over each that ends with it the run is that of what was
-- taken, and of that sound
pub record HasDriven (means : StreamMeaning) (format : Format) (play : Bool) (schedule : Schedule) (old : Stand)
    (closed : Closed) (read : ℕ) (shelf : Shelves) (cut : Option Cut) (after : Telling) : Type 0 where
  pub last : Supplied
  pub course : Course
  pub gave : List ℕ
  pub took : Took gave old.shelf old.player.supply last
  pub driven : (later : List ℕ) → MayGive last later → EndsWith last later
      → IsDriven means format play schedule (sounded old.player (gave ++ later)) closed (telling_of old.rig) after
  pub grows : (later : List ℕ) (may : MayGive last later) (ends : EndsWith last later)
      → course.used ≤ (driven later may ends).tally.course.used
  pub fed : (source : Option Source) (first : Shelves) → IsFedFrom source first old
      → IsFed (measures_of old.player.writer) source first shelf cut last course
  pub read_is : read ≡ last.taken + length last.held
