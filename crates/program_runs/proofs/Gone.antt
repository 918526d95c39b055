-- What a driver over a machine has done that ran a whole schedule from the machine's start.
use Rattle.std.proofs.Common.{◌≡◌, ◌≤◌, ℕ, Bool, true, false, List, [], ◌++◌, refl, sym, ap, subst, ◌∙◌, Some, arith}
use Rattle.std.specs.Prelude.{All, drop}
use Rattle.codec_graph.specs.declared.raw.RawCodec.{RawCodec}
use Rattle.stream_format.specs.declared.format.Format.{Format}
use Rattle.route_planner.specs.declared.routes.Plan.{Plan}
use Rattle.hda_files.specs.declared.machine.Machine.{Machine}
use Rattle.schedule_reader.specs.declared.schedule.Schedule.{Schedule}
use Rattle.schedule_reader.specs.Schedules.{IsLimited}
use Rattle.hda_world.specs.declared.world.TheConstants.{REGION_BYTES}
use Rattle.hda_world.specs.Worlds.{World}
use Rattle.hda_world.specs.Events.{Event, IsNoStep, AreHonest}
use Rattle.hda_world.specs.Tellings.{Telling, world_of}
use Rattle.period_writer.specs.declared.geometry.Geometry.{Geometry}
use Rattle.period_writer.specs.Runs.{Tally, tally_opened}
use Rattle.period_writer.specs.Writers.{tally_of, ring_of}
use Rattle.period_writer.specs.Writers.{WriterState}
use Rattle.period_writer.specs.declared.course.Course.{Course}
use Rattle.period_writer.specs.declared.course.Run.{Run}
use Rattle.period_writer.specs.declared.course.Span.{Span}
use Rattle.audio_driver.specs.Opening.{IsOpened}
use Rattle.driver_bring_up.specs.declared.answers.TheConstants.{TAG}
use Rattle.driver_progress.specs.declared.phase.Phase.{Phase}
use Rattle.driver_progress.specs.Tasks.{Task}
use Rattle.driver_progress.specs.Progress.{trail_of, trail_opened}
use Rattle.driver_bring_up.specs.Counted.{IsCount}
use Rattle.driver_bring_up.specs.Jacks.{Counts}
use Rattle.driver_bring_up.specs.declared.bringing.BringUp.{BringUp}
use Rattle.driver_bring_up.specs.Standing.{answers_of}
use Rattle.route_setup.specs.Means.{StreamMeaning}
use Rattle.laws_bring_up.specs.Standing.{IsTaskOfCodecs, AreWalked, WalkedIn}
use Rattle.laws_stream.specs.Resting.{Rests, AreApartFrom}
use Rattle.audio_driver.specs.States.{phase_if, played_as, IsTaskOf, state_with}
use Rattle.audio_driver.specs.declared.driver.closing.Closed.{Closed}
use Rattle.laws_driver.specs.Sounding.{Parts, ring_in, tally_in}
use Rattle.laws_driver.specs.Keeping.{DriverHasGone}
use Rattle.rig.specs.Follows.{Follows}
use Rattle.rig.specs.Replays.{start_of, telling_from}
use Rattle.heard_lists.specs.Listings.{graphs_in}
use Rattle.laws_start.specs.Tasks.{verbs_meant, task_meant, blocks_of, stream_tag}
use Rattle.laws_start.specs.Starting.{BeginsAt}
use Rattle.driver_progress.specs.States.{State}
use Rattle.program_runs.specs.Lines.{lines_of}
use Rattle.program_runs.specs.Events.{told_in}
use Rattle.program_runs.specs.LinkFrames.{IsShort}
use Rattle.program_runs.specs.Going.{parts_with, IsTask, UnderWay, Leaves, IsDriven}
use Rattle.program_runs.specs.Ends.{walk_can_end}
use Rattle.program_runs.specs.FrameCounts.{written_by}
use Rattle.program_runs.proofs.Written.{used_written}
use Rattle.program_runs.proofs.LinkFrames.{follows_frames}
use Rattle.program_runs.proofs.Goes.{Keeps}
use Rattle.program_runs.proofs.Phases.{is_failed, trail_well, ended_well, ends}

pub some_same : {A : Type 0} {one other : A} → Some one ≡ Some other → one ≡ other
some_same {A} {one} {other} same = cc

-- a driver that was just opened can begin its task over a machine
pub record CanGo (means : StreamMeaning) (machine : Machine) (format : Format) (plans : List Plan) (play : Bool) (task : Task) (parts : Parts) : Type 0 where
  pub is : IsTask means format play (verbs_meant (means format stream_tag) machine.codecs plans) (graphs_in machine.codecs) task
  pub begins : BeginsAt (means format stream_tag) machine plans task parts.bring_up
  pub sound : task.plays ≡ true → IsTaskOf parts.bring_up parts.writer parts.supply task
  pub fresh : tally_in parts ≡ tally_opened
  pub apart : AreApartFrom (ring_in parts) parts.bring_up.engine.rirb.address
  pub rests : Rests parts.writer.geometry.fifo (start_of REGION_BYTES machine)
  pub format_is : parts.bring_up.agenda.format ≡ format
  pub jacks : IsCount [] parts.bring_up.jacks

-- with this journal it ran the schedule and was closed: of the last events, in which the device made no step, it is known what was heard
pub record Gone (means : StreamMeaning) (machine : Machine) (format : Format) (play : Bool) (task : Task) (schedule : Schedule) (old : Parts) (closed : Closed) (journal : List Event) : Type 0 where
  pub ended : BringUp
  pub tally : Tally
  pub last : List Event
  pub no_steps : All IsNoStep last
  pub has : DriverHasGone (means format TAG) (graphs_in machine.codecs) task (lines_of schedule) ended tally last (telling_from REGION_BYTES machine journal)
  pub leaves : Leaves play old ended tally closed
  -- the journal replays from the machine's start, and follows the schedule
  pub replays : AreHonest journal (start_of REGION_BYTES machine)
  pub follows : Follows schedule journal
  -- jacks count what was read of RIRB that came unasked
  pub jacks : Counts (told_in journal) closed.jacks.items

-- ---- from the start of a machine

abbrev tally_with : List Run → List Span → Course → Tally
tally_with runs silences course = record { runs = runs; silences = silences; course = course }

-- a driver that was just opened recorded nothing
pub opened_tally : (geometry : Geometry) (most : ℕ) (bring_up : BringUp) (writer : WriterState) → IsOpened geometry most bring_up writer → tally_of writer ≡ tally_opened
opened_tally geometry most bring_up writer opened =
    ap (λ (runs : List Run). tally_with runs writer.silences writer.course) opened.runs
    ∙ ap (λ (silences : List Span). tally_with [] silences writer.course) opened.silences
    ∙ ap (λ (course : Course). tally_with [] [] course) opened.course

-- it can begin its task
pub opened_can_go : (means : StreamMeaning) (machine : Machine) (format : Format) (plans : List Plan) (geometry : Geometry) (most : ℕ) (play plays : Bool) (pcm : List ℕ) (bring_up : BringUp) (writer : WriterState) (supply : List ℕ) → play ≡ plays
    → (plays ≡ true → supply ≡ pcm) → IsOpened geometry most bring_up writer → AreApartFrom (ring_of writer) bring_up.engine.rirb.address → geometry.fifo ≡ machine.fifo → geometry.format ≡ format
    → IsTaskOfCodecs (means format TAG) (verbs_meant (means format stream_tag) machine.codecs plans) (graphs_in machine.codecs) (task_meant (means format stream_tag) machine plans geometry plays pcm (blocks_of bring_up writer))
    → BeginsAt (means format stream_tag) machine plans (task_meant (means format stream_tag) machine plans geometry plays pcm (blocks_of bring_up writer)) bring_up → Rests machine.fifo (start_of REGION_BYTES machine)
    → CanGo means machine format plans play (task_meant (means format stream_tag) machine plans geometry plays pcm (blocks_of bring_up writer)) (parts_with bring_up writer supply)
opened_can_go means machine format plans geometry most play plays pcm bring_up writer supply same sound opened apart fifo format_is of_codecs begins rests = record {
  is = record { of_codecs = of_codecs; plays_is = sym same };
  begins = begins;
  sound = λ some. record {
    rings = record { corb = refl; rirb = refl };
    geometry = sym opened.geometry_is;
    list = refl;
    periods = refl;
    sound = λ late. (sound some ∙ ap (λ (course : Course). drop course.used pcm) (sym opened.course));
    plays = some;
  };
  fresh = opened_tally geometry most bring_up writer opened;
  apart = apart;
  rests = subst (λ (bytes : ℕ). Rests bytes (start_of REGION_BYTES machine)) (sym (ap (λ (ring : Geometry). ring.fifo) opened.geometry_is ∙ fifo)) rests;
  format_is = bring_up.formats ∙ opened.format ∙ format_is;
  jacks = opened.jacks;
}

-- no link frame was counted there, and a schedule has few
short_from : (machine : Machine) (schedule : Schedule) (journal : List Event) → Follows schedule journal → IsLimited schedule → IsShort (telling_from REGION_BYTES machine journal)
short_from machine schedule journal follows limited =
    let all = follows_frames schedule journal follows in
    let few = limited.frames in
    let none : (start_of REGION_BYTES machine).frames ≡ 0 = refl in
    omega (arith, all, few, none)

module _ (means : StreamMeaning) (keeps : (format : Format) → Keeps means format) (machine : Machine) (format : Format) (plans : List Plan) (play : Bool) (task : Task) (schedule : Schedule) (old : Parts) (closed : Closed) (before after : Telling) (journal : List Event)
    (can : CanGo means machine format plans play task old) (limited : IsLimited schedule) (at : Some before ≡ Some (telling_from REGION_BYTES machine [])) (told : journal ≡ after.journal)
    (driven : IsDriven means format play schedule old closed before after) where
  start : before ≡ telling_from REGION_BYTES machine []
  start = some_same at

  -- the whole journal is what went on since the start
  whole : driven.events ≡ journal
  whole = sym (told ∙ driven.went.journal ∙ ap (λ (telling : Telling). telling.journal ++ driven.events) start)

  told_then : after ≡ telling_from REGION_BYTES machine journal
  told_then =
      ap (λ (world : World). record { start = world; journal = after.journal }) (driven.went.start ∙ ap (λ (telling : Telling). telling.start) start)
      ∙ ap (λ (events : List Event). telling_from REGION_BYTES machine events) (sym told)

  follows : Follows schedule journal
  follows = subst (Follows schedule) whole driven.follows

  first : UnderWay means format (verbs_meant (means format stream_tag) machine.codecs plans) (graphs_in machine.codecs) task (lines_of schedule) (lines_of schedule) old (telling_from REGION_BYTES machine [])
  first =
      (keeps format (verbs_meant (means format stream_tag) machine.codecs plans) (graphs_in machine.codecs) task can.is.of_codecs).begins (lines_of schedule) old (telling_from REGION_BYTES machine []) refl can.begins.state can.begins.stands
      can.fresh can.sound can.apart can.rests

  under_way : UnderWay means format (verbs_meant (means format stream_tag) machine.codecs plans) (graphs_in machine.codecs) task (lines_of schedule) (lines_of schedule) old before
  under_way = subst (λ (telling : Telling). UnderWay means format (verbs_meant (means format stream_tag) machine.codecs plans) (graphs_in machine.codecs) task (lines_of schedule) (lines_of schedule) old telling) (sym start) first

  has_gone : DriverHasGone (means format TAG) (graphs_in machine.codecs) task (lines_of schedule) driven.ended driven.tally driven.last (telling_from REGION_BYTES machine journal)
  has_gone = subst (λ (telling : Telling). DriverHasGone (means format TAG) (graphs_in machine.codecs) task (lines_of schedule) driven.ended driven.tally driven.last telling) told_then
      (driven.over (verbs_meant (means format stream_tag) machine.codecs plans) (graphs_in machine.codecs) task (lines_of schedule) can.is
      (subst IsShort (sym told_then) (short_from machine schedule journal follows limited)) under_way)

  gone_so : Gone means machine format play task schedule old closed journal
  gone_so = record {
    ended = driven.ended;
    tally = driven.tally;
    last = driven.last;
    no_steps = driven.no_steps;
    has = has_gone;
    leaves = driven.leaves;
    replays = subst (λ (events : List Event). AreHonest events (start_of REGION_BYTES machine)) whole (subst (λ (telling : Telling). AreHonest driven.events (world_of telling)) start driven.went.honest);
    follows = follows;
    jacks = subst (λ (events : List Event). Counts (told_in events) closed.jacks.items) whole (driven.counted [] can.jacks);
  }

  -- what was used at the end was written by the recorded runs
  used_so : (used : ℕ) → used ≤ driven.tally.course.used → used ≤ written_by closed.runs.items
  used_so used most =
      let is : written_by driven.tally.runs ≡ driven.tally.course.used =
      subst (λ (state : State). written_by state.tally.runs ≡ state.tally.course.used) has_gone.state_is (used_written task (lines_of schedule) (telling_from REGION_BYTES machine journal)) in
      let runs = ap written_by driven.leaves.runs in
      omega (arith, most, is, runs)

pub gone : (means : StreamMeaning) → ((format : Format) → Keeps means format) → (machine : Machine) (format : Format) (plans : List Plan) (play : Bool) (task : Task) (schedule : Schedule) (old : Parts) (closed : Closed) (before after : Telling) (journal : List Event)
    → CanGo means machine format plans play task old → IsLimited schedule → Some before ≡ Some (telling_from REGION_BYTES machine []) → journal ≡ after.journal
    → IsDriven means old.bring_up.agenda.format play schedule old closed before after → Gone means machine format play task schedule old closed journal
gone means keeps machine format plans play task schedule old closed before after journal can limited at told drives =
    gone_so means keeps machine format plans play task schedule old closed before after journal can limited at told (subst (λ (f : Format). IsDriven means f play schedule old closed before after) can.format_is drives)

-- what is told at the end
pub told_at_end : (means : StreamMeaning) → ((format : Format) → Keeps means format) → (machine : Machine) (format : Format) (plans : List Plan) (play : Bool) (task : Task) (schedule : Schedule) (old : Parts) (closed : Closed) (before after : Telling) (journal : List Event)
    → CanGo means machine format plans play task old → IsLimited schedule → Some before ≡ Some (telling_from REGION_BYTES machine []) → journal ≡ after.journal
    → IsDriven means old.bring_up.agenda.format play schedule old closed before after → after ≡ telling_from REGION_BYTES machine journal
told_at_end means keeps machine format plans play task schedule old closed before after journal can limited at told drives =
    told_then means keeps machine format plans play task schedule old closed before after journal can limited at told (subst (λ (f : Format). IsDriven means f play schedule old closed before after) can.format_is drives)

-- what was used at the last call was written by the recorded runs
pub used_in_runs : (means : StreamMeaning) → ((format : Format) → Keeps means format) → (machine : Machine) (format : Format) (plans : List Plan) (play : Bool) (task : Task) (schedule : Schedule) (old : Parts) (closed : Closed) (before after : Telling) (journal : List Event)
    → CanGo means machine format plans play task old → IsLimited schedule → Some before ≡ Some (telling_from REGION_BYTES machine []) → journal ≡ after.journal
    → (drives : IsDriven means old.bring_up.agenda.format play schedule old closed before after) → (used : ℕ) → used ≤ drives.tally.course.used → used ≤ written_by closed.runs.items
used_in_runs means keeps machine format plans play task schedule old closed before after journal can limited at told =
    subst (λ (f : Format). (drives : IsDriven means f play schedule old closed before after) → (used : ℕ) → used ≤ drives.tally.course.used → used ≤ written_by closed.runs.items) (sym can.format_is)
    (used_so means keeps machine format plans play task schedule old closed before after journal can limited at told)

-- ---- in which phase it ends

failed_if : (started : Bool) (phase : Phase) (tally : Tally) → started ≡ false → is_failed (phase_if started phase tally.course.ran) ≡ false → is_failed phase ≡ false
failed_if true phase tally none well = cc
failed_if false phase tally none well = well

module _ (means : StreamMeaning) (machine : Machine) (format : Format) (play : Bool) (task : Task) (schedule : Schedule) (old : Parts) (closed : Closed) (journal : List Event) (gone : Gone means machine format play task schedule old closed journal) where
  -- the phase that is left is that of the state to which the journal leads
  pub phase_left : closed.phase ≡ (state_with gone.ended gone.tally).phase
  phase_left = gone.leaves.phase

  -- where nothing was played it is the bring-up's
  pub unplayed_phase : gone.tally.course.started ≡ false → closed.phase ≡ gone.ended.phase
  unplayed_phase none = gone.leaves.phase ∙ ap (λ (started : Bool). phase_if started gone.ended.phase gone.tally.course.ran) none

  -- else it tells how the last run ended
  pub played_phase : gone.tally.course.started ≡ true → closed.phase ≡ played_as gone.tally.course.ran
  played_phase some = gone.leaves.phase ∙ ap (λ (started : Bool). phase_if started gone.ended.phase gone.tally.course.ran) some

  -- the bring-up then is in a phase in which walks can end
  pub unplayed_ends : gone.tally.course.started ≡ false → walk_can_end closed.phase ≡ true
  unplayed_ends none =
      let telling = telling_from REGION_BYTES machine journal in
      let trail = trail_of task (lines_of schedule) telling in
      let well = ended_well trail.within task trail (trail_well task telling.journal telling.start (trail_opened (lines_of schedule)) refl) in
      let left : is_failed (state_with gone.ended gone.tally).phase ≡ false = ap (λ state. is_failed state.phase) (sym gone.has.state_is) ∙ well in
      let own = failed_if gone.tally.course.started gone.ended.phase gone.tally none left in
      ap walk_can_end (unplayed_phase none) ∙ ends gone.ended.phase (gone.ended.agenda.graphs.items ≡ graphs_in machine.codecs) own gone.has.ended_is.by_phase

  -- ---- which graphs were walked

  pub graphs_walked : AreWalked (graphs_in machine.codecs) closed.graphs.items task.walks gone.ended.sent (answers_of gone.ended.sent gone.ended.engine.rings.outstanding)
  graphs_walked =
      subst (λ (walked : List RawCodec). AreWalked (graphs_in machine.codecs) walked task.walks gone.ended.sent (answers_of gone.ended.sent gone.ended.engine.rings.outstanding)) (sym (ap (λ graphs. graphs.items) gone.leaves.graphs))
      gone.has.ended_is.walked

  -- by the phase of the bring-up, all of them
  pub graphs_by_phase : WalkedIn gone.ended.phase (closed.graphs.items ≡ graphs_in machine.codecs)
  graphs_by_phase =
      subst (λ (walked : List RawCodec). WalkedIn gone.ended.phase (walked ≡ graphs_in machine.codecs)) (sym (ap (λ graphs. graphs.items) gone.leaves.graphs)) gone.has.ended_is.by_phase
