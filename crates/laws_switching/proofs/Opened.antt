-- A stretch of a driver that switches begins, and ends.
use Rattle.std.proofs.Common.{◌≡◌, ◌≤◌, ℕ, false, List, [], ◌∷◌, ◌++◌, length, map, Option, Some, sym, ap, subst, ◌∙◌, append_assoc, append-nil}
use Rattle.std.specs.Prelude.{drop, slice_get}
use Rattle.std.specs.Option.{is_some}
use Rattle.codec_graph.specs.declared.raw.RawCodec.{RawCodec}
use Rattle.codec_graph.specs.CodecStates.{CodecState}
use Rattle.stream_format.specs.declared.format.Format.{Format}
use Rattle.route_planner.specs.declared.routes.Plan.{Plan}
use Rattle.world_rings.specs.declared.response.Response.{Response}
use Rattle.world_steps.specs.declared.Step.{Step}
use Rattle.hda_world.specs.Leaving.{StepsLeave}
use Rattle.hda_world.specs.Worlds.{World}
use Rattle.hda_world.specs.Events.{Event, Stepped, Begin, End, happens, after}
use Rattle.hda_world.specs.Tellings.{Telling, world_of, Went, Accessed, Makes, Grew}
use Rattle.hda_world.proofs.Callers.{steps_leave, world_of-went, grew_both, grew_access, grew_row}
use Rattle.command_engine.specs.Polling.{asked_of}
use Rattle.period_writer.specs.Runs.{Tally}
use Rattle.period_writer.specs.Writers.{tally_of, ring_of}
use Rattle.driver_progress.specs.Answers.{AnswersAgree}
use Rattle.driver_progress.specs.Tasks.{Task, DriverLine, walks_over}
use Rattle.driver_progress.specs.Progress.{Trail, trail_of}
use Rattle.driver_progress.specs.Unread.{AreAccesses}
use Rattle.driver_rules.specs.Notes.{TallyIs}
use Rattle.driver_rules.specs.Onward.{Onward, onward_of, IsOnwardOpen, IsRuleStretch}
use Rattle.driver_rules.proofs.Callers.{trail_is, rules_open, rules_row, rules_close, begins_noted, tally_goes_on}
use Rattle.laws_bring_up.proofs.Callers.{trail_access}
use Rattle.laws_stream.specs.Resting.{Rests}
use Rattle.laws_stream.specs.Lives.{Along}
use Rattle.laws_stream.proofs.Callers.{Along-end, Along-append}
use Rattle.jack_switch.specs.SwitchRules.{SwitchState, switch_rules}
use Rattle.jack_switch.specs.JackDrivers.{JackDriverState, switch_state, IsTaskOfSwitching, KeepsJackDriver}
use Rattle.laws_switching.specs.Switching.{HasNotPlayed, StreamSwitches, SwitchGoesOn}
use Rattle.laws_switching.proofs.SinceTurn.{begun_by}
use Rattle.laws_switching.proofs.BesideRules.{IsBesideRules, begin_beside, row_beside, end_beside}
use Rattle.laws_switching.proofs.Moments.{turned_by}
use Rattle.laws_switching.proofs.Core.{AreQuiet, Core, Hears, quiet_core, quiet_hears}
use Rattle.laws_switching.proofs.Given.{Given}
use Rattle.std.proofs.Common.{inl, inr}

-- ---- steps of the device and then a mark

pub mark_quiet : (steps : List Step) (mark : Event) → AreQuiet (mark ∷ []) → AreQuiet (map Stepped steps ++ mark ∷ [])
mark_quiet [] mark quiet = quiet
mark_quiet (step ∷ steps) mark quiet = (tt {0}, mark_quiet steps mark quiet)

-- more is written to RIRB
pub quiet_written : (events : List Event) (world : World) → AreQuiet events → (more : List Response) × ((after events world).written ≡ world.written ++ more)
quiet_written [] world quiet = ([], sym (append-nil world.written))
quiet_written (Stepped step ∷ events) world quiet =
    let leaves : StepsLeave world (happens world (Stepped step)) = steps_leave (step ∷ []) world in
    let rest = quiet_written events (happens world (Stepped step)) quiet.1 in
    (leaves.written.0 ++ rest.0, rest.1 ∙ ap (λ (front : List Response). front ++ rest.0) leaves.written.1 ∙ append_assoc world.written leaves.written.0 rest.0)
quiet_written (Begin ∷ events) world quiet = quiet_written events world quiet.1
quiet_written (End ∷ events) world quiet = quiet_written events world quiet.1
quiet_written (event ∷ events) world quiet = absurd quiet.0

module _ (format : Format) (graphs : List RawCodec) (plans : List Plan) (task : Task) (given : Given format graphs plans task) (lines : List DriverLine) where
  pub quiet_agree : (asked : Option ℕ) (written read : ℕ) (events : List Event) (old new : Telling) → Went old new events → AreQuiet events → AnswersAgree asked written read (world_of old).written → AnswersAgree asked written read (world_of new).written
  quiet_agree asked written read events old new went quiet agree =
      let more = quiet_written events (world_of old) quiet in
      subst (AnswersAgree asked written read) (sym (ap (λ (world : World). world.written) (world_of-went old new events went) ∙ more.1)) (given.grows asked written read (world_of old).written more.0 agree)

  -- the stream over a mark
  rests_quiet : (fifo : ℕ) (events : List Event) (world : World) → AreQuiet events → Rests fifo world → Along (Rests fifo) events world
  rests_quiet fifo [] world quiet rests = rests
  rests_quiet fifo (Stepped step ∷ events) world quiet rests = (rests, rests_quiet fifo events (happens world (Stepped step)) quiet.1 (given.rest_steps fifo (step ∷ []) world rests))
  rests_quiet fifo (Begin ∷ events) world quiet rests = (rests, rests_quiet fifo events world quiet.1 rests)
  rests_quiet fifo (End ∷ events) world quiet rests = (rests, rests_quiet fifo events world quiet.1 rests)
  rests_quiet fifo (event ∷ events) world quiet rests = absurd quiet.0

  not_played : (driver : JackDriverState) (events : List Event) (old new : Telling) → Went old new events → AreQuiet events → HasNotPlayed driver old → HasNotPlayed driver new
  not_played driver events old new went quiet has =
      let fifo = driver.writer.geometry.fifo in record {
        idle = has.idle;
        fresh = has.fresh;
        kept = has.kept;
        apart = has.apart;
        rests = subst (λ (start : World). Along (Rests fifo) new.journal start) (sym went.start)
            (subst (λ (journal : List Event). Along (Rests fifo) journal old.start) (sym went.journal)
            (Along-append (Rests fifo) old.journal events old.start has.rests (rests_quiet fifo events (world_of old) quiet (Along-end (Rests fifo) old.journal old.start has.rests))));
      }

  pub begin_stream : (driver : JackDriverState) (old new : Telling) → Accessed old new Begin → StreamSwitches task driver old → StreamSwitches task driver new
  begin_stream driver old new accessed (inl has) = inl (not_played driver (map Stepped accessed.steps ++ Begin ∷ []) old new accessed.went (mark_quiet accessed.steps Begin (tt {0}, tt {0})) has)
  begin_stream driver old new accessed (inr goes) = inr (given.stream.begin (is_some driver.given_up) (ring_of driver.writer) task.pcm (tally_of driver.writer) old new accessed goes)

  pub end_stream : (driver : JackDriverState) (old new : Telling) → Accessed old new End → StreamSwitches task driver old → StreamSwitches task driver new
  end_stream driver old new accessed (inl has) = inl (not_played driver (map Stepped accessed.steps ++ End ∷ []) old new accessed.went (mark_quiet accessed.steps End (tt {0}, tt {0})) has)
  end_stream driver old new accessed (inr goes) = inr (given.stream.end (is_some driver.given_up) (ring_of driver.writer) task.pcm (tally_of driver.writer) old new accessed goes)

  -- ---- what stays of the driver

  pub record IsOfTask (driver : JackDriverState) (supply : List ℕ) : Type 0 where
    pub task_is : IsTaskOfSwitching driver supply task
    pub walked : driver.graphs ≡ graphs
    pub planned : driver.plans ≡ plans
    pub enough : length (walks_over graphs) ≤ driver.sent

  pub of_kept : (old new : JackDriverState) (supply supply' : List ℕ) → KeepsJackDriver old new → IsOfTask old supply → IsTaskOfSwitching new supply' task → IsOfTask new supply'
  of_kept old new supply supply' keeps is task_is = record {
    task_is = task_is;
    walked = keeps.graphs ∙ is.walked;
    planned = keeps.plans ∙ is.planned;
    enough = subst (λ (sent : ℕ). length (walks_over graphs) ≤ sent) (sym keeps.sent) is.enough;
  }

  -- ---- at the beginning of a stretch

  abbrev pub tally_in : SwitchState → Tally
  tally_in state = state.tally

  abbrev pub Rulings : Telling → Onward SwitchState
  Rulings telling = onward_of (switch_rules task graphs plans) task lines telling

  -- whichever responses were written since the last submission answer the outstanding command, just those do that were not read
  abbrev pub Agrees : (driver : JackDriverState) (read : ℕ) → Telling → Type 0
  Agrees driver read telling = AnswersAgree (asked_of driver.engine.rings.outstanding) (trail_of task lines telling).written read (world_of telling).written

  pub record IsOpened (left : List DriverLine) (turn : Option DriverLine) (supply : List ℕ) (start : List CodecState) (tf : ℕ) (driver : JackDriverState) (telling : Telling) : Type 0 where
    pub opened : IsOnwardOpen (switch_rules task graphs plans) task lines left turn (Some (switch_state driver)) [] telling
    pub beside : IsBesideRules task lines driver.sent telling
    pub tallies : TallyIs tally_in (Rulings telling)
    pub of : IsOfTask driver supply
    pub from : ℕ
    pub read : ℕ
    pub core : Core format graphs plans task given lines start tf from read driver telling
    pub hears : Hears format graphs plans task given lines driver telling
    pub agree : Agrees driver read telling
    pub unanswered : (Rulings telling).answered ≡ false

  some_state : (one other : SwitchState) → Some one ≡ Some other → one ≡ other
  some_state one other is = cc

  -- ---- between two stretches

  abbrev pub On : (left : List DriverLine) (supply : List ℕ) → JackDriverState → Telling → Type 0
  On left supply driver telling = SwitchGoesOn format graphs plans task lines left supply driver telling

  pub core_of : (left : List DriverLine) (supply : List ℕ) (driver : JackDriverState) (telling : Telling) (on : On left supply driver telling) → Core format graphs plans task given lines on.turned.start on.turned.from on.engine.from on.engine.read driver telling
  core_of left supply driver telling on = record {
    by = turned_by format graphs plans (world_of telling) on.turned;
    switching = on.turned.switching;
    taken = on.taken;
    set_up = on.set_up;
    stands = on.engine.stands;
    sends = on.sends;
    stream = on.stream;
  }

  pub hears_of : (left : List DriverLine) (supply : List ℕ) (driver : JackDriverState) (telling : Telling) (on : On left supply driver telling) → Hears format graphs plans task given lines driver telling
  hears_of left supply driver telling on = record {
    begun = begun_by task lines (switch_rules task graphs plans) (switch_state driver) telling on.rest.later_is;
    decided = on.decided;
    knows = on.knows;
  }

  -- a later line's stretch, or the closing one, begins
  pub switch_opens : (left : List DriverLine) (supply : List ℕ) (driver : JackDriverState) (old new : Telling) → Accessed old new Begin → (on : On left supply driver old)
      → IsOpened (drop 1 left) (slice_get left 0) supply on.turned.start on.turned.from driver new
  switch_opens left supply driver old new begins on =
      let rules = switch_rules task graphs plans in
      let events = map Stepped begins.steps ++ Begin ∷ [] in
      let quiet = mark_quiet begins.steps Begin (tt {0}, tt {0}) in
      let same : TallyIs tally_in (Rulings old) =
      λ state is.
      (ap tally_in (some_state state (switch_state driver) (sym is ∙ on.rest.later_is)) ∙ sym on.tally_is ∙ ap (λ (trail : Trail). trail.state.tally) (sym (trail_is rules task lines old))) in
      record {
        opened = rules_open rules task lines left (switch_state driver) old new begins on.rest;
        beside = begin_beside task lines driver.sent old new begins (record { finds = on.finds; phase_is = on.phase_is; sent_is = on.sent_is });
        tallies = tally_goes_on rules tally_in task given.takes_up lines (switch_state driver) events old new begins.went on.rest.later_is same;
        of = record { task_is = on.task_is; walked = on.walked; planned = on.planned; enough = on.enough };
        from = on.engine.from;
        read = on.engine.read;
        core = quiet_core format graphs plans task given lines on.turned.start on.turned.from on.engine.from on.engine.read driver events old new begins.went quiet (core_of left supply driver old on) (begin_stream driver old new begins on.stream);
        hears = quiet_hears format graphs plans task given lines driver events old new begins.went quiet (hears_of left supply driver old on);
        agree = subst (λ (trail : Trail). AnswersAgree (asked_of driver.engine.rings.outstanding) trail.written on.engine.read (world_of new).written) (sym (trail_access task lines Begin old new begins))
            (quiet_agree (asked_of driver.engine.rings.outstanding) (trail_of task lines old).written on.engine.read events old new begins.went quiet on.engine.agree);
        unanswered = (begins_noted rules task lines old new begins).0;
      }

  -- ---- once its accesses were made

  pub record HasMade (supply : List ℕ) (start : List CodecState) (tf : ℕ) (driver : JackDriverState) (telling : Telling) : Type 0 where
    pub of : IsOfTask driver supply
    pub from : ℕ
    pub read : ℕ
    pub core : Core format graphs plans task given lines start tf from read driver telling
    pub hears : Hears format graphs plans task given lines driver telling
    pub agree : Agrees driver read telling

  -- it ends
  pub switch_ends : (left : List DriverLine) (turn : Option DriverLine) (supply supply' : List ℕ) (start : List CodecState) (tf : ℕ) (old new : JackDriverState) (events : List Event) (begun made after : Telling)
      → Makes events begun made → AreAccesses events → IsRuleStretch (switch_rules task graphs plans) (switch_state old) turn events (Rulings made).answered (switch_state new) → KeepsJackDriver old new
      → Accessed made after End → IsOpened left turn supply start tf old begun → HasMade supply' start tf new made → On left supply' new after
  switch_ends left turn supply supply' start tf old new events begun made after makes are stretch keeps ends opened has =
      let rules = switch_rules task graphs plans in
      let quiet = mark_quiet ends.steps End (tt {0}, tt {0}) in
      let marks = map Stepped ends.steps ++ End ∷ [] in
      let row = rules_row rules task lines left turn (switch_state old) [] events begun made makes are opened.opened in
      let rest = rules_close rules task lines left turn (switch_state old) (switch_state new) events made after ends stretch row in
      let beside = end_beside task lines old.sent made after given.silent ends (row_beside task lines old.sent events begun made makes are opened.beside) in
      let grew : Grew begun after = grew_both begun made after (grew_row makes) (grew_access made after End ends) in
      let tallies = tally_goes_on rules tally_in task given.takes_up lines (switch_state old) grew.events begun after grew.went opened.opened.later_is opened.tallies in
      let core = quiet_core format graphs plans task given lines start tf has.from has.read new marks made after ends.went quiet has.core (end_stream new made after ends has.core.stream) in
      let hears = quiet_hears format graphs plans task given lines new marks made after ends.went quiet has.hears in record {
        rest = rest;
        finds = beside.finds;
        phase_is = beside.phase_is;
        sent_is = beside.sent_is ∙ sym keeps.sent;
        tally_is = ap (λ (trail : Trail). trail.state.tally) (sym (trail_is rules task lines after)) ∙ sym (tallies (switch_state new) rest.later_is);
        task_is = has.of.task_is;
        walked = has.of.walked;
        planned = has.of.planned;
        enough = has.of.enough;
        set_up = core.set_up;
        turned = record {
          start = start;
          from = tf;
          remembers = core.by.remembers;
          frames = core.by.frames;
          switching = core.switching;
          graphs_are = core.by.graphs_are;
          settings = core.by.settings;
          set_up = core.by.set_up;
          routes = core.by.routes;
        };
        taken = core.taken;
        engine = record {
          from = has.from;
          read = has.read;
          stands = core.stands;
          agree = subst (λ (trail : Trail). AnswersAgree (asked_of new.engine.rings.outstanding) trail.written has.read (world_of after).written) (sym (trail_access task lines End made after ends))
              (quiet_agree (asked_of new.engine.rings.outstanding) (trail_of task lines made).written has.read marks made after ends.went quiet has.agree);
        };
        sends = core.sends;
        stream = core.stream;
        decided = hears.decided;
        knows = hears.knows;
      }
