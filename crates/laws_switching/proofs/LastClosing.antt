-- A last call from where the stream is over: codecs stay set up but for the speakers that are off, the stream stays
-- stopped, and pins heard the line.
use Rattle.std.proofs.Common.{◌≡◌, ◌≤◌, ℕ, Bool, true, false, List, [], ◌∷◌, ◌++◌, length, drop, map, sym, ap, subst, ◌∙◌}
use Rattle.std.specs.Prelude.{All}
use Rattle.std.proofs.lemmas.List.Elements.{All-append}
use Rattle.codec_graph.specs.declared.raw.RawCodec.{RawCodec}
use Rattle.codec_graph.specs.Cycles.{IsWellFormed}
use Rattle.codec_graph.specs.CodecStates.{CodecState}
use Rattle.stream_format.specs.declared.format.Format.{Format}
use Rattle.stream_format.specs.Words.{format_word}
use Rattle.stream_format.specs.Layouts.{layout}
use Rattle.route_planner.specs.declared.routes.Plan.{Plan}
use Rattle.world_steps.specs.declared.Step.{Step}
use Rattle.heard_frames.specs.HeardLists.{block_size}
use Rattle.hda_world.specs.Worlds.{World, TakenCommand, CarriedFrame}
use Rattle.hda_world.specs.Events.{Event, Stepped, End, IsNoStep, after}
use Rattle.hda_world.specs.Tellings.{Telling, world_of, Went, Accessed, Makes}
use Rattle.hda_world.proofs.Callers.{woven, world_of-went, went_both}
use Rattle.command_engine.specs.declared.ring_places.RingPlaces.{RingPlaces}
use Rattle.command_engine.specs.Fetchings.{Stands}
use Rattle.period_writer.specs.Runs.{Tally}
use Rattle.period_writer.specs.Standing.{Ring}
use Rattle.period_writer.specs.Beside.{LeavesStopped}
use Rattle.driver_progress.specs.Shutting.{shut_accesses}
use Rattle.driver_progress.specs.Tasks.{Task, DriverLine}
use Rattle.laws_hearing.specs.Streams.{IsStreamFrame, Streams}
use Rattle.laws_stream.specs.Lives.{Along, IsStopped, IsGoing, HasStopped}
use Rattle.laws_stream.specs.Going.{StreamGoes, is_left_open}
use Rattle.laws_stream.specs.Signalled.{HearBySignals}
use Rattle.laws_stream.proofs.Callers.{woven_all}
use Rattle.laws_speakers.specs.SwitchWords.{AreSwitching}
use Rattle.laws_switching.specs.Speakers.{is_switched}
use Rattle.laws_switching.specs.SettingUp.{StaysSetUpBut}
use Rattle.laws_switching.specs.Hearing.{HearSwitched}
use Rattle.laws_switching.specs.Turned.{outputs, HasTurned}
use Rattle.laws_switching.specs.Switching.{WasHeardSwitched}
use Rattle.laws_switching.proofs.Between.{going_runs, stopped_between}
use Rattle.laws_switching.proofs.Taken.{went_grown, Sends, AreWords, standing_words, words_more, Takes, takes_stopped, takes_stopping}
use Rattle.laws_switching.proofs.Moments.{TurnedBy, turned_went, stays_but}
use Rattle.laws_switching.proofs.Core.{switches_by, ascends}
use Rattle.laws_switching.proofs.Given.{Given}
use Rattle.laws_switching.proofs.LastShut.{IsShut, shut_takes, shut_stopped, end_all, over_along}

-- the laws of a stream that is over, as they are handed in
pub record OverLaws : Type 0 where
  pub stays : (given_up : Bool) (ring : Ring) (pcm : List ℕ) (tally : Tally) (made : List Event) (old new : Telling) → Makes made old new → All LeavesStopped made → is_left_open given_up tally.course.ran ≡ false
      → StreamGoes given_up ring pcm tally old → HasStopped new × ((world_of new).carried ≡ (world_of old).carried)
  pub ended : (old new : Telling) → Accessed old new End → HasStopped old → HasStopped new × ((world_of new).carried ≡ (world_of old).carried)
  pub heard : (format : Format) (graphs : List RawCodec) (plans : List Plan) (pcm : List ℕ) (given_up : Bool) (tally : Tally) (world : World) (turned : HasTurned format graphs plans world) → All IsWellFormed graphs
      → Streams 1 (format_word format) (block_size (layout format)) 0 world → HearBySignals given_up format pcm tally world.carried
      → HearSwitched (is_switched graphs plans) turned.start format pcm given_up tally world.commands world.carried

-- the events of the end
abbrev pub shut_events : (old made new : Telling) → Makes shut_accesses old made → Accessed made new End → List Event
shut_events old made new makes ends = (woven makes).events ++ (map Stepped ends.steps ++ End ∷ [])

pub shut_went : (old made new : Telling) (makes : Makes shut_accesses old made) (ends : Accessed made new End) → Went old new (shut_events old made new makes ends)
shut_went old made new makes ends = went_both old made new (woven makes).events (map Stepped ends.steps ++ End ∷ []) (woven makes).went ends.went

pub shut_events_all : (P : Event → Type 0) → ((step : Step) → P (Stepped step)) → P End → All P shut_accesses → (old made new : Telling) (makes : Makes shut_accesses old made) (ends : Accessed made new End) → All P (shut_events old made new makes ends)
shut_events_all P stepped end all old made new makes ends =
    All-append P (woven makes).events (map Stepped ends.steps ++ End ∷ []) (woven_all P stepped shut_accesses (woven makes).events (woven makes).woven all) (end_all P stepped end ends.steps)

module _ (format : Format) (graphs : List RawCodec) (plans : List Plan) (task : Task) (given : Given format graphs plans task) (lines : List DriverLine) (start : List CodecState) (tf : ℕ) where
  -- what is known of codecs at any moment
  pub record Switched (telling : Telling) : Type 0 where
    pub by : TurnedBy format graphs plans start tf (world_of telling)
    pub switching : AreSwitching (is_switched graphs plans) tf (world_of telling)
    pub set_up : StaysSetUpBut format 1 graphs plans task lines telling

  -- it goes on where they took commands that switch while the stream ran, or after it
  pub switched_on : (from read corb rirb : ℕ) (rings : RingPlaces) (events : List Event) (old new : Telling) → Went old new events → Stands from read corb rirb rings (world_of old)
      → AreWords (is_switched graphs plans) (drop tf (world_of new).commands) → Takes false tf (world_of new) → Switched old → Switched new
  switched_on from read corb rirb rings events old new went stands words takes was =
      let switching = switches_by format graphs plans task given lines false tf (world_of old) (world_of new) (went_grown old new events went) was.by.remembers.within was.switching words takes in record {
        by = turned_went format graphs plans start tf old new events went was.by;
        switching = switching;
        set_up = stays_but format graphs plans start tf given.set_up given.well (ascends format graphs plans task given lines start tf from read corb rirb rings (world_of old) was.by stands) given.planned
            task lines old new events went was.by switching was.set_up;
      }

  -- the engine stands before and after
  pub standing_on : (from read corb rirb : ℕ) (rings : RingPlaces) (events : List Event) (old new : Telling) → Went old new events → Stands from read corb rirb rings (world_of old) → Stands from read corb rirb rings (world_of new)
      → Sends (is_switched graphs plans) rings.outstanding → Takes false tf (world_of new) → Switched old → Switched new
  standing_on from read corb rirb rings events old new went stands stands_on sends takes was =
      switched_on from read corb rirb rings events old new went stands
      (words_more (is_switched graphs plans) tf from (world_of old) (world_of new) (went_grown old new events went) was.by.remembers.within stands.from_within
      (standing_words (is_switched graphs plans) from read corb rirb rings (world_of new) stands_on sends) was.switching.words) takes was

  -- over the end
  pub shut_on : (from read corb rirb : ℕ) (rings : RingPlaces) (old made new : Telling) → Makes shut_accesses old made → Accessed made new End → Stands from read corb rirb rings (world_of old)
      → Sends (is_switched graphs plans) rings.outstanding → Takes false tf (world_of new) → Switched old → Switched new
  shut_on from read corb rirb rings old made new makes ends stands sends takes was =
      let shut : IsShut from read corb rirb rings (world_of old) (world_of new) = shut_takes from read corb rirb rings old made new makes ends stands in
      switched_on from read corb rirb rings (shut_events old made new makes ends) old new (shut_went old made new makes ends) stands
      (subst (λ (commands : List TakenCommand). AreWords (is_switched graphs plans) (drop tf commands)) (sym shut.same)
      (words_more (is_switched graphs plans) tf from (world_of old) shut.last shut.grown was.by.remembers.within stands.from_within
      (standing_words (is_switched graphs plans) from read corb rirb rings shut.last shut.stands sends) was.switching.words)) takes was

  -- ---- whether the stream ran

  -- it ran and was stopped meanwhile
  pub stopping_takes : (events : List Event) (old new : Telling) → Went old new events → IsGoing old → HasStopped new → tf ≤ length (world_of old).commands → Takes true tf (world_of old) → Takes false tf (world_of new)
  stopping_takes events old new went going stopped within before =
      let at = stopped_between old new events went (going_runs old going) stopped in
      subst (Takes false tf) (sym (world_of-went old new events went ∙ ap (λ (events : List Event). after events (world_of old)) at.events_are))
      (takes_stopping given.took tf at.front at.back (world_of old) at.runs at.stays within before)

  -- it was over before
  pub over_takes : (events : List Event) (old new : Telling) → Went old new events → Along IsStopped events (world_of old) → tf ≤ length (world_of old).commands → Takes false tf (world_of old) → Takes false tf (world_of new)
  over_takes events old new went along within before = subst (Takes false tf) (sym (world_of-went old new events went)) (takes_stopped given.took tf events (world_of old) along within before)

  -- ---- from where it is over

  pub record IsOver (given_up : Bool) (ring : Ring) (tally : Tally) (from read corb rirb : ℕ) (rings : RingPlaces) (telling : Telling) : Type 0 where
    pub switched : Switched telling
    pub stands : Stands from read corb rirb rings (world_of telling)
    pub sends : Sends (is_switched graphs plans) rings.outstanding
    pub over : is_left_open given_up tally.course.ran ≡ false
    pub goes : StreamGoes given_up ring task.pcm tally telling

  module _ (laws : OverLaws) (given_up : Bool) (ring : Ring) (tally : Tally) (from read corb rirb : ℕ) (rings : RingPlaces) (old made new : Telling) (makes : Makes shut_accesses old made) (ends : Accessed made new End)
      (is : IsOver given_up ring tally from read corb rirb rings old) where
    along : Along IsStopped (shut_events old made new makes ends) (world_of old)
    along =
        over_along given_up tally.course.ran ring task.pcm tally (shut_events old made new makes ends) (world_of old) is.over
        (shut_events_all LeavesStopped (λ step. tt {0}) (tt {0}) shut_stopped old made new makes ends) is.goes.stream

    takes : Takes false tf (world_of new)
    takes = over_takes (shut_events old made new makes ends) old new (shut_went old made new makes ends) along is.switched.by.remembers.within is.switched.switching.during

    pub over_switched : Switched new
    over_switched = shut_on from read corb rirb rings old made new makes ends is.stands is.sends takes is.switched

    made_stopped : HasStopped made × ((world_of made).carried ≡ (world_of old).carried)
    made_stopped = laws.stays given_up ring task.pcm tally shut_accesses old made makes shut_stopped is.over is.goes

    pub over_stopped : HasStopped new
    over_stopped = (laws.ended made new ends made_stopped.0).0

    pub over_carried : (world_of new).carried ≡ (world_of old).carried
    over_carried = (laws.ended made new ends made_stopped.0).1 ∙ made_stopped.1

    -- the registers of the moment at which it was over
    abbrev heard_world : World
    heard_world = record (world_of new) { registers = (world_of old).registers }

    heard_turned : HasTurned format graphs plans heard_world
    heard_turned =
        let switched = over_switched in record {
          start = start;
          from = tf;
          remembers = switched.by.remembers;
          frames = switched.by.frames;
          switching = record { before = switched.switching.before; words = switched.switching.words; during = switched.switching.during };
          graphs_are = switched.by.graphs_are;
          settings = switched.by.settings;
          set_up = switched.by.set_up;
          routes = switched.by.routes;
        }

    heard_streams : ring.geometry.format ≡ format → Streams 1 (format_word format) (block_size (layout format)) 0 heard_world
    heard_streams is_format =
        let was : Streams 1 (format_word format) (block_size (layout format)) 0 (world_of old) =
        subst (λ (format : Format). Streams 1 (format_word format) (block_size (layout format)) 0 (world_of old)) is_format is.goes.streams in record {
          tag_is = was.tag_is;
          word_is = was.word_is;
          begun = subst (λ (carried : List CarriedFrame). 0 ≤ length carried) (sym over_carried) was.begun;
          frames = subst (λ (carried : List CarriedFrame). All (IsStreamFrame 1 (format_word format) (block_size (layout format))) (drop 0 carried)) (sym over_carried) was.frames;
        }

    over_heard : (noted : Bool) → ring.geometry.format ≡ format → HearBySignals noted ring.geometry.format task.pcm tally (world_of old).carried
        → HearSwitched (is_switched graphs plans) start format task.pcm noted tally (world_of new).commands (world_of new).carried
    unfolding heard_turned
    over_heard noted is_format hear =
        laws.heard format graphs plans task.pcm noted tally heard_world heard_turned given.well (heard_streams is_format)
        (subst (λ (carried : List CarriedFrame). HearBySignals noted format task.pcm tally carried) (sym over_carried)
        (subst (λ (format : Format). HearBySignals noted format task.pcm tally (world_of old).carried) is_format hear))

    -- and what is heard at the end
    pub over_was : (noted : Bool) (last : List Event) → ring.geometry.format ≡ format → (All IsNoStep last → HearBySignals noted ring.geometry.format task.pcm tally (world_of old).carried)
        → WasHeardSwitched (outputs format) graphs (is_switched graphs plans) format task.pcm noted tally last new
    over_was noted last is_format hear = record {
      started = is.goes.started;
      lived = over_stopped;
      codecs = start;
      set_up = is.switched.by.set_up;
      hear = λ alone. over_heard noted is_format (hear alone);
    }
