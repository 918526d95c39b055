-- A last call of a driver that switches ends as its rules say, and pins heard the line.
use Rattle.std.proofs.Common.{◌≡◌, ◌⊎◌, inl, inr, ℕ, true, false, List, [], ◌∷◌, ◌++◌, length, drop, map, Option, None, Some, refl, sym, ap, subst, ◌∙◌}
use Rattle.std.specs.Prelude.{All}
use Rattle.std.specs.Option.{is_some}
use Rattle.std.proofs.lemmas.List.Elements.{All-cons, All-nil}
use Rattle.codec_graph.specs.declared.raw.RawCodec.{RawCodec}
use Rattle.codec_graph.specs.CodecStates.{CodecState}
use Rattle.stream_format.specs.declared.format.Format.{Format}
use Rattle.route_planner.specs.declared.routes.Plan.{Plan}
use Rattle.hda_registers.specs.declared.shapes.Width.TheVariants.{One}
use Rattle.hda_world.specs.Worlds.{World}
use Rattle.hda_world.specs.Events.{Event, Stepped, Begin, End, Write, IsNoStep}
use Rattle.hda_world.specs.Tellings.{Telling, world_of, Went, Accessed, Makes, Grew}
use Rattle.hda_world.proofs.Callers.{Weaving, woven, world_of-went, went_both, grew_both, grew_access, grew_row, events_front, events_back}
use Rattle.period_writer.specs.declared.course.Course.{Course}
use Rattle.period_writer.specs.declared.course.Ran.{Ran}
use Rattle.period_writer.specs.declared.course.Ran.TheVariants as ran
use Rattle.period_writer.specs.declared.registers.TheConstants.{CONTROL}
use Rattle.period_writer.specs.Courses.{IsCourse}
use Rattle.period_writer.specs.Owning.{IsPlaying}
use Rattle.period_writer.specs.Outcomes.{HasNotWrapped, FinishTells, FinishTellsOf}
use Rattle.period_writer.specs.Playing.{finish_accesses}
use Rattle.period_writer.specs.Runs.{RunFacts, Tally}
use Rattle.period_writer.specs.Standing.{Ring, size_of}
use Rattle.period_writer.specs.Touching.{IsOfRing}
use Rattle.period_writer.specs.Writers.{tally_of, ring_of}
use Rattle.driver_progress.specs.Tasks.{Task, DriverLine}
use Rattle.driver_bring_up.specs.declared.jacks.Jacks.{Jacks}
use Rattle.command_engine.specs.Blocks.{corb_bytes}
use Rattle.command_engine.specs.Polling.{poll_accesses}
use Rattle.audio_driver.specs.States.{was_late}
use Rattle.laws_stream.specs.Lives.{Along, stops}
use Rattle.laws_stream.specs.Going.{StreamGoes}
use Rattle.laws_stream.specs.Signalled.{HearBySignals}
use Rattle.laws_stream.proofs.Callers.{went_same, Along-end, Along-front}
use Rattle.jack_switch.specs.SwitchRules.{SwitchState}
use Rattle.jack_switch.specs.JackDrivers.{JackDriverState, IsJackDriver}
use Rattle.jack_switch.specs.JackCalls.{EndsSwitching, ShutsAlone, StopsSound, StopsAtOnce}
use Rattle.laws_switching.specs.Senses.{IsBesideSenses}
use Rattle.laws_switching.specs.Switching.{SwitchGoesOn, SwitchHasGone}
use Rattle.laws_switching.proofs.Opened.{IsOpened, switch_opens}
use Rattle.laws_switching.proofs.Given.{Given}
use Rattle.laws_switching.proofs.RunRows.{IsBesideBlocks}
use Rattle.laws_switching.proofs.LastRow.{finish_beside, finish_plain}
use Rattle.laws_switching.proofs.LastClosing.{OverLaws, shut_events, shut_went}
use Rattle.laws_switching.proofs.LastAlone.{OverHeard, alone_gone}
use Rattle.laws_switching.proofs.LastStops.{kept, playing, goes_looked, playing_looked, beside_corb, stops_gone}

-- the laws of a last call, as they are handed in
pub record LastLaws : Type 0 where
  pub over : OverLaws
  pub heard : OverHeard
  pub writes : (ring : Ring) (course : Course) (facts : RunFacts) (pcm : List ℕ) → length ring.periods ≡ ring.geometry.periods → All (IsOfRing ring) (finish_accesses ring.geometry ring.periods course facts pcm)
  pub stop : (ring : Ring) → All (IsOfRing ring) (Write CONTROL One 0 ∷ [])
  pub finish : (ring : Ring) (pcm : List ℕ) (runs : ℕ) (tally tally' : Tally) (answer : Ran) (old new : Telling) (events : List Event) → FinishTellsOf ring pcm tally answer tally' old new → answer ≡ tally'.course.ran
      → tally.course.ran ≡ ran.Playing → IsCourse (size_of ring) runs tally.course → HasNotWrapped (world_of old) → HasNotWrapped (world_of new) → Went old new events → StreamGoes false ring pcm tally old
      → StreamGoes true ring pcm tally' new × (All IsNoStep events → HearBySignals false ring.geometry.format pcm tally' (world_of new).carried)
  pub given_up : (ring : Ring) (pcm : List ℕ) (tally : Tally) (old new : Telling) → Makes (stops ∷ []) old new → tally.course.ran ≡ ran.Playing → StreamGoes false ring pcm tally old → StreamGoes true ring pcm tally new

-- what holds at every moment of a stretch holds at one of them
held_there : (Holds : World → Type 0) (before there after : Telling) (last : List Event) → Went before after last → Along Holds last (world_of before) → Grew before there → Grew there after → Holds (world_of there)
held_there Holds before there after last went along first second =
    let is = went_same before after last (first.events ++ second.events) went (went_both before there after first.events second.events first.went second.went) in
    subst Holds (sym (world_of-went before there first.events first.went))
    (Along-end Holds first.events (world_of before)
    (Along-front Holds first.events second.events (world_of before) (subst (λ (events : List Event). Along Holds events (world_of before)) is along)))

module _ (format : Format) (graphs : List RawCodec) (plans : List Plan) (task : Task) (given : Given format graphs plans task) (laws : LastLaws) (is_format : task.geometry.format ≡ format) (lines : List DriverLine) (supply : List ℕ)
    (old : JackDriverState) (ended : SwitchState) (jacks : Jacks) (last : List Event) (before begun made after : Telling) (driver : IsJackDriver old) (course : IsCourse (size_of (ring_of old.writer)) (length old.writer.runs) old.writer.course)
    (begins : Accessed before begun Begin) (call : EndsSwitching old ended jacks supply (Some begun) (Some made)) (ends : Accessed made after End) (went : Went before after last) (small : Along HasNotWrapped last (world_of before))
    (start : List CodecState) (tf : ℕ) (opened : IsOpened format graphs plans task given lines [] None supply start tf old begun) where
  abbrev Gone : Type 0
  Gone = SwitchHasGone format graphs plans task lines old.sent ended last after

  -- the stream plays, and one more run is made
  module _ (sound : StopsSound old ended supply call.made begun made) where
    abbrev sound_ring : Ring
    sound_ring = ring_of old.writer

    abbrev pcm : List ℕ
    pcm = drop old.writer.course.used task.pcm

    not_given : is_some old.given_up ≡ false
    not_given = kept format graphs plans task given lines supply start tf old ended jacks begun made after call ends opened driver sound.plays sound.on sound.reads sound.looked sound.looks

    plays : old.writer.course.ran ≡ ran.Playing
    plays = playing format graphs plans task given lines supply start tf old ended jacks begun made after call ends opened driver sound.plays sound.on sound.reads sound.looked sound.looks

    is_playing : IsPlaying sound_ring task.pcm (tally_of old.writer) (world_of sound.looked)
    is_playing = playing_looked format graphs plans task given lines supply start tf old ended jacks begun made after call ends opened driver sound.plays sound.on sound.reads sound.looked sound.looks

    beside : IsBesideBlocks sound_ring old.engine.corb.address corb_bytes
    beside = beside_corb format graphs plans task given lines supply start tf old ended jacks begun made after call ends opened driver sound.plays sound.on sound.reads sound.looked sound.looks

    goes : StreamGoes false sound_ring task.pcm (tally_of old.writer) sound.looked
    goes = goes_looked format graphs plans task given lines supply start tf old ended jacks begun made after call ends opened driver sound.plays sound.on sound.reads sound.looked sound.looks

    to_looked : Grew before sound.looked
    to_looked = grew_both before begun sound.looked (grew_access before begun Begin begins) (grew_row sound.looks.made)

    from_ran : Grew sound.ran after
    from_ran = grew_both sound.ran made after (grew_row sound.shut) (grew_access made after End ends)

    small_looked : HasNotWrapped (world_of sound.looked)
    small_looked = held_there HasNotWrapped before sound.looked after last went small to_looked (grew_both sound.looked sound.ran after (grew_row sound.run_made) from_ran)

    small_ran : HasNotWrapped (world_of sound.ran)
    small_ran = held_there HasNotWrapped before sound.ran after last went small (grew_both before sound.looked sound.ran to_looked (grew_row sound.run_made)) from_ran

    tells : FinishTellsOf sound_ring task.pcm (tally_of old.writer) ended.tally.course.ran ended.tally sound.looked sound.ran
    tells = sound.run_tells task.pcm (opened.of.task_is.sound (ap was_late plays))

    run : FinishTells sound_ring task.pcm (tally_of old.writer) ended.tally.course.ran ended.tally sound.looked sound.ran
    run = tells is_playing small_ran

    abbrev row : List Event
    row = finish_accesses sound_ring.geometry sound_ring.periods old.writer.course run.facts pcm

    events : Weaving row sound.looked sound.ran
    events = woven run.made

    polls : Weaving (poll_accesses old.engine.rirb.address old.engine.rings sound.reads) begun sound.looked
    polls = woven sound.looks.made

    finished : StreamGoes true sound_ring task.pcm ended.tally sound.ran × (All IsNoStep events.events → HearBySignals false sound_ring.geometry.format task.pcm ended.tally (world_of sound.ran).carried)
    finished =
        laws.finish sound_ring task.pcm (length old.writer.runs) (tally_of old.writer) ended.tally ended.tally.course.ran sound.looked sound.ran events.events tells refl plays course small_looked small_ran events.went goes

    -- where the device makes no step in the whole stretch it makes none in the run
    within : All IsNoStep last → All IsNoStep events.events
    within alone =
        let begin = map Stepped begins.steps ++ Begin ∷ [] in
        let shut = shut_events sound.ran made after sound.shut ends in
        let same : last ≡ begin ++ (polls.events ++ (events.events ++ shut)) =
        went_same before after last (begin ++ (polls.events ++ (events.events ++ shut))) went
        (went_both before begun after begin (polls.events ++ (events.events ++ shut)) begins.went
        (went_both begun sound.looked after polls.events (events.events ++ shut) polls.went
        (went_both sound.looked sound.ran after events.events shut events.went (shut_went sound.ran made after sound.shut ends)))) in
        events_front IsNoStep events.events shut
        (events_back IsNoStep polls.events (events.events ++ shut) (events_back IsNoStep begin (polls.events ++ (events.events ++ shut)) (subst (All IsNoStep) same alone)))

    sound_gone : Gone
    sound_gone =
        stops_gone format graphs plans task given lines supply start tf old ended jacks begun made after call ends opened driver sound.plays sound.on sound.reads sound.looked sound.looks
        row sound.ran run.made sound.shut (laws.writes sound_ring old.writer.course run.facts pcm is_playing.stands.ring_is.number)
        (finish_beside sound_ring is_playing.stands.ring_is.number old.engine.corb.address old.engine.rirb.address beside old.writer.course run.facts pcm) (finish_plain sound_ring old.writer.course run.facts pcm)
        sound.entries ended.tally finished.0 laws.over false last refl (ap (λ (given_up : Option ℕ). is_some given_up) sound.kept ∙ not_given) is_format (λ alone. finished.1 (within alone))

  -- it plays, and is given up
  module _ (once : StopsAtOnce old ended call.made begun made) where
    abbrev once_ring : Ring
    once_ring = ring_of old.writer

    over : StreamGoes true once_ring task.pcm (tally_of old.writer) once.stopped_at
    over =
        laws.given_up once_ring task.pcm (tally_of old.writer) once.looked once.stopped_at once.stopped
        (playing format graphs plans task given lines supply start tf old ended jacks begun made after call ends opened driver once.plays once.on once.reads once.looked once.looks)
        (goes_looked format graphs plans task given lines supply start tf old ended jacks begun made after call ends opened driver once.plays once.on once.reads once.looked once.looks)

    once_gone : Gone
    once_gone =
        let senses = IsBesideSenses old.engine.corb.address old.engine.rirb.address in
        stops_gone format graphs plans task given lines supply start tf old ended jacks begun made after call ends opened driver once.plays once.on once.reads once.looked once.looks
        (Write CONTROL One 0 ∷ []) once.stopped_at once.stopped once.shut (laws.stop once_ring)
        (All-cons senses (Write CONTROL One 0) [] (tt {0}) (All-nil senses)) (refl, tt {0})
        once.entries (tally_of old.writer) over laws.over true last once.tally (ap (λ (given_up : Option ℕ). is_some given_up) once.given) is_format
        (λ alone. laws.heard true once_ring task.pcm (tally_of old.writer) once.stopped_at refl over)

  gone_by : ShutsAlone old ended jacks call.made ⊎ (StopsSound old ended supply call.made begun made ⊎ StopsAtOnce old ended call.made begun made) → Gone
  gone_by (inl alone) = alone_gone format graphs plans task given lines supply start tf old ended jacks begun made after call ends opened alone laws.over laws.heard last is_format
  gone_by (inr (inl sound)) = sound_gone sound
  gone_by (inr (inr once)) = once_gone once

  pub call_gone : Gone
  call_gone = gone_by call.tells.is

module _ (format : Format) (graphs : List RawCodec) (plans : List Plan) (task : Task) (given : Given format graphs plans task) (laws : LastLaws) (is_format : task.geometry.format ≡ format) where
  pub last_gone : (lines : List DriverLine) (supply : List ℕ) (old : JackDriverState) (ended : SwitchState) (jacks : Jacks) (last : List Event) (before begun made after : Telling) → IsJackDriver old
      → IsCourse (size_of (ring_of old.writer)) (length old.writer.runs) old.writer.course → Accessed before begun Begin → EndsSwitching old ended jacks supply (Some begun) (Some made) → Accessed made after End
      → Went before after last → Along HasNotWrapped last (world_of before) → SwitchGoesOn format graphs plans task lines [] supply old before → SwitchHasGone format graphs plans task lines old.sent ended last after
  last_gone lines supply old ended jacks last before begun made after driver course begins call ends went small on =
      call_gone format graphs plans task given laws is_format lines supply old ended jacks last before begun made after driver course begins call ends went small on.turned.start on.turned.from
      (switch_opens format graphs plans task given lines [] supply old before begun begins on)
