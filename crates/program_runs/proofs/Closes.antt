-- That the last call ends a run over a schedule.
use Rattle.std.proofs.Common.{◌+◌, ◌≡◌, ℕ, Bool, true, false, List, [], ◌∷◌, ◌++◌, length, refl, sym, ap, subst, ◌∙◌, Some, append-nil, append_assoc}
use Rattle.std.specs.Prelude.{All, drop}
use Rattle.std.proofs.Math.Seq.{drop-nil}
use Rattle.std.proofs.lemmas.List.Elements.{All-nil, All-cons, All-head, All-tail, All-append}
use Rattle.stream_format.specs.declared.format.Format.{Format}
use Rattle.hda_world.specs.Events.{Event, Stepped, Begin, End, Read, Write, DmaRead, DmaWrite, IsNoStep}
use Rattle.hda_world.specs.Tellings.{Telling, Went, Accessed, MakesBy}
use Rattle.command_engine.specs.declared.answers.Event as told
use Rattle.command_engine.specs.Entries.{responses_in, unasked_events_of}
use Rattle.driver_bring_up.specs.declared.answers.TheConstants.{TAG}
use Rattle.driver_bring_up.specs.Commanding.{entries_in, with_told}
use Rattle.schedule_reader.specs.declared.schedule.Schedule.{Schedule}
use Rattle.schedule_reader.specs.Counts.{items_of}
use Rattle.schedule_reader.specs.declared.schedule.Group.{Group}
use Rattle.driver_progress.specs.Tasks.{DriverLine}
use Rattle.hda_world.proofs.Callers.{went_both}
use Rattle.driver_bring_up.specs.Counted.{IsCount}
use Rattle.driver_bring_up.specs.Jacks.{IsOfPin, Counts}
use Rattle.driver_bring_up.specs.declared.bringing.BringUp.{BringUp}
use Rattle.route_setup.specs.Means.{StreamMeaning}
use Rattle.period_writer.specs.declared.geometry.Geometry.{Geometry}
use Rattle.period_writer.specs.Writers.{WriterState}
use Rattle.period_writer.specs.Runs.{measures}
use Rattle.period_writer.specs.Writers.{tally_of}
use Rattle.audio_driver.specs.States.{plays_now}
use Rattle.audio_driver.specs.declared.driver.closing.Closed.{Closed}
use Rattle.audio_driver.specs.Closing as of_driver
use Rattle.rig.specs.Follows.{AreAccesses}
use Rattle.rig.specs.Stretches.{IsStretchFrom, is_access, accesses_of, all_steps_in, woven, stretch}
use Rattle.laws_driver.specs.Sounding.{Parts}
use Rattle.laws_driver.specs.Keeping.{Closes}
use Rattle.program_runs.specs.Events.{told_in}
use Rattle.program_runs.specs.Lines.{lines_of}
use Rattle.rig.specs.declared.rig.Rig.{Rig}
use Rattle.rig.specs.Rigs.{telling_of}
use Rattle.wav_reader.specs.Supplies.{MayGive, EndsWith}
use Rattle.program_runs.specs.Feeding.{IsFed}
use Rattle.program_runs.specs.Going.{Stand, sounded, UnderWay, Goes, Ran, IsClosed, IsDriven, HasDriven}
use Rattle.program_runs.proofs.Events.{Run, run_of, counted_on}
use Rattle.program_runs.proofs.LinkFrames.{short_before, never_wrapped}
use Rattle.program_runs.proofs.Goes.{Keeps}

-- what the rig's law says of a run without steps
abbrev pub IsWithoutSteps : Type 0
IsWithoutSteps = (old more : List Event) → IsStretchFrom (length old) [] (old ++ more) → more ≡ stretch [] (accesses_of more)

abbrev pub TakesAccesses : Type 0
TakesAccesses = (events : List Event) → AreAccesses (accesses_of events)

-- what codecs tell is of pins
abbrev pub AreOfPins : Type 0
AreOfPins = (entries : List (List ℕ)) → All IsOfPin (unasked_events_of (responses_in entries))

-- ---- in a run without steps the device makes none

access_no_step : (event : Event) → is_access event ≡ true → IsNoStep event
access_no_step (Stepped step) is = cc
access_no_step Begin is = tt
access_no_step End is = tt
access_no_step (Read at width value) is = tt
access_no_step (Write at width value) is = tt
access_no_step (DmaRead at bytes) is = tt
access_no_step (DmaWrite at bytes) is = tt

woven_no_steps : (accesses : List Event) → AreAccesses accesses → All IsNoStep (woven [] accesses)
woven_no_steps [] are = All-nil IsNoStep
woven_no_steps (access ∷ accesses) are =
    All-cons IsNoStep access (woven [] accesses) (access_no_step access (All-head (λ (event : Event). is_access event ≡ true) access accesses are))
    (woven_no_steps accesses (All-tail (λ (event : Event). is_access event ≡ true) access accesses are))

pub stretch_no_steps : (accesses : List Event) → AreAccesses accesses → All IsNoStep (stretch [] accesses)
stretch_no_steps accesses are =
    All-cons IsNoStep Begin (woven [] accesses ++ (all_steps_in (drop (length accesses) []) ++ End ∷ [])) tt
    (All-append IsNoStep (woven [] accesses) (all_steps_in (drop (length accesses) []) ++ End ∷ []) (woven_no_steps accesses are)
    (subst (λ (left : List Group). All IsNoStep (all_steps_in left ++ End ∷ [])) (sym (drop-nil (length accesses))) (All-cons IsNoStep End [] tt (All-nil IsNoStep))))

-- ---- the last call

-- its accesses, and what it counted of what it read
record Made (old ended : BringUp) (before after : Telling) : Type 0 where
  pub made : List Event
  pub by : MakesBy made before after
  pub counted : (told : List told.Event) → IsCount told old.jacks → IsCount (with_told told (entries_in made)) ended.jacks

module _ (means : StreamMeaning) (format : Format) (play : Bool) where
  made_by : (old : Parts) (closed : Closed) (before after : Telling) → (closes : of_driver.Closes (means format TAG) play old.bring_up old.writer old.supply closed (Some before) (Some after))
      → Made old.bring_up closes.ended before after
  made_by old closed before after closes = by (plays_now play old.bring_up) refl where
    by : (now : Bool) → plays_now play old.bring_up ≡ now → Made old.bring_up closes.ended before after
    by false is = (let ends = closes.ends is in record { made = ends.made; by = ends.by.is.by; counted = ends.reads.counted })
    by true is = (let sounds = closes.sounds is in record { made = sounds.made; by = sounds.by.is.by; counted = sounds.counted })

  pub run_closes : Keeps means format → IsWithoutSteps → TakesAccesses → AreOfPins → (old : Parts) (closed : Closed) (before begun made after : Telling)
      → Accessed before begun Begin → of_driver.Closes (means format TAG) play old.bring_up old.writer old.supply closed (Some begun) (Some made) → Accessed made after End
      → IsStretchFrom (length before.journal) [] after.journal → IsClosed means format play old closed before after
  run_closes keeps without accesses of_pins old closed before begun made after opened closes ended stretched = record {
    accesses = accesses_of run.events;
    are = accesses run.events;
    went = went;
    ended = closes.ended;
    tally = closes.tally;
    over = λ verbs graphs task all is short under_way.
        ((keeps verbs graphs task is.of_codecs).ends all old closes.ended closes.tally (stretch [] (accesses_of run.events)) before begun made after opened
        (subst (λ (plays : Bool). Closes (means format TAG) plays old closes.ended closes.tally (Some begun) (Some made)) (sym is.plays_is) last) ended went
        (never_wrapped before after (stretch [] (accesses_of run.events)) went short) under_way);
    counted = λ first count.
        (closes.jacks (told_in (first ++ stretch [] (accesses_of run.events)))
        (counted_on old.bring_up.jacks closes.ended.jacks call.made (stretch [] (accesses_of run.events)) (ap entries_in (sym laid) ∙ run.entries) first call.counted count)
        (of_pins (entries_in (first ++ stretch [] (accesses_of run.events)))));
    grows = closes.grows;
    leaves = record {
      phase = closes.phase;
      sent = closes.sent;
      graphs = closes.graphs;
      runs = closes.runs;
      silences = closes.silences;
      silent = λ none. closes.recorded (ap (λ (plays : Bool). plays_now plays old.bring_up) none);
    };
  } where
    call : Made old.bring_up closes.ended begun made
    call = made_by old closed begun made closes

    last : Closes (means format TAG) play old closes.ended closes.tally (Some begun) (Some made)
    last = record { ends = closes.ends; recorded = closes.recorded; sounds = closes.sounds }

    run : Run call.made before after
    run = run_of call.made before begun made after opened call.by ended

    laid : run.events ≡ stretch [] (accesses_of run.events)
    laid = without before.journal run.events (subst (λ (journal : List Event). IsStretchFrom (length before.journal) [] journal) run.went.journal stretched)

    went : Went before after (stretch [] (accesses_of run.events))
    went = subst (Went before after) laid run.went

  -- a schedule's items and then the last call, where the ring stayed
  pub both_drive : (schedule : Schedule) (old middle : Parts) (closed : Closed) (before between after : Telling) → middle.writer.geometry ≡ old.writer.geometry → Goes means format play (items_of schedule) old middle before between
      → IsClosed means format play middle closed between after → IsDriven means format play schedule old closed before after
  both_drive schedule old middle closed before between after ring goes closes = record {
    events = goes.events ++ stretch [] closes.accesses;
    went = went_both before between after goes.events (stretch [] closes.accesses) goes.went closes.went;
    follows = record { followed = goes.events; closing = closes.accesses; items = goes.follow; accesses = closes.are; laid = refl };
    last = stretch [] closes.accesses;
    no_steps = stretch_no_steps closes.accesses closes.are;
    ended = closes.ended;
    tally = closes.tally;
    over = λ verbs graphs task all is short under_way.
        (closes.over verbs graphs task all is short (goes.leads verbs graphs task all [] is (short_before between after (stretch [] closes.accesses) closes.went short)
        (subst (λ (lines : List DriverLine). UnderWay means format verbs graphs task all lines old before) (sym (append-nil (lines_of schedule))) under_way)));
    counted = λ first count.
        (subst (λ (events : List Event). Counts (told_in events) closed.jacks.items) (append_assoc first goes.events (stretch [] closes.accesses))
        (closes.counted (first ++ goes.events) (goes.counted first count)));
    leaves = record {
      phase = closes.leaves.phase;
      sent = closes.leaves.sent;
      graphs = closes.leaves.graphs;
      runs = closes.leaves.runs;
      silences = closes.leaves.silences;
      silent = λ none. (closes.leaves.silent none ∙ ap (λ (writer : WriterState). tally_of writer) (goes.silent none));
    };
  }

-- so for a rig, where what the setter means, the format, whether it plays and the ring stayed, while so many bytes of the sound were read
pub driven_by : (means means' : StreamMeaning) (format : Format) (play play' : Bool) (schedule : Schedule) (old middle : Stand) (closed : Closed) (read : ℕ) (after : Rig)
    → means' ≡ means → format ≡ old.player.bring_up.agenda.format → play' ≡ play → middle.player.writer.geometry ≡ old.player.writer.geometry → read ≡ middle.player.supply.taken + length middle.player.supply.held
    → Ran means format play (items_of schedule) old middle
    → ((sound : List ℕ) → MayGive middle.player.supply sound → EndsWith middle.player.supply sound → IsClosed means' middle.player.bring_up.agenda.format play' (sounded middle.player sound) closed (telling_of middle.rig) (telling_of after))
    → HasDriven means format play schedule old closed read middle.shelf middle.cut (telling_of after)
unfolding both_drive
driven_by means means' format play play' schedule old middle closed read after same is plays ring read_is ran closes = record {
  last = middle.player.supply;
  course = middle.player.writer.course;
  gave = ran.gave;
  took = ran.took;
  driven = λ later may ends. both_drive means format play schedule (sounded old.player (ran.gave ++ later)) (sounded middle.player later) closed (telling_of old.rig) (telling_of middle.rig) (telling_of after) ring (ran.goes later may) (by later may ends);
  grows = λ later may ends. (by later may ends).grows;
  fed = λ source first fed. subst (λ (geometry : Geometry). IsFed (measures geometry) source first middle.shelf middle.cut middle.player.supply middle.player.writer.course) ring (ran.fed source first fed);
  read_is = read_is;
} where
  by : (sound : List ℕ) → MayGive middle.player.supply sound → EndsWith middle.player.supply sound → IsClosed means format play (sounded middle.player sound) closed (telling_of middle.rig) (telling_of after)
  by sound may ends =
      subst (λ (m : StreamMeaning). IsClosed m format play (sounded middle.player sound) closed (telling_of middle.rig) (telling_of after)) same
      (subst (λ (f : Format). IsClosed means' f play (sounded middle.player sound) closed (telling_of middle.rig) (telling_of after)) (ran.format_is ∙ sym is)
      (subst (λ (p : Bool). IsClosed means' middle.player.bring_up.agenda.format p (sounded middle.player sound) closed (telling_of middle.rig) (telling_of after)) plays (closes sound may ends)))
