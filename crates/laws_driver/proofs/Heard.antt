-- A driver that plays or has played: steps of the device, and calls.
use Rattle.std.proofs.Common.{◌≡◌, ◌≤◌, inl, inr, ◌||◌, ◌&&◌, ◌==◌, ℕ, Bool, true, List, ◌∷◌, map, length, None, Some, sym, ap, subst, ◌∙◌}
use Rattle.verb_codes.specs.declared.verbs.Command.{Command}
use Rattle.codec_graph.specs.declared.raw.RawCodec.{RawCodec}
use Rattle.codec_graph.specs.Settings.{Entries}
use Rattle.route_planner.specs.declared.routes.Plan.{Plan}
use Rattle.route_setup.specs.Means.{Means}
use Rattle.world_steps.specs.declared.Step.{Step}
use Rattle.hda_world.specs.Events.{Event, Stepped, Begin, End}
use Rattle.hda_world.specs.Tellings.{Telling, world_of, Went, Accessed}
use Rattle.command_engine.specs.declared.ring_places.RingPlaces.{RingPlaces}
use Rattle.command_engine.specs.Polling.{found_by}
use Rattle.period_writer.specs.Outcomes.{HasNotWrapped}
use Rattle.period_writer.specs.Runs.{Tally}
use Rattle.period_writer.specs.Writers.{WriterState}
use Rattle.driver_progress.specs.Phases.{is_asking, are_set_up}
use Rattle.driver_progress.specs.States.{State}
use Rattle.driver_progress.specs.Tasks.{Task, DriverLine, walks_over}
use Rattle.driver_progress.specs.Progress.{trail_of}
use Rattle.driver_agenda.specs.declared.agenda.Agenda.{Agenda}
use Rattle.driver_bring_up.specs.declared.bringing.BringUp.{BringUp}
use Rattle.laws_bring_up.proofs.Callers.{opens, closes, rest_stays}
use Rattle.audio_driver.specs.Sounding as sounding
use Rattle.laws_driver.specs.Sounding.{Parts, state_in, ring_in, tally_in}
use Rattle.laws_driver.specs.Keeping.{IsHeard, Calls}
use Rattle.laws_driver.proofs.Given.{Given}
use Rattle.laws_driver.proofs.States.{started_set_up, plays_so, task_on, none_still}
use Rattle.laws_driver.proofs.Good.{StayGood, good_now, begin_good, end_good, steps_good}
use Rattle.laws_driver.proofs.Playing.{plays}

-- no command is outstanding after a call that plays, where none was
pub none_after : (irq : Bool) (budget : ℕ) (old new : BringUp) (writer writer' : WriterState) (supply : List ℕ) (made : List Event) (before after : Telling) → sounding.SoundTells irq budget old new writer writer' supply made before after
    → old.engine.rings.outstanding ≡ None → new.engine.rings.outstanding ≡ None
none_after irq budget old new writer writer' supply made before after (inl still) none = ap (λ (bring_up : BringUp). bring_up.engine.rings.outstanding) still.bring_up ∙ none
none_after irq budget old new writer writer' supply made before after (inr (inl begins)) none = ap (λ (bring_up : BringUp). bring_up.engine.rings.outstanding) begins.bring_up ∙ none
none_after irq budget old new writer writer' supply made before after (inr (inr goes)) none =
    ap (λ (rings : RingPlaces). rings.outstanding) goes.rings ∙ none_still old.engine.rings.outstanding (found_by old.engine.rings goes.reads) none

-- nor after the last one
pub none_ended : (old ended : BringUp) (writer : WriterState) (tally' : Tally) (supply : List ℕ) (made : List Event) (before after : Telling) → sounding.EndTells old ended writer tally' supply made before after
    → old.engine.rings.outstanding ≡ None → ended.engine.rings.outstanding ≡ None
none_ended old ended writer tally' supply made before after (inl shuts) none = ap (λ (bring_up : BringUp). bring_up.engine.rings.outstanding) shuts.bring_up ∙ none
none_ended old ended writer tally' supply made before after (inr stops) none =
    ap (λ (rings : RingPlaces). rings.outstanding) stops.rings ∙ none_still old.engine.rings.outstanding (found_by old.engine.rings stops.reads) none

module _ (means : Means) (verbs : RawCodec → List Command) (graphs : List RawCodec) (task : Task)
    (laws : Given means verbs graphs task) (lines : List DriverLine) where
  abbrev pub Heard : (left : List DriverLine) → Parts → Telling → Type 0
  Heard left parts telling = IsHeard means graphs task lines left parts telling

  pub heard_set_up : (left : List DriverLine) (parts : Parts) (telling : Telling) → Heard left parts telling → are_set_up (state_in parts).phase ≡ true
  heard_set_up left parts telling is = started_set_up parts.bring_up (tally_in parts) is.sounds.by.started

  pub heard_good : (left : List DriverLine) (parts : Parts) (telling : Telling) → Heard left parts telling → StayGood means graphs task lines telling
  heard_good left parts telling is =
      let trail = trail_of task lines telling in
      let up : are_set_up trail.state.phase ≡ true = ap (λ (state : State). are_set_up state.phase) is.rest.state_is ∙ heard_set_up left parts telling is in
      good_now means graphs task lines telling is.set_up
      (ap (λ (up : Bool). up || (is_asking trail.state.phase && (trail.within && ((trail.state.sent == length task.orders) && trail.answered)))) up) is.sounds.by.heard.steady.idle

  pub heard_steps : (left : List DriverLine) (parts : Parts) (steps : List Step) (old new : Telling) → Went old new (map Stepped steps) → Heard left parts old → Heard left parts new
  heard_steps left parts steps old new went is =
      let sounds = is.sounds in record {
        rest = rest_stays task lines left (state_in parts) steps old new went is.rest;
        set_up = (steps_good means graphs task lines steps old new went (heard_good left parts old is)).set_up;
        sounds = record {
          task_is = sounds.task_is;
          ready = sounds.ready;
          walked = sounds.walked;
          answered = sounds.answered;
          enough = sounds.enough;
          codecs = sounds.codecs;
          set_up = sounds.set_up;
          by = laws.heard.steps sounds.codecs (ring_in parts) task.pcm (tally_in parts) steps old new went sounds.by;
        };
      }

  pub heard_call : (left : List DriverLine) (line : DriverLine) (old new : Parts) (before begun made after : Telling) → Accessed before begun Begin → Calls means task.plays line.irq line.budget old new (Some begun) (Some made)
      → Accessed made after End → HasNotWrapped (world_of made) → Heard (line ∷ left) old before → Heard left new after
  heard_call left line old new before begun made after begins calls ends small is =
      let was = is.sounds in
      let call = calls.sounds (plays_so task.plays old.bring_up was.task_is.plays was.ready) in
      let stays = call.stays in
      let stretch = call.is task was.task_is in
      let opened = opens task lines (line ∷ left) (state_in old) before begun begins is.rest in
      let good = begin_good means graphs task lines before begun begins (heard_good (line ∷ left) old before is) in
      let played = plays means graphs task lines left (Some line) (state_in old) (state_in new) call.made begun made opened good was.answered (heard_set_up (line ∷ left) old before is) call.by.is call.are stretch in
      let began = laws.heard.begin was.codecs (ring_in old) task.pcm (tally_in old) before begun begins was.by in
      let by = laws.heard.calls was.codecs task.pcm line.irq line.budget old.bring_up new.bring_up old.writer new.writer old.supply call.made begun made task _ call.tells.is call.by.is stretch stays was.task_is.sound small began in record {
        rest = closes task lines left (state_in new) made after ends played.done;
        set_up = (end_good means graphs task lines made after ends played.good).set_up;
        sounds = record {
          task_is = task_on task line.irq line.budget old.bring_up new.bring_up old.writer new.writer old.supply new.supply (Some begun) (Some made) call was.task_is;
          ready = stays.phase ∙ was.ready;
          walked = ap (λ (agenda : Agenda). agenda.graphs.items) stays.agenda ∙ was.walked;
          answered = none_after line.irq line.budget old.bring_up new.bring_up old.writer new.writer old.supply call.made begun made call.tells.is was.answered;
          enough = subst (λ (sent : ℕ). length (walks_over graphs) ≤ sent) (sym stays.sent) was.enough;
          codecs = was.codecs;
          set_up = was.set_up;
          by = laws.heard.end was.codecs (ring_in new) task.pcm (tally_in new) made after ends by;
        };
      }
