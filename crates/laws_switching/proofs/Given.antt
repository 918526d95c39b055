-- The laws that a driver that switches goes by, as they are handed in.
use Rattle.std.proofs.Common.{◌≡◌, ℕ, Bool, false, List, ◌++◌, map, Option, Some, None, length, drop, ◌≤◌}
use Rattle.std.specs.Prelude.{All}
use Rattle.codec_graph.specs.declared.raw.RawCodec.{RawCodec}
use Rattle.codec_graph.specs.Cycles.{IsWellFormed}
use Rattle.stream_format.specs.declared.format.Format.{Format}
use Rattle.route_planner.specs.declared.routes.Plan.{Plan}
use Rattle.world_rings.specs.declared.response.Response.{Response}
use Rattle.world_steps.specs.declared.Step.{Step}
use Rattle.hda_world.specs.Events.{Event, Stepped, Begin, End, after}
use Rattle.hda_world.specs.Tellings.{Telling, world_of, Went, Accessed, Makes}
use Rattle.hda_world.specs.Worlds.{World}
use Rattle.hda_world.specs.Steps.{after_steps}
use Rattle.period_writer.specs.Runs.{Tally}
use Rattle.period_writer.specs.Standing.{Ring}
use Rattle.driver_agenda.specs.Planned.{ArePlansBy}
use Rattle.driver_progress.specs.Answers.{has_answer, AnswersAgree}
use Rattle.std.specs.Option.{is_some}
use Rattle.command_engine.specs.Belonging.{as_held}
use Rattle.driver_progress.specs.Tasks.{Task}
use Rattle.driver_rules.specs.Notes.{TakesUp}
use Rattle.jack_rules.specs.declared.pins.SpeakerPin.{SpeakerPin}
use Rattle.driver_bring_up.specs.Told.{IsBefore}
use Rattle.laws_switching.specs.Senses.{Senses, KnowsJacks, senses_after, AreDecided, IsBesideSenses}
use Rattle.jack_rules.specs.declared.pins.JackPin.{JackPin}
use Rattle.jack_rules.specs.Switching.{SwitchingState, told_all}
use Rattle.command_engine.specs.declared.ring_places.RingPlaces.{RingPlaces}
use Rattle.command_engine.specs.Entries.{responses_in, unasked_events_of, answer_among}
use Rattle.command_engine.specs.Polling.{PollReads, AreNew, poll_accesses, asked_of}
use Rattle.laws_stream.specs.Resting.{Rests, LeavesRest}
use Rattle.laws_stream.specs.Going.{StreamGoes, LeavesAlone}
use Rattle.jack_switch.specs.SwitchRules.{SwitchState, switch_rules}
use Rattle.laws_switching.specs.Turned.{outputs}
use Rattle.laws_switching.proofs.Taken.{TookLaws}
use Rattle.laws_switching.proofs.Moments.{SetUpLaw}

pub record StreamLaws : Type 0 where
  pub steps : (given_up : Bool) (ring : Ring) (pcm : List ℕ) (tally : Tally) (steps : List Step) (old new : Telling) → Went old new (map Stepped steps) → StreamGoes given_up ring pcm tally old → StreamGoes given_up ring pcm tally new
  pub begin : (given_up : Bool) (ring : Ring) (pcm : List ℕ) (tally : Tally) (old new : Telling) → Accessed old new Begin → StreamGoes given_up ring pcm tally old → StreamGoes given_up ring pcm tally new
  pub end : (given_up : Bool) (ring : Ring) (pcm : List ℕ) (tally : Tally) (old new : Telling) → Accessed old new End → StreamGoes given_up ring pcm tally old → StreamGoes given_up ring pcm tally new
  pub rows : (given_up : Bool) (ring : Ring) (pcm : List ℕ) (tally : Tally) (made : List Event) (old new : Telling) → Makes made old new → All (LeavesAlone ring) made → StreamGoes given_up ring pcm tally old → StreamGoes given_up ring pcm tally new

pub record Given (format : Format) (graphs : List RawCodec) (plans : List Plan) (task : Task) : Type 0 where
  pub well : All IsWellFormed graphs
  pub planned : ArePlansBy (outputs format).IsPlanBy graphs plans
  pub silent : task.plays ≡ false
  pub set_up : SetUpLaw
  pub took : TookLaws
  pub grows : (asked : Option ℕ) (submitted read : ℕ) (written more : List Response) → AnswersAgree asked submitted read written → AnswersAgree asked submitted read (written ++ more)
  pub stream : StreamLaws
  pub rest_steps : (fifo : ℕ) (steps : List Step) (world : World) → Rests fifo world → Rests fifo (after_steps steps world)
  pub takes_up : TakesUp (switch_rules task graphs plans) (λ (state : SwitchState). state.tally) task
  pub looks : (ring : Ring) (irq : Bool) (first : List Event) → IsBefore irq first → All (LeavesAlone ring) first
  pub rest_rows : (fifo : ℕ) (made : List Event) (old new : Telling) → Makes made old new → All LeavesRest made → Rests fifo (world_of old) → Rests fifo (world_of new)
  pub rest_events : (fifo : ℕ) (events : List Event) (world : World) → All LeavesRest events → Rests fifo world → Rests fifo (after events world)
  pub beside : (corb rirb : ℕ) (speakers : List SpeakerPin) (senses : Senses) (events : List Event) → All (IsBesideSenses corb rirb) events → (senses_after corb rirb events senses ≡ senses) × AreDecided corb rirb speakers events senses
  pub poll_alone : (ring : Ring) (rirb : ℕ) (rings : RingPlaces) (reads : PollReads) → All (LeavesAlone ring) (poll_accesses rirb rings reads)
  pub poll_senses : (corb rirb : ℕ) (speakers : List SpeakerPin) (senses : Senses) (switching : SwitchingState) (rings : RingPlaces) (reads : PollReads) → AreNew rings reads → KnowsJacks senses switching
      → ((jack : JackPin) → switching.asking ≡ Some jack → asked_of rings.outstanding ≡ Some jack.codec)
      → KnowsJacks (senses_after corb rirb (poll_accesses rirb rings reads) senses)
      (told_all switching (unasked_events_of (responses_in reads.entries)) (answer_among (asked_of rings.outstanding) (responses_in reads.entries)))
      × AreDecided corb rirb speakers (poll_accesses rirb rings reads) senses
  pub found : (asked : Option ℕ) (responses : List Response) → is_some (answer_among asked (map as_held responses)) ≡ has_answer asked responses
  pub polled : (asked : Option ℕ) (submitted read : ℕ) (written : List Response) → AnswersAgree asked submitted read written → has_answer asked (drop read written) ≡ false → AnswersAgree asked submitted (length written) written
  pub none : (submitted read : ℕ) (written : List Response) → submitted ≤ length written → read ≤ length written → AnswersAgree None submitted read written
