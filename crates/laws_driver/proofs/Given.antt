-- The laws that a driver that plays goes by, as they are handed in.
use Rattle.std.specs.Prelude.{◌≡◌, true, ℕ, Bool, List, All, Some, map}
use Rattle.verb_codes.specs.declared.verbs.Command.{Command}
use Rattle.codec_graph.specs.declared.raw.RawCodec.{RawCodec}
use Rattle.codec_graph.specs.CodecStates.{CodecState}
use Rattle.codec_graph.specs.Settings.{Entries}
use Rattle.route_planner.specs.declared.routes.Plan.{Plan}
use Rattle.route_setup.specs.Means.{Means}
use Rattle.world_steps.specs.declared.Step.{Step}
use Rattle.hda_world.specs.Events.{Event, Stepped, Begin, End, IsNoStep}
use Rattle.hda_world.specs.Tellings.{Telling, world_of, Went, Accessed, Makes}
use Rattle.command_engine.specs.Fetchings.{Stands}
use Rattle.period_writer.specs.Runs.{Tally}
use Rattle.period_writer.specs.Standing.{Ring}
use Rattle.period_writer.specs.Writers.{WriterState, tally_of, ring_of}
use Rattle.period_writer.specs.Outcomes.{HasNotWrapped}
use Rattle.driver_progress.specs.Tasks.{Task}
use Rattle.driver_bring_up.specs.Commanding.{IsStretch}
use Rattle.driver_bring_up.specs.declared.bringing.BringUp.{BringUp}
use Rattle.laws_bring_up.specs.Standing.{IsTaskOfCodecs}
use Rattle.laws_bring_up.specs.Keeping.{KeepsToProgress}
use Rattle.laws_bring_up.proofs.Callers.{AgendaLaws, SetterLaws, Laws}
use Rattle.audio_driver.specs.States.{IsLeft, state_of}
use Rattle.audio_driver.specs.Sounding.{Begins, SoundTells, EndTells, StaysSet}
use Rattle.laws_stream.specs.Resting.{Rests, AreApartFrom}
use Rattle.laws_stream.specs.Lives.{Along, HasNotBegun, HasStopped}
use Rattle.laws_stream.specs.Sounding.{StreamSounds}
use Rattle.laws_stream.specs.Ending.{HearTheLine}
use Rattle.laws_driver.proofs.Rest.{EventsRest}
use Rattle.laws_driver.proofs.Bringing.{StretchesRest}

-- of what is heard
pub record HeardLaws : Type 0 where
  pub steps : (codecs : List CodecState) (ring : Ring) (pcm : List ℕ) (tally : Tally) (steps : List Step) (old new : Telling) → Went old new (map Stepped steps) → StreamSounds codecs ring pcm tally old → StreamSounds codecs ring pcm tally new
  pub begin : (codecs : List CodecState) (ring : Ring) (pcm : List ℕ) (tally : Tally) (old new : Telling) → Accessed old new Begin → StreamSounds codecs ring pcm tally old → StreamSounds codecs ring pcm tally new
  pub end : (codecs : List CodecState) (ring : Ring) (pcm : List ℕ) (tally : Tally) (old new : Telling) → Accessed old new End → StreamSounds codecs ring pcm tally old → StreamSounds codecs ring pcm tally new
  pub calls : (codecs : List CodecState) (pcm : List ℕ) (irq : Bool) (budget : ℕ) (old new : BringUp) (writer writer' : WriterState) (supply : List ℕ) (made : List Event) (before after : Telling) (task : Task) (found : Bool)
      → SoundTells irq budget old new writer writer' supply made before after → Makes made before after → IsStretch task (state_of old writer) (Some (record { irq = irq; budget = budget })) made found (state_of new writer')
      → StaysSet old new writer writer' → IsLeft pcm writer.course supply → HasNotWrapped (world_of after) → StreamSounds codecs (ring_of writer) pcm (tally_of writer) before → StreamSounds codecs (ring_of writer') pcm (tally_of writer') after
  pub first : (pcm : List ℕ) (irq : Bool) (budget : ℕ) (old new : BringUp) (writer writer' : WriterState) (supply : List ℕ) (made : List Event) (before after : Telling) (from read corb rirb : ℕ)
      → Begins irq budget old new writer writer' supply made before after → StaysSet old new writer writer' → supply ≡ pcm → Along HasNotBegun before.journal before.start → Rests writer.geometry.fifo (world_of before)
      → Stands from read corb rirb old.engine.rings (world_of before) → (world_of before).registers.global.corb_read_pointer ≡ (world_of before).registers.global.corb_write_pointer → AreApartFrom (ring_of writer) rirb
      → HasNotWrapped (world_of after) → StreamSounds (world_of before).codecs (ring_of writer') pcm (tally_of writer') after
  pub last : (codecs : List CodecState) (pcm : List ℕ) (old ended : BringUp) (writer : WriterState) (tally : Tally) (supply : List ℕ) (made last : List Event) (before after : Telling)
      → EndTells old ended writer tally supply made before after → Makes made before after → Went before after last → Along HasNotWrapped last (world_of before) → IsLeft pcm writer.course supply
      → StreamSounds codecs (ring_of writer) pcm (tally_of writer) before → (tally.course.started ≡ true) × HasStopped after × (All IsNoStep last → HearTheLine codecs writer.geometry.format pcm tally (world_of after).carried)
  pub over : (old new : Telling) → Accessed old new End → HasStopped old → HasStopped new × ((world_of new).carried ≡ (world_of old).carried)

pub record Given (means : Means) (verbs : RawCodec → List Command) (graphs : List RawCodec) (task : Task) : Type 0 where
  pub told : KeepsToProgress means verbs graphs task
  pub agenda : AgendaLaws means verbs graphs
  pub of : IsTaskOfCodecs means verbs graphs task
  pub setter : SetterLaws means
  pub notes : Laws
  pub events : EventsRest
  pub stretches : StretchesRest
  pub heard : HeardLaws
