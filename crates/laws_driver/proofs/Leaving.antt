-- What a driver leaves that is taken apart once its codecs are set up.
use Rattle.std.proofs.Common.{◌≡◌, inl, inr, List, sym, ap, ◌∙◌}
use Rattle.std.proofs.lemmas.Bool.{false≢true}
use Rattle.verb_codes.specs.declared.verbs.Command.{Command}
use Rattle.codec_graph.specs.declared.raw.RawCodec.{RawCodec}
use Rattle.route_setup.specs.Means.{Means}
use Rattle.hda_world.specs.Tellings.{Telling, world_of}
use Rattle.period_writer.specs.Runs.{Tally, tally_opened}
use Rattle.driver_progress.specs.declared.phase.Phase.TheVariants.{Ready}
use Rattle.driver_progress.specs.States.{State}
use Rattle.driver_progress.specs.Tasks.{Task, DriverLine}
use Rattle.driver_progress.specs.Progress.{trail_of}
use Rattle.laws_bring_up.specs.Standing.{IsTaskOfCodecs}
use Rattle.laws_bring_up.proofs.Callers.{AgendaLaws, SetterLaws}
use Rattle.laws_stream.specs.Resting.{Rests}
use Rattle.laws_stream.proofs.Callers.{Along-end}
use Rattle.laws_driver.specs.Sounding.{Parts, tally_in}
use Rattle.laws_driver.specs.Keeping.{IsSilent, DriverGoesOn}
use Rattle.laws_driver.specs.Leaving.{IsLeftStanding, IsLeftReady}
use Rattle.laws_driver.proofs.Ready.{ready_stands}

module _ (means : Means) (verbs : RawCodec → List Command) (graphs : List RawCodec) (task : Task)
    (laws : AgendaLaws means verbs graphs) (of : IsTaskOfCodecs means verbs graphs task) (setter : SetterLaws means)
    (lines left : List DriverLine) (parts : Parts) (telling : Telling) where
  silent_stands : parts.bring_up.phase ≡ Ready → IsSilent means verbs graphs task lines left parts telling → IsLeftStanding means graphs parts (world_of telling)
  silent_stands was is =
      let ready = ready_stands means verbs graphs task laws of setter (trail_of task lines telling).written parts.bring_up (world_of telling) was is.under_way.stands in record {
        from = ready.from;
        read = ready.read;
        stands = ready.stands;
        answered = ready.answered;
        out = ready.stands.has_rings.out;
        rests = Along-end (Rests parts.writer.geometry.fifo) telling.journal telling.start is.silent.rests;
        apart = is.silent.apart;
        graphs_are = is.under_way.stands.graphs_are;
        walked = ready.walked;
        enough = ready.enough;
        good = ready.good;
      }

  silent_ready : parts.bring_up.phase ≡ Ready → IsSilent means verbs graphs task lines left parts telling → IsLeftReady task lines parts telling
  silent_ready was is =
      let state_is = is.under_way.rest.state_is in record {
        phase = ap (λ (state : State). state.phase) state_is ∙ was;
        sent = ap (λ (state : State). state.sent) state_is;
        rings = ap (λ (state : State). state.rings) state_is;
      }

  pub left_standing : parts.bring_up.phase ≡ Ready → tally_in parts ≡ tally_opened → DriverGoesOn means verbs graphs task lines left parts telling
      → IsLeftStanding means graphs parts (world_of telling) × IsLeftReady task lines parts telling
  left_standing was fresh (inl is) = (silent_stands was is, silent_ready was is)
  left_standing was fresh (inr heard) = absurd (false≢true (ap (λ (tally : Tally). tally.course.started) (sym fresh) ∙ heard.sounds.by.started))
