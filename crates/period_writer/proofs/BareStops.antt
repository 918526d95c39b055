-- A bare stop ends the stream.
use Rattle.std.proofs.Common.{◌≡◌, ◌<◌, inr, ℕ, List, [], ◌∷◌, length, refl, sym, ap, subst, ◌∙◌, arith}
use Rattle.std.specs.Prelude.{slice_index}
use Rattle.hda_registers.specs.declared.shapes.Width.TheVariants.{One}
use Rattle.world_streams.specs.Streams.{StreamState}
use Rattle.hda_world.specs.Worlds.{World}
use Rattle.hda_world.specs.Steps.{after_steps}
use Rattle.hda_world.specs.Events.{Event, Write, happens}
use Rattle.hda_world.specs.Tellings.{Telling, Accessed, Makes, MakesBy, world_of}
use Rattle.hda_world.proofs.Callers.{beside_write, world_of-went, after-stepped}
use Rattle.period_writer.specs.declared.registers.TheConstants.{CONTROL}
use Rattle.period_writer.specs.Runs.{Tally}
use Rattle.period_writer.specs.Standing.{Ring}
use Rattle.period_writer.specs.Owning.{IsPlaying}
use Rattle.period_writer.specs.Beside.{StaysEnded}
use Rattle.period_writer.specs.Outcomes.{WasStopped}
use Rattle.period_writer.proofs.BetweenRuns.{steps_keep}
use Rattle.period_writer.proofs.RunEnds.{stops}

module _ (ring : Ring) (pcm : List ℕ) (tally : Tally) where
  pub stop_ends : (world : World) → IsPlaying ring pcm tally world → StaysEnded world (happens world (Write CONTROL One 0))
  stop_ends world playing =
      let stop = stops world playing.stands.set.out playing.stands.set.runs in
      record {
        stopped = stop.stopped;
        state = stop.state;
        carried = ap (λ (w : World). w.carried) (beside_write world 0xA0 0 One (record { control = inr (omega arith); rings = inr (omega arith) }));
      }

  stop_leaves : (world : World) → IsPlaying ring pcm tally world → WasStopped ring pcm tally (happens world (Write CONTROL One 0))
  stop_leaves world playing =
      let stop = stops world playing.stands.set.out playing.stands.set.runs in
      record {
        stopped = stop.stopped;
        no_error = stop.error ∙ playing.stands.set.no_error;
        written = playing.written;
        fetched = (λ at below under.
            let sure = playing.written.sure in
            ap (λ (state : StreamState). slice_index state.entered at) stop.state
            ∙ playing.stands.fetched at (subst (λ (state : StreamState). at < length state.entered) stop.state below) (omega (arith, under, sure)));
      }

  stop_accessed : (old new : Telling) → Accessed old new (Write CONTROL One 0) → IsPlaying ring pcm tally (world_of old) → WasStopped ring pcm tally (world_of new)
  stop_accessed old new accessed playing =
      subst (WasStopped ring pcm tally) (sym (world_of-went old new _ accessed.went ∙ after-stepped accessed.steps (Write CONTROL One 0) (world_of old)))
      (stop_leaves (after_steps accessed.steps (world_of old)) (steps_keep ring pcm tally accessed.steps (world_of old) playing))

  pub bare_stop : (old new : Telling) → Makes (Write CONTROL One 0 ∷ []) old new → IsPlaying ring pcm tally (world_of old) → WasStopped ring pcm tally (world_of new)
  bare_stop old new makes playing = by makes.by where
    by : MakesBy (Write CONTROL One 0 ∷ []) old new → WasStopped ring pcm tally (world_of new)
    by (middle, accessed, same) = subst (λ (telling : Telling). WasStopped ring pcm tally (world_of telling)) (sym same) (stop_accessed old middle accessed playing)
