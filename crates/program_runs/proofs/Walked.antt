-- What comes of a walk.
use Rattle.std.proofs.Common.{◌≡◌, ℕ, Bool, true, false, List, sym, ap, subst, ◌∙◌}
use Rattle.codec_graph.specs.declared.raw.RawCodec.{RawCodec}
use Rattle.hda_files.specs.declared.machine.Machine.{Machine}
use Rattle.schedule_reader.specs.declared.schedule.Schedule.{Schedule}
use Rattle.hda_world.specs.declared.world.TheConstants.{REGION_BYTES}
use Rattle.hda_world.specs.Events.{Event}
use Rattle.sound_report.specs.declared.played.Played.{Played}
use Rattle.period_writer.specs.Runs.{Tally, tally_opened}
use Rattle.driver_progress.specs.declared.phase.Phase.{Phase}
use Rattle.driver_progress.specs.Tasks.{Task}
use Rattle.driver_progress.specs.States.{State}
use Rattle.hda_world.specs.Tellings.{Telling}
use Rattle.driver_bring_up.specs.Standing.{answers_of}
use Rattle.laws_bring_up.specs.Standing.{AreWalked, WalkedIn}
use Rattle.route_setup.specs.Means.{analog}
use Rattle.codec_graph.specs.declared.pin_kind.PinKind.TheVariants.{Analog}
use Rattle.laws_driver.specs.Sounding.{Parts, tally_in}
use Rattle.audio_driver.specs.States.{phase_if, state_with}
use Rattle.audio_driver.specs.declared.driver.closing.Closed.{Closed}
use Rattle.rig.specs.Replays.{telling_from}
use Rattle.heard_lists.specs.Listings.{graphs_in}
use Rattle.program_runs.specs.Ends.{walk_can_end}
use Rattle.program_runs.specs.Walks.{walk_fault, walk_format}
use Rattle.program_runs.specs.Histories.{MakesProgress, StaysOpen, journal_of, telling_of_run}
use Rattle.program_runs.proofs.OpenRoutes.{stays_open}
use Rattle.program_runs.proofs.WalkedIn.{walked_in}
use Rattle.program_runs.proofs.Gone.{Gone, unplayed_phase, unplayed_ends, graphs_walked, graphs_by_phase}

-- what is told of a run is that of the state to which its journal leads
pub record IsDriven (machine : Machine) (schedule : Schedule) (task : Task) (state : State) (telling : Telling) (played : Played) : Type 0 where
  pub progress : MakesProgress machine schedule task state telling played.graphs
  pub opened : StaysOpen Analog walk_format machine schedule task telling
  pub ends : walk_can_end state.phase ≡ true
  pub fault : played.fault ≡ walk_fault state.phase state.sent played.commands

-- a driver that plays nothing and was just opened has gone so far
module _ (machine : Machine) (play : Bool) (task : Task) (schedule : Schedule) (old : Parts) (closed : Closed) (journal : List Event) (gone : Gone analog machine walk_format play task schedule old closed journal)
    (silent : play ≡ false) (fresh : tally_in old ≡ tally_opened) where
  -- nothing was recorded
  pub none_recorded : gone.tally ≡ tally_opened
  none_recorded = gone.leaves.silent silent ∙ fresh

  started : gone.tally.course.started ≡ false
  started = ap (λ (tally : Tally). tally.course.started) none_recorded

  -- so a walk can end in its phase
  pub walk_ends : walk_can_end closed.phase ≡ true
  walk_ends = unplayed_ends analog machine walk_format play task schedule old closed journal gone started

  -- that of the bring-up, and of the state to which the journal leads
  left_is : gone.ended.phase ≡ (state_with gone.ended gone.tally).phase
  left_is = sym (ap (λ (played : Bool). phase_if played gone.ended.phase gone.tally.course.ran) started)

  phase_is : closed.phase ≡ (state_with gone.ended gone.tally).phase
  phase_is = unplayed_phase analog machine walk_format play task schedule old closed journal gone started ∙ left_is

  -- what is told of it is that of the run that is kept
  pub driven : (played : Played) → journal_of played ≡ journal → played.graphs ≡ closed.graphs.items → played.fault ≡ walk_fault closed.phase closed.sent played.commands
      → IsDriven machine schedule task (state_with gone.ended gone.tally) (telling_of_run machine played) played
  driven played told graphs fault =
      subst (λ (events : List Event). IsDriven machine schedule task (state_with gone.ended gone.tally) (telling_from REGION_BYTES machine events) played) (sym told) (record {
        progress = record {
          progress = gone.has.progress;
          finds = gone.has.finds;
          state_is = gone.has.state_is;
          walked = subst (λ (walked : List RawCodec). AreWalked (graphs_in machine.codecs) walked task.walks gone.ended.sent (answers_of gone.ended.sent gone.ended.engine.rings.outstanding)) (sym graphs)
              (graphs_walked analog machine walk_format play task schedule old closed journal gone);
          all_walked = λ all. walked_in (state_with gone.ended gone.tally).phase (played.graphs ≡ graphs_in machine.codecs) all
              (subst (λ (phase : Phase). WalkedIn phase (played.graphs ≡ graphs_in machine.codecs)) left_is
              (subst (λ (walked : List RawCodec). WalkedIn gone.ended.phase (walked ≡ graphs_in machine.codecs)) (sym graphs) (graphs_by_phase analog machine walk_format play task schedule old closed journal gone)));
        };
        opened = stays_open Analog walk_format machine schedule task (telling_from REGION_BYTES machine journal) gone.has.set_up;
        ends = subst (λ (phase : Phase). walk_can_end phase ≡ true) phase_is walk_ends;
        fault = fault ∙ ap (λ (sent : ℕ). walk_fault closed.phase sent played.commands) gone.leaves.sent ∙ ap (λ (phase : Phase). walk_fault phase gone.ended.sent played.commands) phase_is;
      })
