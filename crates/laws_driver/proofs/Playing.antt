-- A stretch that begins once all codecs are set up: it is progress, and leaves them set up.
use Rattle.std.proofs.Common.{◌≡◌, true, List, Option, None, sym, subst}
use Rattle.std.specs.Option.{is_some}
use Rattle.codec_graph.specs.declared.raw.RawCodec.{RawCodec}
use Rattle.codec_graph.specs.Settings.{Entries}
use Rattle.route_planner.specs.declared.routes.Plan.{Plan}
use Rattle.route_setup.specs.Means.{Means}
use Rattle.hda_world.specs.Events.{Event}
use Rattle.hda_world.specs.Tellings.{Telling, Makes}
use Rattle.driver_progress.specs.Seen.{seen_by, values_of}
use Rattle.driver_progress.specs.States.{State}
use Rattle.driver_progress.specs.Tasks.{Task, DriverLine}
use Rattle.driver_progress.specs.Unread.{AreAccesses}
use Rattle.driver_progress.specs.Phases.{are_set_up}
use Rattle.driver_bring_up.specs.Commanding.{IsStretch, answer_in}
use Rattle.laws_bring_up.specs.Stretches.{IsOpen, IsDone}
use Rattle.laws_bring_up.proofs.Callers.{AreCalm}
use Rattle.laws_driver.proofs.Calm.{expected_calm}
use Rattle.laws_driver.proofs.Trails.{idle_done}
use Rattle.laws_driver.proofs.Good.{StayGood, row_good}

module _ (means : Means) (graphs : List RawCodec) (task : Task) (lines left : List DriverLine) (turn : Option DriverLine) where
  pub record Played (state' : State) (telling : Telling) : Type 0 where
    pub done : IsDone task lines left state' telling
    pub good : StayGood means graphs task lines telling

  pub plays : (state state' : State) (made : List Event) (before after : Telling) → IsOpen task lines left turn state before → StayGood means graphs task lines before → state.rings.outstanding ≡ None → are_set_up state.phase ≡ true
      → Makes made before after → AreAccesses made → IsStretch task state turn made (is_some (answer_in state.rings made)) state' → Played state' after
  plays state state' made before after opened good none up makes are stretch =
      let seen = seen_by (values_of made) (is_some (answer_in state.rings made)) in record {
        done = idle_done task lines left turn state state' made before after opened makes are none up stretch;
        good = row_good means graphs task lines made before after makes.by (subst AreCalm (sym stretch.fits) (expected_calm task state turn seen up)) good;
      }
