-- The laws that a driver goes by that is to switch, while it brings its codecs up, as they are handed in.
use Rattle.std.specs.Prelude.{◌≡◌, false, List}
use Rattle.verb_codes.specs.declared.verbs.Command.{Command}
use Rattle.codec_graph.specs.declared.raw.RawCodec.{RawCodec}
use Rattle.route_setup.specs.Means.{Means}
use Rattle.driver_progress.specs.Tasks.{Task}
use Rattle.laws_bring_up.specs.Standing.{IsTaskOfCodecs}
use Rattle.laws_bring_up.specs.Keeping.{KeepsToProgress}
use Rattle.laws_bring_up.proofs.Callers.{AgendaLaws, SetterLaws, Laws}
use Rattle.laws_driver.specs.Keeping.{KeepsPlaying}

pub record ComingGiven (means : Means) (verbs : RawCodec → List Command) (graphs : List RawCodec) (task : Task) : Type 0 where
  pub of : IsTaskOfCodecs means verbs graphs task
  pub silent : task.plays ≡ false
  pub told : KeepsToProgress means verbs graphs task
  pub driver : KeepsPlaying means verbs graphs task
  pub agenda : AgendaLaws means verbs graphs
  pub setter : SetterLaws means
  pub notes : Laws
