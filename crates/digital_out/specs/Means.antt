-- What the set-up of digital outputs means for a stream, and that of the output pins of a kind. This project's own.
use Rattle.std.specs.Prelude.{ℕ}
use Rattle.codec_graph.specs.declared.pin_kind.PinKind.{PinKind}
use Rattle.codec_graph.specs.declared.pin_kind.PinKind.TheVariants.{Digital}
use Rattle.route_planner.specs.Plans.{IsDigitalPlan, IsPlanAs}
use Rattle.setup_verbs.specs.VerbList.{setup_verbs_as}
use Rattle.setup_verbs.specs.SetUp.{IsDigitallySetUp, IsSetUpFor}
use Rattle.route_setup.specs.Means.{StreamMeaning}

-- the plan of the digital pins, its verbs, and that each route's pin hears the first pair digitally while every other
-- pin is silent
abbrev pub digital : StreamMeaning
digital format tag = record {
  IsPlanBy = λ graph plan. IsDigitalPlan graph format plan;
  verbs_by = λ graph plan. setup_verbs_as Digital graph plan format tag;
  IsOpenBy = λ graph settings plan. IsDigitallySetUp graph settings plan format tag;
}

-- the same of the output pins of a kind: of analog pins it is what their own set-up means
abbrev pub outputs : PinKind → StreamMeaning
outputs kind format tag = record {
  IsPlanBy = λ graph plan. IsPlanAs kind graph format plan;
  verbs_by = λ graph plan. setup_verbs_as kind graph plan format tag;
  IsOpenBy = λ graph settings plan. IsSetUpFor kind graph settings plan format tag;
}
