-- What a setter means for a stream. This project's own.
use Rattle.std.specs.Prelude.{ℕ, List}
use Rattle.codec_graph.specs.declared.raw.RawCodec.{RawCodec}
use Rattle.codec_graph.specs.Settings.{Entries}
use Rattle.verb_codes.specs.declared.verbs.Command.{Command}
use Rattle.stream_format.specs.declared.format.Format.{Format}
use Rattle.route_planner.specs.declared.routes.Plan.{Plan}
use Rattle.route_planner.specs.Plans.{IsPlan}
use Rattle.setup_verbs.specs.VerbList.{setup_verbs}
use Rattle.setup_verbs.specs.SetUp.{IsSetUp}

-- for a stream of one format and tag
pub record Means : Type 1 where
  -- which plan is that of a graph
  pub IsPlanBy : RawCodec → Plan → Type 0
  -- the verbs of a graph for its plan
  pub verbs_by : RawCodec → Plan → List Command
  -- what these are for: whether a codec with this graph and these settings is set up for a plan
  pub IsOpenBy : RawCodec → Entries → Plan → Type 0

-- for each stream
abbrev pub StreamMeaning : Type 1
StreamMeaning = Format → (tag : ℕ) → Means

-- of analog outputs
abbrev pub analog : StreamMeaning
analog format tag = record {
  IsPlanBy = λ graph plan. IsPlan graph format plan;
  verbs_by = λ graph plan. setup_verbs graph plan format tag;
  IsOpenBy = λ graph settings plan. IsSetUp graph settings plan format tag;
}
