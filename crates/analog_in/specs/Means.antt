-- What the set-up of one analog input means for a stream. This project's own.
use Rattle.std.specs.Prelude.{ℕ}
use Rattle.input_verbs.specs.InputVerbs.{input_verbs}
use Rattle.input_verbs.specs.OpenInputs.{IsInputPlanAt, IsOpenIn}
use Rattle.route_setup.specs.Means.{StreamMeaning}

-- the codec at the address has the plan of its graph for an input, and every other one a plan without an entry; with
-- their verbs the input is open, and nothing else gives the stream
abbrev pub analog_in : (address : ℕ) → StreamMeaning
analog_in address format tag = record {
  IsPlanBy = λ graph plan. IsInputPlanAt address graph format plan;
  verbs_by = λ graph plan. input_verbs graph plan format tag;
  IsOpenBy = λ graph settings plan. IsOpenIn graph settings plan format tag;
}
