-- What proofs of the layers above cite.
use Rattle.std.proofs.Common.{◌≡◌, ◌≤◌, ◌==◌, ℕ, Bool, true, false, List, inl, inr, sym, ap, ◌∙◌}
use Rattle.std.specs.Prelude.{All}
use Rattle.codec_graph.specs.declared.raw.RawCodec.{RawCodec}
use Rattle.codec_graph.specs.Cycles.{IsWellFormed}
use Rattle.codec_graph.specs.Settings.{Entries, IsSettingsOf}
use Rattle.stream_format.specs.declared.format.Format.{Format}
use Rattle.route_planner.specs.declared.routes.PinPlan.{PinPlan}
use Rattle.route_planner.specs.declared.routes.Plan.{Plan}
use Rattle.route_planner.proofs.Callers.{only_input_plan}
use Rattle.setup_verbs.specs.SetUp.{IsCommandOf, settings_after}
use Rattle.input_verbs.specs.InputVerbs.{input_verbs}
use Rattle.input_verbs.specs.OpenInputs.{IsInputPlanOrNone, IsInputPlanIf, IsInputPlanAt, IsOpenIn}
use Rattle.input_verbs.proofs.OpenedIn as opened
use Rattle.input_verbs.proofs.InRanged as ranged
-- the verbs of an input lead from any settings to ones with which it is open
pub use Rattle.input_verbs.proofs.OpenedIn.{lead_to_open_in}
-- each goes to the codec, and can be encoded where that is one of 0 to 14
pub use Rattle.input_verbs.proofs.InRanged.{all_input_commands}

-- ---- of several codecs one is recorded from

input_plan_if : (records : Bool) (codec : RawCodec) (format : Format) (plan : Plan) → IsInputPlanIf records codec format plan → IsInputPlanOrNone codec format plan
input_plan_if true codec format plan is = inl is
input_plan_if false codec format plan is = inr is

-- each codec has the plan of its graph or none
pub input_plan_at : (address : ℕ) (codec : RawCodec) (format : Format) (plan : Plan) → IsInputPlanAt address codec format plan → IsInputPlanOrNone codec format plan
input_plan_at address codec format plan is = input_plan_if (codec.address == address) codec format plan is

one_input_plan_if : (records : Bool) (codec : RawCodec) (format : Format) (plan other : Plan) → IsInputPlanIf records codec format plan → IsInputPlanIf records codec format other → other ≡ plan
one_input_plan_if true codec format plan other is twin = only_input_plan codec format plan is other twin
one_input_plan_if false codec format plan other is twin = ap (λ (pins : List PinPlan). record { pins = pins }) (twin ∙ sym is)

-- and that is one
pub one_input_plan_at : (address : ℕ) (codec : RawCodec) (format : Format) (plan other : Plan) → IsInputPlanAt address codec format plan → IsInputPlanAt address codec format other → other ≡ plan
one_input_plan_at address codec format plan other is twin = one_input_plan_if (codec.address == address) codec format plan other is twin

-- its verbs lead to the open input
pub input_open_at : (address : ℕ) (codec : RawCodec) (plan : Plan) (format : Format) (tag : ℕ) → IsWellFormed codec → IsInputPlanAt address codec format plan → 1 ≤ tag → tag ≤ 15 → (settings : Entries) → IsSettingsOf codec settings
    → IsOpenIn codec (settings_after codec settings (input_verbs codec plan format tag)) plan format tag
input_open_at address codec plan format tag well is some few settings of = opened.lead_to_open_in codec plan format tag well (input_plan_at address codec format plan is) some few settings of

-- and can be encoded
pub input_commands_at : (address : ℕ) (codec : RawCodec) (plan : Plan) (format : Format) (tag : ℕ) → IsWellFormed codec → IsInputPlanAt address codec format plan → tag ≤ 15 → All (IsCommandOf codec) (input_verbs codec plan format tag)
input_commands_at address codec plan format tag well is few = ranged.all_input_commands codec plan format tag well (input_plan_at address codec format plan is) few
