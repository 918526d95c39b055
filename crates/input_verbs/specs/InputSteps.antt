-- The verbs of an input by their steps, and what its plan keeps within the widths of verbs. This project's own.
use Rattle.std.specs.Prelude.{◌≡◌, ◌≤◌, ◌<◌, ℕ, true, ◌&&◌, length, Some}
use Rattle.codec_graph.specs.declared.raw.RawNode.{RawNode}
use Rattle.codec_graph.specs.declared.raw.RawCodec.{RawCodec}
use Rattle.codec_graph.specs.Widget.{node_at, is_mixer, has_input_amplifier}
use Rattle.stream_format.specs.declared.format.Format.{Format}
use Rattle.setup_verbs.specs.declared.roles.Role.{Role}
use Rattle.setup_verbs.specs.declared.roles.Role.TheVariants.{Unused, Passed, Source}
use Rattle.setup_verbs.specs.declared.steps.Step.TheVariants.{Power, Silence, Release, Route}
use Rattle.setup_verbs.specs.Steps.{StepVerbs}
use Rattle.setup_verbs.specs.VerbList.{power_verbs, silence_verbs}
use Rattle.input_verbs.specs.InputVerbs.{input_release_verbs, selects_input, input_route_verbs}

-- the verbs of each step at a node
abbrev pub input_step_verbs : RawCodec → Format → (tag : ℕ) → StepVerbs
input_step_verbs codec format tag Power nid node role = power_verbs node role
input_step_verbs codec format tag Silence nid node role = silence_verbs node role
input_step_verbs codec format tag Release nid node role = input_release_verbs node role
input_step_verbs codec format tag Route nid node role = input_route_verbs codec format tag node role

-- the arguments fit their verbs: of a node that has one connection selected and an input amplifier the index is below
-- 16
abbrev pub FitsInputRole : RawNode → Role → Type 0
FitsInputRole node Unused = Unit {0}
FitsInputRole node (Passed index) = (selects_input node && has_input_amplifier node) ≡ true → index < 16
FitsInputRole node (Source pair) = Unit {0}

-- and a mixer has at most 16 inputs
pub record FitsInput (node : RawNode) (role : Role) : Type 0 where
  pub inputs : is_mixer node ≡ true → length node.list ≤ 16
  pub argument : FitsInputRole node role

-- so at every widget
pub record FitsInputVerbs (codec : RawCodec) (roles : ℕ → Role) : Type 0 where
  pub at : (nid : ℕ) (node : RawNode) → node_at codec nid ≡ Some node → FitsInput node (roles nid)
