-- The four steps by name, tables of roles, and what the plan of a well-formed graph keeps within the widths of verbs.
-- This project's own.
use Rattle.std.specs.Prelude.{◌≡◌, ◌≤◌, ◌<◌, ℕ, true, ◌&&◌, List, length, Some}
use Rattle.codec_graph.specs.declared.raw.RawNode.{RawNode}
use Rattle.codec_graph.specs.declared.raw.RawCodec.{RawCodec}
use Rattle.codec_graph.specs.Widget.{node_at, is_mixer, is_selector, has_input_amplifier}
use Rattle.verb_codes.specs.declared.verbs.Command.{Command}
use Rattle.verb_codes.specs.declared.verbs.Verb.{Verb}
use Rattle.stream_format.specs.declared.format.Format.{Format}
use Rattle.codec_graph.specs.declared.pin_kind.PinKind.{PinKind}
use Rattle.route_planner.specs.declared.routes.Plan.{Plan}
use Rattle.setup_verbs.specs.declared.roles.Role.{Role}
use Rattle.setup_verbs.specs.declared.roles.Role.TheVariants.{Unused, Passed, Source}
use Rattle.setup_verbs.specs.declared.steps.Step.{Step}
use Rattle.setup_verbs.specs.declared.steps.Step.TheVariants.{Power, Silence, Release, Route}
use Rattle.setup_verbs.specs.Roles.{role_in, role_of}
use Rattle.setup_verbs.specs.VerbList.{power_verbs, silence_verbs, release_verbs, route_verbs, step, step_at, in_steps}

-- the table says what the routes make of each node
abbrev pub AreRoles : Plan → List Role → Type 0
AreRoles plan roles = (nid : ℕ) → nid < 256 → role_in roles nid ≡ role_of plan nid

-- the verbs of each step at a node
abbrev pub StepVerbs : Type 0
StepVerbs = Step → ℕ → RawNode → Role → List Verb

-- all four of them
abbrev pub all_steps : RawCodec → (roles : ℕ → Role) → StepVerbs → List Command
all_steps codec roles verbs = in_steps codec roles (verbs Power) (verbs Silence) (verbs Release) (verbs Route)

-- those of set-up
abbrev pub step_verbs : PinKind → RawCodec → Plan → Format → ℕ → Step → ℕ → RawNode → Role → List Verb
step_verbs kind codec plan format tag Power nid node role = power_verbs node role
step_verbs kind codec plan format tag Silence nid node role = silence_verbs node role
step_verbs kind codec plan format tag Release nid node role = release_verbs node role
step_verbs kind codec plan format tag Route nid node role = route_verbs kind codec plan format tag nid node role

-- the commands of a step at one node, and at all
abbrev pub commands_at : PinKind → RawCodec → Plan → Format → ℕ → Step → ℕ → List Command
commands_at kind codec plan format tag part nid = step_at codec plan (step_verbs kind codec plan format tag part) nid

abbrev pub commands_of : PinKind → RawCodec → Plan → Format → ℕ → Step → List Command
commands_of kind codec plan format tag part = step codec plan (step_verbs kind codec plan format tag part)

-- arguments fit their verbs: pairs are below 8, inputs with an amplifier at most 16
abbrev pub FitsRole : RawNode → Role → Type 0
FitsRole node Unused = Unit {0}
FitsRole node (Passed index) = (is_selector node && has_input_amplifier node) ≡ true → index < 16
FitsRole node (Source pair) = pair < 8

-- and pins at most 126
pub record FitsWidget (plan : Plan) (node : RawNode) (role : Role) : Type 0 where
  pub pins : length plan.pins ≤ 126
  pub inputs : is_mixer node ≡ true → length node.list ≤ 16
  pub argument : FitsRole node role

-- so at every widget
pub record FitsVerbs (codec : RawCodec) (plan : Plan) : Type 0 where
  pub at : (nid : ℕ) (node : RawNode) → node_at codec nid ≡ Some node → FitsWidget plan node (role_of plan nid)
