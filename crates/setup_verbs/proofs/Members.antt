-- What holds of all set-up verbs, and which are among them.
use Rattle.std.proofs.Common.{◌≡◌, ◌≢◌, ◌⊎◌, ◌<◌, ℕ, zero, suc, Bool, true, false, List, [], ◌∷◌, ◌++◌, map, Option, Some, None, refl, sym, ap, subst, ◌∙◌, inl, inr, arith}
use Rattle.std.specs.Prelude.{All, Contains}
use Rattle.std.proofs.lemmas.Bool.{cases_eq}
use Rattle.std.proofs.Math.ListN.{get_or-map}
use Rattle.std.proofs.lemmas.List.{length-map}
use Rattle.std.proofs.lemmas.List.Elements.{All-nil, All-cons, All-append, All-map, Contains-append_left, Contains-append_right}
use Rattle.codec_graph.specs.declared.raw.RawNode.{RawNode}
use Rattle.codec_graph.specs.declared.raw.RawCodec.{RawCodec}
use Rattle.codec_graph.specs.Widget.{node_at}
use Rattle.verb_codes.specs.declared.verbs.Command.{Command}
use Rattle.verb_codes.specs.declared.verbs.Verb.{Verb}
use Rattle.verb_codes.specs.declared.verbs.Verb.TheVariants.{SetPower}
use Rattle.stream_format.specs.declared.format.Format.{Format}
use Rattle.codec_graph.specs.declared.pin_kind.PinKind.{PinKind}
use Rattle.route_planner.specs.declared.routes.Plan.{Plan}
use Rattle.setup_verbs.specs.declared.roles.Role.{Role}
use Rattle.setup_verbs.specs.declared.steps.Step.{Step}
use Rattle.setup_verbs.specs.declared.steps.Step.TheVariants.{Power, Silence, Release, Route}
use Rattle.setup_verbs.specs.Roles.{role_of}
use Rattle.setup_verbs.specs.VerbList.{only_if, command_to, to_below, to_all, at_widget, step_at_by, step_by, setup_verbs_as}
use Rattle.setup_verbs.specs.Steps.{StepVerbs, all_steps, step_verbs}

-- ---- all

pub all_if : (P : Verb → Type 0) (b : Bool) (verb : Verb) → (b ≡ true → P verb) → All P (only_if b verb)
all_if P true verb h = All-cons P verb [] (h refl) (All-nil P)
all_if P false verb h = All-nil P

all_below : (P : Command → Type 0) (step : ℕ → List Command) (n : ℕ) → ((nid : ℕ) → All P (step nid)) → All P (to_below step n)
all_below P step zero h = All-nil P
all_below P step (suc n) h = All-append P (to_below step n) (step n) (all_below P step n h) (h n)

all_all : (P : Command → Type 0) (step : ℕ → List Command) → ((nid : ℕ) → All P (step nid)) → All P (to_all step)
unfolding to_all
all_all P step h = all_below P step 128 h

-- a fact of the verbs of each step at each widget
abbrev pub OfStepsBy : (Command → Type 0) → RawCodec → (roles : ℕ → Role) → StepVerbs → Type 0
OfStepsBy P codec roles verbs = (s : Step) (nid : ℕ) (node : RawNode) → node_at codec nid ≡ Some node
    → All (λ (verb : Verb). P (command_to codec nid verb)) (verbs s nid node (roles nid))

all_step : (P : Command → Type 0) (codec : RawCodec) (roles : ℕ → Role) (verbs : StepVerbs) (s : Step) → OfStepsBy P codec roles verbs → All P (step_by codec roles (verbs s))
all_step P codec roles verbs s of = all_all P (step_at_by codec roles (verbs s)) (λ nid. All-map P (command_to codec nid) (at_widget (verbs s nid) (node_at codec nid) (roles nid)) (at nid (node_at codec nid) refl))
  where
    at : (nid : ℕ) (o : Option RawNode) → node_at codec nid ≡ o → All (λ (verb : Verb). P (command_to codec nid verb)) (at_widget (verbs s nid) o (roles nid))
    at nid None e = All-nil (λ (verb : Verb). P (command_to codec nid verb))
    at nid (Some node) e = of s nid node e

pub all_verbs_by : (P : Command → Type 0) (codec : RawCodec) (roles : ℕ → Role) (verbs : StepVerbs) → P (command_to codec codec.group (SetPower 0)) → OfStepsBy P codec roles verbs → All P (all_steps codec roles verbs)
all_verbs_by P codec roles verbs group of =
    All-cons P (command_to codec codec.group (SetPower 0)) _ group
    (All-append P (step_by codec roles (verbs Power)) _ (all_step P codec roles verbs Power of)
    (All-append P (step_by codec roles (verbs Silence)) _ (all_step P codec roles verbs Silence of)
    (All-append P (step_by codec roles (verbs Release)) _ (all_step P codec roles verbs Release of) (all_step P codec roles verbs Route of))))

-- so for the roles and the verbs of a plan
abbrev pub OfSteps : (Command → Type 0) → PinKind → RawCodec → Plan → Format → ℕ → Type 0
OfSteps P kind codec plan format tag = OfStepsBy P codec (role_of plan) (step_verbs kind codec plan format tag)

pub all_verbs : (P : Command → Type 0) (kind : PinKind) (codec : RawCodec) (plan : Plan) (format : Format) (tag : ℕ) → P (command_to codec codec.group (SetPower 0)) → OfSteps P kind codec plan format tag → All P (setup_verbs_as kind codec plan format tag)
unfolding setup_verbs_as
all_verbs P kind codec plan format tag group of = all_verbs_by P codec (role_of plan) (step_verbs kind codec plan format tag) group of

-- ---- members

pub has_if : (b : Bool) (verb : Verb) → b ≡ true → Contains (only_if b verb) verb
has_if true verb e = (0, omega arith, refl)
has_if false verb e = cc

pub has_mapped : {X Y : Type 0} (f : X → Y) (xs : List X) (x : X) → Contains xs x → Contains (map f xs) (f x)
has_mapped f xs x c = (c.0, rw length-map c.1, get_or-map f xs c.0 x ∙ ap f c.2)

has_below : (step : ℕ → List Command) (n nid : ℕ) (command : Command) → nid < n → Contains (step nid) command → Contains (to_below step n) command
has_below step zero nid command lt has = absurd (omega arith)
has_below step (suc n) nid command lt has = by (cases_eq nid n) (has_below step n nid command)
  where
    by : (nid ≡ n) ⊎ (nid ≢ n) → (nid < n → Contains (step nid) command → Contains (to_below step n) command) → Contains (to_below step (suc n)) command
    by (inl same) rest = Contains-append_right (to_below step n) (step n) command (subst (λ k. Contains (step k) command) same has)
    by (inr other) rest = Contains-append_left (to_below step n) (step n) command (rest (omega arith) has)

has_all : (step : ℕ → List Command) (nid : ℕ) (command : Command) → nid < 128 → Contains (step nid) command → Contains (to_all step) command
unfolding to_all
has_all step nid command lt has = has_below step 128 nid command lt has

has_step : (codec : RawCodec) (roles : ℕ → Role) (verbs : StepVerbs) (s : Step) (nid : ℕ) (node : RawNode) (verb : Verb) → nid < 128 → node_at codec nid ≡ Some node
    → Contains (verbs s nid node (roles nid)) verb → Contains (step_by codec roles (verbs s)) (command_to codec nid verb)
has_step codec roles verbs s nid node verb lt there has =
    has_all (step_at_by codec roles (verbs s)) nid (command_to codec nid verb) lt
    (has_mapped (command_to codec nid) (at_widget (verbs s nid) (node_at codec nid) (roles nid)) verb
    (subst (λ (o : Option RawNode). Contains (at_widget (verbs s nid) o (roles nid)) verb) (sym there) has))

pub has_group_by : (codec : RawCodec) (roles : ℕ → Role) (verbs : StepVerbs) → Contains (all_steps codec roles verbs) (command_to codec codec.group (SetPower 0))
has_group_by codec roles verbs = (0, omega arith, refl)

has_cons : {X : Type 0} (x : X) (xs : List X) (y : X) → Contains xs y → Contains (x ∷ xs) y
has_cons x xs y c = (suc c.0, omega (arith, c.1), c.2)

-- a verb of a step at a widget is among all
pub has_verb_by : (codec : RawCodec) (roles : ℕ → Role) (verbs : StepVerbs) (s : Step) (nid : ℕ) (node : RawNode) (verb : Verb) → nid < 128 → node_at codec nid ≡ Some node
    → Contains (verbs s nid node (roles nid)) verb → Contains (all_steps codec roles verbs) (command_to codec nid verb)
has_verb_by codec roles verbs s nid node verb lt there has = has_cons _ _ _ (by s (has_step codec roles verbs s nid node verb lt there has))
  where
    step_of : Step → List Command
    step_of t = step_by codec roles (verbs t)

    by : (t : Step) → Contains (step_of t) (command_to codec nid verb) → Contains (step_of Power ++ (step_of Silence ++ (step_of Release ++ step_of Route))) (command_to codec nid verb)
    by Power c = Contains-append_left (step_of Power) _ _ c
    by Silence c = Contains-append_right (step_of Power) _ _ (Contains-append_left (step_of Silence) _ _ c)
    by Release c = Contains-append_right (step_of Power) _ _ (Contains-append_right (step_of Silence) _ _ (Contains-append_left (step_of Release) _ _ c))
    by Route c = Contains-append_right (step_of Power) _ _ (Contains-append_right (step_of Silence) _ _ (Contains-append_right (step_of Release) _ _ c))

-- so for the roles and the verbs of a plan
pub has_group : (kind : PinKind) (codec : RawCodec) (plan : Plan) (format : Format) (tag : ℕ) → Contains (setup_verbs_as kind codec plan format tag) (command_to codec codec.group (SetPower 0))
unfolding setup_verbs_as
has_group kind codec plan format tag = has_group_by codec (role_of plan) (step_verbs kind codec plan format tag)

pub has_verb : (kind : PinKind) (codec : RawCodec) (plan : Plan) (format : Format) (tag : ℕ) (s : Step) (nid : ℕ) (node : RawNode) (verb : Verb) → nid < 128 → node_at codec nid ≡ Some node
    → Contains (step_verbs kind codec plan format tag s nid node (role_of plan nid)) verb → Contains (setup_verbs_as kind codec plan format tag) (command_to codec nid verb)
unfolding setup_verbs_as
has_verb kind codec plan format tag s nid node verb lt there has = has_verb_by codec (role_of plan) (step_verbs kind codec plan format tag) s nid node verb lt there has
