-- That codecs are set up once speakers are switched, but for those that are off.
use Rattle.std.proofs.Common.{◌≡◌, ◌≤◌, ◌<◌, ◌==◌, ◌&&◌, ◌||◌, ◌+◌, ◌++◌, ℕ, Bool, true, false, List, [], ◌∷◌, take, drop, Option, None, Some, refl, sym, ap, subst, ◌∙◌, arith, rules, tests}
use Rattle.std.specs.Prelude.{All, Contains, if◌then◌else◌, filter}
use Rattle.std.specs.List.{AllZip, list_any}
use Rattle.std.proofs.lemmas.List.{take-append-drop}
use Rattle.std.proofs.lemmas.List.Folds.{list_any-append}
use Rattle.std.proofs.lemmas.List.Elements.{All-cons, All-head, All-nil, All-tail, Contains-get_or}
use Rattle.codec_graph.specs.declared.raw.RawCodec.{RawCodec}
use Rattle.codec_graph.specs.declared.raw.RawNode.{RawNode}
use Rattle.codec_graph.specs.Candidates.{association}
use Rattle.codec_graph.specs.Cycles.{IsWellFormed}
use Rattle.codec_graph.specs.Settings.{IsSettingsOf}
use Rattle.codec_graph.specs.CodecStates.{CodecState}
use Rattle.codec_graph.specs.Widget.{node_at}
use Rattle.stream_format.specs.declared.format.Format.{Format}
use Rattle.route_planner.specs.declared.routes.Outcome.{Outcome}
use Rattle.route_planner.specs.declared.routes.Outcome.TheVariants.{Route, Blocked, NoPath}
use Rattle.route_planner.specs.declared.routes.PinPlan.{PinPlan}
use Rattle.route_planner.specs.declared.routes.Plan.{Plan}
use Rattle.setup_verbs.specs.SetUp.{IsSetUp, IsNoRoute, HasNoRoute}
use Rattle.hda_world.specs.Worlds.{World, TakenCommand, codec_at}
use Rattle.hda_world.proofs.Callers.{found_all}
use Rattle.command_engine.specs.Fetchings.{AscendFrom}
use Rattle.driver_agenda.specs.Planned.{ArePlansBy}
use Rattle.laws_settings.specs.Histories.{Remembers, FoundTaken, words_of, words_to}
use Rattle.laws_settings.specs.PinControls.{last_control}
use Rattle.laws_settings.proofs.Callers.{words_to-append}
use Rattle.laws_bring_up.specs.SettingUp.{IsThere}
use Rattle.laws_speakers.specs.SwitchWords.{IsSwitchWord}
use Rattle.laws_speakers.specs.SetUpBut.{IsSetUpBut, AreRoutesOn}
use Rattle.jack_rules.specs.declared.pins.JackPin.{JackPin}
use Rattle.jack_rules.specs.declared.pins.SpeakerPin.{SpeakerPin}
use Rattle.jack_rules.specs.JackPins.{is_speaker_node, speaker_of, speaker_at, speaker_if, has_jack, put_first, speakers_from, speakers_among, jacks_of}
use Rattle.laws_switching.specs.Speakers.{is_pin_at, is_switched}
use Rattle.laws_switching.specs.SettingUp.{IsThereBut, AreSetUpBut}
use Rattle.laws_switching.specs.Turned.{outputs, HasTurned}
use Rattle.laws_switching.proofs.SwitchedHeard.{graphs_all}

-- ---- numbers

pub same_number : (a b : ℕ) → (a == b) ≡ true → a ≡ b
same_number a b is = search (rules, tests)

pub differ : (a b : ℕ) → (a ≡ b → ⊥) → (a == b) ≡ false
differ a b apart = by (a == b) refl
  where
    by : (same : Bool) → (a == b) ≡ same → (a == b) ≡ false
    by true is = absurd (apart (same_number a b is))
    by false is = is

and_false : (first second : Bool) → second ≡ false → (first && second) ≡ false
and_false true second none = none
and_false false second none = refl

-- ---- the speakers of a plan

-- a speaker of an entry has the codec's address, the entry's pin, and a route
pub record IsOfEntry (codec : RawCodec) (pin : ℕ) (outcome : Outcome) (speaker : SpeakerPin) : Type 0 where
  pub codec_is : speaker.codec ≡ codec.address
  pub pin_is : speaker.pin ≡ pin
  pub routed : IsNoRoute outcome → ⊥

node_speaker : (codec : RawCodec) (pin : ℕ) (node : Option RawNode) (speaker : SpeakerPin) → speaker_of codec pin node ≡ Some speaker → (speaker.codec ≡ codec.address) × (speaker.pin ≡ pin)
node_speaker codec pin None speaker is = cc
node_speaker codec pin (Some node) speaker is = by (is_speaker_node node) is
  where
    made : SpeakerPin
    made = record { codec = codec.address; pin = pin; association = association node }

    by : (test : Bool) → (if test then Some made else None) ≡ Some speaker → (speaker.codec ≡ codec.address) × (speaker.pin ≡ pin)
    by true is =
        let same : speaker ≡ made = cc in (ap (λ (speaker : SpeakerPin). speaker.codec) same, ap (λ (speaker : SpeakerPin). speaker.pin) same)
    by false is = cc

entry_speaker : (codec : RawCodec) (pin : ℕ) (outcome : Outcome) (speaker : SpeakerPin) → speaker_at codec pin outcome ≡ Some speaker → IsOfEntry codec pin outcome speaker
entry_speaker codec pin (Route route) speaker is =
    let of = node_speaker codec pin (node_at codec pin) speaker is in
    record { codec_is = of.0; pin_is = of.1; routed = λ none. none }
entry_speaker codec pin Blocked speaker is = cc
entry_speaker codec pin NoPath speaker is = cc

pub some_jack : (jacks : List JackPin) (found : Option SpeakerPin) (speaker : SpeakerPin) → speaker_if jacks found ≡ Some speaker → found ≡ Some speaker
some_jack jacks None speaker is = is
some_jack jacks (Some one) speaker is = by (has_jack jacks one) is
  where
    by : (test : Bool) → (if test then Some one else None) ≡ Some speaker → Some one ≡ Some speaker
    by true is = is
    by false is = cc

put_none : (test : SpeakerPin → Bool) (found : Option SpeakerPin) (rest : List SpeakerPin) → ((speaker : SpeakerPin) → found ≡ Some speaker → test speaker ≡ false) → list_any test rest ≡ false
    → list_any test (put_first found rest) ≡ false
put_none test None rest not none = none
put_none test (Some speaker) rest not none = ap (λ (here : Bool). here || list_any test rest) (not speaker refl) ∙ none

module _ (jacks : List JackPin) where
  -- none is at another address
  from_other : (codec : RawCodec) (address pin : ℕ) (entries : List PinPlan) → (codec.address == address) ≡ false → list_any (is_pin_at address pin) (speakers_from jacks codec entries) ≡ false
  from_other codec address pin [] other = refl
  from_other codec address pin (entry ∷ entries) other =
      put_none (is_pin_at address pin) (speaker_if jacks (speaker_at codec entry.pin entry.outcome)) (speakers_from jacks codec entries)
      (λ speaker is.
      (let of = entry_speaker codec entry.pin entry.outcome speaker (some_jack jacks (speaker_at codec entry.pin entry.outcome) speaker is) in
      ap (λ (codec : ℕ). codec == address && speaker.pin == pin) of.codec_is ∙ ap (λ (here : Bool). here && speaker.pin == pin) other))
      (from_other codec address pin entries other)

  -- none is a pin without a route
  from_own : (codec : RawCodec) (address pin : ℕ) (entries : List PinPlan) → All (λ (entry : PinPlan). entry.pin ≡ pin → IsNoRoute entry.outcome) entries → list_any (is_pin_at address pin) (speakers_from jacks codec entries) ≡ false
  from_own codec address pin [] none = refl
  from_own codec address pin (entry ∷ entries) none =
      put_none (is_pin_at address pin) (speaker_if jacks (speaker_at codec entry.pin entry.outcome)) (speakers_from jacks codec entries)
      (λ speaker is.
      (let of = entry_speaker codec entry.pin entry.outcome speaker (some_jack jacks (speaker_at codec entry.pin entry.outcome) speaker is) in
      and_false (speaker.codec == address) (speaker.pin == pin)
      (differ speaker.pin pin (λ same. of.routed (All-head (λ (entry : PinPlan). entry.pin ≡ pin → IsNoRoute entry.outcome) entry entries none (sym of.pin_is ∙ same))))))
      (from_own codec address pin entries (All-tail (λ (entry : PinPlan). entry.pin ≡ pin → IsNoRoute entry.outcome) entry entries none))

  -- codecs above an address have none there
  among_above : (graphs : List RawCodec) (plans : List Plan) (from address pin : ℕ) → AscendFrom from graphs → address < from → list_any (is_pin_at address pin) (speakers_among jacks graphs plans) ≡ false
  among_above [] plans from address pin ascend below = refl
  among_above (graph ∷ graphs) [] from address pin ascend below = refl
  among_above (graph ∷ graphs) (plan ∷ plans) from address pin ascend below =
      let low : from ≤ graph.address = ascend.0 in
      list_any-append (is_pin_at address pin) (speakers_from jacks graph plan.pins) (speakers_among jacks graphs plans)
      ∙ ap (λ (here : Bool). here || list_any (is_pin_at address pin) (speakers_among jacks graphs plans))
      (from_other graph address pin plan.pins (differ graph.address address (λ same. omega (arith, same, low, below))))
      ∙ among_above graphs plans (graph.address + 1) address pin ascend.2 (omega (arith, low, below))

  -- a pin without a route is no speaker
  pub record HasNone (from : ℕ) (graphs : List RawCodec) (plans : List Plan) (graph : RawCodec) (plan : Plan) : Type 0 where
    pub low : from ≤ graph.address
    pub none : (pin : ℕ) → HasNoRoute plan pin → list_any (is_pin_at graph.address pin) (speakers_among jacks graphs plans) ≡ false

  -- behind one codec more
  none_behind : (from : ℕ) (first : RawCodec) (its : Plan) (graphs : List RawCodec) (plans : List Plan) → from ≤ first.address → (graph : RawCodec) (plan : Plan) → HasNone (first.address + 1) graphs plans graph plan
      → HasNone from (first ∷ graphs) (its ∷ plans) graph plan
  none_behind from first its graphs plans low graph plan has =
      let above : first.address + 1 ≤ graph.address = has.low in record {
        low = omega (arith, low, above);
        none = λ pin routeless.
            (let test = is_pin_at graph.address pin in
            list_any-append test (speakers_from jacks first its.pins) (speakers_among jacks graphs plans)
            ∙ ap (λ (here : Bool). here || list_any test (speakers_among jacks graphs plans))
            (from_other first graph.address pin its.pins (differ first.address graph.address (λ same. omega (arith, same, above)))) ∙ has.none pin routeless);
      }

  all_behind : (from : ℕ) (first : RawCodec) (its : Plan) (graphs : List RawCodec) (plans : List Plan) → from ≤ first.address → (some : List RawCodec) (their : List Plan) → AllZip (HasNone (first.address + 1) graphs plans) some their
      → AllZip (HasNone from (first ∷ graphs) (its ∷ plans)) some their
  all_behind from first its graphs plans low [] [] all = tt
  all_behind from first its graphs plans low [] (plan ∷ their) all = absurd all
  all_behind from first its graphs plans low (graph ∷ some) [] all = absurd all
  all_behind from first its graphs plans low (graph ∷ some) (plan ∷ their) all =
      (none_behind from first its graphs plans low graph plan all.0, all_behind from first its graphs plans low some their all.1)

  none_all : (Planned : RawCodec → Plan → Type 0) (from : ℕ) (graphs : List RawCodec) (plans : List Plan) → AscendFrom from graphs → ArePlansBy Planned graphs plans → AllZip (HasNone from graphs plans) graphs plans
  none_all Planned from [] [] ascend planned = tt
  none_all Planned from [] (plan ∷ plans) ascend planned = absurd planned
  none_all Planned from (graph ∷ graphs) [] ascend planned = absurd planned
  none_all Planned from (graph ∷ graphs) (plan ∷ plans) ascend planned = (
    record {
      low = ascend.0;
      none = λ pin routeless.
          (let test = is_pin_at graph.address pin in
          list_any-append test (speakers_from jacks graph plan.pins) (speakers_among jacks graphs plans)
          ∙ ap (λ (here : Bool). here || list_any test (speakers_among jacks graphs plans)) (from_own graph graph.address pin plan.pins routeless)
          ∙ among_above graphs plans (graph.address + 1) graph.address pin ascend.2 (omega arith));
    },
    all_behind from graph plan graphs plans ascend.0 graphs plans (none_all Planned (graph.address + 1) graphs plans ascend.2 planned.1),
  )

-- ---- words

words_all : (P : ℕ → Type 0) (address : ℕ) (commands : List TakenCommand) → All P (words_of commands) → All P (words_to address commands)
words_all P address [] all = All-nil P
words_all P address (one ∷ commands) all = by (one.codec.graph.address == address) (words_all P address commands (All-tail P one.word (words_of commands) all))
  where
    by : (here : Bool) → All P (words_to address commands)
        → All P (words_of (if here then one ∷ filter (λ (one : TakenCommand). one.codec.graph.address == address) commands else filter (λ (one : TakenCommand). one.codec.graph.address == address) commands))
    by true rest = All-cons P one.word (words_to address commands) (All-head P one.word (words_of commands) all) rest
    by false rest = rest

-- ---- codecs

-- the laws that this goes by
pub record SetUpLaws : Type 0 where
  pub found : (start : List CodecState) (from : ℕ) (world : World) (address : ℕ) → Remembers start from world → FoundTaken (drop from world.commands) (codec_at address start) (codec_at address world.codecs)
  pub later : (is_speaker : ℕ → ℕ → Bool) (start : List CodecState) (from : ℕ) (world : World) (first now : CodecState) (earlier : List ℕ) (plan : Plan) (format : Format) (tag : ℕ)
      → Remembers start from world → All (IsSwitchWord is_speaker) (words_to first.graph.address (drop from world.commands))
      → codec_at first.graph.address start ≡ Some first → codec_at first.graph.address world.codecs ≡ Some now → IsWellFormed first.graph → IsSettingsOf first.graph first.settings
      → IsSetUp first.graph first.settings plan format tag → AreRoutesOn (λ pin. last_control pin earlier) plan → ((pin : ℕ) → HasNoRoute plan pin → is_speaker first.graph.address pin ≡ false)
      → IsSetUpBut (λ pin. last_control pin (earlier ++ words_to first.graph.address (drop from world.commands))) now.graph now.settings plan format tag

module _ (laws : SetUpLaws) (format : Format) (graphs : List RawCodec) (plans : List Plan) (world : World) (turned : HasTurned format graphs plans world) (well : All IsWellFormed graphs) where
  abbrev On : RawCodec → Plan → Type 0
  On graph plan = AreRoutesOn (λ pin. last_control pin (words_to graph.address (take turned.from world.commands))) plan

  abbrev IsNone : RawCodec → Plan → Type 0
  IsNone graph plan = (pin : ℕ) → HasNoRoute plan pin → is_switched graphs plans graph.address pin ≡ false

  first_there : (first : CodecState) (plan : Plan) → codec_at first.graph.address turned.start ≡ Some first → IsSetUp first.graph first.settings plan format 1 → On first.graph plan → IsNone first.graph plan → IsThereBut format 1 first.graph plan world
  first_there first plan at set_up on none =
      by (codec_at first.graph.address world.codecs) refl
      (subst (λ (found : Option CodecState). FoundTaken (drop turned.from world.commands) found (codec_at first.graph.address world.codecs)) at (laws.found turned.start turned.from world first.graph.address turned.remembers))
    where
      address : ℕ
      address = first.graph.address

      words : words_to first.graph.address (take turned.from world.commands) ++ words_to first.graph.address (drop turned.from world.commands) ≡ words_to first.graph.address world.commands
      words =
          sym (words_to-append first.graph.address (take turned.from world.commands) (drop turned.from world.commands))
          ∙ ap (λ (commands : List TakenCommand). words_to first.graph.address commands) (take-append-drop turned.from world.commands)

      by : (found : Option CodecState) → codec_at first.graph.address world.codecs ≡ found → FoundTaken (drop turned.from world.commands) (Some first) found → IsThereBut format 1 first.graph plan world
      by None is taken = absurd taken
      by (Some now) is taken = record {
        now = now;
        found = is;
        graph_is = taken.graph;
        opened = subst (λ (words : List ℕ). IsSetUpBut (λ pin. last_control pin words) now.graph now.settings plan format 1) words
            (laws.later (is_switched graphs plans) turned.start turned.from world first now (words_to first.graph.address (take turned.from world.commands)) plan format 1 turned.remembers
            (words_all (IsSwitchWord (is_switched graphs plans)) first.graph.address (drop turned.from world.commands) turned.switching.words) at is
            (found_all (λ (codec : CodecState). IsWellFormed codec.graph) first.graph.address turned.start first at (graphs_all IsWellFormed turned.start (subst (All IsWellFormed) (sym turned.graphs_are) well)))
            (found_all (λ (codec : CodecState). IsSettingsOf codec.graph codec.settings) first.graph.address turned.start first at turned.settings) set_up on none);
      }

  there_but : (graph : RawCodec) (plan : Plan) → Contains graphs graph → (outputs format).IsPlanBy graph plan → On graph plan → IsNone graph plan → IsThereBut format 1 graph plan world
  there_but graph plan is planned on none =
      let there : IsThere (outputs format) graph turned.start = turned.set_up graph is in
      subst (λ (graph : RawCodec). IsThereBut format 1 graph plan world) there.graph_is
      (first_there there.now plan (subst (λ (graph : RawCodec). codec_at graph.address turned.start ≡ Some there.now) (sym there.graph_is) there.found)
      (subst (λ (graph : RawCodec). IsSetUp graph there.now.settings plan format 1) (sym there.graph_is) (there.opened plan planned))
      (subst (λ (graph : RawCodec). On graph plan) (sym there.graph_is) on) (subst (λ (graph : RawCodec). IsNone graph plan) (sym there.graph_is) none))

  all_there : (some : List RawCodec) (their : List Plan) → All (Contains graphs) some → ArePlansBy (outputs format).IsPlanBy some their → AllZip On some their → AllZip (HasNone (jacks_of graphs plans) 0 graphs plans) some their
      → AllZip (λ (graph : RawCodec) (plan : Plan). IsThereBut format 1 graph plan world) some their
  all_there [] [] are planned on none = tt
  all_there [] (plan ∷ their) are planned on none = absurd planned
  all_there (graph ∷ some) [] are planned on none = absurd planned
  all_there (graph ∷ some) (plan ∷ their) are planned on none = (
    there_but graph plan (All-head (Contains graphs) graph some are) planned.0 on.0 none.0.none,
    all_there some their (All-tail (Contains graphs) graph some are) planned.1 on.1 none.1,
  )

  pub turned_set_up : AscendFrom 0 graphs → ArePlansBy (outputs format).IsPlanBy graphs plans → AreSetUpBut format 1 graphs plans world
  turned_set_up ascend planned =
      all_there graphs plans (λ k d within. Contains-get_or graphs k d within) planned turned.routes (none_all (jacks_of graphs plans) (outputs format).IsPlanBy 0 graphs plans ascend planned)
