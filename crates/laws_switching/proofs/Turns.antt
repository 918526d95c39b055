-- Codecs that were set up are those of the turn.
use Rattle.std.proofs.Common.{◌≡◌, ◌≤◌, ◌⊎◌, ℕ, false, true, List, [], ◌∷◌, take, drop, length, Option, None, Some, refl, sym, ap, subst, ◌∙◌}
use Rattle.std.specs.Prelude.{All, Contains}
use Rattle.std.specs.List.{AllZip}
use Rattle.std.proofs.Math.Seq.{take-length, drop-length}
use Rattle.std.proofs.lemmas.List.Elements.{All-cons, All-head, All-nil, All-tail, Contains-get_or}
use Rattle.verb_codes.specs.Verbs.{reading_of}
use Rattle.codec_graph.specs.declared.raw.RawCodec.{RawCodec}
use Rattle.codec_graph.specs.Cycles.{IsWellFormed}
use Rattle.codec_graph.specs.Settings.{Entries, IsSettingsOf}
use Rattle.codec_graph.specs.CodecStates.{CodecState}
use Rattle.codec_graph.proofs.Callers.{settings-reading}
use Rattle.stream_format.specs.declared.format.Format.{Format}
use Rattle.route_planner.specs.declared.routes.Plan.{Plan}
use Rattle.setup_verbs.specs.SetUp.{IsSetUp}
use Rattle.hda_world.specs.Worlds.{World, TakenCommand, CarriedFrame, codec_at}
use Rattle.hda_world.proofs.Callers.{found_all}
use Rattle.command_engine.specs.Fetchings.{graphs_in}
use Rattle.driver_agenda.specs.Planned.{ArePlansBy}
use Rattle.laws_settings.specs.Histories.{Remembers, HasTaken, FoundTaken, after_reading, settings_by, settings_since, words_of, words_to}
use Rattle.laws_settings.specs.Frames.{RemembersFrames}
use Rattle.laws_settings.specs.PinControls.{last_control}
use Rattle.laws_settings.proofs.Callers.{AreGraphs, AreSettings, made_of}
use Rattle.laws_bring_up.specs.SettingUp.{IsThere, AreSetUp}
use Rattle.laws_speakers.specs.SwitchWords.{IsSwitchWord}
use Rattle.laws_speakers.specs.SetUpBut.{AreRoutesOn}
use Rattle.laws_switching.specs.Speakers.{is_switched}
use Rattle.laws_switching.specs.Turned.{outputs, HasTurned}
use Rattle.laws_switching.proofs.SwitchedHeard.{graphs_all}

-- the laws that this goes by
pub record TurnLaws : Type 0 where
  pub remembers : (world : World) → Remembers world.codecs (length world.commands) world
  pub frames : (world : World) → RemembersFrames world.codecs (length world.commands) (length world.carried) world
  pub found : (start : List CodecState) (from : ℕ) (world : World) (address : ℕ) → Remembers start from world → FoundTaken (drop from world.commands) (codec_at address start) (codec_at address world.codecs)
  pub routes : (graph : RawCodec) (settings : Entries) (words : List ℕ) (plan : Plan) (format : Format) (tag : ℕ) → IsWellFormed graph → IsSettingsOf graph settings → IsSetUp graph (settings_by graph settings words) plan format tag
      → AreRoutesOn (λ pin. last_control pin words) plan

-- ---- settings

settings_on : (graph : RawCodec) (settings : Entries) (words : List ℕ) → IsSettingsOf graph settings → IsSettingsOf graph (settings_by graph settings words)
settings_on graph settings [] of = of
settings_on graph settings (word ∷ words) of =
    let codec : CodecState = record { graph = graph; settings = settings; present = []; waiting = [] } in
    settings_on graph (after_reading graph settings (reading_of word)) words (subst (IsSettingsOf graph) (made_of codec (reading_of word)) (settings-reading codec word of))

abbrev HasSettings : CodecState → Type 0
HasSettings codec = IsSettingsOf codec.graph codec.settings

have_settings : (commands : List TakenCommand) (start codecs : List CodecState) → AreGraphs start codecs → AreSettings commands start codecs → All HasSettings start → All HasSettings codecs
have_settings commands [] [] graphs settings all = All-nil HasSettings
have_settings commands [] (now ∷ codecs) graphs settings all = cc
have_settings commands (first ∷ start) [] graphs settings all = cc
have_settings commands (first ∷ start) (now ∷ codecs) graphs settings all =
    let graphs_after : AreGraphs start codecs = cc in
    let settings_after : AreSettings commands start codecs = cc in
    let graph : now.graph ≡ first.graph = cc in
    let set : now.settings ≡ settings_since commands first = cc in
    let of = settings_on first.graph first.settings (words_to first.graph.address commands) (All-head HasSettings first start all) in
    All-cons HasSettings now codecs (subst (λ (graph : RawCodec). IsSettingsOf graph now.settings) (sym graph) (subst (IsSettingsOf first.graph) (sym set) of))
    (have_settings commands start codecs graphs_after settings_after (All-tail HasSettings first start all))

drop_none : (commands : List TakenCommand) → drop 0 commands ≡ commands
drop_none [] = refl
drop_none (one ∷ commands) = refl

-- ---- the turn

module _ (laws : TurnLaws) (format : Format) (graphs : List RawCodec) (plans : List Plan) (start : List CodecState) (world : World) (remembers : Remembers start 0 world) (graphs_are : graphs_in world.codecs ≡ graphs)
    (settings : All HasSettings start) (set_up : AreSetUp (outputs format) graphs world) (well : All IsWellFormed graphs) where
  abbrev On : RawCodec → Plan → Type 0
  On graph plan = AreRoutesOn (λ pin. last_control pin (words_to graph.address (take (length world.commands) world.commands))) plan

  same_words : (address : ℕ) → words_to address (drop 0 world.commands) ≡ words_to address (take (length world.commands) world.commands)
  same_words address = ap (λ (commands : List TakenCommand). words_to address commands) (drop_none world.commands ∙ sym (take-length world.commands))

  first_on : (now first : CodecState) (plan : Plan) → codec_at first.graph.address start ≡ Some first → IsWellFormed first.graph → HasTaken (drop 0 world.commands) first now → IsSetUp first.graph now.settings plan format 1 → On first.graph plan
  first_on now first plan at graph_well taken is =
      let words = words_to first.graph.address (drop 0 world.commands) in
      subst (λ (words : List ℕ). AreRoutesOn (λ pin. last_control pin words) plan) (same_words first.graph.address)
      (laws.routes first.graph first.settings words plan format 1 graph_well (found_all HasSettings first.graph.address start first at settings)
      (subst (λ (settings : Entries). IsSetUp first.graph settings plan format 1) taken.settings is))

  route_on : (graph : RawCodec) (plan : Plan) → Contains graphs graph → (outputs format).IsPlanBy graph plan → On graph plan
  route_on graph plan is planned =
      by (codec_at graph.address start) refl (subst (λ (found : Option CodecState). FoundTaken (drop 0 world.commands) (codec_at graph.address start) found) there.found (laws.found start 0 world graph.address remembers))
    where
      there : IsThere (outputs format) graph world.codecs
      there = set_up graph is

      now_well : IsWellFormed there.now.graph
      now_well = found_all (λ (codec : CodecState). IsWellFormed codec.graph) graph.address world.codecs there.now there.found (graphs_all IsWellFormed world.codecs (subst (All IsWellFormed) (sym graphs_are) well))

      by : (found : Option CodecState) → codec_at graph.address start ≡ found → FoundTaken (drop 0 world.commands) found (Some there.now) → On graph plan
      by None at taken = absurd taken
      by (Some first) at taken =
          let same : first.graph ≡ graph = sym taken.graph ∙ there.graph_is in
          subst (λ (graph : RawCodec). On graph plan) same
          (first_on there.now first plan (subst (λ (graph : RawCodec). codec_at graph.address start ≡ Some first) (sym same) at) (subst IsWellFormed taken.graph now_well) taken
          (subst (λ (graph : RawCodec). IsSetUp graph there.now.settings plan format 1) (sym same) (there.opened plan planned)))

  all_on : (some : List RawCodec) (their : List Plan) → All (Contains graphs) some → ArePlansBy (outputs format).IsPlanBy some their → AllZip On some their
  all_on [] [] are planned = tt
  all_on [] (plan ∷ their) are planned = absurd planned
  all_on (graph ∷ some) [] are planned = absurd planned
  all_on (graph ∷ some) (plan ∷ their) are planned =
      (route_on graph plan (All-head (Contains graphs) graph some are) planned.0, all_on some their (All-tail (Contains graphs) graph some are) planned.1)

  abbrev IsDuring : TakenCommand → Type 0
  IsDuring one = (one.running ≡ true) ⊎ (length world.carried ≤ one.carried)

  pub turned : world.carried ≡ [] → All (λ (one : TakenCommand). one.running ≡ false) world.commands → ArePlansBy (outputs format).IsPlanBy graphs plans → HasTurned format graphs plans world
  turned none before planned = record {
    start = world.codecs;
    from = length world.commands;
    remembers = laws.remembers world;
    frames = subst (λ (frames : ℕ). RemembersFrames world.codecs (length world.commands) frames world) (ap (λ (carried : List CarriedFrame). length carried) none) (laws.frames world);
    switching = record {
      before = subst (All (λ (one : TakenCommand). one.running ≡ false)) (sym (take-length world.commands)) before;
      words = subst (λ (commands : List TakenCommand). All (IsSwitchWord (is_switched graphs plans)) (words_of commands)) (sym (drop-length world.commands)) (All-nil (IsSwitchWord (is_switched graphs plans)));
      during = subst (All IsDuring) (sym (drop-length world.commands)) (All-nil IsDuring);
    };
    graphs_are = graphs_are;
    settings = have_settings (drop 0 world.commands) start world.codecs remembers.graphs remembers.settings settings;
    set_up = set_up;
    routes = all_on graphs plans (λ k d within. Contains-get_or graphs k d within) planned;
  }

  -- and no command was taken since then
  pub turned_fresh : world.carried ≡ [] → All (λ (one : TakenCommand). one.running ≡ false) world.commands → ArePlansBy (outputs format).IsPlanBy graphs plans
      → (turned : HasTurned format graphs plans world) × (drop turned.from world.commands ≡ [])
  unfolding turned
  turned_fresh none before planned = (turned none before planned, drop-length world.commands)
