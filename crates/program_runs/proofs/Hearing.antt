-- Pins of codecs that are set up hear as their plans say.
use Rattle.std.proofs.Common.{◌≡◌, ◌<◌, ℕ, true, List, [], ◌∷◌, length, map, get_or, refl, sym, ap, subst, ◌∙◌, inl, inr, arith}
use Rattle.std.specs.Prelude.{All, AllPairs, Contains, Option, Some}
use Rattle.std.specs.List.{AllZip}
use Rattle.std.proofs.lemmas.Bool.{cases_order}
use Rattle.std.proofs.lemmas.List.{get_or-map, get_or_default, length-map}
use Rattle.std.proofs.lemmas.List.Elements.{Contains-append_right}
use Rattle.stream_format.specs.declared.format.Format.{Format}
use Rattle.stream_format.specs.Layouts.{layout}
use Rattle.stream_format.specs.Words.{format_word}
use Rattle.codec_graph.specs.declared.raw.RawCodec.{RawCodec}
use Rattle.codec_graph.specs.CodecStates.{CodecState}
use Rattle.codec_graph.specs.Settings.{Entries}
use Rattle.codec_graph.specs.Widget.{node_at, is_pin}
use Rattle.codec_sound.specs.declared.signals.Signal.{Signal}
use Rattle.codec_sound.specs.declared.signals.Signal.TheVariants.{Pair, Silence}
use Rattle.codec_graph.specs.declared.pin_kind.PinKind.{PinKind}
use Rattle.codec_graph.specs.declared.pin_kind.PinKind.TheVariants.{Analog, Digital}
use Rattle.heard_frames.specs.HeardLists.{heard_as, signal_with_as}
use Rattle.codec_sound.specs.Signals.{signal_as, stream_of}
use Rattle.route_planner.specs.declared.routes.Route.{Route}
use Rattle.route_planner.specs.declared.routes.Outcome.{Outcome}
use Rattle.route_planner.specs.declared.routes.Outcome.TheVariants as outcome
use Rattle.route_planner.specs.declared.routes.PinPlan.{PinPlan}
use Rattle.route_planner.specs.declared.routes.Plan.{Plan}
use Rattle.codec_graph.specs.Order.{comes_before}
use Rattle.route_planner.specs.Paths.{passes}
use Rattle.route_planner.specs.Plans.{IsPlanAs}
use Rattle.route_planner.proofs.Callers.{not_before}
use Rattle.digital_out.specs.Means.{outputs}
use Rattle.setup_verbs.specs.SetUp.{IsSetUpFor, IsNoRoute, IsOutcomeOpen, IsRouteHeard, HasNoRoute}
use Rattle.hda_files.specs.declared.machine.CodecFile.{CodecFile}
use Rattle.hda_world.specs.Worlds.{CarriedFrame, codec_at}
use Rattle.period_writer.specs.Runs.{Tally, tally_opened}
use Rattle.laws_hearing.specs.Plays.{IsSilent, WasSent}
use Rattle.heard_frames.specs.declared.heard.Heard.{Heard}
use Rattle.period_writer.specs.declared.course.Ran.TheVariants as ran
use Rattle.laws_bring_up.specs.SettingUp.{IsThere}
use Rattle.laws_stream.specs.Ending.{HearTheLine}
use Rattle.program_runs.specs.Hearing.{HearsBy, HearTheirs}
use Rattle.setup_verbs.proofs.Callers.{candidate_is_pin_as}

-- ---- a plan has one entry for each pin

abbrev pin_in : PinPlan → ℕ
pin_in entry = entry.pin

-- so two places with one pin are one
same_place : (codec : RawCodec) (pins : List ℕ) (j k d : ℕ) → AllPairs (λ pin other. comes_before codec pin other ≡ true) pins → j < length pins → k < length pins → get_or pins j d ≡ get_or pins k d → j ≡ k
same_place codec pins j k d ascending in_j in_k same = elim (cases_order j k) [
  | inl is ↦ is
  | inr (inl less) ↦ absurd (not_before codec (get_or pins j d) (subst (λ (pin : ℕ). comes_before codec (get_or pins j d) pin ≡ true) (sym same) (ascending j k d less in_k)))
  | inr (inr more) ↦ absurd (not_before codec (get_or pins k d) (subst (λ (pin : ℕ). comes_before codec (get_or pins k d) pin ≡ true) same (ascending k j d more in_j)))
]

-- where the entry at a place has no route, its pin has none in the plan
none_of : (kind : PinKind) (codec : RawCodec) (format : Format) (plan : Plan) (k : ℕ) (d : PinPlan) → IsPlanAs kind codec format plan → k < length plan.pins → IsNoRoute (get_or plan.pins k d).outcome → HasNoRoute plan (get_or plan.pins k d).pin
none_of kind codec format plan k d is within none = λ j e less same.
    let pins = map pin_in plan.pins in
    let long = length-map plan.pins pin_in in
    let here = get_or-map pin_in plan.pins j e (pin_in e) less in
    let there = get_or-map pin_in plan.pins k d (pin_in e) within in
    let place = same_place codec pins j k (pin_in e) is.pins.in_order.ascending (omega (arith, long, less)) (omega (arith, long, within)) (here ∙ same ∙ sym there) in
    subst (λ (n : ℕ). IsNoRoute (get_or plan.pins n e).outcome) (sym place) (subst (λ (entry : PinPlan). IsNoRoute entry.outcome) (get_or_default plan.pins k d e within) none)

-- ---- codecs that are set up for pins of a kind

-- the pin of a route hears its pair
route_heard : (kind : PinKind) (codec : RawCodec) (settings : Entries) (format : Format) (plan : Plan) (k : ℕ) (d : PinPlan) (route : Route) → IsPlanAs kind codec format plan → IsSetUpFor kind codec settings plan format 1
    → k < length plan.pins → (get_or plan.pins k d).outcome ≡ outcome.Route route → signal_as kind codec settings (stream_of 1 format) (get_or plan.pins k d).pin ≡ Pair (get_or plan.pins k d).pair
route_heard Analog codec settings format plan k d route is set_up within same =
    let entry = get_or plan.pins k d in (subst (IsOutcomeOpen codec settings format 1 entry.pin entry.pair) same (set_up.routes k d within)).heard
route_heard Digital codec settings format plan k d route is set_up within same =
    let entry = get_or plan.pins k d in
    let first : signal_as Digital codec settings (stream_of 1 format) entry.pin ≡ Pair 0 = subst (IsRouteHeard Digital codec settings format 1 entry.pin 0) same (set_up.routes k d within) in
    first ∙ ap Pair (sym (is.pins.pairs k d within))

-- and a pin without a route hears nothing
others_silent : (kind : PinKind) (codec : RawCodec) (settings : Entries) (format : Format) (plan : Plan) (pin : ℕ) → IsSetUpFor kind codec settings plan format 1 → passes is_pin (node_at codec pin) ≡ true → HasNoRoute plan pin
    → signal_as kind codec settings (stream_of 1 format) pin ≡ Silence
others_silent Analog codec settings format plan pin set_up is-pin none = set_up.others pin is-pin none
others_silent Digital codec settings format plan pin set_up is-pin none = (set_up.others pin is-pin none).1

-- ---- what a codec's pins hear

module _ (kind : PinKind) (format : Format) (pcm : List ℕ) (tally : Tally) (carried : List CarriedFrame) (codecs : List CodecState) (hear : HearTheLine codecs format pcm tally carried) where
  abbrev Hears : ℕ → (pin pair : ℕ) → Outcome → Type 0
  Hears address pin pair found = HearsBy format pcm tally pair found (heard_as kind address pin carried)

  abbrev signal_at : ℕ → ℕ → Signal
  signal_at address pin = signal_with_as kind (codec_at address codecs) 1 (format_word format) (Some (layout format)) pin

  -- the signal of a codec that is there
  there : (codec : RawCodec) (now : CodecState) (pin : ℕ) → codec_at codec.address codecs ≡ Some now → now.graph ≡ codec → signal_at codec.address pin ≡ signal_as kind codec now.settings (stream_of 1 format) pin
  there codec now pin found graph =
      ap (λ (found : Option CodecState). signal_with_as kind found 1 (format_word format) (Some (layout format)) pin) found
      ∙ ap (λ (graph : RawCodec). signal_as kind graph now.settings (stream_of 1 format) pin) graph

  silent_there : (codec : RawCodec) (now : CodecState) (plan : Plan) (k : ℕ) (d : PinPlan) → codec_at codec.address codecs ≡ Some now → now.graph ≡ codec → IsPlanAs kind codec format plan → IsSetUpFor kind codec now.settings plan format 1
      → k < length plan.pins → IsNoRoute (get_or plan.pins k d).outcome → All IsSilent (heard_as kind codec.address (get_or plan.pins k d).pin carried)
  silent_there codec now plan k d at graph is set_up within none =
      let pin = (get_or plan.pins k d).pin in
      let long = length-map plan.pins pin_in in
      let candidate = (is.pins.in_order.exactly pin).0 (k, omega (arith, long, within), get_or-map pin_in plan.pins k d pin within) in
      let signal = there codec now pin at graph ∙ others_silent kind codec now.settings format plan pin set_up (candidate_is_pin_as kind (node_at codec pin) candidate) (none_of kind codec format plan k d is within none) in
      hear.silent kind codec.address pin signal

  entry_hears : (codec : RawCodec) (now : CodecState) (plan : Plan) (k : ℕ) (d : PinPlan) (found : Outcome) → codec_at codec.address codecs ≡ Some now → now.graph ≡ codec → IsPlanAs kind codec format plan → IsSetUpFor kind codec now.settings plan format 1
      → k < length plan.pins → (get_or plan.pins k d).outcome ≡ found → Hears codec.address (get_or plan.pins k d).pin (get_or plan.pins k d).pair found
  entry_hears codec now plan k d (outcome.Route route) at graph is set_up within same =
      let entry = get_or plan.pins k d in
      let signal = there codec now entry.pin at graph ∙ route_heard kind codec now.settings format plan k d route is set_up within same in record {
        plays = hear.plays kind codec.address entry.pin entry.pair signal;
        alone = hear.sent_alone kind codec.address entry.pin entry.pair signal;
        all = λ drained. hear.all_sent drained kind codec.address entry.pin entry.pair signal;
      }
  entry_hears codec now plan k d outcome.Blocked at graph is set_up within same = silent_there codec now plan k d at graph is set_up within (subst IsNoRoute (sym same) (tt {0}))
  entry_hears codec now plan k d outcome.NoPath at graph is set_up within same = silent_there codec now plan k d at graph is set_up within (subst IsNoRoute (sym same) (tt {0}))

  -- every candidate pin of a codec that is set up
  pub plan_hears : (file : CodecFile) (plan : Plan) → IsPlanAs kind file.graph format plan → IsThere (outputs kind format 1) file.graph codecs
      → HearTheirs kind format pcm tally carried file plan
  plan_hears file plan is there = λ k d within. entry_hears file.graph there.now plan k d (get_or plan.pins k d).outcome there.found there.graph_is is
      (subst (λ (graph : RawCodec). IsSetUpFor kind graph there.now.settings plan format 1) (refl) (there.opened plan is)) within refl

  -- and of all codecs
  pub all_hear : (files : List CodecFile) (plans : List Plan) → AllZip (λ (file : CodecFile) (plan : Plan). IsPlanAs kind file.graph format plan) files plans
      → ((file : CodecFile) → Contains files file → IsThere (outputs kind format 1) file.graph codecs)
      → AllZip (HearTheirs kind format pcm tally carried) files plans
  all_hear [] [] planned all_there = planned
  all_hear [] (plan ∷ plans) planned all_there = planned
  all_hear (file ∷ files) [] planned all_there = planned
  all_hear (file ∷ files) (plan ∷ plans) planned all_there =
      (plan_hears file plan planned.0 (all_there file (0, omega arith, refl)), all_hear files plans planned.1 (λ other has. all_there other (Contains-append_right (file ∷ []) files other has)))

-- ---- what is heard of nothing

never_drained : ran.Playing ≡ ran.Drained → ⊥
never_drained is = cc

nothing : (P : Heard → Type 0) → All P []
nothing P = λ k d within. absurd (omega (arith, within))

-- no pin heard anything where no link frame carried anything, which is what its plan says of a line without runs
none_hears : (format : Format) (pcm : List ℕ) (pair : ℕ) (found : Outcome) → HearsBy format pcm tally_opened pair found []
none_hears format pcm pair (outcome.Route route) =
    record { plays = record { count = 0; within = omega arith; are = refl }; alone = nothing WasSent; all = λ drained. absurd (never_drained drained) }
none_hears format pcm pair outcome.Blocked = nothing IsSilent
none_hears format pcm pair outcome.NoPath = nothing IsSilent

pub none_hear : (kind : PinKind) (format : Format) (pcm : List ℕ) (files : List CodecFile) (plans : List Plan) → AllZip (λ (file : CodecFile) (plan : Plan). IsPlanAs kind file.graph format plan) files plans
    → AllZip (HearTheirs kind format pcm tally_opened []) files plans
none_hear kind format pcm [] [] planned = planned
none_hear kind format pcm [] (plan ∷ plans) planned = planned
none_hear kind format pcm (file ∷ files) [] planned = planned
none_hear kind format pcm (file ∷ files) (plan ∷ plans) planned =
    (λ k d within. none_hears format pcm (get_or plan.pins k d).pair (get_or plan.pins k d).outcome, none_hear kind format pcm files plans planned.1)
