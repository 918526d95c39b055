-- Where the input of one codec is open in every codec of a machine, the one converter that takes the stream hears its pin.
use Rattle.std.proofs.Common.{◌≡◌, ◌≤◌, ◌<◌, ◌+◌, ◌==◌, ℕ, Bool, true, false, if◌then◌else◌, List, [], ◌∷◌, ◌++◌, map, get_or, Some, All, inl, inr, refl, sym, ap, subst, ◌∙◌, arith}
use Rattle.std.specs.Prelude.{Contains}
use Rattle.std.specs.List.{zip}
use Rattle.std.proofs.lemmas.Bool.{ne_eqb, eq-eqb}
use Rattle.std.proofs.lemmas.List.Elements.{All-nil, All-cons, All-head, All-tail, All-weaker, Contains-append_right, Contains-append_cases}
use Rattle.codec_graph.specs.declared.raw.RawCodec.{RawCodec}
use Rattle.codec_graph.specs.Cycles.{IsWellFormed}
use Rattle.codec_graph.specs.Settings.{Entries}
use Rattle.codec_graph.specs.CodecStates.{CodecState}
use Rattle.codec_sound.specs.declared.in_heard.InHeard.{InHeard}
use Rattle.codec_sound.specs.declared.in_heard.InHeard.TheVariants.{Pin}
use Rattle.codec_sound.specs.Inward.{in_signal_of}
use Rattle.stream_format.specs.declared.format.Format.{Format}
use Rattle.stream_format.specs.Words.{format_word}
use Rattle.route_planner.specs.declared.routes.Route.{Route}
use Rattle.route_planner.specs.declared.routes.Outcome.{Outcome}
use Rattle.route_planner.specs.declared.routes.Outcome.TheVariants as outcome
use Rattle.route_planner.specs.declared.routes.PinPlan.{PinPlan}
use Rattle.route_planner.specs.declared.routes.Plan.{Plan}
use Rattle.route_planner.specs.Inputs.{IsInputPlan}
use Rattle.route_setup.specs.Means.{Means}
use Rattle.input_verbs.specs.OpenInputs.{IsInputPlanIf, IsInputPlanAt, IsInputOpen, IsInputOutcomeOpen, IsOpenIn, TakeAlone}
use Rattle.analog_in.specs.Means.{analog_in}
use Rattle.hda_files.specs.declared.machine.CodecFile.{CodecFile}
use Rattle.heard_lists.specs.Listings.{graphs_in as graphs_of}
use Rattle.hda_world.specs.Worlds.{codec_at}
use Rattle.hda_world.specs.Arriving.{brought_by_codec, brought_by, brought_alone, listened}
use Rattle.hda_world.proofs.Callers.{is_address}
use Rattle.command_engine.specs.Fetchings.{AscendFrom, graphs_in}
use Rattle.laws_bring_up.specs.SettingUp.{IsThere}
use Rattle.laws_start.specs.Tasks.{HavePlansBy}
use Rattle.laws_capture.specs.Listening.{HearsWhereOpen, RecordsPin}

-- what is known of an input that is open
pub record AloneLaws : Type 0 where
  pub one : (graph : RawCodec) (plan : Plan) (format : Format) (tag : ℕ) (settings : Entries) (entry : PinPlan) (route : Route) → IsWellFormed graph → IsInputPlan graph format plan → 1 ≤ tag
      → IsOpenIn graph settings plan format tag → plan.pins ≡ entry ∷ [] → entry.outcome ≡ outcome.Route route → TakeAlone graph settings tag (format_word format) (route.converter ∷ [])
  pub none : (graph : RawCodec) (plan : Plan) (format : Format) (tag : ℕ) (settings : Entries) → IsOpenIn graph settings plan format tag → plan.pins ≡ [] → TakeAlone graph settings tag (format_word format) []

-- ---- codecs that are set up, each by itself

-- its settings are open for each of its plans
abbrev IsOpenCodec : Means → CodecState → Type 0
IsOpenCodec means codec = (plan : Plan) → means.IsPlanBy codec.graph plan → means.IsOpenBy codec.graph codec.settings plan

above_low : (low : ℕ) (graphs : List RawCodec) → AscendFrom low graphs → All (λ (graph : RawCodec). low ≤ graph.address) graphs
above_low low [] ascend = All-nil (λ (graph : RawCodec). low ≤ graph.address)
above_low low (graph ∷ graphs) ascend =
    let first = ascend.0 in
    All-cons (λ (one : RawCodec). low ≤ one.address) graph graphs first
    (All-weaker (λ (one : RawCodec). graph.address + 1 ≤ one.address) (λ (one : RawCodec). low ≤ one.address) (λ one more. omega (arith, more, first)) graphs (above_low (graph.address + 1) graphs ascend.2))

contained_low : (low : ℕ) (graphs : List RawCodec) (graph : RawCodec) → AscendFrom low graphs → Contains graphs graph → low ≤ graph.address
contained_low low graphs graph ascend has = subst (λ (one : RawCodec). low ≤ one.address) has.2 (above_low low graphs ascend has.0 graph has.1)

-- the first of some codecs is found at its address
first_open : (means : Means) (codec : CodecState) (codecs : List CodecState) → IsThere means codec.graph (codec ∷ codecs) → IsOpenCodec means codec
first_open means codec codecs there = by (codec.graph.address == codec.graph.address) (eq-eqb codec.graph.address codec.graph.address refl) there.found where
  by : (here : Bool) → here ≡ true → (if here then Some codec else codec_at codec.graph.address codecs) ≡ Some there.now → IsOpenCodec means codec
  by true is found =
      let same : codec ≡ there.now = cc in
      λ plan planned. subst (λ (settings : Entries). means.IsOpenBy codec.graph settings plan) (ap (λ (one : CodecState). one.settings) (sym same)) (there.opened plan planned)
  by false is found = cc

-- and one with a higher address among the others
later_there : (means : Means) (graph : RawCodec) (codec : CodecState) (codecs : List CodecState) → codec.graph.address + 1 ≤ graph.address → IsThere means graph (codec ∷ codecs) → IsThere means graph codecs
later_there means graph codec codecs above there = record {
  now = there.now;
  found = by (codec.graph.address == graph.address) refl there.found;
  graph_is = there.graph_is;
  opened = there.opened;
} where
  by : (here : Bool) → (codec.graph.address == graph.address) ≡ here → (if here then Some codec else codec_at graph.address codecs) ≡ Some there.now → codec_at graph.address codecs ≡ Some there.now
  by true is found = let same = is_address codec graph.address is in absurd (omega (arith, same, above))
  by false is found = found

all_open : (means : Means) (low : ℕ) (codecs : List CodecState) → AscendFrom low (graphs_in codecs) → ((graph : RawCodec) → Contains (graphs_in codecs) graph → IsThere means graph codecs) → All (IsOpenCodec means) codecs
all_open means low [] ascend there = All-nil (IsOpenCodec means)
all_open means low (codec ∷ codecs) ascend there =
    All-cons (IsOpenCodec means) codec codecs (first_open means codec codecs (there codec.graph (0, omega arith, refl)))
    (all_open means (codec.graph.address + 1) codecs ascend.2
    (λ graph has. later_there means graph codec codecs (contained_low (codec.graph.address + 1) (graphs_in codecs) graph ascend.2 has)
    (there graph (Contains-append_right (codec.graph ∷ []) (graphs_in codecs) graph has))))

-- ---- what one codec brings

module _ (laws : AloneLaws) (address : ℕ) (format : Format) where
  abbrev IsOpenHere : CodecState → Type 0
  IsOpenHere codec = IsOpenCodec (analog_in address format 1) codec

  -- a codec from which nothing is recorded brings nothing
  other_brings : (codec : CodecState) (plan : Plan) → (codec.graph.address == address) ≡ false → IsInputPlanAt address codec.graph format plan → IsOpenHere codec → brought_by_codec 1 (format_word format) codec ≡ []
  other_brings codec plan other planned opens =
      let bare : plan.pins ≡ [] = subst (λ (records : Bool). IsInputPlanIf records codec.graph format plan) other planned in
      ap (map (in_signal_of codec.graph codec.settings)) (laws.none codec.graph plan format 1 codec.settings (opens plan planned) bare)

  -- the route's converter of the other one hears the pin
  route_hears : (codec : CodecState) (entry : PinPlan) (route : Route) (nid : ℕ) (out : Outcome) → out ≡ outcome.Route route → entry.pin ≡ nid → IsInputOutcomeOpen codec.graph codec.settings format 1 entry.pin out
      → in_signal_of codec.graph codec.settings route.converter ≡ Pin nid
  route_hears codec entry route nid out routed pin_is opens =
      let is : IsInputOpen codec.graph codec.settings format 1 entry.pin route = subst (λ (one : Outcome). IsInputOutcomeOpen codec.graph codec.settings format 1 entry.pin one) routed opens in
      is.hears ∙ ap (λ (pin : ℕ). Pin pin) pin_is

  own_brings : (codec : CodecState) (plan : Plan) (entry : PinPlan) (route : Route) (nid : ℕ) → IsWellFormed codec.graph → (codec.graph.address == address) ≡ true → IsInputPlanAt address codec.graph format plan → IsOpenHere codec
      → plan.pins ≡ entry ∷ [] → entry.outcome ≡ outcome.Route route → entry.pin ≡ nid → brought_by_codec 1 (format_word format) codec ≡ Pin nid ∷ []
  own_brings codec plan entry route nid well own planned opens one routed pin_is =
      let is : IsInputPlan codec.graph format plan = subst (λ (records : Bool). IsInputPlanIf records codec.graph format plan) own planned in
      let opened : IsOpenIn codec.graph codec.settings plan format 1 = opens plan planned in
      let outcomes : All (λ (entry : PinPlan). IsInputOutcomeOpen codec.graph codec.settings format 1 entry.pin entry.outcome) (entry ∷ []) =
      subst (λ (pins : List PinPlan). All (λ (entry : PinPlan). IsInputOutcomeOpen codec.graph codec.settings format 1 entry.pin entry.outcome) pins) one opened.routes in
      let first = All-head (λ (entry : PinPlan). IsInputOutcomeOpen codec.graph codec.settings format 1 entry.pin entry.outcome) entry [] outcomes in
      ap (map (in_signal_of codec.graph codec.settings)) (laws.one codec.graph plan format 1 codec.settings entry route well is (omega arith) opened one routed)
      ∙ ap (λ (heard : InHeard). heard ∷ []) (route_hears codec entry route nid entry.outcome routed pin_is first)

  -- ---- what all bring

  joined : (codec : CodecState) (codecs : List CodecState) (first rest : List InHeard) → brought_by_codec 1 (format_word format) codec ≡ first → brought_by 1 (format_word format) codecs ≡ rest → brought_by 1 (format_word format) (codec ∷ codecs) ≡ first ++ rest
  joined codec codecs first rest one others = ap (λ (list : List InHeard). list ++ brought_by 1 (format_word format) codecs) one ∙ ap (λ (list : List InHeard). first ++ list) others

  is_elsewhere : (codec : CodecState) (at : ℕ) → codec.graph.address ≡ at → (at ≡ address → ⊥) → (codec.graph.address == address) ≡ false
  is_elsewhere codec at is other = ne_eqb codec.graph.address address (λ same. other (sym is ∙ same))

  -- codecs above the address bring nothing
  none_brought : (low : ℕ) (files : List CodecFile) (plans : List Plan) (codecs : List CodecState) → address < low → AscendFrom low (graphs_of files) → HavePlansBy (analog_in address format 1) files plans
      → graphs_in codecs ≡ graphs_of files → All IsOpenHere codecs → brought_by 1 (format_word format) codecs ≡ []
  none_brought low [] plans [] below ascend have same opens = refl
  none_brought low [] plans (codec ∷ codecs) below ascend have same opens = cc
  none_brought low (file ∷ files) [] codecs below ascend have same opens = absurd have
  none_brought low (file ∷ files) (plan ∷ plans) [] below ascend have same opens = cc
  none_brought low (file ∷ files) (plan ∷ plans) (codec ∷ codecs) below ascend have same opens =
      let first : codec.graph ≡ file.graph = cc in
      let rest : graphs_in codecs ≡ graphs_of files = cc in
      let above = ascend.0 in
      let at : codec.graph.address ≡ file.graph.address = ap (λ (graph : RawCodec). graph.address) first in
      joined codec codecs [] []
      (other_brings codec plan (is_elsewhere codec file.graph.address at (λ here. omega (arith, here, above, below))) (subst (λ (graph : RawCodec). IsInputPlanAt address graph format plan) (sym first) have.0)
      (All-head IsOpenHere codec codecs opens))
      (none_brought (file.graph.address + 1) files plans codecs (omega (arith, above, below)) ascend.2 have.1 rest (All-tail IsOpenHere codec codecs opens))

  -- a codec with a plan among some stands above a low one
  zip_low : (low : ℕ) (files : List CodecFile) (plans : List Plan) (file : CodecFile) (plan : Plan) → AscendFrom low (graphs_of files) → Contains (zip files plans) (file, plan) → low ≤ file.graph.address
  zip_low low [] plans file plan ascend has = absurd (let within = has.1 in omega (arith, within))
  zip_low low (first ∷ files) [] file plan ascend has = absurd (let within = has.1 in omega (arith, within))
  zip_low low (first ∷ files) (own ∷ plans) file plan ascend has = elim (Contains-append_cases ((first, own) ∷ []) (zip files plans) (file, plan) has) [
    | inl here ↦ (
        let zero : here.0 ≡ 0 = omega (arith, here.1) in
        let same : (first, own) ≡ (file, plan) = subst (λ (k : ℕ). get_or ((first, own) ∷ []) k (file, plan) ≡ (file, plan)) zero here.2 in
        subst (λ (one : CodecFile × Plan). low ≤ one.0.graph.address) same ascend.0)
    | inr later ↦ (let rest = zip_low (first.graph.address + 1) files plans file plan ascend.2 later in let above = ascend.0 in omega (arith, rest, above))
  ]

  one_brought : (nid low : ℕ) (files : List CodecFile) (plans : List Plan) (codecs : List CodecState) (file : CodecFile) (plan : Plan) (entry : PinPlan) (route : Route) → All IsWellFormed (graphs_of files) → AscendFrom low (graphs_of files)
      → HavePlansBy (analog_in address format 1) files plans → Contains (zip files plans) (file, plan) → file.graph.address ≡ address → plan.pins ≡ entry ∷ [] → entry.outcome ≡ outcome.Route route → entry.pin ≡ nid
      → graphs_in codecs ≡ graphs_of files → All IsOpenHere codecs → brought_by 1 (format_word format) codecs ≡ Pin nid ∷ []
  one_brought nid low [] plans codecs file plan entry route well ascend have has at one routed pin_is same opens = absurd (let within = has.1 in omega (arith, within))
  one_brought nid low (first ∷ files) [] codecs file plan entry route well ascend have has at one routed pin_is same opens = absurd have
  one_brought nid low (first ∷ files) (own ∷ plans) [] file plan entry route well ascend have has at one routed pin_is same opens = cc
  one_brought nid low (first ∷ files) (own ∷ plans) (codec ∷ codecs) file plan entry route well ascend have has at one routed pin_is same opens =
      elim (Contains-append_cases ((first, own) ∷ []) (zip files plans) (file, plan) has) [
        | inl here ↦ is_first here
        | inr later ↦ is_later later
            (one_brought nid (first.graph.address + 1) files plans codecs file plan entry route (All-tail IsWellFormed first.graph (graphs_of files) well) ascend.2 have.1 later at one routed pin_is rest_is (All-tail IsOpenHere codec codecs opens))
      ]
    where
      graph_is : codec.graph ≡ first.graph
      graph_is = cc

      rest_is : graphs_in codecs ≡ graphs_of files
      rest_is = cc

      planned : IsInputPlanAt address codec.graph format own
      planned = subst (λ (graph : RawCodec). IsInputPlanAt address graph format own) (sym graph_is) have.0

      well_formed : IsWellFormed codec.graph
      well_formed = subst IsWellFormed (sym graph_is) (All-head IsWellFormed first.graph (graphs_of files) well)

      here_is : codec.graph.address ≡ first.graph.address
      here_is = ap (λ (graph : RawCodec). graph.address) graph_is

      is_first : Contains {X = CodecFile × Plan} ((first, own) ∷ []) (file, plan) → brought_by 1 (format_word format) (codec ∷ codecs) ≡ Pin nid ∷ []
      is_first here =
          let zero : here.0 ≡ 0 = omega (arith, here.1) in
          let pair : (first, own) ≡ (file, plan) = subst (λ (k : ℕ). get_or ((first, own) ∷ []) k (file, plan) ≡ (file, plan)) zero here.2 in
          let file_is : first ≡ file = ap (λ (one : CodecFile × Plan). one.0) pair in
          let plan_is : own ≡ plan = ap (λ (one : CodecFile × Plan). one.1) pair in
          let first_at : first.graph.address ≡ address = ap (λ (one : CodecFile). one.graph.address) file_is ∙ at in
          joined codec codecs (Pin nid ∷ []) []
          (own_brings codec own entry route nid well_formed (eq-eqb codec.graph.address address (here_is ∙ first_at)) planned (All-head IsOpenHere codec codecs opens) (ap (λ (one : Plan). one.pins) plan_is ∙ one) routed pin_is)
          (none_brought (first.graph.address + 1) files plans codecs (omega (arith, first_at)) ascend.2 have.1 rest_is (All-tail IsOpenHere codec codecs opens))

      is_later : Contains (zip files plans) (file, plan) → brought_by 1 (format_word format) codecs ≡ Pin nid ∷ [] → brought_by 1 (format_word format) (codec ∷ codecs) ≡ Pin nid ∷ []
      is_later later rest =
          let above = zip_low (first.graph.address + 1) files plans file plan ascend.2 later in
          joined codec codecs [] (Pin nid ∷ [])
          (other_brings codec own (is_elsewhere codec first.graph.address here_is (λ here. omega (arith, here, at, above))) planned (All-head IsOpenHere codec codecs opens))
          rest

  listens : (nid : ℕ) (codecs : List CodecState) → brought_by 1 (format_word format) codecs ≡ Pin nid ∷ [] → listened 1 (format_word format) codecs ≡ Some (Pin nid)
  unfolding listened
  listens nid codecs brought = ap brought_alone brought

  pub inputs_heard : (nid : ℕ) (files : List CodecFile) (plans : List Plan) → All IsWellFormed (graphs_of files) → AscendFrom 0 (graphs_of files) → HavePlansBy (analog_in address format 1) files plans → RecordsPin address files plans nid
      → HearsWhereOpen (analog_in address format 1) (graphs_of files) format nid
  inputs_heard nid files plans well ascend have records world same set_up fetched = record {
    fetched = fetched;
    listens = listens nid world.codecs
        (one_brought nid 0 files plans world.codecs records.file records.plan records.entry records.route well ascend have records.among records.address_is records.one records.routed records.pin_is same
        (all_open (analog_in address format 1) 0 world.codecs (subst (AscendFrom 0) (sym same) ascend) (subst (λ (graphs : List RawCodec). (graph : RawCodec) → Contains graphs graph → IsThere (analog_in address format 1) graph world.codecs) (sym same) set_up)));
  }
