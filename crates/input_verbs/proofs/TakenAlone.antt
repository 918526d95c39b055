-- Where an input is open, just its route's converter takes the stream.
use Rattle.std.proofs.Common.{◌≡◌, ◌≢◌, ◌≤◌, ◌<◌, ◌+◌, ◌==◌, ◌&&◌, ◌⊎◌, not, ℕ, zero, suc, Bool, true, false, cond, List, [], ◌∷◌, Option, Some, None, inl, inr, refl, sym, ap, subst, ◌∙◌, arith}
use Rattle.std.specs.Prelude.{All}
use Rattle.std.specs.List.{filter, range_with_len}
use Rattle.std.proofs.lemmas.Bool.{true≢false, eq-eqb, ne_eqb, cases_eq}
use Rattle.std.proofs.lemmas.List.Elements.{All-nil, All-cons}
use Rattle.codec_graph.specs.declared.raw.RawNode.{RawNode}
use Rattle.codec_graph.specs.declared.raw.RawCodec.{RawCodec}
use Rattle.codec_graph.specs.declared.controls.Control.TheVariants as control
use Rattle.codec_graph.specs.Widget.{node_at, is_input_converter}
use Rattle.codec_graph.specs.Settings.{Entries, setting_of}
use Rattle.codec_graph.specs.Cycles.{IsWellFormed}
use Rattle.codec_graph.proofs.Callers.{node_below}
use Rattle.stream_format.specs.declared.format.Format.{Format}
use Rattle.stream_format.specs.Words.{format_word}
use Rattle.route_planner.specs.declared.routes.Route.{Route}
use Rattle.route_planner.specs.declared.routes.Outcome.{Outcome}
use Rattle.route_planner.specs.declared.routes.Outcome.TheVariants as outcome
use Rattle.route_planner.specs.declared.routes.PinPlan.{PinPlan}
use Rattle.route_planner.specs.declared.routes.Plan.{Plan}
use Rattle.route_planner.specs.Paths.{passes}
use Rattle.route_planner.specs.Inputs.{IsInputPlan, AreInputEntries}
use Rattle.codec_sound.specs.Signals.{tag_at}
use Rattle.codec_sound.specs.Inward.{takes_in, is_taking}
use Rattle.setup_verbs.proofs.Callers.{passing}
use Rattle.input_verbs.specs.OpenInputs.{IsInputOpen, IsInputOutcomeOpen, BeginsElsewhere, BeginsNoRoute, IsOpenIn, TakeAlone}

-- ---- numbers of a range that pass a test

filter_none : (p : ℕ → Bool) (a n : ℕ) → ((j : ℕ) → a ≤ j → j < a + n → p j ≡ false) → filter p (range_with_len a n) ≡ []
filter_none p a zero fails = refl
filter_none p a (suc n) fails = rw (fails a (omega arith) (omega arith)) (filter_none p (a + 1) n (λ j low high. fails j (omega arith) (omega arith)))

filter_one : (p : ℕ → Bool) (a n k : ℕ) → a ≤ k → k < a + n → p k ≡ true → ((j : ℕ) → a ≤ j → j < a + n → j ≢ k → p j ≡ false) → filter p (range_with_len a n) ≡ k ∷ []
filter_one p a zero k low high here fails = absurd (omega arith)
filter_one p a (suc n) k low high here fails =
    by (cases_eq a k) (λ other. filter_one p (a + 1) n k (omega (arith, other)) (omega arith) here (λ j low' high' ne. fails j (omega arith) (omega arith) ne))
  where
    rest_none : a ≡ k → filter p (range_with_len (a + 1) n) ≡ []
    rest_none same = filter_none p (a + 1) n (λ j low' high'. fails j (omega arith) (omega arith) (λ e. absurd (omega (arith, e, same))))

    by : (a ≡ k) ⊎ (a ≢ k) → (a ≢ k → filter p (range_with_len (a + 1) n) ≡ k ∷ []) → cond (p a) (a ∷ filter p (range_with_len (a + 1) n)) (filter p (range_with_len (a + 1) n)) ≡ k ∷ []
    by (inl same) rest =
        let first : p a ≡ true = ap p same ∙ here in
        rw (first, rest_none same) (ap (λ (x : ℕ). x ∷ []) same)
    by (inr other) rest = rw (fails a (omega arith) (omega arith) other) (rest other)

-- ---- one node

-- a converter with another tag does not take the stream
not_taking : (settings : Entries) (tag word nid : ℕ) (o : Option RawNode) → (passes is_input_converter o ≡ true → tag_at settings nid ≢ tag) → is_taking settings tag word nid o ≡ false
not_taking settings tag word nid None other = refl
not_taking settings tag word nid (Some node) other = by (is_input_converter node) refl
  where
    fails : (a b : Bool) → (a && false && b) ≡ false
    fails true b = refl
    fails false b = refl

    by : (b : Bool) → is_input_converter node ≡ b → (b && takes_in settings tag word nid) ≡ false
    by true e = rw (ne_eqb (tag_at settings nid) tag (other e)) (fails (not (tag_at settings nid == 0)) (setting_of settings nid control.Format == word))
    by false e = refl

-- one with the stream's tag and format does
taking : (settings : Entries) (tag word nid : ℕ) (o : Option RawNode) → passes is_input_converter o ≡ true → 1 ≤ tag → tag_at settings nid ≡ tag → setting_of settings nid control.Format ≡ word → is_taking settings tag word nid o ≡ true
taking settings tag word nid None is some tag-is word-is = absurd (true≢false (sym is))
taking settings tag word nid (Some node) is some tag-is word-is = rw (is, tag-is, word-is, eq-eqb word word refl, eq-eqb tag tag refl, ne_eqb tag 0 (λ e. absurd (omega (arith, e)))) refl

-- ---- all nodes

module _ (graph : RawCodec) (plan : Plan) (format : Format) (tag : ℕ) (settings : Entries) where
  -- no route of a plan that has no other entry begins at another node
  begins_none : (entry : PinPlan) (route : Route) (nid : ℕ) → plan.pins ≡ entry ∷ [] → entry.outcome ≡ outcome.Route route → nid ≢ route.converter → BeginsNoRoute plan nid
  begins_none entry route nid pins-are is other =
      subst (λ (pins : List PinPlan). All (λ (e : PinPlan). BeginsElsewhere nid e.outcome) pins) (sym pins-are)
      (All-cons (λ (e : PinPlan). BeginsElsewhere nid e.outcome) entry [] (subst (λ (o : Outcome). BeginsElsewhere nid o) (sym is) (λ e. other (sym e))) (All-nil (λ (e : PinPlan). BeginsElsewhere nid e.outcome)))

  entry_open : (entry : PinPlan) (route : Route) → IsOpenIn graph settings plan format tag → plan.pins ≡ entry ∷ [] → entry.outcome ≡ outcome.Route route → IsInputOpen graph settings format tag entry.pin route
  entry_open entry route is-open pins-are is =
      let all : All (λ (e : PinPlan). IsInputOutcomeOpen graph settings format tag e.pin e.outcome) (entry ∷ []) = subst (λ (pins : List PinPlan). All (λ (e : PinPlan). IsInputOutcomeOpen graph settings format tag e.pin e.outcome) pins) pins-are is-open.routes in
      subst (λ (o : Outcome). IsInputOutcomeOpen graph settings format tag entry.pin o) is (all 0 entry (omega arith))

  begins : (entry : PinPlan) (route : Route) → IsInputPlan graph format plan → plan.pins ≡ entry ∷ [] → entry.outcome ≡ outcome.Route route → passes is_input_converter (node_at graph route.converter) ≡ true
  begins entry route planned pins-are is =
      let of = subst (λ (pins : List PinPlan). AreInputEntries graph format pins) pins-are planned in
      let same : outcome.Route of.route ≡ outcome.Route route = sym of.outcome_is ∙ is in
      subst (λ (r : Route). passes is_input_converter (node_at graph r.converter) ≡ true) (route_of of.route route same) of.least.admissible.path.begins
    where
      route_of : (one other : Route) → outcome.Route one ≡ outcome.Route other → one ≡ other
      route_of one other e = cc

pub one_takes : (graph : RawCodec) (plan : Plan) (format : Format) (tag : ℕ) (settings : Entries) (entry : PinPlan) (route : Route) → IsWellFormed graph → IsInputPlan graph format plan → 1 ≤ tag → IsOpenIn graph settings plan format tag → plan.pins ≡ entry ∷ [] → entry.outcome ≡ outcome.Route route
    → TakeAlone graph settings tag (format_word format) (route.converter ∷ [])
one_takes graph plan format tag settings entry route well planned some is-open pins-are is =
    let here = entry_open graph plan format tag settings entry route is-open pins-are is in
    let converts = begins graph plan format tag settings entry route planned pins-are is in
    let node = passing is_input_converter (node_at graph route.converter) converts in
    filter_one (λ nid. is_taking settings tag (format_word format) nid (node_at graph nid)) 0 128 route.converter (omega arith) (node_below graph route.converter node.node well node.there)
    (taking settings tag (format_word format) route.converter (node_at graph route.converter) converts some here.tag_is here.format_is)
    (λ j low high other. not_taking settings tag (format_word format) j (node_at graph j) (λ e. is-open.others j e (begins_none graph plan format tag settings entry route j pins-are is other)))

pub none_takes : (graph : RawCodec) (plan : Plan) (format : Format) (tag : ℕ) (settings : Entries) → IsOpenIn graph settings plan format tag → plan.pins ≡ [] → TakeAlone graph settings tag (format_word format) []
none_takes graph plan format tag settings is-open none =
    filter_none (λ nid. is_taking settings tag (format_word format) nid (node_at graph nid)) 0 128
    (λ j low high. not_taking settings tag (format_word format) j (node_at graph j) (λ e. is-open.others j e
    (subst (λ (pins : List PinPlan). All (λ (entry : PinPlan). BeginsElsewhere j entry.outcome) pins) (sym none) (All-nil (λ (entry : PinPlan). BeginsElsewhere j entry.outcome)))))
