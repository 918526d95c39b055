-- The arguments of the verbs fit: a graph has few pins, few inputs with an amplifier and few pairs.
use Rattle.std.proofs.Common.{◌≡◌, ◌≢◌, ◌<◌, ◌≤◌, ◌&&◌, not, ℕ, zero, suc, Bool, true, false, cond, List, ◌∷◌, map, length, get_or, Option, Some, None, refl, sym, subst, arith}
use Rattle.std.specs.Prelude.{All, AllPairs, Contains, nat_le}
use Rattle.std.proofs.lemmas.Bool.{true≢false, and_parts, leb-true, eqb-true}
use Rattle.std.proofs.lemmas.Bool.Decides.{Decides-eqb}
use Rattle.std.proofs.lemmas.List.{length-map}
use Rattle.std.proofs.lemmas.List.Elements.{All-cons, All-contains, Contains-get_or}
use Rattle.std.proofs.lemmas.Map.Steps.{length-le_from_distinct_below}
use Rattle.std.proofs.lemmas.Map.Made.{IsDistinct-from_AllPairs}
use Rattle.std.proofs.lemmas.Map.Views.{Contains-from_any}
use Rattle.codec_graph.specs.declared.raw.RawNode.{RawNode}
use Rattle.codec_graph.specs.declared.raw.RawCodec.{RawCodec}
use Rattle.codec_graph.specs.Widget.{node_at, is_mixer, is_selector, has_input_amplifier}
use Rattle.codec_graph.specs.Kinds.{is_candidate_at_as}
use Rattle.codec_graph.specs.Cycles.{IsWellFormed}
use Rattle.codec_graph.proofs.Callers.{node_below, counted}
use Rattle.stream_format.specs.declared.format.Format.{Format}
use Rattle.codec_graph.specs.declared.pin_kind.PinKind.{PinKind}
use Rattle.codec_graph.specs.declared.pin_kind.PinKind.TheVariants.{Analog, Digital}
use Rattle.route_planner.specs.declared.routes.PinPlan.{PinPlan}
use Rattle.route_planner.specs.declared.routes.Plan.{Plan}
use Rattle.codec_graph.specs.Order.{comes_before, IsOrderAs}
use Rattle.route_planner.specs.Paths.{passes, can_be_left_as}
use Rattle.route_planner.specs.Plans.{IsPlanAs}
use Rattle.route_planner.proofs.Callers.{not_before}
use Rattle.setup_verbs.specs.declared.roles.Role.{Role}
use Rattle.setup_verbs.specs.declared.roles.Role.TheVariants.{Unused, Passed, Source}
use Rattle.setup_verbs.specs.Roles.{role_of}
use Rattle.setup_verbs.specs.Steps.{FitsRole, FitsVerbs}
use Rattle.setup_verbs.proofs.Faultless.{faultless_at, IsApart, apart_at}
use Rattle.setup_verbs.proofs.RoleFacts.{IsUsedWell, role_well}

few_numbers : (xs : List ℕ) (n : ℕ) → AllPairs (λ x y. x ≢ y) xs → ((x : ℕ) → Contains xs x → x < n) → length xs ≤ n
few_numbers xs n apart below =
    length-le_from_distinct_below xs n (IsDistinct-from_AllPairs Decides-eqb xs apart)
    (λ q e. below q (Contains-from_any (λ x y h. eqb-true x y h) q xs e))

pairs_cons : (x : ℕ) (xs : List ℕ) → All (λ y. x ≢ y) xs → AllPairs (λ a b. a ≢ b) xs → AllPairs (λ a b. a ≢ b) (x ∷ xs)
pairs_cons x xs first rest zero zero d lt within = absurd (omega arith)
pairs_cons x xs first rest zero (suc j) d lt within = first j d (omega arith)
pairs_cons x xs first rest (suc i) zero d lt within = absurd (omega arith)
pairs_cons x xs first rest (suc i) (suc j) d lt within = rest i j d (omega arith) (omega arith)

pub pins_of : Plan → List ℕ
pins_of plan = map (λ (entry : PinPlan). entry.pin) plan.pins

pub pins_apart : (kind : PinKind) (codec : RawCodec) (pins : List ℕ) → IsOrderAs kind codec pins → AllPairs (λ a b. a ≢ b) pins
pins_apart kind codec pins order i j d lt within = λ same.
    not_before codec (get_or pins i d) (subst (λ q. comes_before codec (get_or pins i d) q ≡ true) (sym same) (order.ascending i j d lt within))

candidate_there : (kind : PinKind) (o : Option RawNode) → is_candidate_at_as kind o ≡ true → (node : RawNode) × (o ≡ Some node)
candidate_there Analog None e = absurd (true≢false (sym e))
candidate_there Digital None e = absurd (true≢false (sym e))
candidate_there kind (Some node) e = (node, refl)

-- the order has at most 126 pins: they have identifiers below 128, none is 0 and none is the group
few_pins : (kind : PinKind) (codec : RawCodec) (pins : List ℕ) → IsWellFormed codec → IsOrderAs kind codec pins → length pins ≤ 126
few_pins kind codec pins well order =
    let p = counted codec well in
    let all : length (0 ∷ codec.group ∷ pins) ≤ 128 = few_numbers (0 ∷ codec.group ∷ pins) 128
    (pairs_cons 0 (codec.group ∷ pins)
    (All-cons (λ y. 0 ≢ y) codec.group pins (λ e. let z : 1 ≤ codec.group = p.has_group in absurd (omega arith)) (λ k d within e. let z = (apart (get_or pins k d) (Contains-get_or pins k d within)).some in absurd (omega arith)))
    (pairs_cons codec.group pins (λ k d within e. (apart (get_or pins k d) (Contains-get_or pins k d within)).other (sym e)) (pins_apart kind codec pins order)))
    (λ x has. All-contains (λ y. y < 128) (0 ∷ codec.group ∷ pins) x
    (All-cons (λ y. y < 128) 0 (codec.group ∷ pins) (omega arith) (All-cons (λ y. y < 128) codec.group pins p.group_below (λ k d within. below (get_or pins k d) (Contains-get_or pins k d within)))) has)
    in omega arith
  where
    there : (pin : ℕ) → Contains pins pin → (node : RawNode) × (node_at codec pin ≡ Some node)
    there pin has = candidate_there kind (node_at codec pin) ((order.exactly pin).0 has)

    apart : (pin : ℕ) → Contains pins pin → IsApart codec pin
    apart pin has = apart_at codec pin (there pin has).0 well (there pin has).1

    below : (pin : ℕ) → Contains pins pin → pin < 128
    below pin has = node_below codec pin (there pin has).0 well (there pin has).1

selected_fits : (kind : PinKind) (codec : RawCodec) (index : ℕ) (node : RawNode) → can_be_left_as kind codec index node ≡ true → (is_selector node && has_input_amplifier node) ≡ true → index < 16
selected_fits Analog codec index node e is = by (is_selector node && has_input_amplifier node) (and_parts _ _ e).1 is
  where
    by : (b : Bool) → cond b (nat_le index 15) true ≡ true → b ≡ true → index < 16
    by true h is' = let z = leb-true index 15 h in omega arith
    by false h is' = cc
selected_fits Digital codec index node e is = by (is_selector node && has_input_amplifier node) (and_parts (not (is_mixer node)) (not (is_selector node && has_input_amplifier node)) e).1 is
  where
    by : (b : Bool) → not b ≡ true → b ≡ true → index < 16
    by true h is' = cc
    by false h is' = cc

fits_role : (kind : PinKind) (codec : RawCodec) (channels nid : ℕ) (node : RawNode) (role : Role) → channels ≤ 8 → node_at codec nid ≡ Some node → IsUsedWell kind codec channels nid role → FitsRole node role
fits_role kind codec channels nid node Unused few there well = tt
fits_role kind codec channels nid node (Passed index) few there well = λ is.
    selected_fits kind codec index node (subst (λ (o : Option RawNode). passes (can_be_left_as kind codec index) o ≡ true) there well.left_well) is
fits_role kind codec channels nid node (Source pair) few there well = let z = well.pair_fits in omega arith

pub fits_verbs : (kind : PinKind) (codec : RawCodec) (format : Format) (plan : Plan) → IsWellFormed codec → IsPlanAs kind codec format plan → FitsVerbs codec plan
unfolding pins_of
fits_verbs kind codec format plan well is = record {
  at = λ nid node there. record {
    pins = subst (λ n. n ≤ 126) (length-map plan.pins (λ (entry : PinPlan). entry.pin)) (few_pins kind codec (pins_of plan) well is.pins.in_order);
    inputs = (faultless_at codec nid node well there).inputs;
    argument = fits_role kind codec format.channels nid node (role_of plan nid) format.few there (role_well kind codec format plan nid is);
  };
}
