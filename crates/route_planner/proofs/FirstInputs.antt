-- The first candidate pin that has an admissible path, from one node after another.
use Rattle.std.proofs.Common.{◌≡◌, ◌≢◌, ◌<◌, ◌≤◌, ◌==◌, ◌+◌, ◌&&◌, ◌||◌, ℕ, Bool, true, false, [], ◌∷◌, Option, Some, None, refl, sym, subst, ◌∙◌, inl, inr, arith}
use Rattle.std.specs.Prelude.{nat_lt, MatchOption}
use Rattle.std.specs.Option.{option_to_list}
use Rattle.std.proofs.lemmas.Bool.{cases_eq, false≢true, and_from}
use Rattle.std.proofs.lemmas.Bool.Decides.{nat_tests}
use Rattle.codec_graph.specs.declared.raw.RawCodec.{RawCodec}
use Rattle.codec_graph.specs.Widget.{node_at}
use Rattle.codec_graph.specs.Cycles.{HasSoundTables}
use Rattle.stream_format.specs.declared.format.Format.{Format}
use Rattle.route_planner.specs.declared.routes.Route.{Route}
use Rattle.route_planner.specs.declared.routes.Outcome.TheVariants as outcome
use Rattle.route_planner.specs.declared.routes.PinPlan.{PinPlan}
use Rattle.route_planner.specs.declared.routes.Plan.{Plan}
use Rattle.codec_graph.specs.Order.{association_of, sequence_of, comes_before}
use Rattle.route_planner.specs.Inputs.{is_input_candidate_node, is_input_candidate, HasInputPath, IsLeastInput, AreInputEntries, IsInputPlan}
use Rattle.route_planner.specs.FoundInputs.{IsFoundInput, IsFirstBelow, IsEntryBelow, is_earlier}
use Rattle.route_planner.specs.Search.{IsBounded}
use Rattle.route_planner.proofs.Bounds.{IsBounded-from_sound}
use Rattle.route_planner.proofs.InputPaths.{passes_below}

abbrev before : ℕ → ℕ → ℕ → ℕ → ℕ → ℕ → Bool
before a b s t m n = nat_lt a b || (a == b && (nat_lt s t || (s == t && nat_lt m n)))

one_first : (a b s t m n : ℕ) → before a b s t m n ≡ false → m ≢ n → before b a t s n m ≡ true
one_first a b s t m n e ne = grind (arith, nat_tests)

before_all : (a b c s t u m n o : ℕ) → before a b s t m n ≡ true → before b c t u n o ≡ true → before a c s u m o ≡ true
before_all a b c s t u m n o one other = grind (arith, nat_tests)

-- of two different pins one comes first
comes_first : (codec : RawCodec) (pin other : ℕ) → comes_before codec pin other ≡ false → pin ≢ other → comes_before codec other pin ≡ true
comes_first codec pin other e ne =
    one_first (association_of (node_at codec pin)) (association_of (node_at codec other)) (sequence_of (node_at codec pin)) (sequence_of (node_at codec other)) pin other e ne

-- and what comes before a pin comes before those after it
comes_before_all : (codec : RawCodec) (pin other last : ℕ) → comes_before codec pin other ≡ true → comes_before codec other last ≡ true → comes_before codec pin last ≡ true
comes_before_all codec pin other last one two =
    before_all (association_of (node_at codec pin)) (association_of (node_at codec other)) (association_of (node_at codec last)) (sequence_of (node_at codec pin)) (sequence_of (node_at codec other)) (sequence_of (node_at codec last)) pin other last one two

pub none_first : (codec : RawCodec) (format : Format) → IsFirstBelow codec format 0 None
none_first codec format pin less = absurd (omega arith)

-- a pin that is no candidate, or comes later, or has no path, leaves the first one as it is
stays_first : (codec : RawCodec) (format : Format) (pin : ℕ) (first : Option PinPlan) → (is_input_candidate codec pin ≡ true → is_earlier codec pin first ≡ true → HasInputPath codec format pin → ⊥) → IsFirstBelow codec format pin first → IsFirstBelow codec format (pin + 1) first
stays_first codec format pin None none below = λ other less candidate path.
    elim (cases_eq other pin) [
      | inl same ↦ none (subst (λ (n : ℕ). is_input_candidate codec n ≡ true) same candidate) refl (subst (HasInputPath codec format) same path)
      | inr ne ↦ below other (omega arith) candidate path
    ]
stays_first codec format pin (Some entry) none below = record {
  route = below.route;
  within = omega (arith, below.within);
  candidate = below.candidate;
  before = λ other less candidate path ne. elim (cases_eq other pin) [
    | inl same ↦
        let later : comes_before codec pin entry.pin ≡ false = elim (comes_before codec pin entry.pin) as (λ b. (b ≡ true → ⊥) → b ≡ false) [ true ↦ λ h. absurd (h refl) | false ↦ λ h. refl ] (λ e. none (subst (λ (n : ℕ). is_input_candidate codec n ≡ true) same candidate) e (subst (HasInputPath codec format) same path)) in
        subst (λ (n : ℕ). comes_before codec entry.pin n ≡ true) (sym same) (comes_first codec pin entry.pin later (λ e. ne (same ∙ e)))
    | inr apart ↦ below.before other (omega arith) candidate path ne
  ];
  pair = below.pair;
  outcome_is = below.outcome_is;
  least = below.least;
}

pub first_not_tried : (codec : RawCodec) (format : Format) (pin : ℕ) (first : Option PinPlan) → (is_input_candidate codec pin && is_earlier codec pin first) ≡ false → IsFirstBelow codec format pin first → IsFirstBelow codec format (pin + 1) first
first_not_tried codec format pin first e =
    stays_first codec format pin first (λ candidate earlier path. false≢true (sym e ∙ and_from (is_input_candidate codec pin) (is_earlier codec pin first) candidate earlier))

first_without_path : (codec : RawCodec) (format : Format) (pin : ℕ) (first : Option PinPlan) → (HasInputPath codec format pin → ⊥) → IsFirstBelow codec format pin first → IsFirstBelow codec format (pin + 1) first
first_without_path codec format pin first none = stays_first codec format pin first (λ candidate earlier path. none path)

-- a candidate that comes first and has a path takes its place
before_earlier : (codec : RawCodec) (format : Format) (pin : ℕ) (first : Option PinPlan) → is_earlier codec pin first ≡ true → IsFirstBelow codec format pin first → (other : ℕ) → other < pin → is_input_candidate codec other ≡ true → HasInputPath codec format other → comes_before codec pin other ≡ true
before_earlier codec format pin None earlier below other less candidate path = absurd (below other less candidate path)
before_earlier codec format pin (Some entry) earlier below other less candidate path =
    elim (cases_eq other entry.pin) [
      | inl same ↦ subst (λ (n : ℕ). comes_before codec pin n ≡ true) (sym same) earlier
      | inr ne ↦ comes_before_all codec pin entry.pin other earlier (below.before other less candidate path ne)
    ]

first_with_path : (codec : RawCodec) (format : Format) (pin : ℕ) (first : Option PinPlan) (route : Route) → is_input_candidate codec pin ≡ true → is_earlier codec pin first ≡ true → IsLeastInput codec format pin route → IsFirstBelow codec format pin first → IsEntryBelow codec format (pin + 1) record { pin = pin; pair = 0; outcome = outcome.Route route }
first_with_path codec format pin first route candidate earlier least below = record {
  route = route;
  within = omega arith;
  candidate = candidate;
  before = λ other less can path ne. before_earlier codec format pin first earlier below other (omega arith) can path;
  pair = refl;
  outcome_is = refl;
  least = least;
}

-- what comes of a candidate that comes first, by what was found of it
pub first_tried : (codec : RawCodec) (format : Format) (pin : ℕ) (first new : Option PinPlan) (found : Option Route) → is_input_candidate codec pin ≡ true → is_earlier codec pin first ≡ true → IsFoundInput codec format pin found → MatchOption found (new ≡ first) (λ route. new ≡ Some record { pin = pin; pair = 0; outcome = outcome.Route route }) → IsFirstBelow codec format pin first → IsFirstBelow codec format (pin + 1) new
first_tried codec format pin first new None candidate earlier none is below =
    subst (IsFirstBelow codec format (pin + 1)) (sym is) (first_without_path codec format pin first none below)
first_tried codec format pin first new (Some route) candidate earlier least is below =
    subst (IsFirstBelow codec format (pin + 1)) (sym is) (first_with_path codec format pin first route candidate earlier least below)

-- all candidates are below 128
entries_none : (codec : RawCodec) (format : Format) (below : ℕ) → IsBounded codec → 128 ≤ below → IsFirstBelow codec format below None → AreInputEntries codec format []
entries_none codec format below bounded whole none pin candidate path =
    let within = passes_below codec is_input_candidate_node pin bounded candidate in
    none pin (omega arith) candidate path

entries_one : (codec : RawCodec) (format : Format) (below : ℕ) (entry : PinPlan) → IsBounded codec → 128 ≤ below → IsEntryBelow codec format below entry → AreInputEntries codec format (entry ∷ [])
entries_one codec format below entry bounded whole is = record {
  route = is.route;
  first = record {
    candidate = is.candidate;
    has_path = (is.route, is.least.admissible);
    before = λ other candidate path ne.
        let within = passes_below codec is_input_candidate_node other bounded candidate in
        is.before other (omega arith) candidate path ne;
  };
  pair = is.pair;
  outcome_is = is.outcome_is;
  least = is.least;
}

entries_all : (codec : RawCodec) (format : Format) (below : ℕ) (first : Option PinPlan) → IsBounded codec → 128 ≤ below → IsFirstBelow codec format below first → AreInputEntries codec format (option_to_list first)
entries_all codec format below None bounded whole is = entries_none codec format below bounded whole is
entries_all codec format below (Some entry) bounded whole is = entries_one codec format below entry bounded whole is

-- what was found of a graph's own words is its plan
pub plan_from_first : (raw codec : RawCodec) (format : Format) (below : ℕ) (first : Option PinPlan) → raw ≡ codec → HasSoundTables codec → 128 ≤ below → IsFirstBelow raw format below first → (plan : Plan) → plan.pins ≡ option_to_list first → IsInputPlan codec format plan
plan_from_first raw codec format below first same sound whole is plan pins =
    let found = subst (λ (codec : RawCodec). IsFirstBelow codec format below first) same is in
    subst (AreInputEntries codec format) (sym pins) (entries_all codec format below first (IsBounded-from_sound codec sound) whole found)
