-- Where no pin's list has a hole, none is counted.
use Rattle.std.proofs.Common.{◌≡◌, ◌+◌, ◌==◌, ℕ, Bool, true, false, List, [], ◌∷◌, refl, ap, ◌∙◌, arith, if◌then◌else◌}
use Rattle.std.specs.Prelude.{All, count_by, fold}
use Rattle.std.proofs.lemmas.List.Elements.{All-head, All-tail, All-weaker}
use Rattle.heard_frames.specs.declared.heard.Heard.{Heard}
use Rattle.heard_lists.specs.declared.pin_list.PinHeard.{PinHeard}
use Rattle.laws_hearing.specs.Plays.{is_hole}
use Rattle.laws_serving.specs.Turns.{IsNoHole}
use Rattle.program_runs.specs.Served.{HasNoHole}
use Rattle.program_runs.specs.MadeLines.{made_pin, holes_in, holes_of}

-- a sum of which each part is 0
none_summed : {X : Type 0} (part : X → ℕ) (xs : List X) (n : ℕ) → All (λ (x : X). part x ≡ 0) xs → fold (λ (sum : ℕ) (x : X). sum + part x) n xs ≡ n
none_summed part [] n none = refl
none_summed {X} part (x ∷ xs) n none =
    let IsNone : X → Type 0 = λ x. part x ≡ 0 in
    let here : part x ≡ 0 = All-head IsNone x xs none in
    none_summed part xs (n + part x) (All-tail IsNone x xs none) ∙ omega (arith, here)

none_counted_in : (list : List Heard) → All IsNoHole list → count_by is_hole list ≡ 0
none_counted_in list none =
    none_summed (λ (item : Heard). if is_hole item then 1 else 0) list 0
    (All-weaker IsNoHole (λ (item : Heard). (if is_hole item then 1 else 0) ≡ 0) (λ item no. ap {B = ℕ} (λ (b : Bool). if b then 1 else 0) no) list none)

none_in : (heard : PinHeard) → HasNoHole heard → holes_in heard ≡ 0
none_in heard none = by (heard.pin == made_pin)
  where
    by : (b : Bool) → (if b then count_by is_hole heard.list else 0) ≡ 0
    by true = none_counted_in heard.list none
    by false = refl

pub none_counted : (lists : List PinHeard) → All HasNoHole lists → holes_of lists ≡ 0
none_counted lists none =
    none_summed holes_in lists 0 (All-weaker HasNoHole (λ (heard : PinHeard). holes_in heard ≡ 0) none_in lists none)
