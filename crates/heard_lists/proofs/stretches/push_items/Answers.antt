use Rattle.std.proofs.Common.{◌≡◌, ◌<◌, ◌+◌, ◌-◌, ◌++◌, ◌==◌, [], ◌∷◌, ℕ, List, true, false, length, take, get_or, sym}
use Rattle.std.proofs.Common.{ap, subst, ◌∙◌, arith}
use Rattle.std.proofs.lemmas.Bool.Decides.{nat_tests}
use Rattle.std.proofs.lemmas.List.{take_more, take_all}
use Rattle.std.proofs.lemmas.Result.{on_ok_weaker}
use Rattle.heard_lists.specs.declared.stretches.Stretch.{Stretch}
use Rattle.heard_lists.specs.Stretches.{is_same, with_last}
use Rattle.heard_lists.proofs.Stretched.{last_same, last_other, stretched-some}
use Rattle.heard_lists.proofs.stretches.push_items.Goals as goal

pub returns-then-ends_in : goal.returns-then-ends_in
returns-then-ends_in c =
    let old : List Stretch = c.args.stretches.now.items in
    let more : Stretch = record { kind = c.args.kind; items = c.args.items } in
    let value = c.as_slice.ensures.value in
    let some : 0 < length old = subst (λ (list : List Stretch). 0 < length list) value
    (c.ends_in.ensures.some c.if-ends_in.true) in
    let n : ℕ = length old - 1 in
    let last : Stretch = get_or old n more in
    let end : n + 1 ≡ length old = omega (arith, some) in
    let split : old ≡ take n old ++ last ∷ [] =
    sym (take_all (n + 1) old (omega (arith, end))) ∙ take_more old n more (omega (arith, some)) in
    let same : is_same last.kind c.args.kind ≡ true = sym
    (c.ends_in.ensures.last (take n old) last (value ∙ split)) ∙ c.if-ends_in.true in
    let test = c.if-items-eq0.false in
    let any : (c.args.items == 0) ≡ false = grind (arith, nat_tests, test) in
    on_ok_weaker c.lengthen.result
    (λ longer. longer
    ∙ (sym (last_same more last (take n old) same)
    ∙ (ap (with_last more) (sym split) ∙ sym (stretched-some c.args.kind c.args.items old any))))
    (c.lengthen.ensures (take n old) last split)

pub returns : goal.returns
returns c =
    let old : List Stretch = c.args.stretches.now.items in
    let more : Stretch = record { kind = c.args.kind; items = c.args.items } in
    let value = c.as_slice.ensures.value in
    let test = c.if-items-eq0.false in
    let any : (c.args.items == 0) ≡ false = grind (arith, nat_tests, test) in
    c.in_ok-push.ensures.items
    ∙ (sym (last_other more old c.ends_in.result c.if-ends_in.false (λ before last is. c.ends_in.ensures.last before
    last (value ∙ is)))
    ∙ sym (stretched-some c.args.kind c.args.items old any))
