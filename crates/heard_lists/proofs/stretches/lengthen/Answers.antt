use Rattle.std.proofs.Common.{◌≡◌, ◌+◌, ◌-◌, ℕ, List, length, get_or, set, [], ap, ◌∙◌, arith}
use Rattle.std.proofs.lemmas.List.{get_or_at, set_at, length_push}
use Rattle.heard_lists.specs.declared.stretches.Stretch.{Stretch}
use Rattle.heard_lists.proofs.stretches.lengthen.Goals as goal

pub returns : goal.returns
returns c before last is =
    let n : ℕ = c.len-last.result - 1 in
    let ok = c.args.stretches.now.ok.0 in
    let len = c.len-last.ensures in
    let long = ap length is ∙ length_push before last in
    let place : length before ≡ n = omega (arith, ok, len, long) in
    let found : c.index_mut.result.now ≡ last =
    c.index_mut.ensures.value ∙ (ap (λ (s : List Stretch). get_or s n c.index_mut.result.now) is ∙ get_or_at before last
    [] c.index_mut.result.now n place) in
    let first : c.index.result.now ≡ last =
    c.index.ensures ∙ (ap (λ (s : List Stretch). get_or s n c.index.result.now) is ∙ get_or_at before last []
    c.index.result.now n place) in
    let all : c.in-Some.all ≡ last.items + c.args.items = c.in-Some.ensures.1 ∙ ap
    (λ (s : Stretch). s.items + c.args.items) first in
    ap (λ (s : Stretch). set c.args.stretches.now.items n (record s { items = c.in-Some.all })) found
    ∙ (ap (λ (m : ℕ). set c.args.stretches.now.items n (record last { items = m })) all
    ∙ (ap (λ (s : List Stretch). set s n (record last { items = last.items + c.args.items })) is
    ∙ set_at before last [] (record last { items = last.items + c.args.items }) n place))
