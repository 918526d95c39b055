use Rattle.std.proofs.Common.{◌≡◌, ◌+◌, ◌-◌, ℕ, List, length, get_or, set, [], ap, ◌∙◌, arith}
use Rattle.std.proofs.lemmas.List.{get_or_at, set_at, length_push}
use Rattle.heard_lists.specs.declared.pieces.Piece.{Piece}
use Rattle.heard_lists.proofs.Taken.{piece-within}
use Rattle.heard_lists.proofs.item_lists.lengthen.Goals as goal

pub overflow_add-index_mut : goal.overflow_add-index_mut
overflow_add-index_mut c =
    let some = c.requires.some in
    let few = c.requires.few in
    let ok = c.args.pieces.now.ok.0 in
    let len = c.len-last.ensures in
    let within = piece-within c.args.pieces.now.items (c.len-last.result - 1) c.index_mut.result.now (omega (arith, some, ok, len)) in
    let read = c.index_mut.ensures.value in
    let same = ap (λ (p : Piece). p.blocks) read in
    omega (arith, few, within, same)

pub returns-clause-items : goal.returns-clause-items
returns-clause-items c before last is =
    let n : ℕ = c.len-last.result - 1 in
    let ok = c.args.pieces.now.ok.0 in
    let len = c.len-last.ensures in
    let long = ap length is ∙ length_push before last in
    let place : length before ≡ n = omega (arith, ok, len, long) in
    let found : c.index_mut.result.now ≡ last =
    c.index_mut.ensures.value ∙ (ap (λ (p : List Piece). get_or p n c.index_mut.result.now) is ∙ get_or_at before last [] c.index_mut.result.now n place) in
    ap (λ (p : Piece). set c.args.pieces.now.items n (record p { blocks = p.blocks + c.args.blocks })) found
    ∙ (ap (λ (p : List Piece). set p n (record last { blocks = last.blocks + c.args.blocks })) is
    ∙ set_at before last [] (record last { blocks = last.blocks + c.args.blocks }) n place)
