use Rattle.std.proofs.Common.{◌≡◌, ◌+◌, ◌-◌, ◌∷◌, [], ◌++◌, ap, sym, ◌∙◌, arith}
use Rattle.std.specs.List.{range_with_len}
use Rattle.std.proofs.lemmas.List.{append_assoc}
use Rattle.verb_codes.proofs.Packing.{range_more}
use Rattle.verb_codes.proofs.lists.push_nids.Goals as goal

pub loop-nid-preserved : goal.loop-nid-preserved
loop-nid-preserved c =
    let first = c.args.first in
    let nid = c.loop-nid.nid in
    let before = c.args.nids.now.items in
    let count : nid + 1 - first ≡ nid - first + 1 = omega arith in
    let last : first + (nid - first) ≡ nid = omega arith in
    rw count (c.in_ok-push.ensures.items
    ∙ ap (λ xs. xs ++ nid ∷ []) c.loop-nid.invariant
    ∙ append_assoc before (range_with_len first (nid - first)) (nid ∷ [])
    ∙ ap (λ xs. before ++ xs) (sym (range_more first (nid - first) ∙ ap (λ n. range_with_len first (nid - first) ++ n ∷ []) last)))
