use Rattle.std.proofs.Common.{◌<◌, ◌∷◌, [], ◌++◌, take, length, ap, sym, ◌∙◌, arith}
use Rattle.std.proofs.lemmas.List.{take_more}
use Rattle.verb_codes.specs.Lists.{entries_of_words}
use Rattle.verb_codes.proofs.Packing.{length-entries}
use Rattle.verb_codes.proofs.lists.unpack_list.Goals as goal

pub loop-place-preserved : goal.loop-place-preserved
loop-place-preserved c =
    let bits = entries_of_words c.args.long c.args.words.now in
    let within : c.loop-place.place < length bits = omega (arith, length-entries c.args.long c.args.words.now) in
    c.in_ok-push.ensures.items
    ∙ ap (λ xs. xs ++ c.entry_at.result ∷ []) c.loop-place.invariant
    ∙ ap (λ x. take c.loop-place.place bits ++ x ∷ []) c.entry_at.ensures
    ∙ sym (take_more bits c.loop-place.place 0 within)
