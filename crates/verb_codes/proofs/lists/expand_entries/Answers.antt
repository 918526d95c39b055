use Rattle.std.proofs.Common.{◌≡◌, ◌+◌, ◌-◌, ◌∷◌, ◌++◌, map, drop, get_or, Some, ap, sym, ◌∙◌, arith}
use Rattle.std.specs.List.{range_with_len}
use Rattle.verb_codes.specs.Lists.{entry_of, after, expansion_after}
use Rattle.verb_codes.proofs.Expansions.{drop-entries, one_more_entry, faulty_entry}
use Rattle.verb_codes.proofs.lists.expand_entries.Goals as goal

pub returns-in-Some : goal.returns-in-Some
returns-in-Some c =
    let long = c.args.long in
    let entries = c.args.entries.now in
    let entry = c.read-entry.result in
    let same : entry ≡ entry_of long (get_or entries c.loop-bits.bits-index 0) = c.read-entry.ensures in
    let rest = drop (c.loop-bits.bits-index + 1) (map (entry_of long) entries) in
    c.loop-bits.invariant
    ∙ ap (λ es. after c.loop-bits.nids.items (expansion_after c.loop-bits.before es))
    (drop-entries long entries c.loop-bits.bits-index (omega arith) ∙ ap (λ e. e ∷ rest) (sym same))
    ∙ faulty_entry c.loop-bits.nids.items c.loop-bits.before entry rest c.in-Some.fault (sym c.in-Some.ensures)

pub loop-bits-preserved : goal.loop-bits-preserved
loop-bits-preserved c =
    let long = c.args.long in
    let entries = c.args.entries.now in
    let entry = c.read-entry.result in
    let same : entry ≡ entry_of long (get_or entries c.loop-bits.bits-index 0) = c.read-entry.ensures in
    let rest = drop (c.loop-bits.bits-index + 1) (map (entry_of long) entries) in
    let nids = c.loop-bits.nids.items in
    c.loop-bits.invariant
    ∙ ap (λ es. after nids (expansion_after c.loop-bits.before es))
    (drop-entries long entries c.loop-bits.bits-index (omega arith) ∙ ap (λ e. e ∷ rest) (sym same))
    ∙ one_more_entry nids c.loop-bits.before entry rest (sym c.fault_after.ensures ∙ c.in_default.is)
    ∙ ap (λ ns. after ns (expansion_after (Some entry) rest))
    (sym (c.in_ok-push_nids.ensures ∙ ap (λ f. nids ++ range_with_len f (entry.nid + 1 - f)) c.first_after.ensures.value))
