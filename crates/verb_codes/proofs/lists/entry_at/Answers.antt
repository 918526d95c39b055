use Rattle.std.proofs.Common.{◌≡◌, true, false, get_or, sym, ap, ◌∙◌}
use Rattle.verb_codes.specs.Lists.{entries_of_words}
use Rattle.verb_codes.proofs.Packing.{long_entry, short_entry}
use Rattle.verb_codes.proofs.lists.entry_at.Goals as goal

pub returns-then-long : goal.returns-then-long
returns-then-long c =
    let long : c.args.long ≡ true = c.if-long.true in
    let room = rw long at c.requires in
    c.bits_of.ensures.value ∙ sym (ap (λ l. get_or (entries_of_words l c.args.words.now) c.args.place 0) long ∙ long_entry c.args.words.now c.args.place room)

pub returns-else-long : goal.returns-else-long
returns-else-long c =
    let long : c.args.long ≡ false = c.if-long.false in
    let room = rw long at c.requires in
    c.bits_of-else-long.ensures.value ∙ sym (ap (λ l. get_or (entries_of_words l c.args.words.now) c.args.place 0) long ∙ short_entry c.args.words.now c.args.place room)
