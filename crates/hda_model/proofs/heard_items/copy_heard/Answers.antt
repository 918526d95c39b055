use Rattle.std.proofs.Common.{List, get_or, Some, drop, map, sym, ap, ◌∙◌}
use Rattle.heard_frames.specs.declared.heard.Heard.{Heard}
use Rattle.hda_model.specs.Copies.{copied, item_of}
use Rattle.hda_model.proofs.Finding.{nowhere, count_there, count_none, list_there, list_none}
use Rattle.hda_model.proofs.Copying.{copied_nowhere}
use Rattle.hda_model.proofs.heard_items.copy_heard.Goals as goal

pub returns-in-Some-clause-count : goal.returns-in-Some-clause-count
returns-in-Some-clause-count c =
    ap Some (c.copy_items.ensures.count nowhere)
    ∙ sym (count_there c.args.codec c.args.nid c.args.lists.now (get_or c.args.lists.now c.in-Some.place nowhere) (c.in-Some.ensures.found nowhere))

pub returns-in-Some-clause-items : goal.returns-in-Some-clause-items
returns-in-Some-clause-items c =
    c.copy_items.ensures.items nowhere
    ∙ ap (λ (list : List Heard). copied (map item_of (drop c.args.from list)) c.args.into.now)
    (sym (list_there c.args.codec c.args.nid c.args.lists.now (get_or c.args.lists.now c.in-Some.place nowhere) (c.in-Some.ensures.found nowhere)))

pub returns-in-None-clause-count : goal.returns-in-None-clause-count
returns-in-None-clause-count c = sym (count_none c.args.codec c.args.nid c.args.lists.now (c.in-None.ensures.found nowhere))

pub returns-in-None-clause-items : goal.returns-in-None-clause-items
returns-in-None-clause-items c =
    sym (ap (λ (list : List Heard). copied (map item_of (drop c.args.from list)) c.args.into.now)
    (list_none c.args.codec c.args.nid c.args.lists.now (c.in-None.ensures.found nowhere)) ∙ copied_nowhere c.args.from c.args.into.now)
