use Rattle.std.proofs.Common.{sym, ap, ◌∙◌, lit<}
use Rattle.schedule_reader.specs.Counts.{item_steps, item_frames}
use Rattle.schedule_reader.specs.Left.{held}
use Rattle.schedule_reader.proofs.CountLemmas.{held_more, held-small}
use Rattle.schedule_reader.proofs.counts.tally_of_items.Goals as goal

pub loop-item-init : goal.loop-item-init
loop-item-init c = record { steps = sym (held-small 0 (lit< tt)); frames = sym (held-small 0 (lit< tt)) }

pub loop-item-preserved : goal.loop-item-preserved
loop-item-preserved c =
    let so_far = c.loop-item.invariant in
    let own = c.tally_of_item.ensures in
    let x = c.item-item.result in
    record {
      steps = c.plus-tally.ensures.steps ∙ held_more item_steps c.args.items.now c.loop-item.item-index x _ _ c.loop-item-test.true so_far.steps (own.steps ∙ ap (λ x. held (item_steps x)) c.item-item.is);
      frames = c.plus-tally.ensures.frames ∙ held_more item_frames c.args.items.now c.loop-item.item-index x _ _ c.loop-item-test.true so_far.frames (own.frames ∙ ap (λ x. held (item_frames x)) c.item-item.is);
    }
