use Rattle.std.proofs.Common.{sym, ap, ◌∙◌, lit<}
use Rattle.schedule_reader.specs.Counts.{group_steps, group_frames}
use Rattle.schedule_reader.specs.Left.{held}
use Rattle.schedule_reader.proofs.CountLemmas.{held_more, held-small}
use Rattle.schedule_reader.proofs.counts.tally_of_groups.Goals as goal

pub loop-group-init : goal.loop-group-init
loop-group-init c = record { steps = sym (held-small 0 (lit< tt)); frames = sym (held-small 0 (lit< tt)) }

pub loop-group-preserved : goal.loop-group-preserved
loop-group-preserved c =
    let so_far = c.loop-group.invariant in
    let own = c.tally_of_group.ensures in
    let x = c.group-item.result in
    record {
      steps = c.plus-tally.ensures.steps ∙ held_more group_steps c.args.groups.now c.loop-group.group-index x _ _ c.loop-group-test.true so_far.steps (own.steps ∙ ap (λ x. held (group_steps x)) c.group-item.is);
      frames = c.plus-tally.ensures.frames ∙ held_more group_frames c.args.groups.now c.loop-group.group-index x _ _ c.loop-group-test.true so_far.frames (own.frames ∙ ap (λ x. held (group_frames x)) c.group-item.is);
    }
