use Rattle.std.proofs.Common.{ℕ, sum_by, sym, ap, ◌∙◌, lit<}
use Rattle.schedule_reader.specs.declared.schedule.Part.{Part}
use Rattle.schedule_reader.specs.Counts.{items_in, item_steps, item_frames}
use Rattle.schedule_reader.specs.Left.{held}
use Rattle.schedule_reader.proofs.CountLemmas.{held_more, held-small}
use Rattle.schedule_reader.proofs.counts.tally_of_parts.Goals as goal

pub loop-part-init : goal.loop-part-init
loop-part-init c = record { steps = sym (held-small 0 (lit< tt)); frames = sym (held-small 0 (lit< tt)) }

pub loop-part-preserved : goal.loop-part-preserved
loop-part-preserved c =
    let so_far = c.loop-part.invariant in
    let own = c.tally_of_part.ensures in
    let x = c.part-item.result in
    let steps : Part → ℕ = λ part. sum_by item_steps (items_in part) in
    let frames : Part → ℕ = λ part. sum_by item_frames (items_in part) in
    record {
      steps = c.plus-tally.ensures.steps ∙ held_more steps c.args.parts.now c.loop-part.part-index x _ _ c.loop-part-test.true so_far.steps (own.steps ∙ ap (λ x. held (steps x)) c.part-item.is);
      frames = c.plus-tally.ensures.frames ∙ held_more frames c.args.parts.now c.loop-part.part-index x _ _ c.loop-part-test.true so_far.frames (own.frames ∙ ap (λ x. held (frames x)) c.part-item.is);
    }
