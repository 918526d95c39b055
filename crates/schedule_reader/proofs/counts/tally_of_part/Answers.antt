use Rattle.std.proofs.Common.{◌*◌, sum_by, sym, ap, ◌∙◌}
use Rattle.schedule_reader.specs.Counts.{item_steps, item_frames}
use Rattle.schedule_reader.specs.Left.{held}
use Rattle.schedule_reader.proofs.CountLemmas.{held-times, sum_by-again}
use Rattle.schedule_reader.proofs.counts.tally_of_part.Goals as goal

pub returns-clause-steps : goal.returns-clause-steps
returns-clause-steps c =
    let part = c.args.part.now in
    c.times.ensures.steps
    ∙ ap (λ n. held (part.times * n)) c.tally_of_items-once.ensures.steps
    ∙ held-times part.times (sum_by item_steps c.as_slice.result.now)
    ∙ ap (λ items. held (part.times * sum_by item_steps items)) c.as_slice.ensures
    ∙ ap held (sym (sum_by-again item_steps part.times part.items))

pub returns-clause-frames : goal.returns-clause-frames
returns-clause-frames c =
    let part = c.args.part.now in
    c.times.ensures.frames
    ∙ ap (λ n. held (part.times * n)) c.tally_of_items-once.ensures.frames
    ∙ held-times part.times (sum_by item_frames c.as_slice.result.now)
    ∙ ap (λ items. held (part.times * sum_by item_frames items)) c.as_slice.ensures
    ∙ ap held (sym (sum_by-again item_frames part.times part.items))
