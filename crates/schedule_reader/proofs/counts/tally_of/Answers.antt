use Rattle.std.proofs.Common.{sum_by, sym, ap, ◌∙◌}
use Rattle.schedule_reader.specs.declared.schedule.Part.{Part}
use Rattle.schedule_reader.specs.Counts.{item_steps, item_frames, items_in, steps_of, frames_of}
use Rattle.schedule_reader.specs.Left.{held}
use Rattle.schedule_reader.proofs.CountLemmas.{sum_by-flat_map}
use Rattle.schedule_reader.proofs.counts.tally_of.Goals as goal

pub returns-clause-steps : goal.returns-clause-steps
unfolding steps_of
returns-clause-steps c =
    c.tally_of_parts.ensures.steps
    ∙ ap (λ parts. held (sum_by (λ (part : Part). sum_by item_steps (items_in part)) parts)) c.as_slice.ensures
    ∙ ap held (sym (sum_by-flat_map item_steps items_in c.args.schedule.now.parts))

pub returns-clause-frames : goal.returns-clause-frames
unfolding frames_of
returns-clause-frames c =
    c.tally_of_parts.ensures.frames
    ∙ ap (λ parts. held (sum_by (λ (part : Part). sum_by item_frames (items_in part)) parts)) c.as_slice.ensures
    ∙ ap held (sym (sum_by-flat_map item_frames items_in c.args.schedule.now.parts))
