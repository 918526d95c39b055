use Rattle.std.proofs.Common.{subst}
use Rattle.codec_walk.specs.declared.step.NodeStep.{NodeStep}
use Rattle.codec_walk.specs.Steps.{room_at, end_at, HasRoom}
use Rattle.codec_walk.proofs.StepLemmas.{later_next, entries_taken, room_taken}
use Rattle.codec_walk.proofs.step.NodeStep.take.Goals as goal

pub returns-in-Word-clause-ok : goal.returns-in-Word-clause-ok
returns-in-Word-clause-ok c = λ address nid rest. rw (c.in-Word.is, c.first_step.ensures, c.later.ensures, c.put.ensures) (later_next address nid rest _ c.in-Word.word)

pub returns-in_ok-push_entries-in-Entries-clause-ok : goal.returns-in_ok-push_entries-in-Entries-clause-ok
returns-in_ok-push_entries-in-Entries-clause-ok c =
    let h = c.in_ok-push_entries-in-Entries.ensures in
    λ address nid rest.
    rw c.in-Entries.is
    (entries_taken address nid rest c.args.node.now c.push_entries.new.node c.in-Entries.place c.in-Entries.left c.args.answer c.per_word-read.result c.saturating_sub.result c.entries_step-in-Entries.result
    h.ok c.per_word-read.ensures c.saturating_sub.ensures c.entries_step-in-Entries.ensures)

pub returns-in_ok-push_entries-in-Entries-clause-room : goal.returns-in_ok-push_entries-in-Entries-clause-room
returns-in_ok-push_entries-in-Entries-clause-room c =
    let h = c.in_ok-push_entries-in-Entries.ensures in
    let room = subst (λ (step : NodeStep). HasRoom (room_at step) (end_at step) c.args.node.now) c.in-Entries.is c.requires in
    room_taken c.args.node.now c.push_entries.new.node c.in-Entries.place c.in-Entries.left c.args.answer c.per_word-read.result c.saturating_sub.result c.entries_step-in-Entries.result
    h.ok c.per_word-read.ensures c.saturating_sub.ensures c.entries_step-in-Entries.ensures room
