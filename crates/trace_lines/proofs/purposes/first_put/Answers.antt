use Rattle.std.proofs.Common.{◌∙◌, sym}
use Rattle.hda_world.specs.Journals.{event_of}
use Rattle.trace_lines.proofs.PutLemmas.{put_here, put_later, put_never}
use Rattle.trace_lines.proofs.purposes.first_put.Goals as goal

pub returns-in-Some : goal.returns-in-Some
returns-in-Some c = λ pieces bytes.
    sym (c.loop-entry.invariant pieces bytes
    ∙ put_here c.args.register (event_of pieces bytes) c.args.entries.now c.loop-entry.entry-index _ c.value_put.result c.in-Some.value c.loop-entry-test.true
    (c.value_put.ensures pieces bytes) c.in-Some.is)

pub loop-entry-preserved : goal.loop-entry-preserved
loop-entry-preserved c = λ pieces bytes.
    c.loop-entry.invariant pieces bytes
    ∙ put_later c.args.register (event_of pieces bytes) c.args.entries.now c.loop-entry.entry-index _ c.value_put.result c.loop-entry-test.true
    (c.value_put.ensures pieces bytes) c.in_default.is

pub returns : goal.returns
returns c = λ pieces bytes.
    sym (c.loop-entry.invariant pieces bytes ∙ put_never c.args.register (event_of pieces bytes) c.args.entries.now c.loop-entry.entry-index c.loop-entry-test.false)
