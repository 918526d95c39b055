use Rattle.std.proofs.Common.{◌^◌, lit<}
use Rattle.codec_graph.proofs.Narrow.{entry_narrow}
use Rattle.codec_graph.proofs.answers.short_entry.Goals as goal

pub returns-clause-narrow : goal.returns-clause-narrow
returns-clause-narrow c =
    let low = entry_narrow c.args.entries.now c.args.place (2 ^ 8) (lit< tt) c.requires in rw c.entry.ensures.value low
