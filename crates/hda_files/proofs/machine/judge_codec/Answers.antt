use Rattle.std.proofs.Common.{inr}
use Rattle.hda_files.proofs.JudgeLemmas.{judged-good}
use Rattle.hda_files.proofs.ReadableLemmas.{laid_out-readable}
use Rattle.hda_files.proofs.machine.judge_codec.Goals as goal

pub check-requires : goal.check-requires
check-requires c =
    let lists = rw c.as_slice.ensures at c.in_default.ensures in
    rw c.in_ok-raw.ensures (laid_out-readable c.args.table.now c.requires.nodes lists)

pub returns-clause-judged : goal.returns-clause-judged
returns-clause-judged c =
    let lists = rw c.as_slice.ensures at c.in_default.ensures in
    let settings = rw c.as_slice-2.ensures at c.in_ok-settings.ensures.value in
    let present = rw c.as_slice-3.ensures at c.presence_of.ensures in
    inr (judged-good c.args.table.now c.in_ok-raw.raw c.in-Ok.graph c.in_ok-settings.settings c.presence_of.result c.in_ok-raw.ensures c.in-Ok.ensures.graph c.in-Ok.ensures.well_formed lists settings present)
