use Rattle.std.proofs.lemmas.Result.{err_from_is_err_and}
use Rattle.hda_files.proofs.AddressLemmas.{codec_files-ascend}
use Rattle.hda_files.proofs.JudgeLemmas.{judged-refused, codec_files-few, judged-files}
use Rattle.hda_files.proofs.machine.judge_machine.Goals as goal

pub returns-in_err-codecs-clause-judged : goal.returns-in_err-codecs-clause-judged
returns-in_err-codecs-clause-judged c =
    let p = err_from_is_err_and c.from_residual.result c.from_residual.ensures.1 in
    rw (p.1, p.2) (judged-refused c.args.table c.in_err-codecs.field-0.0 (rw c.as_slice.ensures at c.in_err-codecs.ensures.judged))

pub candidates_of-requires : goal.candidates_of-requires
candidates_of-requires c =
    let same = judged-files c.args.table.codecs c.in_ok-codecs.codecs (rw c.as_slice.ensures at c.in_ok-codecs.ensures.judged) in
    rw (c.as_slice-2.ensures, same) (codec_files-few c.args.table.codecs)

pub returns-clause-sound : goal.returns-clause-sound
returns-clause-sound c =
    let same = judged-files c.args.table.codecs c.in_ok-codecs.codecs (rw c.as_slice.ensures at c.in_ok-codecs.ensures.judged) in
    record {
      ascending = rw same (codec_files-ascend c.args.table.codecs);
      each = c.in_ok-codecs.ensures.sound;
    }
