use Rattle.std.proofs.Common.{sym, inr, arith}
use Rattle.std.proofs.lemmas.Result.{err_from_is_err_and}
use Rattle.std.proofs.lemmas.List.Elements.{All-nil, All-push}
use Rattle.hda_files.specs.Machines.{IsSoundCodec}
use Rattle.hda_files.specs.Readers.{IsReadCodec}
use Rattle.hda_files.proofs.AddressLemmas.{found-all}
use Rattle.hda_files.proofs.JudgeLemmas.{judged-start, judged-none, judged-more, judged-bad, judged-end}
use Rattle.hda_files.proofs.machine.judge_codecs.Goals as goal
use Rattle.hda_files.proofs.machine.judge_codecs.Goals.{in-Some+in_ok-judge_codec+in_ok-push, in_default}

pub loop-address-init : goal.loop-address-init
loop-address-init c =
    rw c.new-codecs.ensures (record {
      judged = judged-start c.args.tables.now;
      sound = All-nil IsSoundCodec;
    })

pub judge_codec-requires : goal.judge_codec-requires
judge_codec-requires c = found-all IsReadCodec c.args.tables.now c.loop-address.address c.in-Some.table.now c.requires (sym c.in-Some.ensures)

pub returns-in_err-judge_codec-clause-judged : goal.returns-in_err-judge_codec-clause-judged
returns-in_err-judge_codec-clause-judged c =
    let p = err_from_is_err_and c.from_residual.result c.from_residual.ensures.1 in
    rw (p.1, p.2) (judged-bad c.args.tables.now c.loop-address.address c.loop-address.codecs c.in-Some.table.now c.in_err-judge_codec.field-0.0 (omega arith) (sym c.in-Some.ensures) c.in_err-judge_codec.ensures.judged c.loop-address.invariant.judged)

pub loop-address-preserved : goal.loop-address-preserved
loop-address-preserved c =
    let tables = c.args.tables.now in
    let address = c.loop-address.address in
    let codecs = c.loop-address.codecs in
    elim c.match-codec_with_address.branch [
      | in-Some+in_ok-judge_codec+in_ok-push w ↦
          let file = w.in_ok-judge_codec.field-0 in
          rw (w.codecs-is, w.in_ok-push.ensures.ok) (record {
            judged = judged-more tables address codecs w.in-Some.table.now file (omega arith) (sym w.in-Some.ensures) w.in_ok-judge_codec.ensures.judged c.loop-address.invariant.judged;
            sound = All-push IsSoundCodec codecs file c.loop-address.invariant.sound w.in_ok-judge_codec.ensures.sound;
          })
      | in_default w ↦
          rw w.codecs-is (record {
            judged = judged-none tables address codecs (omega arith) (sym w.in_default.ensures) c.loop-address.invariant.judged;
            sound = c.loop-address.invariant.sound;
          })
    ]

pub returns-clause-judged : goal.returns-clause-judged
returns-clause-judged c = inr (judged-end c.args.tables.now c.loop-address.address c.loop-address.codecs (omega arith) c.loop-address.invariant.judged)
