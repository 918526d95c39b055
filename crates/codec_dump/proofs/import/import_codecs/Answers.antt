use Rattle.std.proofs.Common.{[], ap, arith, rules}
use Rattle.codec_dump.specs.Imports.{draft_of, drafts_with}
use Rattle.codec_dump.proofs.ImportLemmas.{unwritten_result, written_at}
use Rattle.codec_dump.proofs.import.import_codecs.Goals as goal

pub returns-in_err-import_codec-2 : goal.returns-in_err-import_codec-2
returns-in_err-import_codec-2 c =
    let mends = c.args.is_mended in
    let tail = c.args.tail.now in
    unwritten_result (draft_of mends []) (draft_of mends tail c.loop-codec.invariant.head) _ c.loop-codec.codec-index c.codec-item.result c.loop-codec.texts c.in_err-import_codec-2.field-0.0 _ c.from_residual-in_err-import_codec-2.result
    (ap (drafts_with mends tail) c.loop-codec.invariant.all) (search rules) (omega arith) c.codec-item.is c.loop-codec.invariant.written c.in_err-import_codec-2.ensures

pub loop-codec-preserved : goal.loop-codec-preserved
loop-codec-preserved c =
    let mends = c.args.is_mended in
    let tail = c.args.tail.now in
    record {
      head = c.loop-codec.invariant.head;
      all = c.loop-codec.invariant.all;
      written = written_at (draft_of mends []) (draft_of mends tail c.loop-codec.invariant.head) _ c.loop-codec.codec-index c.codec-item.result c.loop-codec.texts c.in_ok-import_codec-2.field-0 _ (omega arith) c.codec-item.is c.loop-codec.invariant.written c.in_ok-import_codec-2.ensures c.in_ok-push-2.ensures.ok;
    }
