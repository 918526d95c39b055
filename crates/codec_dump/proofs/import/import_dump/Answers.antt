use Rattle.std.proofs.Common.{inl, rules}
use Rattle.codec_dump.proofs.ImportLemmas.{read_failed, imported}
use Rattle.codec_dump.proofs.import.import_dump.Goals as goal

pub returns-in_err-codecs : goal.returns-in_err-codecs
returns-in_err-codecs c =
    read_failed c.args.is_mended c.args.name.now c.args.bytes.now c.in_err-codecs.field-0.0 c.from_residual.result (search rules) c.in_err-codecs.ensures

pub returns-in_err-tail : goal.returns-in_err-tail
returns-in_err-tail c = inl (search rules)

pub returns : goal.returns
returns c =
    imported c.args.is_mended c.args.name.now c.args.bytes.now c.in_ok-codecs.codecs c.import_codecs.result c.in_ok-codecs.ensures (rw (c.as_slice.ensures, c.as_str.ensures.value, c.in_ok-tail.ensures, c.len.ensures) at c.import_codecs.ensures)
