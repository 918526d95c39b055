use Rattle.std.proofs.Common.{◌+◌, codes}
use Rattle.std.proofs.lemmas.Result.{IfOk-equal}
use Rattle.svg_text.specs.declared.shapes.Anchor.TheVariants as anchor
use Rattle.svg_text.specs.declared.shapes.Paint.TheVariants as paint
use Rattle.codec_picture.specs.declared.columns.TheConstants.{MARGIN}
use Rattle.codec_picture.specs.Codecs.{column_head, words_at}
use Rattle.codec_picture.specs.Texts.{heading_of}
use Rattle.codec_picture.proofs.RepeatLemmas.{pieces_5}
use Rattle.codec_picture.proofs.whole.push_head.Goals as goal

pub returns : goal.returns
returns c =
    let top = c.args.top in
    IfOk-equal c.push_column-4.result _ _ _ c.push_column-4.ensures
    (rw (c.in_ok-push_column-3.ensures, c.in_ok-push_column-2.ensures, c.in_ok-push_column.ensures, c.in_ok-push_words.ensures, c.in_ok-heading_of.ensures)
    (pieces_5 c.args.shapes.now (words_at paint.Ink anchor.Start (record { x = MARGIN; y = top + 16 }) (heading_of c.args.codec.now))
    (column_head top 0 (codes "Converters and others")) (column_head top 1 (codes "Mixers")) (column_head top 2 (codes "Selectors")) (column_head top 3 (codes "Pins"))))
