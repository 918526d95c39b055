use Rattle.std.proofs.Common.{◌++◌, ◌∷◌, ◌+◌, [], List, take, get_or, sym, subst}
use Rattle.std.proofs.lemmas.List.{map_more}
use Rattle.codec_graph.specs.CodecStates.{CodecState}
use Rattle.codec_sound.specs.Keeping.{KeptSignals}
use Rattle.hda_files.specs.declared.machine.CodecFile.{CodecFile}
use Rattle.hda_controller.specs.Openings.{codec_in, codecs_in, IsFresh, AreFresh}
use Rattle.hda_controller.proofs.Fresh.{fresh_push}
use Rattle.hda_controller.proofs.opening.all_signals_of.Goals as goal

pub loop-file-preserved : goal.loop-file-preserved
loop-file-preserved c =
    let files = c.args.files.now in
    let i = c.loop-file.file-index in
    let fresh : IsFresh c.args.kind (codec_in (get_or files i c.file-item.result)) c.in_ok-signals_of.field-0 =
    subst (λ (file : CodecFile). IsFresh c.args.kind (codec_in file) c.in_ok-signals_of.field-0) c.file-item.is c.in_ok-signals_of.ensures in
    subst (λ (kept : List KeptSignals). AreFresh c.args.kind (codecs_in (take (i + 1) files)) kept) (sym c.in_ok-push.ensures.items)
    (subst (λ (codecs : List CodecState). AreFresh c.args.kind codecs (c.loop-file.kept.items ++ c.in_ok-signals_of.field-0 ∷ [])) (sym (map_more codec_in files i c.file-item.result c.loop-file-test.true))
    (fresh_push c.args.kind (codecs_in (take i files)) c.loop-file.kept.items (codec_in (get_or files i c.file-item.result)) c.in_ok-signals_of.field-0 c.loop-file.invariant fresh))
