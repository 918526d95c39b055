use Rattle.std.proofs.Common.{◌+◌, drop, ap, ◌∙◌, sym, arith, rules}
use Rattle.std.proofs.lemmas.List.{length_push}
use Rattle.std.proofs.lemmas.List.Elements.{All-push}
use Rattle.std.specs.List.{cons_option}
use Rattle.toml.specs.View.{table_view}
use Rattle.hda_files.specs.Codecs.{codec_of, codecs_after}
use Rattle.hda_files.specs.Readers.{IsReadCodec}
use Rattle.hda_files.proofs.ArrayLemmas.{tables_of_list, tables_of_list-drop}
use Rattle.hda_files.proofs.NodeLemmas.{each_after-good}
use Rattle.hda_files.proofs.codec.read_codecs.Goals as goal
use Rattle.hda_files.proofs.codec.read_codecs.Goals.{in-Some+in_ok-codec+in_ok-push, in_default}

pub loop-value-preserved : goal.loop-value-preserved
loop-value-preserved c =
    let values = c.args.array.now.items in
    let codecs = c.loop-value.codecs.items in
    let left = tables_of_list (drop (c.loop-value.value-index + 1) values) in
    let here = tables_of_list-drop values c.loop-value.value-index c.value-item.result (omega arith) (search rules) in
    let so_far = c.loop-value.invariant.rest ∙ ap (codecs_after codecs) here in
    elim c.match-as_table.branch [
      | in-Some+in_ok-codec+in_ok-push w ↦
          let codec = w.in_ok-codec.codec in
          let meant = rw w.as_slice.ensures.value at w.in_ok-codec.ensures.value in
          rw (w.codecs-is, w.in_ok-push.ensures.items) (record {
            few = omega (arith, length_push codecs codec, c.loop-value.invariant.few);
            read = All-push IsReadCodec codecs codec c.loop-value.invariant.read w.in_ok-codec.ensures.read;
            rest = so_far ∙ ap (λ o. codecs_after codecs (cons_option o left)) (sym w.in-Some.ensures) ∙ each_after-good codec_of codecs (table_view w.in-Some.table.now) left codec meant;
          })
      | in_default w ↦
          rw w.codecs-is (record {
            few = omega (arith, c.loop-value.invariant.few);
            read = c.loop-value.invariant.read;
            rest = so_far ∙ ap (λ o. codecs_after codecs (cons_option o left)) (sym w.in_default.ensures);
          })
    ]
