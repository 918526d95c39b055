use Rattle.std.proofs.Common.{arith, refl}
use Rattle.std.proofs.lemmas.List.Sums.{sum_by_more}
use Rattle.codec_graph.specs.Widget.{node_identifiers}
use Rattle.hda_files.specs.declared.machine.CodecFile.{CodecFile}
use Rattle.hda_files.specs.Machines.{candidates_below}
use Rattle.hda_files.proofs.JudgeLemmas.{candidates-few}
use Rattle.hda_files.proofs.machine.candidates_of.Goals as goal

pub overflow_add-pins : goal.overflow_add-pins
overflow_add-pins c = omega (arith, c.candidates_below-pins.ensures, candidates-few c.codec-item.result.graph 128)

pub loop-codec-preserved : goal.loop-codec-preserved
loop-codec-preserved c =
    let codec : CodecFile = c.codec-item.result in
    let more = sum_by_more (λ (file : CodecFile). candidates_below file.graph node_identifiers) c.args.codecs.now c.loop-codec.codec-index codec (omega arith) in
    record {
      value = rw (c.candidates_below-pins.ensures, c.loop-codec.invariant.value, more, ← c.codec-item.is) refl;
      few = omega (arith, c.loop-codec.invariant.few, c.candidates_below-pins.ensures, candidates-few codec.graph 128);
    }
