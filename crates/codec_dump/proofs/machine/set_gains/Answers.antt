use Rattle.std.proofs.Common.{refl, arith}
use Rattle.std.proofs.lemmas.List.FromFn.{map-range_with_len_more}
use Rattle.std.proofs.lemmas.List.Sums.{fold-append}
use Rattle.hda_files.specs.Starts.{gain_verb}
use Rattle.codec_dump.proofs.machine.set_gains.Goals as goal

pub loop-place-preserved : goal.loop-place-preserved
loop-place-preserved c =
    let place = c.loop-place.place in
    let more = map-range_with_len_more (gain_verb c.args.gains.now) 0 place place (omega arith) in
    record {
      of_graph = c.set_given.ensures.of_graph;
      value = rw (c.set_given.ensures.value, c.gain_verb.ensures.value, c.loop-place.invariant.value, more, fold-append) refl;
    }
