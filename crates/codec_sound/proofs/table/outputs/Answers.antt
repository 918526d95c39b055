use Rattle.std.proofs.Common.{replicate, false}
use Rattle.std.proofs.lemmas.List.{length-replicate}
use Rattle.codec_sound.specs.declared.signals.Signal.TheVariants.{Silence}
use Rattle.codec_sound.proofs.Outputs.{right-none, known-more, known-none, right-all}
use Rattle.codec_sound.proofs.table.outputs.Goals as goal

pub loop-round-init : goal.loop-round-init
loop-round-init c = record {
  long = length-replicate 256 Silence;
  right = right-none c.args.sources c.raw-codec.result.now c.args.settings.now (replicate 256 Silence);
  known = λ nid. known-none c.raw-codec.result.now (replicate 256 false) nid;
}

pub loop-round-preserved : goal.loop-round-preserved
loop-round-preserved c = record {
  long = c.work_out_ready.array_long;
  right = c.work_out_ready.ensures.right;
  known = known-more c.raw-codec.result.now c.loop-round.known c.work_out_ready.new.known c.loop-round._round (rw c.raw-codec.ensures.value c.raw-codec.ensures.well_formed) c.loop-round.invariant.known c.work_out_ready.ensures.further;
}

pub returns : goal.returns
returns c =
    rw (← c.raw-codec.ensures.value)
    (right-all c.args.sources c.raw-codec.result.now c.args.settings.now c.loop-round.table c.loop-round.known c.loop-round._round (rw c.raw-codec.ensures.value c.raw-codec.ensures.well_formed) c.loop-round.invariant.long c.loop-round-test.false c.loop-round.auto._round-end c.loop-round.invariant.right c.loop-round.invariant.known)
