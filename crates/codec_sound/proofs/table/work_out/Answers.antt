use Rattle.std.proofs.Common.{refl, arith}
use Rattle.codec_sound.proofs.Outputs.{right-more}
use Rattle.codec_sound.proofs.table.work_out.Goals as goal

pub returns-then-is_ready-clause-right : goal.returns-then-is_ready-clause-right
returns-then-is_ready-clause-right c =
    rw c.from-place.ensures
    (right-more c.args.sources c.args.codec.now c.args.settings.now c.args.table.now c.args.known.now c.args.nid c.gives.result c.requires.well_formed (omega arith) c.requires.right (c.if-is_ready.ensures.0 refl) c.gives.ensures)
