use Rattle.std.proofs.Common.{refl}
use Rattle.hda_program.proofs.make.answer_make.Goals as goal

pub returns : goal.returns
returns c = record {
  played = c.in_ok-played.played;
  run = c.in_ok-played.ensures;
  ends = c.made_runs_end_so.ensures c.args.number c.in_ok-played.played c.in_ok-played.ensures;
  is = refl;
}
