use Rattle.hda_program.proofs.MadeWhole.{ends}
use Rattle.hda_program.proofs.made_ends.made_runs_end_so.Goals as goal

pub returns : goal.returns
returns c = λ number played is. ends number played is c.made_codec_is_well_formed.ensures c.plays_by_turns_so.ensures c.turns_serve.ensures.sound
