use Rattle.recording_driver.proofs.Blocks.{recorder_left}
use Rattle.recording_driver.proofs.driver.closing.give_back.Goals as goal

pub close-requires-2 : goal.close-requires-2
close-requires-2 c = recorder_left c.args.pool.now c.args.engine.corb.address c.args.engine.rirb.address c.close.new.pool c.args.recorder c.close.ensures c.requires.ring
