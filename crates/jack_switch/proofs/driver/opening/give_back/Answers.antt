use Rattle.audio_driver.proofs.Taken.{ring_leaves}
use Rattle.jack_switch.proofs.driver.opening.give_back.Goals as goal

pub end-requires : goal.end-requires
end-requires c = ring_leaves c.args.pool.now c.args.engine.corb.address c.args.engine.rirb.address c.close.new.pool c.args.writer c.close.ensures c.requires.ring

pub returns-clause-gives : goal.returns-clause-gives
returns-clause-gives c = record { middle = c.close.new.pool; engine = c.close.ensures; writer = c.end.ensures.gives }
