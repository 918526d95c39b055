use Rattle.hda_world.proofs.Discovery.{discovered_in_time, not_discovered_before}
use Rattle.hda_world.proofs.laws.discovery_comes_in_the_25th_frame.Goals as goal

pub returns : goal.returns
returns c = record { set = discovered_in_time; before = not_discovered_before }
