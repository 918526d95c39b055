use Rattle.period_writer.proofs.blocks.+meet_runs.Given as goal

abbrev pub decreases-meet_runs : goal.decreases-meet_runs
decreases-meet_runs l = l.count
