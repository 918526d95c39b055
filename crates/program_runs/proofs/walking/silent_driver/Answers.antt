use Rattle.std.proofs.Common.{◌∙◌}
use Rattle.program_runs.proofs.walking.silent_driver.Goals as goal

pub returns-clause-fresh : goal.returns-clause-fresh
returns-clause-fresh c = record {
  geometry = c.in-Ok.geometry;
  opened = c.in_ok-driver.ensures.opened;
  ring = record {
    periods_are = c.in-Ok.ensures.periods;
    period_is = c.in-Ok.ensures.period;
    fifo_is = c.in-Ok.ensures.fifo;
    format_is = c.in-Ok.ensures.format ∙ c.walk_format.ensures;
  };
  first_fits = c.in_ok-driver.ensures.first_fits;
  apart = c.in_ok-driver.ensures.apart;
}
