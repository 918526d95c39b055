-- How the fields of a driver that switches are seen. This project's own.
use Rattle.jack_switch.specs.declared.driver.JackDriver.TheInside.{Inside}
use Rattle.jack_switch.specs.JackDrivers.{JackDriverState, IsJackDriver}

abbrev pub state_inside : Inside → JackDriverState
state_inside driver = record {
  engine = driver.engine;
  writer = driver.writer;
  supply = driver.supply;
  pool = driver.pool;
  graphs = driver.graphs.items;
  plans = driver.plans.items;
  sent = driver.sent;
  jacks = driver.jacks;
  switching = driver.switching;
  clock = driver.clock;
  given_up = driver.given_up;
  runs = driver.runs;
  calls = driver.calls;
}

abbrev pub IsDriverInside : Inside → Type 0
IsDriverInside driver = IsJackDriver (state_inside driver)
