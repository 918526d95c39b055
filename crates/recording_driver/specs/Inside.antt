-- How the fields of a driver that records are seen. This project's own.
use Rattle.recording_driver.specs.declared.driver.RecordingDriver.TheInside.{Inside}
use Rattle.recording_driver.specs.RecordingDrivers.{RecordingState, IsRecordingDriver}

abbrev pub state_inside : Inside → RecordingState
state_inside driver = record {
  engine = driver.engine;
  recorder = driver.recorder;
  pool = driver.pool;
  graphs = driver.graphs.items;
  plans = driver.plans.items;
  sent = driver.sent;
  runs = driver.runs;
  calls = driver.calls;
}

abbrev pub IsDriverInside : Inside → Type 0
IsDriverInside driver = IsRecordingDriver (state_inside driver)
