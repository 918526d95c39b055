-- How the fields of an engine are seen. This project's own.
use Rattle.std.specs.Prelude.{◌≡◌}
use Rattle.command_engine.specs.declared.engine.Engine.TheInside.{Inside}
use Rattle.command_engine.specs.Blocks.{most_events}
use Rattle.command_engine.specs.Engines.{EngineState, IsEngine}

abbrev pub state_inside : Inside → EngineState
state_inside engine = record {
  corb = engine.corb;
  rirb = engine.rirb;
  rings = engine.rings;
  events = engine.events.items;
}

-- the queue has room for the events of one poll
abbrev pub IsEngineInside : Inside → Type 0
IsEngineInside engine = IsEngine (state_inside engine) × (engine.events.capacity ≡ most_events)
