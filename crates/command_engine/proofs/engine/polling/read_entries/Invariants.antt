use Rattle.std.proofs.Common.{◌≡◌, ◌≤◌, ◌+◌, ◌*◌, length}
use Rattle.hda_registers.specs.Fields.{entries_of}
use Rattle.world_rings.specs.declared.entries.TheConstants.{RESPONSE_BYTES}
use Rattle.command_engine.specs.Polling.{asked_of}
use Rattle.command_engine.specs.Reading.{ReadsEntries}
use Rattle.command_engine.proofs.engine.polling.read_entries.Given as goal

abbrev pub invariant-loop-step : goal.invariant-loop-step
invariant-loop-step g l = record {
  reads : ReadsEntries l.rirb.address (entries_of l.rings.rirb) (l.rings.read + 1) l.step l.asked l.initial.events.items l.events.items l.found (g.P.Platform.told l.initial.platform) (g.P.Platform.told l.platform);
  asked : l.asked ≡ asked_of l.rings.outstanding;
  size : l.size ≡ entries_of l.rings.rirb;
  room : length l.events.items ≤ length l.initial.events.items + l.step;
  capacity : l.events.capacity ≡ l.initial.events.capacity;
  fixed : g.P.Platform.fixed l.platform ≡ g.P.Platform.fixed l.initial.platform;
  accesses : g.P.Platform.spare_accesses l.platform + l.step ≡ g.P.Platform.spare_accesses l.initial.platform;
  bytes : g.P.Platform.spare_bytes l.platform + RESPONSE_BYTES * l.step ≡ g.P.Platform.spare_bytes l.initial.platform;
}
