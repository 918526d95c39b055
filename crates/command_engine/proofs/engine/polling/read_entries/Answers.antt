use Rattle.std.proofs.Common.{◌+◌, arith, ◌∙◌}
use Rattle.hda_registers.specs.Fields.{entries_of}
use Rattle.command_engine.proofs.Readings.{reads_next, event_short}
use Rattle.command_engine.proofs.engine.polling.read_entries.Goals as goal

pub loop-step-preserved : goal.loop-step-preserved
loop-step-preserved g c =
    let now = c.loop-step.invariant in
    record {
      reads = reads_next c.args.rirb.now.address (entries_of c.args.rings.rirb) (c.args.rings.read + 1) c.loop-step.step _ c.asked_of-asked.result c.args.events.now.items c.loop-step.events.items c.note_event.new.events.items c.loop-step.found c.found_with-found.result
          (g.P.Platform.told c.args.platform.now) (g.P.Platform.told c.loop-step.platform) (g.P.Platform.told c.read_entry.new.platform) c.read_entry.result c.response_in-response.result
          now.reads c.read_entry.ensures.whole c.read_entry.ensures.told (cc) c.response_in-response.ensures c.note_event.ensures.items c.found_with-found.ensures;
      asked = now.asked;
      size = now.size;
      room = event_short c.args.events.now.items c.loop-step.events.items c.note_event.new.events.items c.response_in-response.result c.loop-step.step now.room c.note_event.ensures.items;
      capacity = c.note_event.ensures.capacity ∙ now.capacity;
      fixed = c.read_entry.ensures.fixed ∙ now.fixed;
      accesses = omega arith;
      bytes = omega arith;
    }
