use Rattle.std.proofs.Common.{◌≡◌, ◌≤◌, take, drop, length}
use Rattle.world_rings.specs.Entries.{after_responses, responses_stored}
use Rattle.world_rings.specs.declared.response.TheConstants.{MOST_WAITING}
use Rattle.command_rings.proofs.rings.Rings.write_batch.Given as goal

abbrev pub invariant-loop-written : goal.invariant-loop-written
invariant-loop-written l = record {
  waiting : l.self-inside.waiting.items ≡ drop l.written l.initial.self-inside.waiting.items;
  capacity : l.self-inside.waiting.capacity ≡ MOST_WAITING;
  few : length l.initial.self-inside.waiting.items ≤ MOST_WAITING;
  within : l.written ≤ length l.initial.self-inside.waiting.items;
  registers : l.regs ≡ after_responses l.initial.regs (take l.written l.initial.self-inside.waiting.items);
  memory : l.memory ≡ responses_stored l.initial.regs l.initial.memory (take l.written l.initial.self-inside.waiting.items);
}
