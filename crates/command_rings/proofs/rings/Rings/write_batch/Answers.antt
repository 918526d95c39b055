use Rattle.std.proofs.Common.{◌≡◌, List, Some, slice_get, take, drop, ap, sym, ◌∙◌, arith}
use Rattle.std.proofs.lemmas.List.{drop-drop}
use Rattle.circular_buffer.specs.Buffer.{Buffer}
use Rattle.world_rings.specs.declared.response.Response.{Response}
use Rattle.command_rings.proofs.Batches.{may_respond, some_left, registers_more, memory_more}
use Rattle.command_rings.proofs.rings.Rings.write_batch.Goals as goal

pub write_response-requires : goal.write_response-requires
write_response-requires c =
    may_respond c.loop-written.regs c.args.regs.now (take c.loop-written.written c.self.inside.waiting.items) c.loop-written.invariant.registers c.requires

pub loop-written-preserved : goal.loop-written-preserved
loop-written-preserved c =
    let items = c.self.inside.waiting.items in
    let at : slice_get (drop c.loop-written.written items) 0 ≡ Some c.in-Some.response =
    ap (λ (left : List Response). slice_get left 0) (sym c.loop-written.invariant.waiting) ∙ sym c.pop_front.ensures.value ∙ c.in-Some.is in
    record {
      waiting = ap (λ (b : Buffer Response). b.items) c.pop_front.ensures.items ∙ ap (drop 1) c.loop-written.invariant.waiting ∙ drop-drop 1 c.loop-written.written items;
      capacity = ap (λ (b : Buffer Response). b.capacity) c.pop_front.ensures.items ∙ c.loop-written.invariant.capacity;
      few = c.loop-written.invariant.few;
      within = let some = some_left items c.in-Some.response c.loop-written.written at in omega arith;
      registers = registers_more _ _ _ items c.in-Some.response c.loop-written.written at c.loop-written.invariant.registers c.write_response.ensures.registers;
      memory = memory_more _ _ _ _ _ items c.in-Some.response c.loop-written.written at c.loop-written.invariant.registers c.loop-written.invariant.memory c.write_response.ensures.memory;
    }
