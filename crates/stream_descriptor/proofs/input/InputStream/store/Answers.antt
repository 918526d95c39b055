use Rattle.std.proofs.Common.{◌≡◌, subst}
use Rattle.world_streams.specs.Streams.{StreamState}
use Rattle.stream_descriptor.specs.Running.{Playing}
use Rattle.stream_descriptor.specs.Taking.{TakesFor, TakesTo, stored_at}
use Rattle.stream_descriptor.proofs.Emptying.{store_leads}
use Rattle.stream_descriptor.proofs.input.InputStream.store.Goals as goal

pub returns-clause-leads : goal.returns-clause-leads
returns-clause-leads c = subst
    (λ (before : Playing). (state : StreamState) → TakesFor before c.args.regs.now state
    → TakesTo c.store_list.new.self c.args.regs.now c.store_list.new.regs (stored_at before.index c.args.most c.args.memory.now c.args.regs.now state).stream)
    c.self.view_is (λ state stands.
    (store_leads _ c.store_list.new.self c.args.regs.now c.store_list.new.regs c.args.memory.now c.store_list.new.memory state stands c.store_list.ensures.index c.store_list.ensures.capacity
    c.args.most c.store_list.ensures.cause).0)

pub returns-clause-memory : goal.returns-clause-memory
returns-clause-memory c = subst
    (λ (before : Playing). (state : StreamState) → TakesFor before c.args.regs.now state
    → c.store_list.new.memory ≡ (stored_at before.index c.args.most c.args.memory.now c.args.regs.now state).memory)
    c.self.view_is (λ state stands.
    (store_leads _ c.store_list.new.self c.args.regs.now c.store_list.new.regs c.args.memory.now c.store_list.new.memory state stands c.store_list.ensures.index c.store_list.ensures.capacity
    c.args.most c.store_list.ensures.cause).1)
