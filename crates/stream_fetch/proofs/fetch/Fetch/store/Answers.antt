use Rattle.std.proofs.Common.{◌≡◌, ◌<◌, ◌+◌, ◌-◌, suc, ℕ, true, false, refl, sym, subst, ◌∙◌, rules, arith}
use Rattle.world_streams.specs.Streams.{StreamState}
use Rattle.stream_fetch.specs.Fetching.{StandsFor}
use Rattle.stream_fetch.proofs.Remaining.{Remains, Emptied, with_memory, emptied_none, emptied_jammed, emptied_all, went_more, at_first}
use Rattle.stream_fetch.proofs.fetch.Fetch.store.Goals as goal

pub loop-stored-init : goal.loop-stored-init
loop-stored-init c = record {
  rest = λ left parts start stands. (
      let all : left ≡ c.args.most = omega (arith, parts) in
      subst (λ (left : ℕ). Remains c.args.list.address c.args.list.last c.args.most left false c.args.self.now c.args.memory.now (with_memory c.args.memory.now start)) (sym all)
      (at_first c.args.list.address c.args.list.last c.args.most c.args.self.now c.args.memory.now start stands));
  unbroken = refl;
  count = omega arith;
  few = omega arith;
  capacity = refl;
  size = refl;
}

-- what is left, where some is
one_left : (bytes most : ℕ) → bytes < most → bytes + suc (most - bytes - 1) ≡ most
one_left bytes most before = omega (arith, before)

empty : (c : goal.In-Empty) (start : StreamState) → StandsFor c.args.self.now start
    → Emptied c.args.list.address c.args.list.last c.args.most c.loop-stored.stored.done false c.store_bytes.new.self c.store_bytes.new.memory (with_memory c.args.memory.now start)
empty c start stands =
    let here = c.loop-stored.invariant.rest (suc (c.args.most - c.loop-stored.stored.bytes - 1)) (one_left _ _ c.loop-stored-test.true) start stands in
    emptied_none _ _ _ _ _ _ _ _ _ _ here (c.in-Empty.ensures.found here.state here.stands) (c.in-Empty.ensures.stands here.state here.stands) (c.in-Empty.ensures.memory here.state here.stands)

pub returns-in-Empty-clause-stands : goal.returns-in-Empty-clause-stands
returns-in-Empty-clause-stands c = λ start stands. (empty c start stands).stands

pub returns-in-Empty-clause-memory : goal.returns-in-Empty-clause-memory
returns-in-Empty-clause-memory c = λ start stands. (empty c start stands).memory_is

pub returns-in-Empty-clause-done : goal.returns-in-Empty-clause-done
returns-in-Empty-clause-done c = λ start stands. (empty c start stands).filling

pub returns-in-Empty-clause-broken : goal.returns-in-Empty-clause-broken
returns-in-Empty-clause-broken c = λ start stands. c.loop-stored.invariant.unbroken ∙ (empty c start stands).jamming

jammed : (c : goal.In-Jammed) (start : StreamState) → StandsFor c.args.self.now start
    → Emptied c.args.list.address c.args.list.last c.args.most c.loop-stored.stored.done true c.store_bytes.new.self c.store_bytes.new.memory (with_memory c.args.memory.now start)
jammed c start stands =
    let here = c.loop-stored.invariant.rest (suc (c.args.most - c.loop-stored.stored.bytes - 1)) (one_left _ _ c.loop-stored-test.true) start stands in
    emptied_jammed _ _ _ _ _ _ _ _ _ _ here (c.in-Jammed.ensures.found here.state here.stands) (c.in-Jammed.ensures.stands here.state here.stands) (c.in-Jammed.ensures.memory here.state here.stands)

pub returns-in-Jammed-clause-stands : goal.returns-in-Jammed-clause-stands
returns-in-Jammed-clause-stands c = λ start stands. (jammed c start stands).stands

pub returns-in-Jammed-clause-memory : goal.returns-in-Jammed-clause-memory
returns-in-Jammed-clause-memory c = λ start stands. (jammed c start stands).memory_is

pub returns-in-Jammed-clause-done : goal.returns-in-Jammed-clause-done
returns-in-Jammed-clause-done c = λ start stands. (jammed c start stands).filling

pub returns-in-Jammed-clause-broken : goal.returns-in-Jammed-clause-broken
returns-in-Jammed-clause-broken c = λ start stands. (jammed c start stands).jamming

pub loop-stored-preserved : goal.loop-stored-preserved
loop-stored-preserved c = record {
  rest = λ left parts start stands. (
      let here = c.loop-stored.invariant.rest (c.in-Went.count + left) (omega (arith, parts)) start stands in
      went_more _ _ _ _ _ _ _ _ _ _ _ _ _ here refl (c.in-Went.ensures.found here.state here.stands) (c.in-Went.ensures.stands here.state here.stands) (c.in-Went.ensures.memory here.state here.stands));
  unbroken = c.loop-stored.invariant.unbroken;
  count = omega (arith, c.loop-stored.invariant.count, c.in-Went.ensures.count);
  few = omega (arith, c.loop-stored.invariant.few, c.in-Went.ensures.within);
  capacity = c.in-Went.ensures.capacity ∙ c.loop-stored.invariant.capacity;
  size = search rules;
}

all : (c : goal.After-loop-stored) (start : StreamState) → StandsFor c.args.self.now start
    → Emptied c.args.list.address c.args.list.last c.args.most c.loop-stored.stored.done false c.loop-stored.self c.loop-stored.memory (with_memory c.args.memory.now start)
all c start stands = emptied_all _ _ _ _ _ _ _ (c.loop-stored.invariant.rest 0 (omega (arith, c.loop-stored-test.false, c.loop-stored.invariant.few)) start stands)

pub returns-clause-stands : goal.returns-clause-stands
returns-clause-stands c = λ start stands. (all c start stands).stands

pub returns-clause-memory : goal.returns-clause-memory
returns-clause-memory c = λ start stands. (all c start stands).memory_is

pub returns-clause-done : goal.returns-clause-done
returns-clause-done c = λ start stands. (all c start stands).filling

pub returns-clause-broken : goal.returns-clause-broken
returns-clause-broken c = λ start stands. c.loop-stored.invariant.unbroken ∙ (all c start stands).jamming
