use Rattle.std.proofs.Common.{◌≡◌, ◌<◌, ◌+◌, ◌-◌, suc, ℕ, true, false, ◌∙◌, arith}
use Rattle.world_streams.specs.Streams.{StreamState}
use Rattle.world_streams.specs.Output.{bytes_came}
use Rattle.stream_fetch.specs.Fetching.{StandsFor}
use Rattle.stream_fetch.specs.declared.fetch.Bytes.TheVariants.{Full, Broken, Came}
use Rattle.stream_fetch.specs.Bytes.{AreBytes}
use Rattle.stream_fetch.proofs.Rest.{Ended, ended_full, ended_broken, ended_all, came_more}
use Rattle.stream_fetch.proofs.fetch.Fetch.fetch.Goals as goal

-- what is left, where some is
one_left : (bytes most : ℕ) → bytes < most → bytes + suc (most - bytes - 1) ≡ most
one_left bytes most before = omega (arith, before)

full : (c : goal.In-Full) (start : StreamState) → StandsFor c.args.self.now start
    → Ended c.args.self.now.capacity c.args.list.address c.args.list.last c.args.memory.now c.args.most c.loop-fetched.fetched.done false c.fetch_bytes.new.self start
full c start stands =
    let here = c.loop-fetched.invariant.rest (suc (c.args.most - c.loop-fetched.fetched.bytes - 1)) (one_left _ _ c.loop-fetched-test.true) start stands in
    let found : AreBytes c.args.self.now.capacity c.args.memory.now c.args.list.address c.args.list.last here.state Full = rw (← c.loop-fetched.invariant.capacity) (c.in-Full.ensures.found here.state here.stands) in
    let new : StandsFor c.fetch_bytes.new.self here.state = c.in-Full.ensures.stands here.state here.stands in
    ended_full _ _ _ _ _ _ _ _ _ _ here found new

pub returns-in-Full-clause-stands : goal.returns-in-Full-clause-stands
returns-in-Full-clause-stands c = λ start stands. (full c start stands).stands

pub returns-in-Full-clause-done : goal.returns-in-Full-clause-done
returns-in-Full-clause-done c = λ start stands. (full c start stands).completing

pub returns-in-Full-clause-broken : goal.returns-in-Full-clause-broken
returns-in-Full-clause-broken c = λ start stands. c.loop-fetched.invariant.unbroken ∙ (full c start stands).breaking

broken : (c : goal.In-Broken) (start : StreamState) → StandsFor c.args.self.now start
    → Ended c.args.self.now.capacity c.args.list.address c.args.list.last c.args.memory.now c.args.most c.loop-fetched.fetched.done true c.fetch_bytes.new.self start
broken c start stands =
    let here = c.loop-fetched.invariant.rest (suc (c.args.most - c.loop-fetched.fetched.bytes - 1)) (one_left _ _ c.loop-fetched-test.true) start stands in
    let found : AreBytes c.args.self.now.capacity c.args.memory.now c.args.list.address c.args.list.last here.state Broken = rw (← c.loop-fetched.invariant.capacity) (c.in-Broken.ensures.found here.state here.stands) in
    let new : StandsFor c.fetch_bytes.new.self here.state = c.in-Broken.ensures.stands here.state here.stands in
    ended_broken _ _ _ _ _ _ _ _ _ _ here found new

pub returns-in-Broken-clause-stands : goal.returns-in-Broken-clause-stands
returns-in-Broken-clause-stands c = λ start stands. (broken c start stands).stands

pub returns-in-Broken-clause-done : goal.returns-in-Broken-clause-done
returns-in-Broken-clause-done c = λ start stands. (broken c start stands).completing

pub returns-in-Broken-clause-broken : goal.returns-in-Broken-clause-broken
returns-in-Broken-clause-broken c = λ start stands. (broken c start stands).breaking

pub loop-fetched-preserved : goal.loop-fetched-preserved
loop-fetched-preserved c = record {
  rest = λ left parts start stands. (
      let here = c.loop-fetched.invariant.rest (c.in-Came.count + left) (omega (arith, parts)) start stands in
      let found : AreBytes c.args.self.now.capacity c.args.memory.now c.args.list.address c.args.list.last here.state (Came c.in-Came.count c.in-Came.ends) =
      rw (← c.loop-fetched.invariant.capacity) (c.in-Came.ensures.found here.state here.stands) in
      let new : StandsFor c.fetch_bytes.new.self (bytes_came c.in-Came.count c.args.self.now.capacity c.args.memory.now c.args.list.address c.args.list.last here.state) =
      rw (← c.loop-fetched.invariant.capacity) (c.in-Came.ensures.stands here.state here.stands) in
      came_more _ _ _ _ _ _ _ _ _ _ _ _ _ here (omega arith) found new);
  unbroken = c.loop-fetched.invariant.unbroken;
  count = omega (arith, c.loop-fetched.invariant.count, c.in-Came.ensures.count);
  few = omega (arith, c.loop-fetched.invariant.few, c.in-Came.ensures.within);
  capacity = c.in-Came.ensures.capacity ∙ c.loop-fetched.invariant.capacity;
}

all : (c : goal.After-loop-fetched) (start : StreamState) → StandsFor c.args.self.now start
    → Ended c.args.self.now.capacity c.args.list.address c.args.list.last c.args.memory.now c.args.most c.loop-fetched.fetched.done false c.loop-fetched.self start
all c start stands = ended_all _ _ _ _ _ _ _ _ (c.loop-fetched.invariant.rest 0 (omega (arith, c.loop-fetched-test.false, c.loop-fetched.invariant.few)) start stands)

pub returns-clause-stands : goal.returns-clause-stands
returns-clause-stands c = λ start stands. (all c start stands).stands

pub returns-clause-done : goal.returns-clause-done
returns-clause-done c = λ start stands. (all c start stands).completing

pub returns-clause-broken : goal.returns-clause-broken
returns-clause-broken c = λ start stands. c.loop-fetched.invariant.unbroken ∙ (all c start stands).breaking
