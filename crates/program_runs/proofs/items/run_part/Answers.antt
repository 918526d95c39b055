use Rattle.std.proofs.Common.{Option, ◌≡◌, ◌+◌, ◌*◌, ℕ, List, ◌++◌, length, ap, sym, subst, ◌∙◌, refl, arith}
use Rattle.schedule_reader.specs.declared.schedule.Item.{Item}
use Rattle.program_runs.specs.Lines.{lines_in}
use Rattle.wav_reader.specs.Supplies.{Source}
use Rattle.wav_reader.specs.Fills.{IsBeside}
use Rattle.program_runs.specs.Feeding.{shelves_of}
use Rattle.program_runs.specs.Going.{Ran, stand_of}
use Rattle.period_writer.specs.Writers.{measures_of}
use Rattle.program_runs.proofs.Ran.{ran_none, ran_both, fed_so}
use Rattle.program_runs.proofs.Counting.{items_times, items_more, count_times, count_both, times_within, part_is}
use Rattle.program_runs.proofs.items.run_part.Goals as goal
use Rattle.route_setup.specs.Means.{StreamMeaning}

pub loop-init : goal.loop-init
loop-init g c =
    let driver = c.args.driver.now in
    record {
      ran = ran_none _ driver.bring_up.agenda.format driver.play c.pieces_follow.ensures.none
          (stand_of driver.bring_up driver.writer driver.supply (shelves_of (g.S.Shelf.told c.args.shelf.now) (g.S.Shelf.faults c.args.shelf.now) (g.S.Shelf.empties c.args.shelf.now) (g.S.Shelf.given c.args.shelf.now)) c.args.cut.now c.args.rig.now) c.requires.between;
      told = refl;
      asked = λ other beside. refl;
      later = λ other. omega arith;
      empties_later = λ other. omega arith;
      geometry = refl;
      setter = refl;
      play = refl;
      runs = refl;
      calls = omega arith;
    }

pub run_items-requires-clause-few : goal.run_items-requires-clause-few
run_items-requires-clause-few g c =
    let items = c.args.part.now.items in
    let lines = length (lines_in items) in
    let before = count_times items c.loop.counter in
    let whole = part_is c.args.part.now in
    let within = times_within lines c.loop.counter c.args.part.now.times (c.args.part.now.times * lines) c.loop-test.true (omega arith) in
    let here = ap (λ (items : List Item). length (lines_in items)) c.as_slice.ensures in
    omega (arith, before, whole, within, here, c.loop.invariant.calls, c.loop.invariant.runs, c.requires.few)

pub loop-preserved : goal.loop-preserved
loop-preserved g c =
    let items = c.args.part.now.items in
    let driver = c.args.driver.now in
    let now = c.loop.driver in
    let format = driver.bring_up.agenda.format in
    let means : StreamMeaning = g.T.Setter.means driver.setter in
    let means' : StreamMeaning = g.T.Setter.means now.setter in
    let same : means' ≡ means = ap (λ setter. g.T.Setter.means setter) c.loop.invariant.setter in
    let turn : items_times items (c.loop.counter + 1) ≡ items_times items c.loop.counter ++ c.as_slice.result.now =
    items_more items c.loop.counter ∙ ap (λ (back : List Item). items_times items c.loop.counter ++ back) (sym c.as_slice.ensures) in
    let more = ap (λ (all : List Item). length (lines_in all)) turn ∙ count_both (items_times items c.loop.counter) c.as_slice.result.now in
    let step = c.in_ok-run_items.ensures in
    let next = c.run_items.new.driver in
    let shelf = shelves_of (g.S.Shelf.told c.args.shelf.now) (g.S.Shelf.faults c.args.shelf.now) (g.S.Shelf.empties c.args.shelf.now) (g.S.Shelf.given c.args.shelf.now) in
    let shelf' = shelves_of (g.S.Shelf.told c.loop.shelf) (g.S.Shelf.faults c.loop.shelf) (g.S.Shelf.empties c.loop.shelf) (g.S.Shelf.given c.loop.shelf) in
    let shelf'' = shelves_of (g.S.Shelf.told c.run_items.new.shelf) (g.S.Shelf.faults c.run_items.new.shelf) (g.S.Shelf.empties c.run_items.new.shelf) (g.S.Shelf.given c.run_items.new.shelf) in
    let old = stand_of driver.bring_up driver.writer driver.supply shelf c.args.cut.now c.args.rig.now in
    let middle = stand_of now.bring_up now.writer now.supply shelf' c.loop.cut c.loop.rig in
    let stand = stand_of next.bring_up next.writer next.supply shelf'' c.run_items.new.cut c.run_items.new.rig in
    let source_is : now.supply.source ≡ driver.supply.source = c.loop.invariant.ran.took.source_is in
    record {
      ran = subst (λ (all : List Item). Ran means format driver.play all old stand) (sym turn)
          (ran_both means means' format driver.play now.play c.pieces_follow.ensures.both (items_times items c.loop.counter) c.as_slice.result.now old middle stand
          same refl c.loop.invariant.play c.loop.invariant.ran step.ran);
      told = step.told ∙ c.loop.invariant.told;
      asked = λ other beside. step.asked other (subst (λ (source : Option Source). IsBeside source other) (sym source_is) beside) ∙ c.loop.invariant.asked other beside;
      later = λ other. (let one = c.loop.invariant.later other in let more = step.later other in omega (arith, one, more));
      empties_later = λ other. (let one = c.loop.invariant.empties_later other in let more = step.empties_later other in omega (arith, one, more));
      geometry = step.geometry ∙ c.loop.invariant.geometry;
      play = step.play ∙ c.loop.invariant.play;
      setter = step.setter ∙ c.loop.invariant.setter;
      runs = step.runs ∙ c.loop.invariant.runs;
      calls = omega (arith, step.calls, more, c.loop.invariant.calls);
    }

pub returns-clause-ran : goal.returns-clause-ran
returns-clause-ran g c =
    let items = c.args.part.now.items in
    let driver = c.args.driver.now in
    let means : StreamMeaning = g.T.Setter.means driver.setter in
    let all : c.loop.counter ≡ c.args.part.now.times = omega (arith, c.loop.auto.counter-end, c.loop-test.false) in
    subst (λ (n : ℕ). Ran means driver.bring_up.agenda.format driver.play (items_times items n)
    (stand_of driver.bring_up driver.writer driver.supply (shelves_of (g.S.Shelf.told c.args.shelf.now) (g.S.Shelf.faults c.args.shelf.now) (g.S.Shelf.empties c.args.shelf.now) (g.S.Shelf.given c.args.shelf.now)) c.args.cut.now c.args.rig.now)
    (stand_of c.loop.driver.bring_up c.loop.driver.writer c.loop.driver.supply (shelves_of (g.S.Shelf.told c.loop.shelf) (g.S.Shelf.faults c.loop.shelf) (g.S.Shelf.empties c.loop.shelf) (g.S.Shelf.given c.loop.shelf)) c.loop.cut c.loop.rig)) all c.loop.invariant.ran

pub returns-clause-calls : goal.returns-clause-calls
returns-clause-calls g c =
    let all : c.loop.counter ≡ c.args.part.now.times = omega (arith, c.loop.auto.counter-end, c.loop-test.false) in
    c.loop.invariant.calls ∙ ap (λ (n : ℕ). c.args.driver.now.calls + length (lines_in (items_times c.args.part.now.items n))) all

pub run_items-requires-clause-fed : goal.run_items-requires-clause-fed
run_items-requires-clause-fed g c =
    let old = c.args.driver.now in
    let now = c.loop.driver in
    fed_so (measures_of old.writer) (measures_of now.writer) (shelves_of (g.S.Shelf.told c.args.shelf.now) (g.S.Shelf.faults c.args.shelf.now) (g.S.Shelf.empties c.args.shelf.now) (g.S.Shelf.given c.args.shelf.now))
    (shelves_of (g.S.Shelf.told c.loop.shelf) (g.S.Shelf.faults c.loop.shelf) (g.S.Shelf.empties c.loop.shelf) (g.S.Shelf.given c.loop.shelf))
    c.args.cut.now c.loop.cut old.supply now.supply old.writer.course now.writer.course c.loop.invariant.ran.fed c.requires.fed
