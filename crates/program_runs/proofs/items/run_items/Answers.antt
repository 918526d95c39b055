use Rattle.std.proofs.Common.{Option, ◌≡◌, ◌+◌, List, [], ◌∷◌, ◌++◌, take, get_or, ap, sym, subst, ◌∙◌, refl, arith}
use Rattle.std.proofs.lemmas.List.{take_more}
use Rattle.schedule_reader.specs.declared.schedule.Item.{Item}
use Rattle.wav_reader.specs.Supplies.{Source}
use Rattle.wav_reader.specs.Fills.{IsBeside}
use Rattle.program_runs.specs.Feeding.{shelves_of}
use Rattle.program_runs.specs.Going.{Ran, stand_of}
use Rattle.period_writer.specs.Writers.{measures_of}
use Rattle.program_runs.proofs.Ran.{ran_none, ran_both, fed_so}
use Rattle.program_runs.proofs.Counting.{count_more, count_within, one_line}
use Rattle.program_runs.proofs.items.run_items.Goals as goal
use Rattle.route_setup.specs.Means.{StreamMeaning}

pub loop-item-init : goal.loop-item-init
loop-item-init g c =
    let driver = c.args.driver.now in
    record {
      ran = ran_none _ driver.bring_up.agenda.format driver.play c.pieces_follow.ensures.none
          (stand_of driver.bring_up driver.writer driver.supply (shelves_of (g.S.Shelf.told c.args.shelf.now) (g.S.Shelf.faults c.args.shelf.now) (g.S.Shelf.empties c.args.shelf.now) (g.S.Shelf.given c.args.shelf.now)) c.args.cut.now c.args.rig.now) c.requires.between;
      told = refl;
      asked = λ other beside. refl;
      later = λ other. omega arith;
      empties_later = λ other. omega arith;
      geometry = refl;
      setter = refl;
      play = refl;
      runs = refl;
      calls = omega arith;
    }

pub run_item-requires-clause-few : goal.run_item-requires-clause-few
run_item-requires-clause-few g c =
    let items = c.args.items.now in
    let within = count_within items c.loop-item.item-index c.item-item.result c.loop-item-test.true in
    let here = ap one_line c.item-item.is in
    omega (arith, within, here, c.loop-item.invariant.calls, c.loop-item.invariant.runs, c.requires.few)

pub loop-item-preserved : goal.loop-item-preserved
loop-item-preserved g c =
    let items = c.args.items.now in
    let i = c.loop-item.item-index in
    let driver = c.args.driver.now in
    let format = driver.bring_up.agenda.format in
    let means : StreamMeaning = g.T.Setter.means driver.setter in
    let now = c.loop-item.driver in
    let means' : StreamMeaning = g.T.Setter.means now.setter in
    let same : means' ≡ means = ap (λ setter. g.T.Setter.means setter) c.loop-item.invariant.setter in
    let item : c.item-item.result ≡ get_or items i c.item-item.result = c.item-item.is in
    let turn : take (i + 1) items ≡ take i items ++ c.item-item.result ∷ [] = take_more items i c.item-item.result c.loop-item-test.true ∙ ap (λ (one : Item). take i items ++ one ∷ []) (sym item) in
    let step = c.in_ok-run_item.ensures in
    let next = c.run_item.new.driver in
    let shelf = shelves_of (g.S.Shelf.told c.args.shelf.now) (g.S.Shelf.faults c.args.shelf.now) (g.S.Shelf.empties c.args.shelf.now) (g.S.Shelf.given c.args.shelf.now) in
    let shelf' = shelves_of (g.S.Shelf.told c.loop-item.shelf) (g.S.Shelf.faults c.loop-item.shelf) (g.S.Shelf.empties c.loop-item.shelf) (g.S.Shelf.given c.loop-item.shelf) in
    let shelf'' = shelves_of (g.S.Shelf.told c.run_item.new.shelf) (g.S.Shelf.faults c.run_item.new.shelf) (g.S.Shelf.empties c.run_item.new.shelf) (g.S.Shelf.given c.run_item.new.shelf) in
    let old = stand_of driver.bring_up driver.writer driver.supply shelf c.args.cut.now c.args.rig.now in
    let middle = stand_of now.bring_up now.writer now.supply shelf' c.loop-item.cut c.loop-item.rig in
    let stand = stand_of next.bring_up next.writer next.supply shelf'' c.run_item.new.cut c.run_item.new.rig in
    let source_is : now.supply.source ≡ driver.supply.source = c.loop-item.invariant.ran.took.source_is in
    let more = count_more items i c.item-item.result c.loop-item-test.true in
    let here = ap one_line item in
    record {
      ran = subst (λ (front : List Item). Ran means format driver.play front old stand) (sym turn)
          (ran_both means means' format driver.play now.play c.pieces_follow.ensures.both (take i items) (c.item-item.result ∷ []) old middle stand
          same refl c.loop-item.invariant.play c.loop-item.invariant.ran step.ran);
      told = step.told ∙ c.loop-item.invariant.told;
      asked = λ other beside. step.asked other (subst (λ (source : Option Source). IsBeside source other) (sym source_is) beside) ∙ c.loop-item.invariant.asked other beside;
      later = λ other. (let one = c.loop-item.invariant.later other in let more = step.later other in omega (arith, one, more));
      empties_later = λ other. (let one = c.loop-item.invariant.empties_later other in let more = step.empties_later other in omega (arith, one, more));
      geometry = step.geometry ∙ c.loop-item.invariant.geometry;
      play = step.play ∙ c.loop-item.invariant.play;
      setter = step.setter ∙ c.loop-item.invariant.setter;
      runs = step.runs ∙ c.loop-item.invariant.runs;
      calls = omega (arith, step.calls, more, here, c.loop-item.invariant.calls);
    }

pub run_item-requires-clause-fed : goal.run_item-requires-clause-fed
run_item-requires-clause-fed g c =
    let old = c.args.driver.now in
    let now = c.loop-item.driver in
    fed_so (measures_of old.writer) (measures_of now.writer) (shelves_of (g.S.Shelf.told c.args.shelf.now) (g.S.Shelf.faults c.args.shelf.now) (g.S.Shelf.empties c.args.shelf.now) (g.S.Shelf.given c.args.shelf.now))
    (shelves_of (g.S.Shelf.told c.loop-item.shelf) (g.S.Shelf.faults c.loop-item.shelf) (g.S.Shelf.empties c.loop-item.shelf) (g.S.Shelf.given c.loop-item.shelf))
    c.args.cut.now c.loop-item.cut old.supply now.supply old.writer.course now.writer.course c.loop-item.invariant.ran.fed c.requires.fed
