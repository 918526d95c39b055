use Rattle.std.proofs.Common.{Option, ◌≡◌, ◌+◌, List, [], ◌∷◌, ◌++◌, length, take, ap, sym, subst, ◌∙◌, refl, arith, append-nil}
use Rattle.std.specs.List.{flat_map}
use Rattle.std.proofs.lemmas.List.{take_more}
use Rattle.std.proofs.lemmas.List.Concat.{flat_map-append}
use Rattle.std.proofs.lemmas.List.Sums.{sum_by_more_le}
use Rattle.schedule_reader.specs.declared.schedule.Item.{Item}
use Rattle.schedule_reader.specs.declared.schedule.Part.{Part}
use Rattle.schedule_reader.specs.Counts.{items_in}
use Rattle.program_runs.specs.Lines.{lines_in}
use Rattle.wav_reader.specs.Supplies.{Source}
use Rattle.wav_reader.specs.Fills.{IsBeside}
use Rattle.program_runs.specs.Feeding.{shelves_of}
use Rattle.program_runs.specs.Going.{Ran, stand_of}
use Rattle.period_writer.specs.Writers.{measures_of}
use Rattle.program_runs.proofs.Ran.{ran_none, ran_both, fed_so}
use Rattle.program_runs.proofs.Counting.{part_lines, part_counts, count_both}
use Rattle.program_runs.proofs.items.run_schedule.Goals as goal
use Rattle.route_setup.specs.Means.{StreamMeaning}

pub loop-part-init : goal.loop-part-init
loop-part-init g c =
    let driver = c.args.driver.now in
    record {
      ran = ran_none _ driver.bring_up.agenda.format driver.play c.pieces_follow.ensures.none
          (stand_of driver.bring_up driver.writer driver.supply (shelves_of (g.S.Shelf.told c.args.shelf.now) (g.S.Shelf.faults c.args.shelf.now) (g.S.Shelf.empties c.args.shelf.now) (g.S.Shelf.given c.args.shelf.now)) c.args.cut.now c.args.rig.now) c.requires.between;
      told = refl;
      asked = λ other beside. refl;
      later = λ other. omega arith;
      empties_later = λ other. omega arith;
      geometry = refl;
      setter = refl;
      play = refl;
      runs = refl;
      calls = omega arith;
    }

pub run_part-requires-clause-few : goal.run_part-requires-clause-few
run_part-requires-clause-few g c =
    let parts = c.as_slice-part-items.result.now in
    let i = c.loop-part.part-index in
    let before = part_counts (take i parts) in
    let whole = part_counts parts in
    let same = ap (λ (parts : List Part). length (lines_in (flat_map items_in parts))) c.as_slice-part-items.ensures in
    let within = sum_by_more_le part_lines parts i c.part-item.result c.loop-part-test.true in
    let here = ap part_lines c.part-item.is in
    omega (arith, before, whole, same, within, here, c.loop-part.invariant.calls, c.loop-part.invariant.runs, c.requires.few)

pub loop-part-preserved : goal.loop-part-preserved
loop-part-preserved g c =
    let parts = c.as_slice-part-items.result.now in
    let i = c.loop-part.part-index in
    let part = c.part-item.result in
    let driver = c.args.driver.now in
    let now = c.loop-part.driver in
    let format = driver.bring_up.agenda.format in
    let means : StreamMeaning = g.T.Setter.means driver.setter in
    let means' : StreamMeaning = g.T.Setter.means now.setter in
    let same : means' ≡ means = ap (λ setter. g.T.Setter.means setter) c.loop-part.invariant.setter in
    let front = flat_map items_in (take i parts) in
    let turn : flat_map items_in (take (i + 1) parts) ≡ front ++ items_in part =
    ap (flat_map items_in) (take_more parts i part c.loop-part-test.true ∙ ap (λ (one : Part). take i parts ++ one ∷ []) (sym c.part-item.is))
    ∙ flat_map-append items_in (take i parts) (part ∷ []) ∙ ap (λ (back : List Item). front ++ back) (append-nil (items_in part)) in
    let more = ap (λ (all : List Item). length (lines_in all)) turn ∙ count_both front (items_in part) in
    let step = c.in_ok-run_part.ensures in
    let next = c.run_part.new.driver in
    let shelf = shelves_of (g.S.Shelf.told c.args.shelf.now) (g.S.Shelf.faults c.args.shelf.now) (g.S.Shelf.empties c.args.shelf.now) (g.S.Shelf.given c.args.shelf.now) in
    let shelf' = shelves_of (g.S.Shelf.told c.loop-part.shelf) (g.S.Shelf.faults c.loop-part.shelf) (g.S.Shelf.empties c.loop-part.shelf) (g.S.Shelf.given c.loop-part.shelf) in
    let shelf'' = shelves_of (g.S.Shelf.told c.run_part.new.shelf) (g.S.Shelf.faults c.run_part.new.shelf) (g.S.Shelf.empties c.run_part.new.shelf) (g.S.Shelf.given c.run_part.new.shelf) in
    let old = stand_of driver.bring_up driver.writer driver.supply shelf c.args.cut.now c.args.rig.now in
    let middle = stand_of now.bring_up now.writer now.supply shelf' c.loop-part.cut c.loop-part.rig in
    let stand = stand_of next.bring_up next.writer next.supply shelf'' c.run_part.new.cut c.run_part.new.rig in
    let source_is : now.supply.source ≡ driver.supply.source = c.loop-part.invariant.ran.took.source_is in
    record {
      ran = subst (λ (all : List Item). Ran means format driver.play all old stand) (sym turn)
          (ran_both means means' format driver.play now.play c.pieces_follow.ensures.both front (items_in part) old middle stand
          same refl c.loop-part.invariant.play c.loop-part.invariant.ran step.ran);
      told = step.told ∙ c.loop-part.invariant.told;
      asked = λ other beside. step.asked other (subst (λ (source : Option Source). IsBeside source other) (sym source_is) beside) ∙ c.loop-part.invariant.asked other beside;
      later = λ other. (let one = c.loop-part.invariant.later other in let more = step.later other in omega (arith, one, more));
      empties_later = λ other. (let one = c.loop-part.invariant.empties_later other in let more = step.empties_later other in omega (arith, one, more));
      geometry = step.geometry ∙ c.loop-part.invariant.geometry;
      play = step.play ∙ c.loop-part.invariant.play;
      setter = step.setter ∙ c.loop-part.invariant.setter;
      runs = step.runs ∙ c.loop-part.invariant.runs;
      calls = omega (arith, step.calls, more, c.loop-part.invariant.calls);
    }

pub run_part-requires-clause-fed : goal.run_part-requires-clause-fed
run_part-requires-clause-fed g c =
    let old = c.args.driver.now in
    let now = c.loop-part.driver in
    fed_so (measures_of old.writer) (measures_of now.writer) (shelves_of (g.S.Shelf.told c.args.shelf.now) (g.S.Shelf.faults c.args.shelf.now) (g.S.Shelf.empties c.args.shelf.now) (g.S.Shelf.given c.args.shelf.now))
    (shelves_of (g.S.Shelf.told c.loop-part.shelf) (g.S.Shelf.faults c.loop-part.shelf) (g.S.Shelf.empties c.loop-part.shelf) (g.S.Shelf.given c.loop-part.shelf))
    c.args.cut.now c.loop-part.cut old.supply now.supply old.writer.course now.writer.course c.loop-part.invariant.ran.fed c.requires.fed
