use Rattle.std.proofs.Common.{◌≡◌, rules}
use Rattle.sound_report.specs.PlanLines.{plans_lines}
use Rattle.sound_report.specs.Texts.{last_line}
use Rattle.sound_report.proofs.PageLemmas.{all_taken, front_longer, front_of_rest, front_taken, on_err}
use Rattle.sound_report.proofs.whole.write_switched.Goals as goal

pub returns-in_err-write_middle-clause-front : goal.returns-in_err-write_middle-clause-front
returns-in_err-write_middle-clause-front g c =
    let plans : c.reserve.new.self.items ≡ plans_lines c.args.played.now.machine.codecs c.args.played.now.plans = search rules in
    on_err c.from_residual-in_err-write_middle.result (front_longer _ _ _ (last_line c.args.played.now) (rw plans at c.in_err-write_middle.ensures.text))

pub returns-in_err-push_last-clause-front : goal.returns-in_err-push_last-clause-front
returns-in_err-push_last-clause-front g c =
    let plans : c.reserve.new.self.items ≡ plans_lines c.args.played.now.machine.codecs c.args.played.now.plans = search rules in
    on_err c.from_residual-in_err-push_last.result (front_longer _ _ _ (last_line c.args.played.now) (front_of_rest (rw plans at c.in_ok-write_middle.ensures.text)))

pub returns-clause-all : goal.returns-clause-all
returns-clause-all g c =
    let plans : c.reserve.new.self.items ≡ plans_lines c.args.played.now.machine.codecs c.args.played.now.plans = search rules in
    all_taken _ c.write_all.result (last_line c.args.played.now) (rw plans at c.in_ok-write_middle.ensures.text) c.in_ok-push_last.ensures (rw c.as_slice-3.ensures.value at c.write_all.ensures.all)

pub returns-clause-front : goal.returns-clause-front
returns-clause-front g c =
    let plans : c.reserve.new.self.items ≡ plans_lines c.args.played.now.machine.codecs c.args.played.now.plans = search rules in
    front_taken _ c.write_all.result (last_line c.args.played.now) (rw plans at c.in_ok-write_middle.ensures.text) c.in_ok-push_last.ensures (rw c.as_slice-3.ensures.value at c.write_all.ensures.front)
