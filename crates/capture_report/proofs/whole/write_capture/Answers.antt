use Rattle.std.proofs.Common.{◌≡◌, rules}
use Rattle.sound_report.proofs.Callers.{all_taken, front_taken, on_err}
use Rattle.capture_report.specs.CaptureLines.{input_lines}
use Rattle.capture_report.specs.CaptureTexts.{capture_last_line}
use Rattle.capture_report.proofs.PageParts.{front_longer, rest_front, rest_longer}
use Rattle.capture_report.proofs.whole.write_capture.Goals as goal

pub returns-in_err-write_middle-clause-front : goal.returns-in_err-write_middle-clause-front
returns-in_err-write_middle-clause-front g c =
    let inputs : c.reserve.new.self.items ≡ input_lines c.args.captured.now.machine.codecs c.args.captured.now.plans = search rules in
    on_err c.from_residual-in_err-write_middle.result (front_longer _ (capture_last_line c.args.captured.now) (rw inputs at c.in_err-write_middle.ensures.text))

pub returns-in_err-push_last-clause-front : goal.returns-in_err-push_last-clause-front
returns-in_err-push_last-clause-front g c =
    let inputs : c.reserve.new.self.items ≡ input_lines c.args.captured.now.machine.codecs c.args.captured.now.plans = search rules in
    on_err c.from_residual-in_err-push_last.result (rest_front (rest_longer _ _ (capture_last_line c.args.captured.now) (rw inputs at c.in_ok-write_middle.ensures.text)))

pub returns-clause-all : goal.returns-clause-all
returns-clause-all g c =
    let inputs : c.reserve.new.self.items ≡ input_lines c.args.captured.now.machine.codecs c.args.captured.now.plans = search rules in
    all_taken _ c.write_all.result (capture_last_line c.args.captured.now) (rw inputs at c.in_ok-write_middle.ensures.text) c.in_ok-push_last.ensures (rw c.as_slice-3.ensures.value at c.write_all.ensures.all)

pub returns-clause-front : goal.returns-clause-front
returns-clause-front g c =
    let inputs : c.reserve.new.self.items ≡ input_lines c.args.captured.now.machine.codecs c.args.captured.now.plans = search rules in
    front_taken _ c.write_all.result (capture_last_line c.args.captured.now) (rw inputs at c.in_ok-write_middle.ensures.text) c.in_ok-push_last.ensures (rw c.as_slice-3.ensures.value at c.write_all.ensures.front)
