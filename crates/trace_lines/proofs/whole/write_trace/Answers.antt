use Rattle.std.proofs.Common.{◌≡◌, [], rules}
use Rattle.sound_report.proofs.Callers.{on_err}
use Rattle.trace_lines.proofs.LineLemmas.{all_of_page, front_of_page}
use Rattle.trace_lines.proofs.whole.write_trace.Goals as goal

-- the page begins empty, and is written whole in the end
pub returns-in_err-write_form-clause-front : goal.returns-in_err-write_form-clause-front
returns-in_err-write_form-clause-front g c =
    let empty : c.reserve.new.self.items ≡ [] = search rules in
    on_err c.from_residual-in_err-write_form.result (rw empty at c.in_err-write_form.ensures.text)

pub returns-clause-all : goal.returns-clause-all
returns-clause-all g c =
    let empty : c.reserve.new.self.items ≡ [] = search rules in
    all_of_page _ c.write_all.result (rw empty at c.in_ok-write_form.ensures.text) (rw c.as_slice.ensures.value at c.write_all.ensures.all)

pub returns-clause-front : goal.returns-clause-front
returns-clause-front g c =
    let empty : c.reserve.new.self.items ≡ [] = search rules in
    front_of_page _ c.write_all.result (rw empty at c.in_ok-write_form.ensures.text) (rw c.as_slice.ensures.value at c.write_all.ensures.front)
