use Rattle.std.proofs.Common.{IfOk, inr, sym, ap, ◌∙◌, subst, rules}
use Rattle.schedule_reader.specs.Ranges.{IsInRange}
use Rattle.schedule_reader.specs.Schedules.{limited}
use Rattle.schedule_reader.proofs.ReadLemmas.{reading-fault, schedule_of-good, limited_parts-range}
use Rattle.schedule_reader.proofs.read.read_schedule.Goals as goal

pub returns-in_err-check_lines-clause-reading : goal.returns-in_err-check_lines-clause-reading
returns-in_err-check_lines-clause-reading c =
    reading-fault c.args.bytes.now c.in_err-check_lines.field-0.0 c.from_residual.result (search rules) c.in_err-check_lines.ensures

pub returns-clause-reading : goal.returns-clause-reading
returns-clause-reading c =
    inr (c.limited.ensures.value ∙ ap (λ parts. limited (record { parts = parts })) c.in_ok-parts.ensures ∙ sym (schedule_of-good c.args.bytes.now c.in_ok-check_lines.ensures))

pub returns-clause-ranges : goal.returns-clause-ranges
returns-clause-ranges c =
    subst (λ result. IfOk result IsInRange) (sym c.limited.ensures.value) (limited_parts-range c.args.bytes.now (record { parts = c.in_ok-parts.parts }) c.in_ok-parts.ensures)
