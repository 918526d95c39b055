use Rattle.std.proofs.Common.{◌≡◌, false, length, map, ap, ◌∙◌, arith}
use Rattle.std.specs.Str.Lines.{lines}
use Rattle.schedule_reader.specs.Faults.{fault_from}
use Rattle.schedule_reader.specs.Rows.{row_on}
use Rattle.schedule_reader.specs.Left.{lines_left}
use Rattle.schedule_reader.proofs.CutLemmas.{length-lines}
use Rattle.schedule_reader.proofs.parts.check_lines.Goals as goal

pub loop-line-init : goal.loop-line-init
loop-line-init c =
    let all : lines_left c.into_iter-line-iterator.result ≡ lines c.args.bytes.now = ap lines_left c.into_iter-line-iterator.ensures.into_iter_gives ∙ c.new-line-items.ensures in
    record {
      can = tt;
      finite = tt;
      rest = ap (λ lines. fault_from 1 false (map row_on lines)) all;
      few = omega (arith, ap length all, length-lines c.args.bytes.now);
    }
