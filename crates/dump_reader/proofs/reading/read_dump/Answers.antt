use Rattle.std.proofs.Common.{◌≡◌, length, ap, ◌∙◌, arith}
use Rattle.std.specs.Str.Lines.{lines}
use Rattle.dump_reader.specs.Reading.{read_from, nothing_read}
use Rattle.dump_reader.specs.Left.{lines_left}
use Rattle.dump_reader.proofs.CutLemmas.{length-lines}
use Rattle.dump_reader.proofs.reading.read_dump.Goals as goal

pub loop-line-init : goal.loop-line-init
loop-line-init c =
    let all : lines_left c.into_iter-line-iterator.result ≡ lines c.args.bytes.now = ap lines_left c.into_iter-line-iterator.ensures.into_iter_gives ∙ c.new-line-items.ensures in
    record {
      can = tt;
      finite = tt;
      rest = rw c.new.ensures (ap (read_from 1 nothing_read) all);
      few = omega (arith, ap length all, length-lines c.args.bytes.now);
    }
