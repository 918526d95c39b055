use Rattle.std.proofs.Common.{◌≡◌, ◌∷◌, length, sym, ap, ◌∙◌, arith}
use Rattle.std.specs.Str.Lines.{lines}
use Rattle.dump_reader.specs.Left.{lines_left}
use Rattle.dump_reader.proofs.CutLemmas.{lines_first}
use Rattle.dump_reader.proofs.cuts.LinesIterator.next.Goals.{After-without_return}
use Rattle.dump_reader.proofs.cuts.LinesIterator.next.Goals as goal

-- the line ends at the first line feed
at_feed : (c : After-without_return) → lines_left c.args.self.now ≡ c.without_return.result.now ∷ lines c.in-Some.rest.now
at_feed c =
    lines_first c.args.self.now.rest.now c.in-Some.line.now c.in-Some.rest.now c.in-Some.ensures
    ∙ ap (λ line. line ∷ lines c.in-Some.rest.now) (sym c.without_return.ensures)

pub returns-in-Some-clause-steps : goal.returns-in-Some-clause-steps
returns-in-Some-clause-steps c = at_feed c

pub returns-in-Some-clause-goes : goal.returns-in-Some-clause-goes
returns-in-Some-clause-goes c =
    record { on = λ _. (tt, tt, omega (arith, ap length (at_feed c))); keeps = tt; rests = λ _. tt }
