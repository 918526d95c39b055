use Rattle.std.proofs.Common.{◌≡◌, true, sym, rules}
use Rattle.std.specs.Prelude.{nat_le}
use Rattle.period_writer.proofs.Silences.{cut_away}
use Rattle.period_writer.proofs.records.cut_silences.Goals as goal

pub returns-else-last-cut-clause-items : goal.returns-else-last-cut-clause-items
returns-else-last-cut-clause-items c =
    let past = c.if-last-cut.false in
    let begins : nat_le c.args.cut c.in-Some.last.start ≡ true = search (rules, past) in
    sym (cut_away c.args.cut c.pop.new.self.items c.args.silences.now.items c.in-Some.last c.in-Some.ensures.items begins)
