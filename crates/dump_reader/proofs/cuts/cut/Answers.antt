use Rattle.std.proofs.Common.{◌+◌, sym, ◌∙◌}
use Rattle.std.proofs.lemmas.List.{take_rest}
use Rattle.dump_reader.proofs.CutLemmas.{pieces_at, pieces_whole}
use Rattle.dump_reader.proofs.cuts.cut.Goals as goal

pub returns-in_err-end : goal.returns-in_err-end
returns-in_err-end c =
    rw c.from_residual.ensures (pieces_whole c.args.mark c.args.text.now (sym c.place_of.ensures ∙ c.in_err-end.was))

pub returns : goal.returns
returns c =
    let text = c.args.text.now in
    rw (take_rest text (c.in_ok-end.end + 1)) (pieces_at c.args.mark text c.in_ok-end.end (sym c.place_of.ensures ∙ c.in_ok-end.was))
