use Rattle.std.proofs.Common.{◌<◌, ◌-◌, length, ap, ◌∙◌, arith}
use Rattle.std.proofs.lemmas.List.{get_or_default}
use Rattle.std.proofs.lemmas.Bool.Decides.{nat_tests}
use Rattle.stream_format.specs.Layouts.{layout}
use Rattle.heard_lists.specs.declared.pieces.Piece.{Piece}
use Rattle.heard_lists.proofs.item_lists.goes_on.Goals as goal

pub returns-then-is_same : goal.returns-then-is_same
returns-then-is_same g c as_then =
    let none = c.if-holes-ne0.false in
    let some = c.if-is_empty.false in
    let is_empty = c.is_empty.ensures in
    let here : 0 < length c.args.pieces.now = grind (arith, nat_tests, some, is_empty) in
    record {
      whole = grind (arith, nat_tests, none);
      some = here;
      same = λ piece. ap (λ (p : Piece). layout p.format) (get_or_default c.args.pieces.now (length c.args.pieces.now - 1) piece c.index-pieces-last.result (omega (arith, here)))
          ∙ c.is_same.ensures c.if-is_same.true;
      signals = c.are_as_in.ensures as_then;
    }
