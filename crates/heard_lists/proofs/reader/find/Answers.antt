use Rattle.std.proofs.Common.{◌≡◌, ℕ, List, get_or, sym, ap, ◌∙◌, arith}
use Rattle.std.proofs.lemmas.Bool.Decides.{nat_tests}
use Rattle.heard_lists.specs.declared.pieces.Piece.{Piece}
use Rattle.heard_lists.proofs.Starts.{item-fits, byte-fits, start-after}
use Rattle.heard_lists.proofs.reader.find.Goals as goal

pub after-next-requires-clause-few : goal.after-next-requires-clause-few
after-next-requires-clause-few c =
    let pieces : List Piece = c.args.pieces.now in
    let piece : Piece = c.index-pieces-place.result in
    let same = c.loop-place.invariant.here in
    let test = c.loop-place-test.true in
    let here : piece ≡ get_or pieces c.loop-place.start.piece piece = c.index-pieces-place.is ∙ ap (λ (k : ℕ). get_or pieces k piece) (sym same) in
    let fits = item-fits pieces c.loop-place.start c.loop-place.invariant.starts piece (omega (arith, same, test)) here in
    let few = c.requires.few in
    omega (arith, fits, few)

pub after-next-requires-clause-small : goal.after-next-requires-clause-small
after-next-requires-clause-small c =
    let pieces : List Piece = c.args.pieces.now in
    let piece : Piece = c.index-pieces-place.result in
    let same = c.loop-place.invariant.here in
    let test = c.loop-place-test.true in
    let here : piece ≡ get_or pieces c.loop-place.start.piece piece = c.index-pieces-place.is ∙ ap (λ (k : ℕ). get_or pieces k piece) (sym same) in
    let fits = byte-fits pieces c.loop-place.start c.loop-place.invariant.starts piece (omega (arith, same, test)) here in
    let small = c.requires.small in
    omega (arith, fits, small)

pub loop-place-preserved : goal.loop-place-preserved
loop-place-preserved c =
    let pieces : List Piece = c.args.pieces.now in
    let piece : Piece = c.index-pieces-place.result in
    let same = c.loop-place.invariant.here in
    let test = c.loop-place-test.true in
    let here : piece ≡ get_or pieces c.loop-place.start.piece piece = c.index-pieces-place.is ∙ ap (λ (k : ℕ). get_or pieces k piece) (sym same) in
    let next = c.after-next.ensures.piece in
    let not = c.if-number-next.false in
    record {
      starts = start-after pieces c.loop-place.start c.loop-place.invariant.starts piece (omega (arith, same, test)) here c.after-next.result c.after-next.ensures.piece
          c.after-next.ensures.item c.after-next.ensures.byte;
      before = grind (arith, nat_tests, not);
      here = omega (arith, next, same);
    }
