use Rattle.std.proofs.Common.{rules, ◌-◌, length, refl}
use Rattle.hda_outside.proofs.Parts.{gained_kept, gained_more, nothing_there}
use Rattle.hda_outside.proofs.pieces.read_piece.Goals as goal

pub returns-in-Err-clause-front : goal.returns-in-Err-clause-front
returns-in-Err-clause-front g c =
    gained_kept (g.S.Shelf.told c.args.shelf.now) c.args.name.now c.args.from c.loop-count.count (length c.loop-count.buf - c.loop-count.count)
    c.loop-count.buf c.read_at.new.buf c.loop-count.invariant.within c.loop-count.invariant.front

pub returns-then-n-eq0-clause-front : goal.returns-then-n-eq0-clause-front
returns-then-n-eq0-clause-front g c =
    gained_kept (g.S.Shelf.told c.args.shelf.now) c.args.name.now c.args.from c.loop-count.count (length c.loop-count.buf - c.loop-count.count)
    c.loop-count.buf c.read_at.new.buf c.loop-count.invariant.within c.loop-count.invariant.front

pub returns-then-n-eq0-clause-not_short : goal.returns-then-n-eq0-clause-not_short
returns-then-n-eq0-clause-not_short g c = λ none. absurd (none _ refl)

pub loop-count-preserved : goal.loop-count-preserved
loop-count-preserved g c =
    let now = c.loop-count.invariant in
    record {
      within = search rules;
      told = search rules;
      front =
          gained_more (g.S.Shelf.told c.args.shelf.now) (g.S.Shelf.told c.loop-count.shelf) c.args.name.now c.args.from c.loop-count.count
          (length c.loop-count.buf - c.loop-count.count) c.in-Ok.n _ c.loop-count.buf c.read_at.new.buf now.told refl now.within c.in-Ok.ensures.bound
          now.front c.in-Ok.ensures.piece;
      there = λ files told none. absurd (
          nothing_there (g.S.Shelf.told c.args.shelf.now) (g.S.Shelf.told c.loop-count.shelf) c.args.name.now _ c.in-Ok.n c.read_at.new.buf now.told c.in-Ok.ensures.piece
          files told none
          );
      given = search rules;
      given_rises = search rules;
      empties = search rules;
      asked = search rules;
      later = search rules;
      empties_later = search rules;
    }
