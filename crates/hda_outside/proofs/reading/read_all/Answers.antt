use Rattle.std.proofs.Common.{arith, rules, length-take, vec_len}
use Rattle.hda_outside.proofs.PieceLemmas.{front_more, place_more, whole_file}
use Rattle.hda_outside.proofs.reading.read_all.Goals as goal

pub returns-then-n-eq0-clause-bytes : goal.returns-then-n-eq0-clause-bytes
returns-then-n-eq0-clause-bytes g c =
    whole_file (g.S.Shelf.told c.args.shelf.now) (g.S.Shelf.told c.loop-bytes.shelf) c.args.name.now c.loop-bytes.bytes.items c.read_at.new.buf
    (vec_len c.loop-bytes.bytes) _ c.in_ok-n.n c.loop-bytes.invariant.told c.loop-bytes.invariant.front c.in_ok-n.ensures.piece (search rules)
    (search rules) (omega (arith, c.deref_mut.ensures.len, simp length-take at c.read_at.auto.buf))

pub loop-bytes-preserved : goal.loop-bytes-preserved
loop-bytes-preserved g c =
    record {
      room = search rules;
      within = search rules;
      told = search rules;
      front =
          front_more (g.S.Shelf.told c.args.shelf.now) (g.S.Shelf.told c.loop-bytes.shelf) c.args.name.now c.loop-bytes.bytes.items
          c.read_at.new.buf (vec_len c.loop-bytes.bytes) _ c.in_ok-n.n _ _ c.loop-bytes.invariant.told c.loop-bytes.invariant.front
          c.in_ok-n.ensures.piece (search rules) c.in_ok-extend_from_slice.ensures.items
          (place_more _ _ _ c.read_at.new.buf c.in_ok-extend_from_slice.ensures.len c.in_ok-n.ensures.bound);
      given = search rules;
      given_rises = search rules;
      asked = search rules;
      later = search rules;
      empties_later = search rules;
    }
