use Rattle.std.proofs.Common.{rules, ℕ, ◌+◌, ◌-◌, ◌/◌, refl, sym, subst, arith}
use Rattle.hda_outside.proofs.Lengths.{lies_above, lies_below, halves_above, halves_below, still_near, LiesIn}
use Rattle.hda_outside.proofs.reading.file_length.Goals as goal
use Rattle.hda_outside.proofs.reading.file_length.Goals.{then-low-high+in_ok-has_byte-2+then-branch-2, then-low-high+in_ok-has_byte-2+else-branch-2, else-low-high}

pub loop-preserved : goal.loop-preserved
loop-preserved g c =
    let now = c.loop.invariant in
    elim c.if-low-high.branch [
      | then-low-high+in_ok-has_byte-2+then-branch-2 w ↦ record {
        ordered = search rules;
        within = search rules;
        near = (let near = halves_above c.loop.low c.loop.high (c.loop.low + (c.loop.high - c.loop.low) / 2) c.loop.counter (search rules) refl c.loop-test.true now.near in omega (arith, near, w.low-is, w.high-is));
        told = search rules;
        lies = subst (λ (low : ℕ). LiesIn (g.S.Shelf.told c.args.shelf.now) c.args.name.now low c.if-low-high.high) (sym w.low-is) (subst (λ (high : ℕ). LiesIn (g.S.Shelf.told c.args.shelf.now) c.args.name.now ((c.loop.low + (c.loop.high - c.loop.low) / 2) + 1) high) (sym w.high-is)
            (lies_above (g.S.Shelf.told c.loop.shelf) (g.S.Shelf.told c.args.shelf.now) c.args.name.now c.loop.low c.loop.high (c.loop.low + (c.loop.high - c.loop.low) / 2) w.in_ok-has_byte-2.field-0 now.told w.if-branch-2.true w.in_ok-has_byte-2.ensures.exact now.lies));
        given = search rules;
        given_rises = search rules;
        asked = search rules;
        later = search rules;
        empties_later = search rules;
      }
      | then-low-high+in_ok-has_byte-2+else-branch-2 w ↦ record {
        ordered = search rules;
        within = search rules;
        near = (let near = halves_below c.loop.low c.loop.high (c.loop.low + (c.loop.high - c.loop.low) / 2) c.loop.counter (search rules) refl c.loop-test.true now.near in omega (arith, near, w.low-is, w.high-is));
        told = search rules;
        lies = subst (λ (low : ℕ). LiesIn (g.S.Shelf.told c.args.shelf.now) c.args.name.now low c.if-low-high.high) (sym w.low-is) (subst (λ (high : ℕ). LiesIn (g.S.Shelf.told c.args.shelf.now) c.args.name.now c.loop.low high) (sym w.high-is)
            (lies_below (g.S.Shelf.told c.loop.shelf) (g.S.Shelf.told c.args.shelf.now) c.args.name.now c.loop.low c.loop.high (c.loop.low + (c.loop.high - c.loop.low) / 2) w.in_ok-has_byte-2.field-0 now.told w.if-branch-2.false w.in_ok-has_byte-2.ensures.exact now.lies));
        given = search rules;
        given_rises = search rules;
        asked = search rules;
        later = search rules;
        empties_later = search rules;
      }
      | else-low-high w ↦ record {
        ordered = search rules;
        within = search rules;
        near = still_near c.loop.low c.loop.high c.loop.counter c.if-low-high.low c.if-low-high.high w.low-is w.high-is w.if-low-high.false;
        told = search rules;
        lies = search rules;
        given = search rules;
        given_rises = search rules;
        asked = search rules;
        later = search rules;
        empties_later = search rules;
      }
    ]
