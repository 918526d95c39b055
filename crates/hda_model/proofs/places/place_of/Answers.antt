use Rattle.std.proofs.Common.{◌≡◌, ◌<◌, ℕ, false, length, get_or, sym, ◌∙◌, arith, below_more}
use Rattle.heard_lists.specs.Listings.{Listing, is_of}
use Rattle.hda_model.proofs.Finding.{find_first, find_none}
use Rattle.hda_model.proofs.places.place_of.Goals as goal

pub loop-place-preserved : goal.loop-place-preserved
loop-place-preserved c =
    below_more (λ (k : ℕ). (d : Listing) → is_of c.args.codec c.args.nid (get_or c.args.lists.now k d) ≡ false) c.loop-place.place
    c.loop-place.invariant (λ d. sym (c.is_at-is_there.ensures d) ∙ c.if-is_there.false)

pub returns-then-is_there-clause-found : goal.returns-then-is_there-clause-found
returns-then-is_there-clause-found c listing =
    let size = c.len-place-end.ensures in
    let before = c.loop-place-test.true in
    let within : c.loop-place.place < length c.args.lists.now = omega (arith, before, size) in
    find_first (is_of c.args.codec c.args.nid) c.args.lists.now c.loop-place.place listing within
    (λ k below. c.loop-place.invariant k below listing) (sym (c.is_at-is_there.ensures listing) ∙ c.if-is_there.true)

pub returns-clause-found : goal.returns-clause-found
returns-clause-found c listing =
    let size = c.len-place-end.ensures in
    let past = c.loop-place-test.false in
    find_none (is_of c.args.codec c.args.nid) c.args.lists.now c.loop-place.place (omega (arith, past, size))
    (λ k d below. c.loop-place.invariant k below d)
