use Rattle.std.proofs.Common.{below_more, ◌≡◌, ◌<◌, ◌==◌, ◌&&◌, ℕ, List, length, get_or, false, rules, tests, sym, subst, ◌∙◌, arith}
use Rattle.std.proofs.lemmas.Bool.{true≢false}
use Rattle.std.proofs.lemmas.List.{get_or-map, get_or_default}
use Rattle.heard_lists.specs.Listings.{Listing, is_of}
use Rattle.heard_lists.proofs.Growing.{find-on, found-is}
use Rattle.heard_lists.proofs.Placed.{any_list}
use Rattle.heard_lists.proofs.lists.HeardLists.place_of.Goals as goal
use Rattle.heard_lists.proofs.lists.HeardLists.place_of.Goals.{else-its_codec-codec-via-then-its_codec-codec+else-its_pin-pin, else-its_codec-codec-via-else-its_codec-codec}

pub loop-place-preserved : goal.loop-place-preserved
loop-place-preserved c =
    let lists : List Listing = c.args.self.now in
    let place : ℕ = c.loop-place.place in
    let listing : Listing = get_or lists place any_list in
    let test = c.loop-place-test.true in
    let end = c.len-place-end.ensures in
    let within : place < length lists = omega (arith, test, end) in
    let at_head : (c.head-its_codec.result.0 == c.args.codec && c.head-its_codec.result.1 == c.args.pin) ≡ false = elim c.else-its_codec-codec.branch [
      | else-its_codec-codec-via-then-its_codec-codec+else-its_pin-pin w ↦ search (rules, tests)
      | else-its_codec-codec-via-else-its_codec-codec w ↦ search (rules, tests)
    ] in
    let other : is_of c.args.codec c.args.pin listing ≡ false =
    subst (λ (head : ℕ × ℕ). (head.0 == c.args.codec && head.1 == c.args.pin) ≡ false) (c.head-its_codec.ensures any_list) at_head in (
      find-on (is_of c.args.codec c.args.pin) lists place listing within (get_or_default lists place any_list listing within) other ∙ c.loop-place.invariant.0,
      below_more _ _ c.loop-place.invariant.1
          (λ is. let here = get_or-map (λ (l : Listing). (l.codec, l.pin)) lists place any_list (c.args.codec, c.args.pin) within in
          let found = found-is c.args.codec c.args.pin listing (sym here ∙ is) in
          true≢false (sym found ∙ other)),
    )
