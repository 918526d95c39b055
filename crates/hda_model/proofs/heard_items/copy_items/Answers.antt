use Rattle.std.proofs.Common.{◌≡◌, ◌<◌, ◌-◌, ◌+◌, ◌++◌, ◌∷◌, ℕ, List, length, take, drop, get_or, set, sym, ap, ◌∙◌, arith}
use Rattle.std.proofs.lemmas.List.{length-drop, drop_more}
use Rattle.heard_frames.specs.declared.heard.Heard.{Heard}
use Rattle.heard_frames.specs.declared.heard.Heard.TheVariants.{Quiet}
use Rattle.heard_lists.specs.Listings.{Listing}
use Rattle.hda_model.specs.declared.heard_items.HeardItem.{HeardItem}
use Rattle.hda_model.specs.Copies.{item_of, most_copied}
use Rattle.hda_model.proofs.Copying.{items_from, length-items_from, items_from-at, pasted, most_is}
use Rattle.hda_model.proofs.Finding.{nowhere}
use Rattle.hda_model.proofs.heard_items.copy_items.Goals as goal

pub read-requires : goal.read-requires
read-requires c =
    let from : ℕ = c.args.from in
    let number : ℕ = c.loop-number.number in
    let list : List Heard = (get_or c.args.lists.now c.args.place nowhere).list in
    let items : List HeardItem = items_from from list in
    let size : length items ≡ length list - from = length-items_from from list in
    let most =
    c.most_copied-most.ensures ∙ (ap (λ (n : ℕ). most_copied n from (length c.args.into.now)) (sym (c.count-count.ensures c.args.place nowhere c.requires))
    ∙ most_is (length list) from (length c.args.into.now) (length items) size) in
    let before = c.loop-number-test.true in
    let left = ap length (c.loop-number.invariant.left nowhere) ∙ length-drop (from + number) list in
    omega (arith, most, before, size, left)

pub loop-number-preserved : goal.loop-number-preserved
loop-number-preserved c = record { copied = copied; left = left }
  where
    from : ℕ
    from = c.args.from

    number : ℕ
    number = c.loop-number.number

    old : List HeardItem
    old = c.args.into.now

    list : Listing → List Heard
    list listing = (get_or c.args.lists.now c.args.place listing).list

    below : (listing : Listing) → (number < length (list listing) - from) × (number < length old)
    below listing =
        let size : length (items_from from (list listing)) ≡ length (list listing) - from = length-items_from from (list listing) in
        let most =
        c.most_copied-most.ensures ∙ (ap (λ (n : ℕ). most_copied n from (length old)) (sym (c.count-count.ensures c.args.place listing c.requires))
        ∙ most_is (length (list listing)) from (length old) (length (items_from from (list listing))) size) in
        let before = c.loop-number-test.true in
        (omega (arith, most, before, size), omega (arith, most, before))

    read : (listing : Listing) → c.read.result ∷ c.read.new.self ≡ get_or (list listing) (from + number) Quiet ∷ drop (from + number + 1) (list listing)
    read listing =
        let there = (below listing).0 in
        sym c.read.ensures ∙ (c.loop-number.invariant.left listing ∙ drop_more (list listing) (from + number) Quiet (omega (arith, there)))

    left : (listing : Listing) → c.read.new.self ≡ drop (from + (number + 1)) (list listing)
    left listing =
        let next : from + number + 1 ≡ from + (number + 1) = omega arith in
        ap (drop 1) (read listing) ∙ ap (λ (n : ℕ). drop n (list listing)) next

    copied : (listing : Listing) → set c.loop-number.into number c.item_of.result ≡ take (number + 1) (items_from from (list listing)) ++ drop (number + 1) old
    copied listing =
        let items : List HeardItem = items_from from (list listing) in
        let size : length items ≡ length (list listing) - from = length-items_from from (list listing) in
        let there = (below listing).0 in
        let value =
        c.item_of.ensures ∙ (ap item_of (ap (λ (l : List Heard). get_or l 0 Quiet) (read listing)) ∙ sym (items_from-at from number (list listing) (item_of Quiet) there)) in
        ap (λ (into : List HeardItem). set into number c.item_of.result) (c.loop-number.invariant.copied listing)
        ∙ (ap (set (take number items ++ drop number old) number) value
        ∙ pasted number items old (item_of Quiet) (omega (arith, there, size)) (below listing).1)
