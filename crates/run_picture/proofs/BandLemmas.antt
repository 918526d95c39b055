-- One band more.
use Rattle.std.proofs.Common.{◌≡◌, ◌≤◌, ◌<◌, ◌+◌, ◌++◌, ◌∷◌, [], ℕ, List, length, take, drop, get_or, min, suc, arith}
use Rattle.std.proofs.Common.{◌∙◌, ap, sym, add-one}
use Rattle.std.proofs.lemmas.List.{length-take}
use Rattle.std.proofs.Math.Seq.{drop-cons, get_or-take}
use Rattle.std.proofs.lemmas.Grind.{common_steps}
use Rattle.heard_lists.specs.declared.pin_list.PinHeard.{PinHeard}
use Rattle.svg_text.specs.declared.shapes.Shape.{Shape}
use Rattle.run_picture.specs.declared.columns.Column.{Column}
use Rattle.run_picture.specs.Bands.{band_base, band_shapes, bands_from}

next : (pins : List PinHeard) (place : ℕ) (pin : PinHeard) → place < length pins → place < 16
    → drop place (take 16 pins) ≡ get_or pins place pin ∷ drop (place + 1) (take 16 pins)
next pins place pin there few =
    let lt : place < length (take 16 pins) = simp length-take (omega arith) in
    drop-cons (take 16 pins) place pin lt
    ∙ ap (λ p. p ∷ drop (suc place) (take 16 pins)) (get_or-take 16 pins place pin few)
    ∙ ap (λ n. get_or pins place pin ∷ drop n (take 16 pins)) (sym (add-one place))

-- the bands that are left begin with that of the next pin
pub band_next : (columns : List Column) (pins : List PinHeard) (place : ℕ) (pin : PinHeard) → place < length pins
    → place < 16
    → bands_from columns place (drop place (take 16 pins))
    ≡ band_shapes columns (get_or pins place pin).list (band_base place)
    ++ bands_from columns (place + 1) (drop (place + 1) (take 16 pins))
band_next columns pins place pin there few = ap (bands_from columns place) (next pins place pin there few)

-- no band is left
pub bands_end : (columns : List Column) (pins : List PinHeard) (place : ℕ) → min (length pins) 16 ≤ place
    → bands_from columns place (drop place (take 16 pins)) ≡ []
bands_end columns pins place past =
    let none : drop place (take 16 pins) ≡ [] = grind (arith, common_steps) in
    ap (bands_from columns place) none
