use Rattle.std.proofs.Common.{◌≡◌, ◌++◌, ◌∙◌, ap, sym, append_assoc, [], ◌+◌, drop, take, arith, List}
use Rattle.std.proofs.lemmas.List.{append-nil}
use Rattle.svg_text.specs.declared.shapes.Shape.{Shape}
use Rattle.heard_lists.specs.declared.pin_list.PinHeard.{PinHeard}
use Rattle.run_picture.specs.Bands.{band_base, band_shapes, bands_from}
use Rattle.run_picture.proofs.BandLemmas.{band_next, bands_end}
use Rattle.run_picture.proofs.bands.push_bands.Goals as goal

no_pin : PinHeard
no_pin = record { codec = 0; pin = 0; list = [] }

pub loop-place-preserved : goal.loop-place-preserved
loop-place-preserved c =
    c.loop-place.invariant
    ∙ ap (λ more. c.loop-place.shapes ++ more)
    (band_next c.args.columns.now c.args.pins.now c.loop-place.place no_pin (omega arith) (omega arith))
    ∙ sym (append_assoc c.loop-place.shapes _ _)
    ∙ ap (λ (shapes : List Shape). shapes ++ bands_from c.args.columns.now (c.loop-place.place + 1) (drop (c.loop-place.place + 1) (take 16 c.args.pins.now)))
    (sym (c.in_ok-push_band_at.ensures no_pin))

pub returns : goal.returns
returns c =
    sym (c.loop-place.invariant
    ∙ ap (λ more. c.loop-place.shapes ++ more)
    (bands_end c.args.columns.now c.args.pins.now c.loop-place.place (omega arith))
    ∙ append-nil c.loop-place.shapes)
