use Rattle.std.proofs.Common.{◌≡◌, ◌∙◌, ap, sym, refl}
use Rattle.run_picture.specs.declared.meter.Meter.{Meter}
use Rattle.run_picture.specs.declared.windows.Extent.{Extent}
use Rattle.run_picture.specs.Pictures.{extent_in, meter_in}
use Rattle.run_picture.proofs.PictureLemmas.{drawn_same, picture_if, picture_unless}
use Rattle.run_picture.proofs.whole.run_picture.Goals as goal

pub returns-then-not-extent : goal.returns-then-not-extent
returns-then-not-extent c =
    let extent : c.note_moments-meter.new.notes ≡ extent_in c.args.played.now =
    c.note_moments-meter.ensures.notes ∙ rw (c.no_extent-extent.ensures, c.entries-entries.ensures) refl in
    picture_unless _ _ _ _ _ _ (sym (ap (λ (e : Extent). e.seen) extent)) c.if-not-extent.true
    c.in_ok-picture.ensures

pub returns : goal.returns
returns c =
    let extent : c.note_moments-meter.new.notes ≡ extent_in c.args.played.now =
    c.note_moments-meter.ensures.notes ∙ rw (c.no_extent-extent.ensures, c.entries-entries.ensures) refl in
    let meter : c.note_moments-meter.result ≡ meter_in c.args.played.now =
    c.note_moments-meter.ensures.meter ∙ rw c.entries-entries.ensures refl in
    picture_if _ _ _ _ _ _ _ (sym (ap (λ (e : Extent). e.seen) extent)) c.if-not-extent.false
    (drawn_same c.args.played.now c.note_moments-meter.new.notes c.note_moments-meter.result _ _ _ extent meter
    c.window_of-window.ensures.first c.window_of-window.ensures.per c.window_of-window.ensures.columns)
    c.in_ok-picture-2.ensures
