use Rattle.std.proofs.Common.{◌≡◌, ◌++◌, ℕ, List, get_or, sym, ap, subst, ◌∙◌}
use Rattle.std.specs.List.{flat_map}
use Rattle.heard_lists.specs.declared.pin_list.PinHeard.{PinHeard}
use Rattle.heard_lists.specs.declared.stretches.Stretch.{Stretch}
use Rattle.heard_lists.specs.Stretches.{sound_bytes, stretches_of}
use Rattle.sound_report.specs.Pages.{Writes}
use Rattle.sound_report.specs.PinParts.{pin_line}
use Rattle.sound_report.specs.StretchTexts.{stretches_text}
use Rattle.sound_report.proofs.HeardText.{heard-told}
use Rattle.sound_report.proofs.pins.write_pin_at.Goals as goal

pub returns-clause-text : goal.returns-clause-text
returns-clause-text g c pin =
    let is : PinHeard = get_or c.args.pins.now c.args.place pin in
    let told : c.as_slice.result.now ≡ stretches_of is.list = c.as_slice.ensures.value ∙ c.in_ok-put_stretches.ensures.stretches pin in
    let samples : c.as_slice-2.result.now ≡ flat_map (sound_bytes c.args.bits) is.list = c.as_slice-2.ensures.value ∙ c.in_ok-put_stretches.ensures.sound pin in
    subst
    (λ (text : List ℕ). Writes c.write_pin.result (g.K.Sink.taken c.args.out.now) (g.K.Sink.taken c.write_pin.new.out) (c.args.page.now.items ++ text) c.write_pin.new.page.items)
    (ap (λ (head : ℕ × ℕ). pin_line head.0 head.1 ++ stretches_text c.args.bits c.as_slice.result.now c.as_slice-2.result.now) (c.head-codec.ensures pin)
    ∙ (ap (λ (s : List Stretch). pin_line is.codec is.pin ++ stretches_text c.args.bits s c.as_slice-2.result.now) told
    ∙ (ap (λ (s : List ℕ). pin_line is.codec is.pin ++ stretches_text c.args.bits (stretches_of is.list) s) samples
    ∙ ap (λ (lines : List ℕ). pin_line is.codec is.pin ++ lines) (sym (heard-told c.args.bits is.list))))) c.write_pin.ensures.text
