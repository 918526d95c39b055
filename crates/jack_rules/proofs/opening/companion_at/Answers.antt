use Rattle.std.proofs.Common.{◌≡◌, ◌∙◌, Bool, Option, None, Some, map, sym, ap, if◌then◌else◌}
use Rattle.jack_rules.specs.declared.pins.SpeakerPin.{SpeakerPin}
use Rattle.jack_rules.specs.JackPins.{has_jack, is_companion, speaker_if}
use Rattle.jack_rules.specs.Switching.{pin_of}
use Rattle.jack_rules.proofs.Rows.{any_map}
use Rattle.jack_rules.proofs.opening.companion_at.Goals as goal

pub returns-then-has_jack : goal.returns-then-has_jack
returns-then-has_jack c =
    let jacks = map pin_of c.args.jacks.now in
    let speaker = c.in_ok-speaker.speaker in
    let has = any_map (is_companion speaker) pin_of c.args.jacks.now ∙ sym c.has_jack.ensures ∙ c.if-has_jack.true in
    ap (λ (has : Bool). if has then Some speaker else None) (sym has)
    ∙ ap (λ (found : Option SpeakerPin). speaker_if jacks found) (sym (c.in_ok-speaker.was) ∙ c.speaker_at.ensures)

pub returns-else-has_jack : goal.returns-else-has_jack
returns-else-has_jack c =
    let jacks = map pin_of c.args.jacks.now in
    let speaker = c.in_ok-speaker.speaker in
    let has = any_map (is_companion speaker) pin_of c.args.jacks.now ∙ sym c.has_jack.ensures ∙ c.if-has_jack.false in
    ap (λ (has : Bool). if has then Some speaker else None) (sym has)
    ∙ ap (λ (found : Option SpeakerPin). speaker_if jacks found) (sym (c.in_ok-speaker.was) ∙ c.speaker_at.ensures)
