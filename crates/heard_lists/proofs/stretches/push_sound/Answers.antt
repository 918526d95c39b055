use Rattle.std.proofs.Common.{◌≡◌, ◌++◌, [], ℕ, List, false, inl, inr, sym, ap, ◌∙◌}
use Rattle.std.specs.List.{flat_map}
use Rattle.std.proofs.lemmas.List.{append-nil}
use Rattle.stream_format.specs.Layouts.{layout}
use Rattle.heard_frames.specs.declared.heard.Heard.{Heard}
use Rattle.codec_sound.specs.declared.signals.Signal.{Signal}
use Rattle.heard_lists.specs.Listings.{items_before}
use Rattle.heard_lists.specs.declared.stretches.Kind.TheVariants as kind
use Rattle.heard_lists.specs.Stretches.{sound_bytes, kind_heard, is_same}
use Rattle.heard_lists.proofs.Stretched.{all_heard, all_silent}
use Rattle.heard_lists.proofs.stretches.push_sound.Goals as goal

pub returns-in-Silence : goal.returns-in-Silence
returns-in-Silence c =
    let items : List Heard = items_before (layout c.args.format) c.args.signal c.args.bytes.now c.args.blocks in
    let other : is_same (kind_heard c.args.signal) kind.Sound ≡ false =
    elim c.in-Silence.is as (λ _. is_same (kind_heard c.args.signal) kind.Sound ≡ false) [
      | inl is ↦ ap (λ (s : Signal). is_same (kind_heard s) kind.Sound) is
      | inr is ↦ ap (λ (s : Signal). is_same (kind_heard s) kind.Sound) is
    ] in
    let none : flat_map (sound_bytes c.args.bits) items ≡ [] =
    all_silent c.args.bits (kind_heard c.args.signal) items
    (all_heard (layout c.args.format) c.args.signal c.args.bytes.now c.args.blocks) other in
    sym (ap (λ (more : List ℕ). c.args.sound.now.items ++ more) none ∙ append-nil c.args.sound.now.items)
