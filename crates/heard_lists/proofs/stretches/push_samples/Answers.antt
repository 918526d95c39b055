use Rattle.std.proofs.Common.{rules, SFits, to_z-of_z, ◌≡◌, ◌++◌, [], ◌∷◌, ◌*◌, ◌+◌, ◌-◌, ℕ, ℤ, List, take, drop, sym}
use Rattle.std.proofs.Common.{ap, ◌∙◌}
use Rattle.std.specs.Int.{w32}
use Rattle.std.specs.List.{flat_map}
use Rattle.std.proofs.lemmas.List.{append_assoc, append-nil}
use Rattle.std.proofs.lemmas.Grind.{flat_map-append}
use Rattle.stream_format.specs.Cadence.{block_bytes}
use Rattle.stream_format.specs.Layouts.{layout}
use Rattle.heard_frames.specs.declared.heard.Heard.{Heard}
use Rattle.codec_sound.specs.declared.signals.Signal.TheVariants.{Pair}
use Rattle.heard_frames.specs.HeardLists.{block_at, item_of, sample_in}
use Rattle.heard_lists.specs.Listings.{items_before}
use Rattle.heard_lists.specs.Stretches.{sample_bytes, sound_bytes}
use Rattle.heard_lists.proofs.Growing.{before-more, piece_of}
use Rattle.heard_lists.proofs.stretches.push_samples.Goals as goal

pub loop-place-preserved : goal.loop-place-preserved
loop-place-preserved c =
    let size : ℕ = c.block_bytes-size.result in
    let place : ℕ = c.loop-place.place in
    let pair : ℕ = c.args.pair in
    let of : List ℕ → Heard = item_of (layout c.args.format) (Pair pair) in
    let items : List Heard = items_before (layout c.args.format) (Pair pair) c.args.bytes.now place in
    let next : (place + 1) * size - place * size ≡ size = piece_of place size in
    let block : take ((place + 1) * size - place * size) (drop (place * size) c.args.bytes.now) ≡ block_at
    (block_bytes c.args.format) c.args.bytes.now place =
    ap (λ (n : ℕ). take n (drop (place * size) c.args.bytes.now)) next ∙ ap
    (λ (n : ℕ). block_at n c.args.bytes.now place) c.block_bytes-size.ensures in
    let old : List ℕ = c.args.sound.now.items in
    let front : List ℕ = flat_map (sound_bytes c.args.bits) items in
    let left : List ℕ = sample_bytes c.args.bits c.sample.result in
    let right : List ℕ = sample_bytes c.args.bits c.sample-in-loop-place.result in
    let one : left ++ right ≡ sound_bytes c.args.bits (of (block_at (block_bytes c.args.format) c.args.bytes.now place))
    =
    ap (λ (s : _). sample_bytes c.args.bits s ++ right)
    (c.sample.ensures ∙ ap (λ (b : List ℕ). sample_in (layout c.args.format) b (2 * pair)) block)
    ∙ ap (λ (s : _). sample_bytes c.args.bits
    (sample_in (layout c.args.format) (block_at (block_bytes c.args.format) c.args.bytes.now place)
    (2 * pair)) ++ sample_bytes c.args.bits s)
    (c.sample-in-loop-place.ensures ∙ ap (λ (b : List ℕ). sample_in (layout c.args.format) b (2 * pair + 1)) block) in
    let left_fits : SFits w32 c.sample.result = search rules in
    let right_fits : SFits w32 c.sample-in-loop-place.result = search rules in
    let first : c.push_sample.new.sound.items ≡ (old ++ front) ++ left =
    c.in_ok-push_sample.ensures
    ∙ (ap (λ (s : ℤ). c.loop-place.sound.items ++ sample_bytes c.args.bits s) (to_z-of_z left_fits)
    ∙ ap (λ (l : List ℕ). l ++ left) c.loop-place.invariant) in
    c.in_ok-push_sample-2.ensures
    ∙ (ap (λ (s : ℤ). c.push_sample.new.sound.items ++ sample_bytes c.args.bits s) (to_z-of_z right_fits)
    ∙ (ap (λ (l : List ℕ). l ++ right) first
    ∙ (append_assoc (old ++ front) left right
    ∙ (append_assoc old front (left ++ right)
    ∙ ap (λ (l : List ℕ). old ++ l)
    (ap (λ (l : List ℕ). front ++ l)
    (one ∙ sym (append-nil (sound_bytes c.args.bits
    (of (block_at (block_bytes c.args.format) c.args.bytes.now place)))))
    ∙ (sym (flat_map-append (sound_bytes c.args.bits) items
    (of (block_at (block_bytes c.args.format) c.args.bytes.now place) ∷ []))
    ∙ sym (ap (flat_map (sound_bytes c.args.bits)) (before-more (layout c.args.format) (Pair c.args.pair)
    c.args.bytes.now place))))))))
