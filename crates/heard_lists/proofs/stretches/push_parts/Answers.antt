use Rattle.std.proofs.Common.{◌≡◌, ◌≤◌, ◌<◌, ◌++◌, [], ◌∷◌, ◌*◌, ◌+◌, ◌-◌, ℕ, List, length, take, drop, sym, ap, ◌∙◌, arith}
use Rattle.std.specs.List.{flat_map}
use Rattle.std.proofs.Math.Nat.{mul-le-mul_right}
use Rattle.std.proofs.lemmas.List.{append_assoc, append-nil, length-drop, length-take-le}
use Rattle.std.proofs.lemmas.Grind.{flat_map-append}
use Rattle.stream_format.specs.Cadence.{block_bytes, container_bytes}
use Rattle.stream_format.specs.Layouts.{layout}
use Rattle.heard_frames.specs.declared.heard.Heard.{Heard}
use Rattle.codec_sound.specs.declared.signals.Signal.TheVariants.{Pair}
use Rattle.heard_frames.specs.HeardLists.{block_at, item_of}
use Rattle.heard_lists.specs.Listings.{items_before}
use Rattle.heard_lists.specs.Stretches.{sound_bytes}
use Rattle.heard_lists.proofs.Growing.{before-more, piece_of}
use Rattle.heard_lists.proofs.Raw.{pair_raw, small_block}
use Rattle.heard_lists.proofs.stretches.push_parts.Goals as goal

pub loop-place-preserved : goal.loop-place-preserved
loop-place-preserved c =
    let format = c.args.format in
    let size : ℕ = c.block_bytes-size.result in
    let first : ℕ = c.place_of-first.result in
    let place : ℕ = c.loop-place.place in
    let bytes : List ℕ = c.args.bytes.now in
    let sounds : Heard → List ℕ = sound_bytes format.bits in
    let items : List Heard = items_before (layout format) (Pair c.args.pair) bytes place in
    let block : List ℕ = block_at (block_bytes format) bytes place in
    let item : Heard = item_of (layout format) (Pair c.args.pair) block in
    let there : take ((place + 1) * size - place * size) (drop (place * size) bytes) ≡ block =
    ap (λ (n : ℕ). take n (drop (place * size) bytes)) (piece_of place size) ∙ ap (λ (n : ℕ). block_at n bytes place) c.block_bytes-size.ensures in
    let two : ℕ = 2 * container_bytes format.bits in
    let one : take two (drop first (take ((place + 1) * size - place * size) (drop (place * size) bytes))) ≡ sounds item =
    let less : place < c.args.blocks = c.loop-place-test.true in
    let fits : (place + 1) * block_bytes format ≤ c.args.blocks * block_bytes format = mul-le-mul_right (block_bytes format) (omega (arith, less)) in
    let ends = piece_of place (block_bytes format) in
    let rest = length-drop (place * block_bytes format) bytes in
    let whole = c.requires.whole in
    let long : length block ≡ block_bytes format = length-take-le (block_bytes format) (drop (place * block_bytes format) bytes) (omega (arith, fits, ends, rest, whole)) in
    let inside = c.place_of-first.ensures.inside in
    let at = c.place_of-first.ensures.place in
    ap (λ (b : List ℕ). take two (drop first b)) there
    ∙ (ap (λ (n : ℕ). take two (drop n block)) at
    ∙ sym (pair_raw format c.args.pair block (small_block (block_bytes format) place bytes (λ i. (c.type_inv.bytes i).fits)) (omega (arith, long, inside, at)))) in
    c.in_ok-push_part.ensures
    ∙ (ap (λ (l : List ℕ). c.loop-place.sound.items ++ l) one
    ∙ (ap (λ (l : List ℕ). l ++ sounds item) c.loop-place.invariant
    ∙ (append_assoc c.args.sound.now.items (flat_map sounds items) (sounds item)
    ∙ ap (λ (l : List ℕ). c.args.sound.now.items ++ l)
    (ap (λ (l : List ℕ). flat_map sounds items ++ l) (sym (append-nil (sounds item)))
    ∙ (sym (flat_map-append sounds items (item ∷ []))
    ∙ sym (ap (flat_map sounds) (before-more (layout format) (Pair c.args.pair) bytes place)))))))
