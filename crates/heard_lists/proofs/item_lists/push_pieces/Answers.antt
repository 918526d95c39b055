use Rattle.std.proofs.Common.{◌≡◌, ◌≤◌, ◌+◌, ◌++◌, ◌∷◌, ℕ, List, length, drop, replicate, sym, ap, subst, ◌∙◌, arith}
use Rattle.std.specs.List.{AllZip}
use Rattle.std.proofs.lemmas.List.{drop_more, append_assoc, length-drop}
use Rattle.stream_format.specs.Layouts.{layout}
use Rattle.heard_frames.specs.declared.heard.Heard.{Heard}
use Rattle.heard_frames.specs.declared.heard.Heard.TheVariants.{Hole}
use Rattle.codec_sound.specs.declared.signals.Signal.{Signal}
use Rattle.codec_sound.specs.declared.signals.Signal.TheVariants.{Silence}
use Rattle.codec_sound.specs.Signals.{IsAmong}
use Rattle.heard_lists.specs.declared.pieces.Piece.{Piece}
use Rattle.heard_lists.specs.Listings.{items_before}
use Rattle.heard_lists.specs.Pieces.{pieces_items, pieces_size, piece_size}
use Rattle.heard_lists.proofs.Taken.{length-zip}
use Rattle.heard_lists.proofs.item_lists.push_pieces.Goals as goal

pub after-rest-requires : goal.after-rest-requires
after-rest-requires c =
    let place : ℕ = c.loop-place.place in
    let piece : Piece = c.index-pieces-place.result in
    let split : drop place c.args.pieces.now ≡ piece ∷ drop (place + 1) c.args.pieces.now =
    drop_more c.args.pieces.now place piece (omega arith) ∙ ap (λ (p : Piece). p ∷ drop (place + 1) c.args.pieces.now) (sym c.index-pieces-place.is) in
    let fits : piece_size piece + pieces_size (drop (place + 1) c.args.pieces.now) ≤ length c.loop-place.rest.now =
    subst (λ (p : List Piece). pieces_size p ≤ length c.loop-place.rest.now) split c.loop-place.invariant.2 in
    omega (arith, fits)

pub loop-place-preserved : goal.loop-place-preserved
loop-place-preserved c =
    let place : ℕ = c.loop-place.place in
    let piece : Piece = c.index-pieces-place.result in
    let signal : Signal = c.signal_at-signal.result in
    let rest : List ℕ = c.loop-place.rest.now in
    let pieces : List Piece = drop (place + 1) c.args.pieces.now in
    let signals : List Signal = drop (place + 1) c.args.signals.now in
    let as_long = length-zip c.args.pieces.now c.args.signals.now c.requires.among in
    let test = c.loop-place-test.true in
    let split : drop place c.args.pieces.now ≡ piece ∷ pieces =
    drop_more c.args.pieces.now place piece (omega (arith, test)) ∙ ap (λ (p : Piece). p ∷ pieces) (sym c.index-pieces-place.is) in
    let split_signals : drop place c.args.signals.now ≡ signal ∷ signals =
    drop_more c.args.signals.now place Silence (omega (arith, test, as_long)) ∙ ap (λ (s : Signal). s ∷ signals) (sym c.signal_at-signal.ensures) in
    let on : List Heard = replicate piece.holes Hole in
    let heard : List Heard = items_before (layout piece.format) signal rest piece.blocks in
    let left : c.after-rest.result.now ≡ drop (piece_size piece) rest =
    c.after-rest.ensures in
    let fits : piece_size piece + pieces_size pieces ≤ length rest = subst (λ (p : List Piece). pieces_size p ≤ length rest) split c.loop-place.invariant.2 in
    let among : AllZip (λ piece signal. IsAmong piece.format.channels signal) (piece ∷ pieces) (signal ∷ signals) =
    subst (λ (s : List Signal). AllZip (λ piece signal. IsAmong piece.format.channels signal) (piece ∷ pieces) s) split_signals
    (subst (λ (p : List Piece). AllZip (λ piece signal. IsAmong piece.format.channels signal) p (drop place c.args.signals.now)) split c.loop-place.invariant.1) in
    let put : c.push_blocks.new.items.items ≡ (c.loop-place.items.items ++ on) ++ heard =
    c.in_ok-push_blocks.ensures ∙ ap (λ (l : List Heard). l ++ heard) c.in_ok-push_holes.ensures in
    let so_far : c.loop-place.items.items ++ ((on ++ heard) ++ pieces_items pieces signals (drop (piece_size piece) rest))
    ≡ c.args.items.now.items ++ pieces_items c.args.pieces.now c.args.signals.now c.args.bytes.now =
    ap (λ (s : List Signal). c.loop-place.items.items ++ pieces_items (piece ∷ pieces) s rest) (sym split_signals)
    ∙ (ap (λ (p : List Piece). c.loop-place.items.items ++ pieces_items p (drop place c.args.signals.now) rest) (sym split)
    ∙ c.loop-place.invariant.0) in
    let long = length-drop (piece_size piece) rest in (
      ap (λ (l : List Heard). l ++ pieces_items pieces signals c.after-rest.result.now) put
          ∙ (ap (λ (b : List ℕ). ((c.loop-place.items.items ++ on) ++ heard) ++ pieces_items pieces signals b) left
          ∙ (ap (λ (l : List Heard). l ++ pieces_items pieces signals (drop (piece_size piece) rest)) (append_assoc c.loop-place.items.items on heard)
          ∙ (append_assoc c.loop-place.items.items (on ++ heard) (pieces_items pieces signals (drop (piece_size piece) rest))
          ∙ so_far))),
      among.1,
      subst (λ (b : List ℕ). pieces_size pieces ≤ length b) (sym left) (omega (arith, long, fits)),
    )
