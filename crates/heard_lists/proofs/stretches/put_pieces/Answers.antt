use Rattle.std.proofs.Common.{◌≡◌, ◌≤◌, ◌+◌, ◌++◌, [], ◌∷◌, ℕ, List, length, drop, replicate, refl, sym, ap, subst, ◌∙◌}
use Rattle.std.proofs.Common.{arith}
use Rattle.std.specs.List.{AllZip, flat_map}
use Rattle.std.proofs.lemmas.List.{drop_more, drop_all, append_assoc, append-nil, length-drop}
use Rattle.std.proofs.lemmas.Result.{on_ok_weaker}
use Rattle.stream_format.specs.Layouts.{layout}
use Rattle.heard_frames.specs.declared.heard.Heard.{Heard}
use Rattle.heard_frames.specs.declared.heard.Heard.TheVariants.{Hole}
use Rattle.codec_sound.specs.declared.signals.Signal.{Signal}
use Rattle.codec_sound.specs.declared.signals.Signal.TheVariants.{Silence}
use Rattle.codec_sound.specs.Signals.{IsAmong}
use Rattle.heard_lists.specs.declared.pieces.Piece.{Piece}
use Rattle.heard_lists.specs.declared.stretches.Kind.{Kind}
use Rattle.heard_lists.specs.declared.stretches.Kind.TheVariants as kind
use Rattle.heard_lists.specs.declared.stretches.Stretch.{Stretch}
use Rattle.heard_lists.specs.Listings.{items_before}
use Rattle.heard_lists.specs.Pieces.{pieces_items, pieces_size, piece_size}
use Rattle.heard_lists.specs.Stretches.{sound_bytes, stretched, stretches_of}
use Rattle.heard_lists.proofs.Taken.{length-zip}
use Rattle.heard_lists.proofs.Stretched.{stretched-piece, stretched-holes, sound-piece, sound-holes}
use Rattle.heard_lists.proofs.stretches.put_pieces.Goals as goal

pub loop-place-init : goal.loop-place-init
unfolding stretches_of
loop-place-init c = (
  record { front = []; cut = refl; stretches_are = c.requires.none; sound_is = c.requires.silent },
  c.requires.among,
  c.requires.whole,
)

pub after-rest-requires : goal.after-rest-requires
after-rest-requires c =
    let place : ℕ = c.loop-place.place in
    let piece : Piece = c.index-pieces-place.result in
    let split : drop place c.args.pieces.now ≡ piece ∷ drop (place + 1) c.args.pieces.now =
    drop_more c.args.pieces.now place piece (omega arith) ∙ ap (λ (p : Piece). p ∷ drop (place + 1) c.args.pieces.now)
    (sym c.index-pieces-place.is) in
    let fits : piece_size piece + pieces_size (drop (place + 1) c.args.pieces.now) ≤ length c.loop-place.rest.now =
    subst (λ (p : List Piece). pieces_size p ≤ length c.loop-place.rest.now) split c.loop-place.invariant.2 in
    omega (arith, fits)

pub loop-place-preserved : goal.loop-place-preserved
loop-place-preserved c =
    let place : ℕ = c.loop-place.place in
    let piece : Piece = c.index-pieces-place.result in
    let signal : Signal = c.signal_at-signal.result in
    let rest : List ℕ = c.loop-place.rest.now in
    let pieces : List Piece = drop (place + 1) c.args.pieces.now in
    let signals : List Signal = drop (place + 1) c.args.signals.now in
    let as_long = length-zip c.args.pieces.now c.args.signals.now c.requires.among in
    let test = c.loop-place-test.true in
    let split : drop place c.args.pieces.now ≡ piece ∷ pieces =
    drop_more c.args.pieces.now place piece (omega (arith, test)) ∙ ap (λ (p : Piece). p ∷ pieces)
    (sym c.index-pieces-place.is) in
    let split_signals : drop place c.args.signals.now ≡ signal ∷ signals =
    drop_more c.args.signals.now place Silence (omega (arith, test, as_long)) ∙ ap (λ (s : Signal). s ∷ signals)
    (sym c.signal_at-signal.ensures) in
    let missed : List Heard = replicate piece.holes Hole in
    let heard : List Heard = items_before (layout piece.format) signal rest piece.blocks in
    let before = c.loop-place.invariant.0 in
    let front : List Heard = before.front in
    let left : c.after-rest.result.now ≡ drop (piece_size piece) rest = c.after-rest.ensures in
    let fits : piece_size piece + pieces_size pieces ≤ length rest = subst
    (λ (p : List Piece). pieces_size p ≤ length rest) split c.loop-place.invariant.2 in
    let among : AllZip (λ piece signal. IsAmong piece.format.channels signal) (piece ∷ pieces) (signal ∷ signals) =
    subst (λ (s : List Signal). AllZip (λ piece signal. IsAmong piece.format.channels signal) (piece ∷ pieces) s)
    split_signals
    (subst (λ (p : List Piece). AllZip (λ piece signal. IsAmong piece.format.channels signal) p
    (drop place c.args.signals.now)) split c.loop-place.invariant.1) in
    let cut : front ++ ((missed ++ heard) ++ pieces_items pieces signals (drop (piece_size piece) rest)) ≡ pieces_items
    c.args.pieces.now c.args.signals.now c.args.bytes.now =
    ap (λ (s : List Signal). front ++ pieces_items (piece ∷ pieces) s rest) (sym split_signals)
    ∙ (ap (λ (p : List Piece). front ++ pieces_items p (drop place c.args.signals.now) rest) (sym split)
    ∙ before.cut) in
    let long = length-drop (piece_size piece) rest in (
      record {
        front = front ++ (missed ++ heard);
        cut = ap (λ (b : List ℕ). (front ++ (missed ++ heard)) ++ pieces_items pieces signals b) left
            ∙ (append_assoc front (missed ++ heard) (pieces_items pieces signals (drop (piece_size piece) rest))
            ∙ cut);
        stretches_are = c.in_ok-push_items-2.ensures
            ∙ (ap (λ (s : List Stretch). stretched c.kind_heard.result piece.blocks s)
            (c.in_ok-push_items.ensures ∙ ap (stretched kind.Hole piece.holes) before.stretches_are)
            ∙ (ap (λ (k : Kind). stretched k piece.blocks (stretched kind.Hole piece.holes (stretches_of front)))
            c.kind_heard.ensures
            ∙ sym (stretched-piece front piece.holes (layout piece.format) signal rest piece.blocks)));
        sound_is = c.in_ok-push_sound.ensures
            ∙ (ap (λ (bytes : List ℕ). bytes ++ flat_map (sound_bytes c.args.bits) heard) before.sound_is
            ∙ sym (sound-piece c.args.bits front piece.holes heard));
      },
      among.1,
      subst (λ (b : List ℕ). pieces_size pieces ≤ length b) (sym left) (omega (arith, long, fits)),
    )

pub returns-clause-stretches : goal.returns-clause-stretches
returns-clause-stretches c =
    let before = c.loop-place.invariant.0 in
    let none : drop c.loop-place.place c.args.pieces.now ≡ [] = drop_all c.loop-place.place c.args.pieces.now
    (omega arith) in
    let all : before.front ≡ pieces_items c.args.pieces.now c.args.signals.now c.args.bytes.now =
    sym (ap (λ (p : List Piece). before.front ++ pieces_items p (drop c.loop-place.place c.args.signals.now)
    c.loop-place.rest.now) none ∙ append-nil before.front) ∙ before.cut in
    on_ok_weaker c.push_items-2.result
    (λ put. put
    ∙ (ap (stretched kind.Hole c.args.holes) before.stretches_are
    ∙ (sym (stretched-holes before.front c.args.holes)
    ∙ ap (λ (items : List Heard). stretches_of (items ++ replicate c.args.holes Hole)) all)))
    c.push_items-2.ensures

pub returns-clause-sound : goal.returns-clause-sound
returns-clause-sound c =
    let before = c.loop-place.invariant.0 in
    let none : drop c.loop-place.place c.args.pieces.now ≡ [] = drop_all c.loop-place.place c.args.pieces.now
    (omega arith) in
    let all : before.front ≡ pieces_items c.args.pieces.now c.args.signals.now c.args.bytes.now =
    sym (ap (λ (p : List Piece). before.front ++ pieces_items p (drop c.loop-place.place c.args.signals.now)
    c.loop-place.rest.now) none ∙ append-nil before.front) ∙ before.cut in
    on_ok_weaker c.push_items-2.result
    (λ _. before.sound_is
    ∙ (sym (sound-holes c.args.bits before.front c.args.holes)
    ∙ ap (λ (items : List Heard). flat_map (sound_bytes c.args.bits) (items ++ replicate c.args.holes Hole)) all))
    c.push_items-2.ensures
