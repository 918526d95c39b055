use Rattle.std.proofs.Common.{◌≡◌, ◌≤◌, ◌++◌, length, drop}
use Rattle.std.specs.List.{AllZip}
use Rattle.codec_sound.specs.Signals.{IsAmong}
use Rattle.heard_lists.specs.Pieces.{pieces_items, pieces_size}
use Rattle.heard_lists.proofs.item_lists.push_pieces.Given as goal

-- what is left, after what was put
abbrev pub invariant-loop-place : goal.invariant-loop-place
invariant-loop-place l =
    (l.items.items ++ pieces_items (drop l.place l.pieces) (drop l.place l.signals) l.rest ≡ l.initial.items.items ++ pieces_items l.pieces l.signals l.bytes)
    × AllZip (λ piece signal. IsAmong piece.format.channels signal) (drop l.place l.pieces) (drop l.place l.signals)
    × (pieces_size (drop l.place l.pieces) ≤ length l.rest)
