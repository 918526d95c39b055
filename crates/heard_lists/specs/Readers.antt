-- A reader of what a pin heard. This project's own.
use Rattle.std.specs.Prelude.{◌≡◌, ◌≤◌, ◌<◌, ◌+◌, ◌^◌, ℕ, List, length, take}
use Rattle.std.specs.List.{AllZip}
use Rattle.codec_sound.specs.declared.signals.Signal.{Signal}
use Rattle.codec_sound.specs.Signals.{IsAmong}
use Rattle.heard_lists.specs.declared.pieces.Piece.{Piece}
use Rattle.heard_lists.specs.declared.pieces.PieceStart.{PieceStart}
use Rattle.heard_lists.specs.Pieces.{pieces_count, pieces_size}

-- a piece begins here, or all pieces end: so many items and bytes stand before it
pub record IsStart (pieces : List Piece) (start : PieceStart) : Type 0 where
  pub within : start.piece ≤ length pieces
  pub item : start.item ≡ pieces_count (take start.piece pieces)
  pub byte : start.byte ≡ pieces_size (take start.piece pieces)

-- each piece has its signal and its bytes, and the start is not behind the item that is read next
pub record IsReader (pieces : List Piece) (signals : List Signal) (bytes : List ℕ) (holes next : ℕ) (start : PieceStart)
    : Type 0 where
  pub among : AllZip (λ piece signal. IsAmong piece.format.channels signal) pieces signals
  pub whole : pieces_size pieces ≤ length bytes
  pub few : pieces_count pieces + holes < 2 ^ 64
  pub starts : IsStart pieces start
  pub before : start.item ≤ next
