-- Where pieces begin.
use Rattle.std.proofs.Common.{◌≡◌, ◌≤◌, ◌<◌, ◌+◌, ◌-◌, ◌*◌, ◌++◌, ℕ, zero, suc, List, [], ◌∷◌, length, get_or, take, drop, replicate, sym, ap, ◌∙◌, arith}
use Rattle.std.specs.List.{AllZip}
use Rattle.std.proofs.lemmas.List.{take_all}
use Rattle.std.proofs.lemmas.Nat.{mul-le}
use Rattle.stream_format.specs.Layouts.{layout}
use Rattle.heard_frames.specs.declared.heard.Heard.{Heard}
use Rattle.heard_frames.specs.declared.heard.Heard.TheVariants.{Hole}
use Rattle.codec_sound.specs.declared.signals.Signal.{Signal}
use Rattle.codec_sound.specs.Signals.{IsAmong}
use Rattle.heard_lists.specs.Listings.{items_before}
use Rattle.heard_lists.specs.declared.pieces.Piece.{Piece}
use Rattle.heard_lists.specs.declared.pieces.PieceStart.{PieceStart}
use Rattle.heard_lists.specs.Pieces.{piece_size, piece_count, piece_items, pieces_items, pieces_size, pieces_count}
use Rattle.heard_lists.specs.Readers.{IsStart}
use Rattle.heard_lists.proofs.Reading.{count-more, size-more, count-within, size-within, item-inside, hole-of, block-of}

module _ (pieces : List Piece) (start : PieceStart) (is : IsStart pieces start) (piece : Piece) (within : start.piece < length pieces)
    (here : piece ≡ get_or pieces start.piece piece) where
  count_is : pieces_count (take (start.piece + 1) pieces) ≡ start.item + piece_count piece
  count_is =
      let more = count-more pieces start.piece piece within in
      let same = ap piece_count here in
      let item = is.item in
      omega (arith, more, same, item)

  size_is : pieces_size (take (start.piece + 1) pieces) ≡ start.byte + piece_size piece
  size_is =
      let more = size-more pieces start.piece piece within in
      let same = ap piece_size here in
      let byte = is.byte in
      omega (arith, more, same, byte)

  -- the piece ends within all
  pub item-fits : start.item + piece_count piece ≤ pieces_count pieces
  item-fits = let most = count-within pieces (start.piece + 1) in let is_count = count_is in omega (arith, most, is_count)

  pub byte-fits : start.byte + piece_size piece ≤ pieces_size pieces
  byte-fits = let most = size-within pieces (start.piece + 1) in let is_size = size_is in omega (arith, most, is_size)

  -- and the next one begins behind it
  pub start-after : (next : PieceStart) → next.piece ≡ start.piece + 1 → next.item ≡ start.item + piece_count piece → next.byte ≡ start.byte + piece_size piece → IsStart pieces next
  start-after next n i b = record {
    within = omega (arith, within, n);
    item = i ∙ (sym count_is ∙ ap (λ (k : ℕ). pieces_count (take k pieces)) (sym n));
    byte = b ∙ (sym size_is ∙ ap (λ (k : ℕ). pieces_size (take k pieces)) (sym n));
  }

-- behind all pieces
pub end-count : (pieces : List Piece) (start : PieceStart) → IsStart pieces start → start.piece ≡ length pieces → start.item ≡ pieces_count pieces
end-count pieces start is end = is.item ∙ ap pieces_count (take_all start.piece pieces (omega (arith, end)))

-- ---- the item with a number, in the piece that begins here

module _ (pieces : List Piece) (signals : List Signal) (bytes : List ℕ) (each : length signals ≡ length pieces) (start : PieceStart) (is : IsStart pieces start) (piece : Piece) (signal : Signal)
    (within : start.piece < length pieces) (here : piece ≡ get_or pieces start.piece piece) (heard : signal ≡ get_or signals start.piece signal) where
  at-start : (holes n : ℕ) (d : Heard) → start.item ≤ n → n < start.item + piece_count piece
      → get_or (pieces_items pieces signals bytes ++ replicate holes Hole) n d ≡ get_or (piece_items piece signal (drop start.byte bytes)) (n - start.item) d
  at-start holes n d before inside =
      let item = is.item in
      let same = ap piece_count here in
      item-inside pieces signals bytes each holes start.piece n piece signal d within (omega (arith, item, before)) (omega (arith, item, same, inside))
      ∙ (ap (λ (p : Piece). get_or (piece_items p (get_or signals start.piece signal) (drop (pieces_size (take start.piece pieces)) bytes)) (n - pieces_count (take start.piece pieces)) d) (sym here)
      ∙ (ap (λ (s : Signal). get_or (piece_items piece s (drop (pieces_size (take start.piece pieces)) bytes)) (n - pieces_count (take start.piece pieces)) d) (sym heard)
      ∙ (ap (λ (b : ℕ). get_or (piece_items piece signal (drop b bytes)) (n - pieces_count (take start.piece pieces)) d) (sym is.byte)
      ∙ ap (λ (m : ℕ). get_or (piece_items piece signal (drop start.byte bytes)) (n - m) d) (sym is.item))))

  pub hole-here : (holes n : ℕ) (d : Heard) → start.item ≤ n → n < start.item + piece_count piece → n - start.item < piece.holes
      → Hole ≡ get_or (pieces_items pieces signals bytes ++ replicate holes Hole) n d
  hole-here holes n d before inside first =
      sym (at-start holes n d before inside ∙ hole-of piece signal (drop start.byte bytes) (n - start.item) d first)

  pub block-here : (holes n : ℕ) (d item : Heard) → start.item ≤ n → n < start.item + piece_count piece → piece.holes ≤ n - start.item
      → item ≡ get_or (items_before (layout piece.format) signal (drop start.byte bytes) piece.blocks) (n - start.item - piece.holes) d
      → item ≡ get_or (pieces_items pieces signals bytes ++ replicate holes Hole) n d
  block-here holes n d item before inside behind item_is =
      item_is ∙ sym (at-start holes n d before inside ∙ block-of piece signal (drop start.byte bytes) (n - start.item) d behind)

-- a block of a piece has its bytes
pub block-fits : (blocks block size : ℕ) → block < blocks → block * size + size ≤ blocks * size
block-fits blocks block size inside =
    let most : (block + 1) * size ≤ blocks * size = mul-le (block + 1) size blocks size (omega (arith, inside)) (omega arith) in
    omega (arith, most)

-- each piece's signal is of its format
pub among-at : (pieces : List Piece) (signals : List Signal) → AllZip (λ piece signal. IsAmong piece.format.channels signal) pieces signals
    → (k : ℕ) (p : Piece) (s : Signal) → k < length pieces → IsAmong (get_or pieces k p).format.channels (get_or signals k s)
among-at [] signals among k p s within = absurd (omega (arith, within))
among-at (piece ∷ pieces) [] among k p s within = absurd among
among-at (piece ∷ pieces) (signal ∷ signals) among zero p s within = among.0
among-at (piece ∷ pieces) (signal ∷ signals) among (suc k) p s within = among-at pieces signals among.1 k p s (omega (arith, within))
