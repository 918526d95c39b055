-- One item of what a pin heard in pieces.
use Rattle.std.proofs.Common.{◌≡◌, ◌≤◌, ◌<◌, ◌+◌, ◌-◌, ℕ, zero, suc, List, [], ◌∷◌, ◌++◌, length, map, get_or, take, drop, replicate, refl, sym, ap, ◌∙◌, arith, length-append}
use Rattle.std.specs.List.{range_with_len}
use Rattle.std.proofs.lemmas.List.{length-replicate, length-map, get_or-append-add, get_or_append_left, get_or-append_right, get_or-replicate, get_or-map, drop-drop, length-drop}
use Rattle.std.proofs.lemmas.List.FromFn.{get_or-range_with_len, length-range_with_len}
use Rattle.stream_format.specs.Layouts.{Layout, layout}
use Rattle.heard_frames.specs.declared.heard.Heard.{Heard}
use Rattle.heard_frames.specs.declared.heard.Heard.TheVariants.{Hole}
use Rattle.codec_sound.specs.declared.signals.Signal.{Signal}
use Rattle.heard_frames.specs.HeardLists.{block_at, block_size, item_of}
use Rattle.heard_lists.specs.declared.pieces.Piece.{Piece}
use Rattle.heard_lists.specs.Listings.{items_before}
use Rattle.heard_lists.specs.Pieces.{PinSignals, piece_size, piece_count, piece_items, pieces_items, pieces_size, pieces_count, listing_of}
use Rattle.heard_lists.proofs.Growing.{length-before}

-- ---- how many items and bytes

-- one piece more
pub count-more : (pieces : List Piece) (k : ℕ) (p : Piece) → k < length pieces → pieces_count (take (k + 1) pieces) ≡ pieces_count (take k pieces) + piece_count (get_or pieces k p)
count-more [] k p within = absurd (omega (arith, within))
count-more (piece ∷ pieces) zero p within = omega arith
count-more (piece ∷ pieces) (suc k) p within =
    let on = count-more pieces k p (omega (arith, within)) in
    let next : suc k + 1 ≡ suc (k + 1) = omega arith in
    let all : pieces_count (take (suc (k + 1)) (piece ∷ pieces)) ≡ pieces_count (take (suc k) (piece ∷ pieces)) + piece_count (get_or pieces k p) = omega (arith, on) in
    ap (λ (n : ℕ). pieces_count (take n (piece ∷ pieces))) next ∙ all

pub size-more : (pieces : List Piece) (k : ℕ) (p : Piece) → k < length pieces → pieces_size (take (k + 1) pieces) ≡ pieces_size (take k pieces) + piece_size (get_or pieces k p)
size-more [] k p within = absurd (omega (arith, within))
size-more (piece ∷ pieces) zero p within = omega arith
size-more (piece ∷ pieces) (suc k) p within =
    let on = size-more pieces k p (omega (arith, within)) in
    let next : suc k + 1 ≡ suc (k + 1) = omega arith in
    let all : pieces_size (take (suc (k + 1)) (piece ∷ pieces)) ≡ pieces_size (take (suc k) (piece ∷ pieces)) + piece_size (get_or pieces k p) = omega (arith, on) in
    ap (λ (n : ℕ). pieces_size (take n (piece ∷ pieces))) next ∙ all

-- the first ones have no more than all
pub count-within : (pieces : List Piece) (k : ℕ) → pieces_count (take k pieces) ≤ pieces_count pieces
count-within [] zero = omega arith
count-within [] (suc k) = omega arith
count-within (piece ∷ pieces) zero = omega arith
count-within (piece ∷ pieces) (suc k) = let on = count-within pieces k in omega (arith, on)

pub size-within : (pieces : List Piece) (k : ℕ) → pieces_size (take k pieces) ≤ pieces_size pieces
size-within [] zero = omega arith
size-within [] (suc k) = omega arith
size-within (piece ∷ pieces) zero = omega arith
size-within (piece ∷ pieces) (suc k) = let on = size-within pieces k in omega (arith, on)

pub length-piece : (piece : Piece) (signal : Signal) (bytes : List ℕ) → length (piece_items piece signal bytes) ≡ piece_count piece
length-piece piece signal bytes =
    let holes = length-replicate piece.holes Hole in
    let blocks = length-before (layout piece.format) signal bytes piece.blocks in
    let all = length-append (replicate piece.holes Hole) (items_before (layout piece.format) signal bytes piece.blocks) in
    omega (arith, holes, blocks, all)

pub length-pieces : (pieces : List Piece) (signals : List Signal) (bytes : List ℕ) → length signals ≡ length pieces → length (pieces_items pieces signals bytes) ≡ pieces_count pieces
length-pieces [] signals bytes each = refl
length-pieces (piece ∷ pieces) [] bytes each = absurd (omega (arith, each))
length-pieces (piece ∷ pieces) (signal ∷ signals) bytes each =
    let first = length-piece piece signal bytes in
    let on = length-pieces pieces signals (drop (piece_size piece) bytes) (omega (arith, each)) in
    let all = length-append (piece_items piece signal bytes) (pieces_items pieces signals (drop (piece_size piece) bytes)) in
    omega (arith, first, on, all)

-- ---- an item of a piece

-- an item of a piece among the items of all
pub at-piece : (pieces : List Piece) (signals : List Signal) (bytes : List ℕ) (k j : ℕ) (p : Piece) (s : Signal) (d : Heard) → length signals ≡ length pieces → k < length pieces
    → j < piece_count (get_or pieces k p)
    → get_or (pieces_items pieces signals bytes) (pieces_count (take k pieces) + j) d ≡ get_or (piece_items (get_or pieces k p) (get_or signals k s) (drop (pieces_size (take k pieces)) bytes)) j d
at-piece [] signals bytes k j p s d each within inside = absurd (omega (arith, within))
at-piece (piece ∷ pieces) [] bytes k j p s d each within inside = absurd (omega (arith, each))
at-piece (piece ∷ pieces) (signal ∷ signals) bytes zero j p s d each within inside =
    let long = length-piece piece signal bytes in
    let first : 0 + j ≡ j = omega arith in
    ap (λ (n : ℕ). get_or (piece_items piece signal bytes ++ pieces_items pieces signals (drop (piece_size piece) bytes)) n d) first
    ∙ get_or_append_left (piece_items piece signal bytes) (pieces_items pieces signals (drop (piece_size piece) bytes)) d j (omega (arith, long, inside))
at-piece (piece ∷ pieces) (signal ∷ signals) bytes (suc k) j p s d each within inside =
    let long = length-piece piece signal bytes in
    let first : List Heard = piece_items piece signal bytes in
    let rest : List Heard = pieces_items pieces signals (drop (piece_size piece) bytes) in
    let place : piece_count piece + pieces_count (take k pieces) + j ≡ length first + (pieces_count (take k pieces) + j) = omega (arith, long) in
    ap (λ (n : ℕ). get_or (first ++ rest) n d) place
    ∙ (get_or-append-add first rest (pieces_count (take k pieces) + j) d
    ∙ (at-piece pieces signals (drop (piece_size piece) bytes) k j p s d (omega (arith, each)) (omega (arith, within)) inside
    ∙ ap (λ (b : List ℕ). get_or (piece_items (get_or pieces k p) (get_or signals k s) b) j d)
    (drop-drop (pieces_size (take k pieces)) (piece_size piece) bytes)))

-- a hole of a piece
pub hole-of : (piece : Piece) (signal : Signal) (bytes : List ℕ) (j : ℕ) (d : Heard) → j < piece.holes → get_or (piece_items piece signal bytes) j d ≡ Hole
hole-of piece signal bytes j d inside =
    let long = length-replicate piece.holes Hole in
    get_or_append_left (replicate piece.holes Hole) (items_before (layout piece.format) signal bytes piece.blocks) d j (omega (arith, long, inside))
    ∙ get_or-replicate piece.holes j Hole d inside

-- and a block
pub block-of : (piece : Piece) (signal : Signal) (bytes : List ℕ) (j : ℕ) (d : Heard) → piece.holes ≤ j
    → get_or (piece_items piece signal bytes) j d ≡ get_or (items_before (layout piece.format) signal bytes piece.blocks) (j - piece.holes) d
block-of piece signal bytes j d behind =
    get_or-append_right (replicate piece.holes Hole) (items_before (layout piece.format) signal bytes piece.blocks) piece.holes j d (length-replicate piece.holes Hole) behind

pub before-at : (l : Layout) (signal : Signal) (bytes : List ℕ) (count k : ℕ) (d : Heard) → k < count
    → get_or (items_before l signal bytes count) k d ≡ item_of l signal (block_at (block_size l) bytes k)
before-at l signal bytes count k d inside =
    let places : List ℕ = range_with_len 0 count in
    let many = length-range_with_len 0 count in
    let blocks : List (List ℕ) = map (block_at (block_size l) bytes) places in
    let long = length-map places (block_at (block_size l) bytes) in
    let first : 0 + k ≡ k = omega arith in
    get_or-map (item_of l signal) blocks k [] d (omega (arith, many, long, inside))
    ∙ ap (item_of l signal)
    (get_or-map (block_at (block_size l) bytes) places k 0 [] (omega (arith, many, inside))
    ∙ ap (block_at (block_size l) bytes) (get_or-range_with_len 0 count k 0 inside ∙ first))

-- ---- an item of a list

module _ (pieces : List Piece) (signals : List Signal) (bytes : List ℕ) (each : length signals ≡ length pieces) where
  -- behind all pieces
  pub hole-behind : (holes n : ℕ) (d : Heard) → pieces_count pieces ≤ n → n < pieces_count pieces + holes → Hole ≡ get_or (pieces_items pieces signals bytes ++ replicate holes Hole) n d
  hole-behind holes n d behind inside =
      sym (get_or-append_right (pieces_items pieces signals bytes) (replicate holes Hole) (pieces_count pieces) n d (length-pieces pieces signals bytes each) behind
      ∙ get_or-replicate holes (n - pieces_count pieces) Hole d (omega (arith, behind, inside)))

  -- in a piece
  pub item-inside : (holes k n : ℕ) (p : Piece) (s : Signal) (d : Heard) → k < length pieces → pieces_count (take k pieces) ≤ n → n < pieces_count (take k pieces) + piece_count (get_or pieces k p)
      → get_or (pieces_items pieces signals bytes ++ replicate holes Hole) n d
      ≡ get_or (piece_items (get_or pieces k p) (get_or signals k s) (drop (pieces_size (take k pieces)) bytes)) (n - pieces_count (take k pieces)) d
  item-inside holes k n p s d within before inside =
      let long = length-pieces pieces signals bytes each in
      let more = count-more pieces k p within in
      let most = count-within pieces (k + 1) in
      let place : n ≡ pieces_count (take k pieces) + (n - pieces_count (take k pieces)) = omega (arith, before) in
      get_or_append_left (pieces_items pieces signals bytes) (replicate holes Hole) d n (omega (arith, long, more, most, inside))
      ∙ (ap (λ (m : ℕ). get_or (pieces_items pieces signals bytes) m d) place
      ∙ at-piece pieces signals bytes k (n - pieces_count (take k pieces)) p s d each within (omega (arith, before, inside)))

-- how many items a list has
pub length-listing : (pieces : List Piece) (bytes : List ℕ) (holes room count : ℕ) (pin : PinSignals) → length pin.signals ≡ length pieces → pieces_count pieces + holes ≡ count
    → length (listing_of pieces bytes holes room pin).list ≡ count
length-listing pieces bytes holes room count pin each counted =
    let all = length-append (pieces_items pieces pin.signals bytes) (replicate holes Hole) in
    let first = length-pieces pieces pin.signals bytes each in
    let last = length-replicate holes Hole in
    omega (arith, all, first, last, counted)

-- what is left of a list has an item, so the list has it
pub item-left : (list left : List Heard) (n : ℕ) → drop n list ≡ left → 0 < length left → n < length list
item-left list left n is some =
    let long = sym (length-drop n list) ∙ ap length is in
    omega (arith, long, some)

pub length-all : (pieces : List Piece) (signals : List Signal) (bytes : List ℕ) (holes : ℕ) → length signals ≡ length pieces
    → length (pieces_items pieces signals bytes ++ replicate holes Hole) ≡ pieces_count pieces + holes
length-all pieces signals bytes holes each =
    let all = length-append (pieces_items pieces signals bytes) (replicate holes Hole) in
    let first = length-pieces pieces signals bytes each in
    let last = length-replicate holes Hole in
    omega (arith, all, first, last)
