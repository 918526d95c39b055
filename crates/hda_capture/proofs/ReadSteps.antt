-- The pieces of a stretch that is read, step by step.
use Rattle.std.proofs.Common.{◌≡◌, ◌+◌, ◌/◌, ◌∙◌, ℕ, List, [], ◌∷◌, ◌++◌, Option, map, length, refl, sym, ap, subst, arith, append-nil, append_assoc}
use Rattle.std.specs.List.{range_with_len, flat_map}
use Rattle.std.proofs.lemmas.List.{length-map, map-append}
use Rattle.std.proofs.lemmas.List.Concat.{flat_map-append}
use Rattle.std.proofs.lemmas.List.FromFn.{length-range_with_len, map-range_with_len_more}
use Rattle.hda_world.specs.Events.{Event}
use Rattle.hda_world.specs.Tellings.{Telling, Accessed, Between, Makes}
use Rattle.hda_world.proofs.Callers.{row_one, row_both}
use Rattle.period_writer.specs.Places.{place_in, piece_start}
use Rattle.hda_capture.specs.Reading.{piece_read, pieces_read, piece_size, ReadsPiece, ReadsPieces}

-- one read more
pub pieces_read_more : (b : ℕ) (periods : List ℕ) (from period : ℕ) (pieces : List (List ℕ)) (piece : List ℕ)
    → pieces_read b periods from period (pieces ++ piece ∷ []) ≡ pieces_read b periods from period pieces ++ piece_read b periods from (period + length pieces) piece ∷ []
pieces_read_more b periods from period [] piece = ap (λ (n : ℕ). piece_read b periods from n piece ∷ []) (omega arith)
pieces_read_more b periods from period (first ∷ pieces) piece =
    ap (λ (events : List Event). piece_read b periods from period first ∷ events)
    (pieces_read_more b periods from (period + 1) pieces piece
    ∙ ap (λ (n : ℕ). pieces_read b periods from (period + 1) pieces ++ piece_read b periods from n piece ∷ []) (omega arith))

-- so many bytes more
bytes_more : (recorded : List ℕ) (pieces : List (List ℕ)) (piece : List ℕ)
    → (recorded ++ flat_map (λ (piece : List ℕ). piece) pieces) ++ piece ≡ recorded ++ flat_map (λ (piece : List ℕ). piece) (pieces ++ piece ∷ [])
bytes_more recorded pieces piece =
    append_assoc recorded (flat_map (λ (piece : List ℕ). piece) pieces) piece
    ∙ ap (λ (xs : List ℕ). recorded ++ (flat_map (λ (piece : List ℕ). piece) pieces ++ xs)) (sym (append-nil piece))
    ∙ ap (λ (xs : List ℕ). recorded ++ xs) (sym (flat_map-append (λ (piece : List ℕ). piece) pieces (piece ∷ [])))

-- a step more
pub read_more : (b : ℕ) (periods : List ℕ) (from to step : ℕ) (recorded recorded' recorded'' : List ℕ) (old middle new : Option Telling)
    → ReadsPieces b periods from to step recorded recorded' old middle
    → ReadsPiece (place_in b periods (from / b + step) (piece_start b from (from / b + step))) (piece_size b from to (from / b + step)) recorded' recorded'' middle new
    → ReadsPieces b periods from to (step + 1) recorded recorded'' old new
read_more b periods from to step recorded recorded' recorded'' old middle new before once =
    let long : length before.pieces ≡ step = sym (length-map before.pieces length) ∙ ap length before.sizes ∙ length-map (range_with_len (from / b) step) (piece_size b from to) ∙ length-range_with_len (from / b) step in
    let at : from / b + step ≡ from / b + length before.pieces = ap (λ (n : ℕ). from / b + n) (sym long) in
    record {
      pieces = before.pieces ++ once.piece ∷ [];
      sizes = map-append length before.pieces (once.piece ∷ []) ∙ ap (λ (sizes : List ℕ). sizes ++ length once.piece ∷ []) before.sizes
          ∙ ap (λ (n : ℕ). map (piece_size b from to) (range_with_len (from / b) step) ++ n ∷ []) once.size_is
          ∙ sym (map-range_with_len_more (piece_size b from to) (from / b) step (from / b + step) refl);
      bytes_is = once.bytes_is ∙ ap (λ (xs : List ℕ). xs ++ once.piece) before.bytes_is ∙ bytes_more recorded before.pieces once.piece;
      made = subst (λ (events : List Event). Between (Makes events) old new) (sym (pieces_read_more b periods from (from / b) before.pieces once.piece))
          (row_both before.made (row_one (subst (λ (n : ℕ). Between (λ old new. Accessed old new (piece_read b periods from n once.piece)) middle new) at once.made)));
    }

-- none yet
pub read_none : (b : ℕ) (periods : List ℕ) (from to : ℕ) (recorded : List ℕ) (old : Option Telling) → Between (Makes []) old old → ReadsPieces b periods from to 0 recorded recorded old old
read_none b periods from to recorded old none = record { pieces = []; sizes = refl; bytes_is = sym (append-nil recorded); made = none }
