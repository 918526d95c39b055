-- A piece of memory that is noted: the events before stay.
use Rattle.std.proofs.Common.{◌≡◌, ◌≤◌, ◌+◌, ℕ, List, [], ◌∷◌, ◌++◌, length, map, drop, All, ap, sym, ◌∙◌, refl, arith}
use Rattle.std.proofs.lemmas.List.{take-append-le, map-append}
use Rattle.std.proofs.Math.ListN.{get_or-append}
use Rattle.std.specs.List.{AllByRecursion}
use Rattle.std.proofs.lemmas.Slice.{between_is}
use Rattle.std.proofs.lemmas.List.Elements.{recursion_from_All}
use Rattle.hda_world.specs.declared.entry.Entry.{Entry}
use Rattle.hda_world.specs.declared.entry.Entry.TheVariants as entry
use Rattle.hda_world.specs.declared.entry.MemoryPiece.{MemoryPiece}
use Rattle.hda_world.specs.Events.{Event, DmaRead, DmaWrite}
use Rattle.hda_world.specs.Journals.{AreNoted, bytes_of, event_of, piece_at, pieces_named}

abbrev none : MemoryPiece
none = record { at = 0; len = 0; from = 0 }

-- bytes more do not change those of a piece
piece_more : (bytes more : List ℕ) (piece : MemoryPiece) → piece.from + piece.len ≤ length bytes → bytes_of (bytes ++ more) piece ≡ bytes_of bytes piece
piece_more bytes more piece within =
    between_is (bytes ++ more) piece.from (piece.from + piece.len)
    ∙ ap (drop piece.from) (take-append-le (piece.from + piece.len) bytes more within)
    ∙ sym (between_is bytes piece.from (piece.from + piece.len))

module _ (pieces : List MemoryPiece) (bytes more : List ℕ) (piece : MemoryPiece) (placed : All (λ piece. piece.from + piece.len ≤ length bytes) pieces) where
  there : (number : ℕ) → number + 1 ≤ length pieces → piece_at (pieces ++ piece ∷ []) number ≡ piece_at pieces number
  there number within = get_or-append pieces (piece ∷ []) none number (omega (arith, within))

  same_bytes : (number : ℕ) → number + 1 ≤ length pieces → bytes_of (bytes ++ more) (piece_at (pieces ++ piece ∷ []) number) ≡ bytes_of bytes (piece_at pieces number)
  same_bytes number within =
      ap (bytes_of (bytes ++ more)) (there number within) ∙ piece_more bytes more (piece_at pieces number) (placed number none (omega (arith, within)))

  event_same : (one : Entry) → pieces_named one ≤ length pieces → event_of (pieces ++ piece ∷ []) (bytes ++ more) one ≡ event_of pieces bytes one
  event_same (entry.DmaRead number) within =
      ap (λ (at : ℕ). DmaRead at (bytes_of (bytes ++ more) (piece_at (pieces ++ piece ∷ []) number))) (ap (λ (p : MemoryPiece). p.at) (there number within))
      ∙ ap (DmaRead (piece_at pieces number).at) (same_bytes number within)
  event_same (entry.DmaWrite number) within =
      ap (λ (at : ℕ). DmaWrite at (bytes_of (bytes ++ more) (piece_at (pieces ++ piece ∷ []) number))) (ap (λ (p : MemoryPiece). p.at) (there number within))
      ∙ ap (DmaWrite (piece_at pieces number).at) (same_bytes number within)
  event_same (entry.Step step) within = refl
  event_same entry.Begin within = refl
  event_same entry.End within = refl
  event_same (entry.Read at width value) within = refl
  event_same (entry.Write at width value) within = refl

  events_same : (entries : List Entry) → AllByRecursion (λ one. pieces_named one ≤ length pieces) entries
      → map (event_of (pieces ++ piece ∷ []) (bytes ++ more)) entries ≡ map (event_of pieces bytes) entries
  events_same [] named = refl
  events_same (one ∷ entries) named =
      ap (λ (event : Event). event ∷ map (event_of (pieces ++ piece ∷ []) (bytes ++ more)) entries) (event_same one named.0)
      ∙ ap (λ (events : List Event). event_of pieces bytes one ∷ events) (events_same entries named.1)

-- an entry with its piece is one event more
pub noted_piece : (entries noted : List Entry) (pieces longer : List MemoryPiece) (bytes more all : List ℕ) (piece : MemoryPiece) (one : Entry)
    → AreNoted entries pieces bytes → noted ≡ entries ++ one ∷ [] → longer ≡ pieces ++ piece ∷ [] → all ≡ bytes ++ more
    → map (event_of longer all) noted ≡ map (event_of pieces bytes) entries ++ event_of (pieces ++ piece ∷ []) (bytes ++ more) one ∷ []
noted_piece entries noted pieces longer bytes more all piece one were is grown filled =
    ap (λ (some : List Entry). map (event_of longer all) some) is
    ∙ (ap (λ (some : List MemoryPiece). map (event_of some all) (entries ++ one ∷ [])) grown
    ∙ (ap (λ (some : List ℕ). map (event_of (pieces ++ piece ∷ []) some) (entries ++ one ∷ [])) filled
    ∙ (map-append (event_of (pieces ++ piece ∷ []) (bytes ++ more)) entries (one ∷ [])
    ∙ ap (λ (events : List Event). events ++ event_of (pieces ++ piece ∷ []) (bytes ++ more) one ∷ [])
    (events_same pieces bytes more piece were.placed entries (recursion_from_All _ entries were.named)))))
