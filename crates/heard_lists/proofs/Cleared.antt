-- Lists that were forgotten.
use Rattle.std.proofs.Common.{◌≡◌, ℕ, List, [], map, sym, ◌∙◌}
use Rattle.std.specs.Prelude.{All}
use Rattle.std.proofs.lemmas.List.Elements.{All-map}
use Rattle.std.proofs.lemmas.Simd.{map-map}
use Rattle.heard_lists.specs.declared.pieces.Piece.{Piece}
use Rattle.heard_lists.specs.Listings.{forgotten}
use Rattle.heard_lists.specs.Pieces.{PinSignals, IsSignalled, listing_of, without_signals}

pub cleared : (pieces : List Piece) (room : ℕ) (pins : List PinSignals) → All (IsSignalled pieces room) pins → All (IsSignalled [] room) (map without_signals pins)
cleared pieces room pins all = All-map (IsSignalled [] room) without_signals pins (λ k d within. record { among = tt; fits = (all k d within).fits })

pub listings-cleared : (pieces : List Piece) (bytes : List ℕ) (holes room : ℕ) (pins : List PinSignals)
    → map (listing_of [] [] 0 room) (map without_signals pins) ≡ map forgotten (map (listing_of pieces bytes holes room) pins)
listings-cleared pieces bytes holes room pins =
    map-map (listing_of [] [] 0 room) without_signals pins ∙ sym (map-map forgotten (listing_of pieces bytes holes room) pins)
