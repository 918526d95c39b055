-- Heard lists grow frame by frame.
use Rattle.std.proofs.Common.{◌≡◌, ◌<◌, ℕ, ◌/◌, List, [], ◌∷◌, ◌++◌, map, length, get_or, Option, Some, None, refl, sym, ap, subst, ◌∙◌, arith}
use Rattle.std.specs.Prelude.{MatchOption, option_map}
use Rattle.std.specs.List.{range_with_len}
use Rattle.std.proofs.lemmas.Grind.{flat_map-append}
use Rattle.std.proofs.lemmas.List.{append-nil, length-map, get_or-map}
use Rattle.std.proofs.lemmas.List.FromFn.{length-range_with_len, length-map-range_with_len, get_or-map-range_with_len}
use Rattle.std.proofs.Math.Nat.{zero-div}
use Rattle.codec_graph.specs.CodecStates.{CodecState}
use Rattle.stream_format.specs.declared.format.Format.{Format}
use Rattle.stream_format.specs.Layouts.{Layout, layout, layout_of}
use Rattle.stream_format.specs.Words.{format_word, HasNoFormat}
use Rattle.world_streams.specs.Output.{Sent, Missed}
use Rattle.hda_world.specs.Worlds.{CarriedFrame}
use Rattle.codec_graph.specs.declared.pin_kind.PinKind.{PinKind}
use Rattle.codec_sound.specs.declared.signals.Signal.{Signal}
use Rattle.heard_frames.specs.declared.heard.Heard.{Heard}
use Rattle.heard_frames.specs.declared.heard.Heard.TheVariants.{Hole}
use Rattle.codec_sound.specs.Keeping.{signal_by_as}
use Rattle.heard_frames.specs.HeardLists.{block_size, block_at, blocks, item_of, items_sent, heard_in, signal_with_as, signal_in_as, frame_items_as, heard_as}

pub heard-append : (kind : PinKind) (address pin : ℕ) (before added : List CarriedFrame) → heard_as kind address pin (before ++ added) ≡ heard_as kind address pin before ++ heard_as kind address pin added
heard-append kind address pin before added = flat_map-append (frame_items_as kind address pin) before added

pub heard-push : (kind : PinKind) (address pin : ℕ) (before : List CarriedFrame) (frame : CarriedFrame) → heard_as kind address pin (before ++ frame ∷ []) ≡ heard_as kind address pin before ++ frame_items_as kind address pin frame
heard-push kind address pin before frame = heard-append kind address pin before (frame ∷ []) ∙ ap (λ (items : List Heard). heard_as kind address pin before ++ items) (append-nil (frame_items_as kind address pin frame))

pub items-missed : (kind : PinKind) (address pin : ℕ) (frame : CarriedFrame) → frame.carriage ≡ Missed → frame_items_as kind address pin frame ≡ Hole ∷ []
items-missed kind address pin frame e = ap (heard_in (layout_of frame.format) (signal_in_as kind address pin frame)) e

-- as many items as blocks
pub length-items : (layout : Layout) (signal : Signal) (bytes : List ℕ) → length (heard_in (Some layout) signal (Sent bytes)) ≡ length bytes / block_size layout
length-items layout signal bytes = simp (length-map, length-range_with_len)

-- and each of its block
pub item-of-block : (layout : Layout) (signal : Signal) (bytes : List ℕ) (place : ℕ) → place < length bytes / block_size layout
    → get_or (heard_in (Some layout) signal (Sent bytes)) place Hole ≡ item_of layout signal (block_at (block_size layout) bytes place)
item-of-block layout signal bytes place within =
    let count : ℕ = length bytes / block_size layout in
    let inside : place < length (blocks (block_size layout) bytes) = subst (λ (n : ℕ). place < n) (sym (length-map-range_with_len (block_at (block_size layout) bytes) 0 count)) within in
    get_or-map (item_of layout signal) (blocks (block_size layout) bytes) place [] Hole inside
    ∙ ap (item_of layout signal) (get_or-map-range_with_len (block_at (block_size layout) bytes) 0 count place place [] within (omega arith))

no_items : (o : Option Layout) (signal : Signal) → items_sent o signal [] ≡ []
no_items None signal = refl
no_items (Some layout) signal = ap (λ (n : ℕ). map (item_of layout signal) (map (block_at (block_size layout) []) (range_with_len 0 n))) (zero-div (block_size layout))

pub items-empty : (kind : PinKind) (address pin : ℕ) (frame : CarriedFrame) → frame.carriage ≡ Sent [] → frame_items_as kind address pin frame ≡ []
items-empty kind address pin frame e = ap (heard_in (layout_of frame.format) (signal_in_as kind address pin frame)) e ∙ no_items (layout_of frame.format) (signal_in_as kind address pin frame)

-- the signal by the format of a word
pub signal_by-word : (kind : PinKind) (codec : CodecState) (tag word pin : ℕ) (format : Option Format) → option_map layout format ≡ layout_of word → MatchOption format (HasNoFormat word) (λ f. format_word f ≡ word) → signal_by_as kind codec.graph codec.settings tag format pin ≡ signal_with_as kind (Some codec) tag word (layout_of word) pin
signal_by-word kind codec tag word pin None reading inverse = rw (← reading) refl
signal_by-word kind codec tag word pin (Some format) reading inverse = rw (← reading, ← inverse) refl
