-- Where each link frame carried its block, no pin's list has a hole.
use Rattle.std.proofs.Common.{ℕ, List, [], ◌∷◌, map, Option, None, Some, refl}
use Rattle.std.specs.Prelude.{All}
use Rattle.std.proofs.lemmas.List.Elements.{All-nil, All-cons, All-head, All-tail, All-append}
use Rattle.stream_format.specs.Layouts.{Layout, layout_of}
use Rattle.world_streams.specs.Output.{Carriage, Sent, Missed}
use Rattle.codec_sound.specs.declared.signals.Signal.{Signal}
use Rattle.codec_sound.specs.declared.signals.Signal.TheVariants as variant
use Rattle.heard_frames.specs.HeardLists.{block_size, blocks, item_of, items_sent, heard_in, signal_in, frame_items, heard}
use Rattle.hda_world.specs.Worlds.{CarriedFrame}
use Rattle.laws_serving.specs.Turns.{HasSentBytes, CarriedBytes, IsNoHole}

block_no_hole : (layout : Layout) (signal : Signal) (block : List ℕ) → IsNoHole (item_of layout signal block)
block_no_hole layout variant.Silence block = refl
block_no_hole layout (variant.Pair pair) block = refl
block_no_hole layout variant.Altered block = refl

blocks_no_hole : (layout : Layout) (signal : Signal) (blocks : List (List ℕ)) → All IsNoHole (map (item_of layout signal) blocks)
blocks_no_hole layout signal [] = All-nil IsNoHole
blocks_no_hole layout signal (block ∷ blocks) = All-cons IsNoHole (item_of layout signal block) (map (item_of layout signal) blocks) (block_no_hole layout signal block) (blocks_no_hole layout signal blocks)

sent_no_hole : (layout : Option Layout) (signal : Signal) (bytes : List ℕ) → All IsNoHole (items_sent layout signal bytes)
sent_no_hole None signal bytes = All-nil IsNoHole
sent_no_hole (Some layout) signal bytes = blocks_no_hole layout signal (blocks (block_size layout) bytes)

carriage_no_hole : (bytes : ℕ) (layout : Option Layout) (signal : Signal) (carriage : Carriage) → HasSentBytes bytes carriage → All IsNoHole (heard_in layout signal carriage)
carriage_no_hole bytes layout signal (Sent sent) has = sent_no_hole layout signal sent
carriage_no_hole bytes layout signal Missed has = absurd has

pub no_holes : (bytes address pin : ℕ) (carried : List CarriedFrame) → All (CarriedBytes bytes) carried → All IsNoHole (heard address pin carried)
no_holes bytes address pin [] are = All-nil IsNoHole
no_holes bytes address pin (frame ∷ carried) are =
    All-append IsNoHole (frame_items address pin frame) (heard address pin carried)
    (carriage_no_hole bytes (layout_of frame.format) (signal_in address pin frame) frame.carriage (All-head (CarriedBytes bytes) frame carried are))
    (no_holes bytes address pin carried (All-tail (CarriedBytes bytes) frame carried are))
