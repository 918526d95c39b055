-- What a pin heard of the link frames of a stream, by its signals along them.
use Rattle.std.proofs.Common.{◌≡◌, ◌≤◌, ◌<◌, ◌+◌, ◌/◌, ℕ, zero, suc, true, not, List, [], ◌∷◌, ◌++◌, length, map, take, get_or, Option, Some, refl, sym, ap, ap₂, subst, ◌∙◌, arith, rules, length-append}
use Rattle.std.specs.Prelude.{All, slice_get}
use Rattle.std.specs.List.{range_with_len}
use Rattle.std.proofs.lemmas.List.{length-map}
use Rattle.std.proofs.lemmas.List.FromFn.{length-map-range_with_len, get_or-map-range_with_len}
use Rattle.std.proofs.lemmas.List.Elements.{filter-append, All-head, All-tail}
use Rattle.std.proofs.lemmas.Option.{slice_get_within, get_or_from_slice_get}
use Rattle.codec_graph.specs.declared.pin_kind.PinKind.{PinKind}
use Rattle.codec_graph.specs.CodecStates.{CodecState}
use Rattle.stream_format.specs.Layouts.{Layout, layout_of}
use Rattle.world_streams.specs.Output.{Carriage, Sent, Missed}
use Rattle.hda_world.specs.Worlds.{CarriedFrame, codec_at}
use Rattle.hda_world.specs.Streaming.{bytes_of, carried_bytes}
use Rattle.codec_sound.specs.declared.signals.Signal.{Signal}
use Rattle.codec_sound.specs.declared.signals.Signal.TheVariants as signal
use Rattle.heard_frames.specs.declared.heard.Heard.{Heard}
use Rattle.heard_frames.specs.declared.heard.Heard.TheVariants.{Quiet, Hole, Altered}
use Rattle.heard_frames.specs.HeardLists.{block_at, block_size, blocks, item_of, heard_in, signal_with_as, signal_in_as, frame_items_as, heard_as}
use Rattle.heard_frames.specs.Marks.{is_hole, without_holes, heard_before}
use Rattle.laws_hearing.specs.BySignals.{is_made_by, IsSignalAlong}
use Rattle.laws_hearing.specs.Steady.{IsSteadyFrame}
use Rattle.laws_hearing.specs.Streams.{IsStreamFrame}
use Rattle.laws_hearing.proofs.Blocks.{blocks_append}
use Rattle.laws_hearing.proofs.Hearing.{signal_same}

-- ---- blocks and the signals of their places

abbrev pub made_from : Layout → (signals : ℕ → Signal) → (at : ℕ) → List (List ℕ) → List Heard
made_from layout signals at [] = []
made_from layout signals at (block ∷ bs) = item_of layout (signals at) block ∷ made_from layout signals (at + 1) bs

module _ (layout : Layout) (signals : ℕ → Signal) where
  same_list : (at at' : ℕ) (bs : List (List ℕ)) → at ≡ at' → made_from layout signals at bs ≡ made_from layout signals at' bs
  same_list at at' bs same = ap (λ n. made_from layout signals n bs) same

  made_append : (at : ℕ) (front back : List (List ℕ)) → made_from layout signals at (front ++ back) ≡ made_from layout signals at front ++ made_from layout signals (at + length front) back
  made_append at [] back = same_list at (at + 0) back (omega arith)
  made_append at (b ∷ front) back =
      ap (λ (l : List Heard). item_of layout (signals at) b ∷ l)
      (made_append (at + 1) front back ∙ ap (λ (l : List Heard). made_from layout signals (at + 1) front ++ l) (same_list (at + 1 + length front) (at + length (b ∷ front)) back (omega arith)))

  made_of_one : (signal : Signal) (at : ℕ) (bs : List (List ℕ)) → ((place : ℕ) → at ≤ place → place < at + length bs → signal ≡ signals place) → map (item_of layout signal) bs ≡ made_from layout signals at bs
  made_of_one signal at [] same = refl
  made_of_one signal at (b ∷ bs) same =
      ap₂ (λ (x : Heard) (l : List Heard). x ∷ l) (ap (λ (s : Signal). item_of layout s b) (same at (omega arith) (omega arith)))
      (made_of_one signal (at + 1) bs (λ place low high. same place (omega (arith, low)) (omega (arith, high))))

  made_range : (block : ℕ → List ℕ) (count at : ℕ) → made_from layout signals at (map block (range_with_len at count)) ≡ map (λ place. item_of layout (signals place) (block place)) (range_with_len at count)
  made_range block zero at = refl
  made_range block (suc count) at = let rest = made_range block count (at + 1) in cc

-- ---- holes

no_holes : (layout : Layout) (signal : Signal) (bs : List (List ℕ)) → without_holes (map (item_of layout signal) bs) ≡ map (item_of layout signal) bs
no_holes layout signal [] = refl
no_holes layout signal.Silence (b ∷ bs) = ap (λ (l : List Heard). Quiet ∷ l) (no_holes layout signal.Silence bs)
no_holes layout (signal.Pair pair) (b ∷ bs) = ap (λ (l : List Heard). item_of layout (signal.Pair pair) b ∷ l) (no_holes layout (signal.Pair pair) bs)
no_holes layout signal.Altered (b ∷ bs) = ap (λ (l : List Heard). Altered ∷ l) (no_holes layout signal.Altered bs)

none_over : (n : ℕ) → 0 / n ≡ 0
none_over n = search rules

no_blocks : (size : ℕ) → blocks size [] ≡ []
no_blocks size = ap (λ n. map (block_at size []) (range_with_len 0 n)) (none_over size)

carriage_items : (layout : Layout) (signal : Signal) (carriage : Carriage) → without_holes (heard_in (Some layout) signal carriage) ≡ map (item_of layout signal) (blocks (block_size layout) (bytes_of carriage))
carriage_items layout signal Missed = sym (ap (map (item_of layout signal)) (no_blocks (block_size layout)))
carriage_items layout signal (Sent bytes) = no_holes layout signal (blocks (block_size layout) bytes)

-- ---- signals along link frames

module _ (kind : PinKind) (address pin : ℕ) (signals : ℕ → Signal) where
  abbrev added : CarriedFrame → ℕ
  added frame = length (without_holes (frame_items_as kind address pin frame))

  -- the same from an item on
  abbrev AlongFrom : ℕ → List CarriedFrame → Type 0
  AlongFrom at frames = (count : ℕ) (frame : CarriedFrame) → slice_get frames count ≡ Some frame → (place : ℕ) → at + heard_before kind address pin frames count ≤ place
      → place < at + heard_before kind address pin frames (count + 1) → signal_in_as kind address pin frame ≡ signals place

  before_next : (frame : CarriedFrame) (frames : List CarriedFrame) (count : ℕ) → heard_before kind address pin (frame ∷ frames) (suc count) ≡ added frame + heard_before kind address pin frames count
  before_next frame frames count =
      ap length (filter-append (λ (item : Heard). not (is_hole item)) (frame_items_as kind address pin frame) (heard_as kind address pin (take count frames)))
      ∙ length-append (without_holes (frame_items_as kind address pin frame)) (without_holes (heard_as kind address pin (take count frames)))

  before_more : (frame : CarriedFrame) (frames : List CarriedFrame) (count : ℕ) → heard_before kind address pin (frame ∷ frames) (count + 1) ≡ added frame + heard_before kind address pin frames count
  before_more frame frames count = let next : count + 1 ≡ suc count = omega arith in ap (heard_before kind address pin (frame ∷ frames)) next ∙ before_next frame frames count

  along_head : (at : ℕ) (frame : CarriedFrame) (frames : List CarriedFrame) → AlongFrom at (frame ∷ frames) → (place : ℕ) → at ≤ place → place < at + added frame → signal_in_as kind address pin frame ≡ signals place
  along_head at frame frames along place low high =
      let more = before_more frame frames 0 in
      let none : heard_before kind address pin frames 0 ≡ 0 = refl in
      let front : heard_before kind address pin (frame ∷ frames) 0 ≡ 0 = refl in
      along 0 frame refl place (omega (arith, low, front)) (omega (arith, high, more, none))

  along_tail : (at : ℕ) (frame : CarriedFrame) (frames : List CarriedFrame) → AlongFrom at (frame ∷ frames) → AlongFrom (at + added frame) frames
  along_tail at frame frames along = λ count other there place low high.
      let first = before_more frame frames count in
      let second = before_more frame frames (count + 1) in
      let next : count + 1 ≡ suc count = omega arith in
      let found : slice_get (frame ∷ frames) (count + 1) ≡ Some other = ap (slice_get (frame ∷ frames)) next ∙ there in
      along (count + 1) other found place (omega (arith, low, first)) (omega (arith, high, second))

  module _ (tag word : ℕ) (layout : Layout) (known : layout_of word ≡ Some layout) (some : 1 ≤ block_size layout) where
    frame_heard : (frame : CarriedFrame) → IsStreamFrame tag word (block_size layout) frame
        → without_holes (frame_items_as kind address pin frame) ≡ map (item_of layout (signal_in_as kind address pin frame)) (blocks (block_size layout) (bytes_of frame.carriage))
    frame_heard frame is =
        ap (λ (l : Option Layout). without_holes (heard_in l (signal_in_as kind address pin frame) frame.carriage)) (ap layout_of is.word_is ∙ known)
        ∙ carriage_items layout (signal_in_as kind address pin frame) frame.carriage

    frame_added : (frame : CarriedFrame) → IsStreamFrame tag word (block_size layout) frame → added frame ≡ length (blocks (block_size layout) (bytes_of frame.carriage))
    frame_added frame is =
        ap length (frame_heard frame is) ∙ length-map (blocks (block_size layout) (bytes_of frame.carriage)) (item_of layout (signal_in_as kind address pin frame))

    heard_from : (frames : List CarriedFrame) (at : ℕ) → All (IsStreamFrame tag word (block_size layout)) frames → AlongFrom at frames
        → without_holes (heard_as kind address pin frames) ≡ made_from layout signals at (blocks (block_size layout) (carried_bytes frames))
    heard_from [] at all along = ap (made_from layout signals at) (sym (no_blocks (block_size layout)))
    heard_from (frame ∷ frames) at all along =
        let is = All-head (IsStreamFrame tag word (block_size layout)) frame frames all in
        let number = frame_added frame is in
        let size = block_size layout in
        filter-append (λ (item : Heard). not (is_hole item)) (frame_items_as kind address pin frame) (heard_as kind address pin frames)
        ∙ ap₂ (λ (a b : List Heard). a ++ b)
        (frame_heard frame is
        ∙ made_of_one layout signals (signal_in_as kind address pin frame) at (blocks (block_size layout) (bytes_of frame.carriage))
        (λ place low high. along_head at frame frames along place low (omega (arith, high, number))))
        (heard_from frames (at + added frame) (All-tail (IsStreamFrame tag word (block_size layout)) frame frames all) (along_tail at frame frames along)
        ∙ same_list layout signals (at + added frame) (at + length (blocks (block_size layout) (bytes_of frame.carriage))) (blocks (block_size layout) (carried_bytes frames)) (omega (arith, number)))
        ∙ sym (made_append layout signals at (blocks (block_size layout) (bytes_of frame.carriage)) (blocks (block_size layout) (carried_bytes frames)))
        ∙ ap (made_from layout signals at) (sym (blocks_append (block_size layout) is.blocks (bytes_of frame.carriage) (carried_bytes frames) some is.whole))

    -- what the pin heard is what its signals make of the blocks that were carried
    pub heard_along : (frames : List CarriedFrame) → All (IsStreamFrame tag word (block_size layout)) frames → IsSignalAlong kind address pin signals frames
        → without_holes (heard_as kind address pin frames) ≡ map (λ place. item_of layout (signals place) (block_at (block_size layout) (carried_bytes frames) place)) (range_with_len 0 (length (carried_bytes frames) / block_size layout))
    heard_along frames all along =
        heard_from frames 0 all (λ count frame there place low high. along count frame there place (omega (arith, low)) (omega (arith, high)))
        ∙ made_range layout signals (block_at (block_size layout) (carried_bytes frames)) (length (carried_bytes frames) / block_size layout) 0

-- ---- each item is what its signal makes

made_by : (layout : Layout) (signal : Signal) (block : List ℕ) → is_made_by signal (item_of layout signal block) ≡ true
made_by layout signal.Silence block = refl
made_by layout (signal.Pair pair) block = refl
made_by layout signal.Altered block = refl

pub by_signals : (layout : Layout) (signals : ℕ → Signal) (block : ℕ → List ℕ) (count place : ℕ) (list : List Heard) → list ≡ map (λ place. item_of layout (signals place) (block place)) (range_with_len 0 count)
    → place < length list → is_made_by (signals place) (get_or list place Hole) ≡ true
by_signals layout signals block count place list are within =
    let number = ap length are ∙ length-map-range_with_len (λ place. item_of layout (signals place) (block place)) 0 count in
    ap (is_made_by (signals place)) (ap (λ (l : List Heard). get_or l place Hole) are ∙ get_or-map-range_with_len (λ place. item_of layout (signals place) (block place)) 0 count place place Hole (omega (arith, within, number)) (omega arith))
    ∙ made_by layout (signals place) (block place)

-- ---- codecs that stay have one signal

pub signal_is : (kind : PinKind) (codecs : List CodecState) (tag word block : ℕ) (layout : Layout) (address pin : ℕ) (signal : Signal) (frame : CarriedFrame) → layout_of word ≡ Some layout → IsSteadyFrame codecs tag word block frame
    → signal_with_as kind (codec_at address codecs) tag word (Some layout) pin ≡ signal → signal_in_as kind address pin frame ≡ signal
signal_is kind codecs tag word block layout address pin signal frame known steady is =
    ap (λ (l : Option Layout). signal_with_as kind (codec_at address frame.codecs) frame.tag frame.format l pin) (ap layout_of steady.word_is ∙ known)
    ∙ ap (λ (t : ℕ). signal_with_as kind (codec_at address frame.codecs) t frame.format (Some layout) pin) steady.tag_is
    ∙ ap (λ (w : ℕ). signal_with_as kind (codec_at address frame.codecs) tag w (Some layout) pin) steady.word_is
    ∙ signal_same kind frame.codecs codecs address tag word pin layout steady.settings
    ∙ is

pub one_along : (kind : PinKind) (codecs : List CodecState) (tag word block : ℕ) (layout : Layout) (address pin : ℕ) (signal : Signal) (frames : List CarriedFrame) → layout_of word ≡ Some layout → All (IsSteadyFrame codecs tag word block) frames
    → signal_with_as kind (codec_at address codecs) tag word (Some layout) pin ≡ signal → IsSignalAlong kind address pin (λ place. signal) frames
one_along kind codecs tag word block layout address pin signal frames known all is = λ count frame there place low high.
    signal_is kind codecs tag word block layout address pin signal frame known
    (subst (IsSteadyFrame codecs tag word block) (get_or_from_slice_get frames count frame frame there) (all count frame (slice_get_within frames count frame there))) is
