-- What pins hear of a line that a writer plays.
use Rattle.std.proofs.Common.{◌≡◌, ◌≤◌, ◌<◌, ◌+◌, ◌-◌, ◌*◌, ◌/◌, ◌⊎◌, inl, inr, ℕ, false, List, [], ◌∷◌, ◌++◌, length, map, take, drop, replicate, slice_index, Some, sym, ap, subst, ◌∙◌, arith, rules, length-append}
use Rattle.std.specs.Prelude.{All}
use Rattle.std.specs.List.{range_with_len}
use Rattle.std.proofs.lemmas.List.FromFn.{length-range_with_len}
use Rattle.std.proofs.lemmas.List.{length-map, length-take-le, length-replicate, get_or_append_left, get_or-append_right, get_or-replicate}
use Rattle.std.proofs.lemmas.List.Elements.{All-append, All-cons, All-head, All-nil, All-tail}
use Rattle.codec_graph.specs.declared.pin_kind.PinKind.{PinKind}
use Rattle.codec_graph.specs.CodecStates.{CodecState}
use Rattle.stream_format.specs.Layouts.{Layout, layout_of}
use Rattle.world_streams.specs.Output.{Carriage, Sent, Missed}
use Rattle.world_streams.proofs.Callers.{some_block}
use Rattle.hda_world.specs.Worlds.{World, CarriedFrame, codec_at}
use Rattle.hda_world.specs.Streaming.{HasSent, carried_bytes}
use Rattle.codec_sound.specs.declared.signals.Signal.{Signal}
use Rattle.heard_frames.specs.declared.heard.Heard.{Heard}
use Rattle.heard_frames.specs.declared.heard.Heard.TheVariants.{Hole}
use Rattle.heard_frames.specs.HeardLists.{block_at, block_size, blocks, item_of, heard_in, signal_with_as, frame_items_as, heard_as}
use Rattle.period_writer.specs.declared.course.Ran.TheVariants as ran
use Rattle.period_writer.specs.Runs.{Tally}
use Rattle.period_writer.specs.Lines.{line_of}
use Rattle.period_writer.specs.Standing.{Ring, limit_in}
use Rattle.period_writer.specs.Owning.{IsPlaying}
use Rattle.period_writer.specs.Outcomes.{HasDrained, WasStopped}
use Rattle.period_writer.proofs.Callers.{playing_owns, playing_within}
use Rattle.laws_hearing.specs.Plays.{without_holes}
use Rattle.laws_hearing.specs.BySignals.{heard_by, items_by, PlaysFrontBy, PlaysBelow, PlaysBy, AreBySignals, IsSignalAlong}
use Rattle.laws_hearing.specs.Steady.{IsSteadyFrame, Steady}
use Rattle.laws_hearing.specs.Streams.{Streams}
use Rattle.laws_hearing.proofs.Hearing.{frame_is}
use Rattle.laws_hearing.proofs.Along.{heard_along, by_signals}
use Rattle.laws_hearing.proofs.Playing.{plays, plays_below}

-- a format's block has bytes
pub some_of : (word : ℕ) (layout : Layout) → layout_of word ≡ Some layout → 1 ≤ block_size layout
some_of word layout known = some_block word layout known

module _ (kind : PinKind) (tag word : ℕ) (layout : Layout) (known : layout_of word ≡ Some layout) (from : ℕ) (world : World) (streams : Streams tag word (block_size layout) from world) (address pin : ℕ) (signals : ℕ → Signal)
    (along : IsSignalAlong kind address pin signals (drop from world.carried)) where
  abbrev list : List Heard
  list = heard_as kind address pin (drop from world.carried)

  heard_all : without_holes list ≡ items_by layout signals (carried_bytes (drop from world.carried)) (length (carried_bytes (drop from world.carried)) / block_size layout)
  heard_all = heard_along kind address pin signals tag word layout known (some_of word layout known) (drop from world.carried) streams.frames along

  pub alone_heard : AreBySignals signals list
  alone_heard place within = by_signals layout signals (block_at (block_size layout) (carried_bytes (drop from world.carried))) (length (carried_bytes (drop from world.carried)) / block_size layout) place (without_holes list) heard_all within

  module _ (sent : HasSent from world) where
    -- it heard what was sent
    heard_is : without_holes list ≡ items_by layout signals (take world.output.left world.output.entered) (world.output.left / block_size layout)
    heard_is =
        heard_all
        ∙ ap (λ bytes. items_by layout signals bytes (length bytes / block_size layout)) sent.bytes
        ∙ ap (λ n. items_by layout signals (take world.output.left world.output.entered) (n / block_size layout)) (length-take-le world.output.left world.output.entered sent.behind)

    -- as many blocks as were sent
    pub count_heard : length (without_holes list) ≡ world.output.left / block_size layout
    count_heard =
        ap length heard_is
        ∙ length-map (range_with_len 0 (world.output.left / block_size layout)) (heard_by layout signals (take world.output.left world.output.entered))
        ∙ length-range_with_len 0 (world.output.left / block_size layout)

    -- the line that the writer plays
    pub playing_heard : (ring : Ring) (pcm : List ℕ) (tally : Tally) → IsPlaying ring pcm tally world → 500 * world.frames ≤ tally.course.from + 500 * limit_in ring → PlaysFrontBy layout signals (line_of tally pcm) list
    playing_heard ring pcm tally playing few =
        let within = playing_within ring pcm tally world playing few in
        let owns = playing_owns ring pcm tally world playing in
        let long = playing.written.whole in
        let behind = sent.behind in
        plays layout signals world.output.entered world.output.left sent.behind list heard_is (line_of tally pcm) (omega (arith, within, long, behind))
        (λ at below. owns.fetched at (omega (arith, below, behind)) (omega (arith, below, behind, within)))

    -- the line that has drained, and zeros after it
    pub drained_heard : (ring : Ring) (pcm : List ℕ) (tally : Tally) → HasDrained ring pcm tally world → PlaysBy false ran.Drained layout signals (line_of tally pcm) tally.course.sure list
    drained_heard ring pcm tally drained =
        (world.output.left - tally.course.reach, plays layout signals world.output.entered world.output.left sent.behind list heard_is (line_of tally pcm ++ replicate (world.output.left - tally.course.reach) 0) enough each)
      where
        enough : world.output.left ≤ length (line_of tally pcm ++ replicate (world.output.left - tally.course.reach) 0)
        enough =
            let long = drained.written.whole in
            let both = length-append (line_of tally pcm) (replicate {A = ℕ} (world.output.left - tally.course.reach) 0) in
            let none = length-replicate {A = ℕ} (world.output.left - tally.course.reach) 0 in
            omega (arith, long, both, none)

        order : (at : ℕ) → (at < tally.course.reach) ⊎ (tally.course.reach ≤ at)
        order at = search (rules, arith)

        by : (at : ℕ) → at < world.output.left → (at < tally.course.reach) ⊎ (tally.course.reach ≤ at)
            → slice_index world.output.entered at ≡ slice_index (line_of tally pcm ++ replicate (world.output.left - tally.course.reach) 0) at
        by at below (inl under) =
            let behind = sent.behind in
            let long = drained.written.whole in
            drained.fetched at (omega (arith, below, behind)) under
            ∙ sym (get_or_append_left (line_of tally pcm) (replicate (world.output.left - tally.course.reach) 0) 0 at (omega (arith, under, long)))
        by at below (inr past) =
            let behind = sent.behind in
            drained.silent at (omega (arith, below, behind)) past
            ∙ sym (get_or-append_right (line_of tally pcm) (replicate (world.output.left - tally.course.reach) 0) tally.course.reach at 0 drained.written.whole past
            ∙ get_or-replicate (world.output.left - tally.course.reach) (at - tally.course.reach) 0 0 (omega (arith, below, past)))

        each : (at : ℕ) → at < world.output.left → slice_index world.output.entered at ≡ slice_index (line_of tally pcm ++ replicate (world.output.left - tally.course.reach) 0) at
        each at below = by at below (order at)

    -- after a stop the line below the last recorded reach
    pub stopped_heard : (ring : Ring) (pcm : List ℕ) (tally : Tally) → WasStopped ring pcm tally world → PlaysBelow layout signals (line_of tally pcm) tally.course.sure list
    stopped_heard ring pcm tally stopped =
        let long = stopped.written.whole in
        let sure = stopped.written.sure in
        let behind = sent.behind in
        plays_below layout signals world.output.entered world.output.left sent.behind list heard_is (line_of tally pcm) tally.course.sure (omega (arith, long, sure))
        (λ at below under. stopped.fetched at (omega (arith, below, behind)) under)

-- ---- every item of a list

-- what holds of a hole and of what is heard of any block
module _ (kind : PinKind) (codecs : List CodecState) (tag word : ℕ) (layout : Layout) (known : layout_of word ≡ Some layout) (from : ℕ) (world : World) (steady : Steady codecs tag word (block_size layout) from world) (address pin : ℕ)
    (signal : Signal) (is : signal_with_as kind (codec_at address codecs) tag word (Some layout) pin ≡ signal) (Holds : Heard → Type 0) (hole : Holds Hole) (blocks_hold : (block : List ℕ) → Holds (item_of layout signal block)) where
  each_item : (bs : List (List ℕ)) → All Holds (map (item_of layout signal) bs)
  each_item [] = All-nil Holds
  each_item (b ∷ bs) = All-cons Holds (item_of layout signal b) (map (item_of layout signal) bs) (blocks_hold b) (each_item bs)

  each_carried : (carriage : Carriage) → All Holds (heard_in (Some layout) signal carriage)
  each_carried Missed = All-cons Holds Hole [] hole (All-nil Holds)
  each_carried (Sent bytes) = each_item (blocks (block_size layout) bytes)

  each_frame : (frames : List CarriedFrame) → All (IsSteadyFrame codecs tag word (block_size layout)) frames → All Holds (heard_as kind address pin frames)
  each_frame [] all = All-nil Holds
  each_frame (frame ∷ frames) all =
      let here = All-head (IsSteadyFrame codecs tag word (block_size layout)) frame frames all in
      All-append Holds (frame_items_as kind address pin frame) (heard_as kind address pin frames)
      (subst (All Holds) (sym (frame_is kind codecs tag word layout known address pin signal frame here is)) (each_carried frame.carriage))
      (each_frame frames (All-tail (IsSteadyFrame codecs tag word (block_size layout)) frame frames all))

  pub each_heard : All Holds (heard_as kind address pin (drop from world.carried))
  each_heard = each_frame (drop from world.carried) steady.frames
