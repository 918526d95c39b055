-- Link frames go on to carry whole blocks of a stream.
use Rattle.std.proofs.Common.{◌≡◌, ◌≤◌, ◌*◌, ℕ, List, [], ◌∷◌, ◌++◌, length, take, drop, Option, Some, refl, sym, ap, subst, ◌∙◌, arith, length-append, length-drop}
use Rattle.std.specs.Prelude.{All}
use Rattle.std.proofs.lemmas.List.{length-take-le, drop-append-le, drop_all}
use Rattle.std.proofs.lemmas.List.Elements.{All-push, All-head, All-tail, All-weaker}
use Rattle.codec_graph.specs.CodecStates.{CodecState}
use Rattle.hda_registers.specs.Fields.{Fields, Descriptor}
use Rattle.hda_registers.specs.declared.shapes.Width.{Width}
use Rattle.hda_registers.proofs.Callers.{keeps-reset, keeps-left}
use Rattle.stream_format.specs.Layouts.{Layout, layout, layout_of}
use Rattle.stream_format.specs.Words.{format_word}
use Rattle.stream_format.specs.Cadence.{blocks_of}
use Rattle.world_streams.specs.Streams.{Stream, due, due_by, held, held_bytes}
use Rattle.world_streams.specs.Output.{Carriage, Sent, Missed}
use Rattle.world_steps.specs.declared.Step.{Step}
use Rattle.world_rings.proofs.Callers.{batch_registers}
use Rattle.hda_world.specs.Worlds.{World, CarriedFrame, output_of}
use Rattle.hda_world.specs.Steps.{after_steps}
use Rattle.hda_world.specs.Events.{Event, Stepped, Begin, End, Read, Write, DmaRead, DmaWrite, happens, after, after_write}
use Rattle.hda_world.specs.Kept.{Kept, KeptByFrames, unmoved}
use Rattle.hda_world.specs.Streaming.{bytes_of, HasSent}
use Rattle.hda_world.proofs.Callers.{kept_step, kept_steps, frames_after, by_moves, plain_write, keeps_sent, write_keeps_order}
use Rattle.heard_frames.specs.HeardLists.{block_size}
use Rattle.period_writer.specs.Runs.{Tally}
use Rattle.period_writer.specs.Standing.{Ring}
use Rattle.period_writer.specs.Owning.{IsPlaying}
use Rattle.laws_hearing.specs.Steady.{IsSteadyFrame, Steady}
use Rattle.laws_hearing.specs.Streams.{IsStreamFrame, StreamsBy, Streams, LeavesStream}
use Rattle.laws_hearing.proofs.SteadyEvents.{written_keeps}
use Rattle.laws_hearing.proofs.StartedSteady.{all_none}

-- ---- the device

module _ (tag word : ℕ) (layout : Layout) (from : ℕ) (known : layout_of word ≡ Some layout) where
  abbrev Holds : World → Type 0
  Holds = Streams tag word (block_size layout) from

  frame_more : (output output' : Descriptor) (carried : List CarriedFrame) (frame : CarriedFrame) → output'.tag ≡ output.tag → output'.format ≡ output.format → IsStreamFrame tag word (block_size layout) frame
      → StreamsBy tag word (block_size layout) from output carried → StreamsBy tag word (block_size layout) from output' (carried ++ frame ∷ [])
  frame_more output output' carried frame same_tag same_word is streams = record {
    tag_is = same_tag ∙ streams.tag_is;
    word_is = same_word ∙ streams.word_is;
    begun = let begun = streams.begun in let long = length-append carried (frame ∷ []) in omega (arith, begun, long);
    frames = subst (All (IsStreamFrame tag word (block_size layout))) (sym (drop-append-le from carried (frame ∷ []) streams.begun))
        (All-push (IsStreamFrame tag word (block_size layout)) (drop from carried) frame streams.frames is);
  }

  frame_of_now : (world : World) (carriage : Carriage) (blocks : ℕ) → length (bytes_of carriage) ≡ blocks * block_size layout → Holds world
      → IsStreamFrame tag word (block_size layout) (record { codecs = world.codecs; tag = world.registers.output.tag; format = world.registers.output.format; carriage = carriage })
  frame_of_now world carriage blocks whole streams = record { tag_is = streams.tag_is; word_is = streams.word_is; blocks = blocks; whole = whole }

  due_whole : (stream : Stream) → stream.descriptor.format ≡ word → due stream ≡ blocks_of layout.rate stream.state.frame * block_size layout
  due_whole stream is = ap (λ w. due_by (layout_of w) stream.state.frame) is ∙ ap (λ (of : Option Layout). due_by of stream.state.frame) known

  sent_whole : (world : World) → Holds world → due (output_of world) ≤ held world.output → length (take (due (output_of world)) (held_bytes world.output)) ≡ blocks_of layout.rate world.output.frame * block_size layout
  sent_whole world streams enough =
      length-take-le (due (output_of world)) (held_bytes world.output) (let rest = length-drop world.output.left world.output.entered in omega (arith, rest, enough)) ∙ due_whole (output_of world) streams.word_is

  same_stream : (output output' : Descriptor) (carried : List CarriedFrame) → output'.tag ≡ output.tag → output'.format ≡ output.format → StreamsBy tag word (block_size layout) from output carried
      → StreamsBy tag word (block_size layout) from output' carried
  same_stream output output' carried same_tag same_word streams = record {
    tag_is = same_tag ∙ streams.tag_is;
    word_is = same_word ∙ streams.word_is;
    begun = streams.begun;
    frames = streams.frames;
  }

  frames_kept : KeptByFrames Holds unmoved
  frames_kept = record {
    gaps = λ world streams can none. frame_more world.registers.output _ world.carried _ refl refl (frame_of_now world (Sent []) 0 (omega arith) streams) streams;
    sends = λ world streams can some enough.
        frame_more world.registers.output _ world.carried _ refl refl (frame_of_now world (Sent (take (due (output_of world)) (held_bytes world.output))) (blocks_of layout.rate world.output.frame) (sent_whole world streams enough) streams) streams;
    misses = λ world streams can short. frame_more world.registers.output _ world.carried _ refl refl (frame_of_now world Missed 0 (omega arith) streams) streams;
    stops = λ world streams must. same_stream world.registers.output _ world.carried refl refl streams;
  }

  pub streams_kept : Kept Holds
  streams_kept = record {
    codecs = record {
      hands = λ world streams can free. streams;
      sends = λ world address item rest streams out room are. streams;
      loses = λ world address streams out. streams;
      plugs = λ world address nid present streams. streams;
    };
    responds = λ world response rest streams can are. subst (λ (fields : Fields). StreamsBy tag word (block_size layout) from fields.output world.carried) (sym (batch_registers response rest world.registers)) streams;
    bytes = record {
      comes = λ world streams can room good is. same_stream world.registers.output _ world.carried refl refl streams;
      ends = λ world streams can room good is. same_stream world.registers.output _ world.carried refl refl streams;
      breaks = λ world streams can room bad. same_stream world.registers.output _ world.carried refl refl streams;
      refuses = λ world streams must. same_stream world.registers.output _ world.carried refl refl streams;
    };
    input = by_moves Holds (λ world change streams moves. streams);
    passes = λ world streams out still. streams;
    frames = frames_after Holds (λ world streams out. streams) frames_kept;
  }

  pub steps_stream : (steps : List Step) (world : World) → Holds world → Holds (after_steps steps world)
  steps_stream steps world streams = kept_steps Holds streams_kept steps world streams

  -- ---- all events

  write_streams : (world : World) (at value : ℕ) (width : Width) → LeavesStream (Write at width value) → Holds world → Holds (after_write at width value world)
  write_streams world at value width (control, beside) streams =
      let plain = plain_write world at value width (keeps-reset world.registers at width value control) (keeps-left world.registers at width value control) in
      let keeps = written_keeps world.registers at value width control beside in
      record {
        tag_is = ap (λ (w : World). w.registers.output.tag) plain ∙ keeps.tag ∙ streams.tag_is;
        word_is = ap (λ (w : World). w.registers.output.format) plain ∙ keeps.format ∙ streams.word_is;
        begun = subst (λ (w : World). from ≤ length w.carried) (sym plain) streams.begun;
        frames = subst (λ (w : World). All (IsStreamFrame tag word (block_size layout)) (drop from w.carried)) (sym plain) streams.frames;
      }

  event_streams : (event : Event) (world : World) → LeavesStream event → Holds world → Holds (happens world event)
  event_streams (Stepped step) world leaves streams = kept_step Holds streams_kept step world streams
  event_streams Begin world leaves streams = streams
  event_streams End world leaves streams = streams
  event_streams (Read at width value) world leaves streams = streams
  event_streams (Write at width value) world leaves streams = write_streams world at value width leaves streams
  event_streams (DmaRead at bytes) world leaves streams = streams
  event_streams (DmaWrite at bytes) world leaves streams = streams

  pub events_stream : (events : List Event) (world : World) → All LeavesStream events → Holds world → Holds (after events world)
  events_stream [] world all streams = streams
  events_stream (event ∷ events) world all streams =
      events_stream events (happens world event) (All-tail LeavesStream event events all) (event_streams event world (All-head LeavesStream event events all) streams)

-- ---- what was sent

module _ (from : ℕ) where
  sent_on : (event : Event) (world : World) → LeavesStream event → HasSent from world → HasSent from (happens world event)
  sent_on (Stepped step) world leaves sent = kept_step (HasSent from) (keeps_sent from) step world sent
  sent_on Begin world leaves sent = sent
  sent_on End world leaves sent = sent
  sent_on (Read at width value) world leaves sent = sent
  sent_on (Write at width value) world (control, beside) sent =
      write_keeps_order world at value width from (written_keeps world.registers at value width control beside).still sent
  sent_on (DmaRead at bytes) world leaves sent = sent
  sent_on (DmaWrite at bytes) world leaves sent = sent

  pub events_send : (events : List Event) (world : World) → All LeavesStream events → HasSent from world → HasSent from (after events world)
  events_send [] world all sent = sent
  events_send (event ∷ events) world all sent =
      events_send events (happens world event) (All-tail LeavesStream event events all) (sent_on event world (All-head LeavesStream event events all) sent)

-- ---- where they begin

pub streams_at_first : (ring : Ring) (pcm : List ℕ) (tally : Tally) (world : World) → IsPlaying ring pcm tally world
    → Streams 1 (format_word ring.geometry.format) (block_size (layout ring.geometry.format)) (length world.carried) world
streams_at_first ring pcm tally world playing = record {
  tag_is = playing.stands.set.tag;
  word_is = playing.stands.set.format_is;
  begun = omega arith;
  frames = all_none (IsStreamFrame 1 (format_word ring.geometry.format) (block_size (layout ring.geometry.format))) (drop (length world.carried) world.carried)
      (drop_all (length world.carried) world.carried (omega arith));
}

-- a steady stream is one
pub steady_streams : (codecs : List CodecState) (tag word block from : ℕ) (world : World) → Steady codecs tag word block from world → Streams tag word block from world
steady_streams codecs tag word block from world steady = record {
  tag_is = steady.tag_is;
  word_is = steady.word_is;
  begun = steady.begun;
  frames = All-weaker (IsSteadyFrame codecs tag word block) (IsStreamFrame tag word block) (λ frame is. record { tag_is = is.tag_is; word_is = is.word_is; blocks = is.blocks; whole = is.whole })
      (drop from world.carried) steady.frames;
}
