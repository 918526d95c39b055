-- The device keeps what is steady.
use Rattle.std.proofs.Common.{◌≡◌, ◌≤◌, ◌*◌, ◌==◌, ℕ, Bool, true, false, not, List, [], ◌∷◌, ◌++◌, length, take, drop, Option, Some, refl, sym, ap, ap₂, subst, ◌∙◌, arith, if◌then◌else◌, length-append, length-drop}
use Rattle.std.specs.Prelude.{All}
use Rattle.std.proofs.lemmas.List.{length-take-le, drop-append-le}
use Rattle.std.proofs.lemmas.List.Elements.{All-push}
use Rattle.codec_graph.specs.declared.raw.RawCodec.{RawCodec}
use Rattle.codec_graph.specs.CodecStates.{CodecState, plugged, without_first, without_answer}
use Rattle.codec_graph.specs.Settings.{Entries}
use Rattle.hda_registers.specs.Fields.{Fields, Global, Descriptor, is_out_of_reset}
use Rattle.stream_format.specs.Layouts.{Layout, layout_of}
use Rattle.stream_format.specs.Cadence.{blocks_of}
use Rattle.world_streams.specs.Streams.{Stream, due, due_by, held, held_bytes}
use Rattle.world_streams.specs.Output.{Carriage, Sent, Missed}
use Rattle.world_steps.specs.declared.Step.{Step}
use Rattle.codec_graph.proofs.Callers.{graph-plugged, settings-plugged}
use Rattle.world_rings.proofs.Callers.{batch_registers, none_fetched}
use Rattle.hda_world.specs.Worlds.{World, CarriedFrame, with_codec, output_of}
use Rattle.hda_world.specs.Steps.{passed, after_steps}
use Rattle.hda_world.specs.Kept.{Kept, KeptByFrames, unmoved}
use Rattle.hda_world.specs.Streaming.{bytes_of}
use Rattle.hda_world.proofs.Callers.{kept_steps, frames_after, passed_global, by_moves}
use Rattle.heard_frames.specs.HeardLists.{block_size}
use Rattle.laws_hearing.specs.Steady.{settings_of, IsSteadyFrame, SteadyBy, Steady}

-- ---- codecs

abbrev pair_of : CodecState → RawCodec × Entries
pair_of codec = (codec.graph, codec.settings)

-- a change of one codec that keeps its graph and settings keeps those of all
pub settings_with : (address : ℕ) (change : CodecState → CodecState) → ((codec : CodecState) → (change codec).graph ≡ codec.graph) → ((codec : CodecState) → (change codec).settings ≡ codec.settings)
    → (codecs : List CodecState) → settings_of (with_codec address change codecs) ≡ settings_of codecs
settings_with address change graph settings [] = refl
settings_with address change graph settings (codec ∷ codecs) =
    ap₂ (λ (one : RawCodec × Entries) (more : List (RawCodec × Entries)). one ∷ more) (first (codec.graph.address == address)) (settings_with address change graph settings codecs) where
      first : (named : Bool) → pair_of (if named then change codec else codec) ≡ pair_of codec
      first true = ap₂ (λ (g : RawCodec) (s : Entries). let pair : RawCodec × Entries = (g, s) in pair) (graph codec) (settings codec)
      first false = refl

-- ---- link frames

module _ (codecs : List CodecState) (tag word : ℕ) (layout : Layout) (from : ℕ) (known : layout_of word ≡ Some layout) where
  abbrev Holds : World → Type 0
  Holds = Steady codecs tag word (block_size layout) from

  passed_kept : (world : World) → Holds world → Holds (passed world)
  passed_kept world steady =
      subst (λ (global : Global). SteadyBy codecs tag word (block_size layout) from world.codecs global.corb_read_pointer global.corb_write_pointer world.registers.output world.carried) (sym (passed_global world)) steady

  -- one link frame more
  frame_more : (now : List CodecState) (read write : ℕ) (output output' : Descriptor) (carried : List CarriedFrame) (frame : CarriedFrame) → output'.tag ≡ output.tag → output'.format ≡ output.format
      → IsSteadyFrame codecs tag word (block_size layout) frame → SteadyBy codecs tag word (block_size layout) from now read write output carried
      → SteadyBy codecs tag word (block_size layout) from now read write output' (carried ++ frame ∷ [])
  frame_more now read write output output' carried frame same_tag same_word is steady = record {
    settings = steady.settings;
    idle = steady.idle;
    tag_is = same_tag ∙ steady.tag_is;
    word_is = same_word ∙ steady.word_is;
    begun = let begun = steady.begun in let long = length-append carried (frame ∷ []) in omega (arith, begun, long);
    frames = subst (All (IsSteadyFrame codecs tag word (block_size layout))) (sym (drop-append-le from carried (frame ∷ []) steady.begun))
        (All-push (IsSteadyFrame codecs tag word (block_size layout)) (drop from carried) frame steady.frames is);
  }

  frame_of_now : (world : World) (carriage : Carriage) (blocks : ℕ) → length (bytes_of carriage) ≡ blocks * block_size layout → Holds world
      → IsSteadyFrame codecs tag word (block_size layout) (record { codecs = world.codecs; tag = world.registers.output.tag; format = world.registers.output.format; carriage = carriage })
  frame_of_now world carriage blocks whole steady = record { settings = steady.settings; tag_is = steady.tag_is; word_is = steady.word_is; blocks = blocks; whole = whole }

  due_whole : (stream : Stream) → stream.descriptor.format ≡ word → due stream ≡ blocks_of layout.rate stream.state.frame * block_size layout
  due_whole stream is = ap (λ w. due_by (layout_of w) stream.state.frame) is ∙ ap (λ (of : Option Layout). due_by of stream.state.frame) known

  sent_whole : (world : World) → Holds world → due (output_of world) ≤ held world.output → length (take (due (output_of world)) (held_bytes world.output)) ≡ blocks_of layout.rate world.output.frame * block_size layout
  sent_whole world steady enough =
      length-take-le (due (output_of world)) (held_bytes world.output) (let rest = length-drop world.output.left world.output.entered in omega (arith, rest, enough)) ∙ due_whole (output_of world) steady.word_is

  frames_kept : KeptByFrames Holds unmoved
  frames_kept = record {
    gaps = λ world steady can none. frame_more world.codecs _ _ world.registers.output _ world.carried _ refl refl (frame_of_now world (Sent []) 0 (omega arith) steady) steady;
    sends = λ world steady can some enough. frame_more world.codecs _ _ world.registers.output _ world.carried _ refl refl (frame_of_now world (Sent (take (due (output_of world)) (held_bytes world.output))) (blocks_of layout.rate world.output.frame) (sent_whole world steady enough) steady) steady;
    misses = λ world steady can short. frame_more world.codecs _ _ world.registers.output _ world.carried _ refl refl (frame_of_now world Missed 0 (omega arith) steady) steady;
    stops = λ world steady must. record { settings = steady.settings; idle = steady.idle; tag_is = steady.tag_is; word_is = steady.word_is; begun = steady.begun; frames = steady.frames };
  }

  with_settings : (world : World) (codecs' : List CodecState) → settings_of codecs' ≡ settings_of world.codecs → Holds world
      → SteadyBy codecs tag word (block_size layout) from codecs' world.registers.global.corb_read_pointer world.registers.global.corb_write_pointer world.registers.output world.carried
  with_settings world codecs' same steady = record { settings = same ∙ steady.settings; idle = steady.idle; tag_is = steady.tag_is; word_is = steady.word_is; begun = steady.begun; frames = steady.frames }

  pub steady_kept : Kept Holds
  steady_kept = record {
    codecs = record {
      hands = λ world steady can free.
          none_fetched (is_out_of_reset world.registers.global) (world.registers.global.corb_run == 1) (not (world.registers.global.corb_pointer_reset == 1)) world.registers.global.corb_read_pointer world.registers.global.corb_write_pointer steady.idle can;
      sends = λ world address item rest steady out room are. with_settings world _ (settings_with address without_first (λ codec. refl) (λ codec. refl) world.codecs) steady;
      loses = λ world address steady out. with_settings world _ (settings_with address without_answer (λ codec. refl) (λ codec. refl) world.codecs) steady;
      plugs = λ world address nid present steady.
          with_settings world _ (settings_with address (λ codec. plugged codec nid present) (graph-plugged nid present) (settings-plugged nid present) world.codecs) steady;
    };
    responds = λ world response rest steady can are.
        subst (λ (fields : Fields). SteadyBy codecs tag word (block_size layout) from world.codecs fields.global.corb_read_pointer fields.global.corb_write_pointer fields.output world.carried) (sym (batch_registers response rest world.registers)) steady;
    bytes = record {
      comes = λ world steady can room good is. record { settings = steady.settings; idle = steady.idle; tag_is = steady.tag_is; word_is = steady.word_is; begun = steady.begun; frames = steady.frames };
      ends = λ world steady can room good is. record { settings = steady.settings; idle = steady.idle; tag_is = steady.tag_is; word_is = steady.word_is; begun = steady.begun; frames = steady.frames };
      breaks = λ world steady can room bad. record { settings = steady.settings; idle = steady.idle; tag_is = steady.tag_is; word_is = steady.word_is; begun = steady.begun; frames = steady.frames };
      refuses = λ world steady must. record { settings = steady.settings; idle = steady.idle; tag_is = steady.tag_is; word_is = steady.word_is; begun = steady.begun; frames = steady.frames };
    };
    input = by_moves Holds (λ world change steady moves. record { settings = steady.settings; idle = steady.idle; tag_is = steady.tag_is; word_is = steady.word_is; begun = steady.begun; frames = steady.frames });
    passes = λ world steady out still. passed_kept world steady;
    frames = frames_after Holds (λ world steady out. passed_kept world steady) frames_kept;
  }

  pub steps_steady : (steps : List Step) (world : World) → Holds world → Holds (after_steps steps world)
  steps_steady steps world steady = kept_steps Holds steady_kept steps world steady
