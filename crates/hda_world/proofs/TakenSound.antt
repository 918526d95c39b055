-- What was taken is the given sound while the converter hears a pin.
use Rattle.std.proofs.Common.{◌≡◌, ◌+◌, ◌==◌, not, ℕ, zero, suc, Bool, true, false, List, [], ◌∷◌, ◌++◌, length, Option, Some, if◌then◌else◌, refl, sym, ap, ap₂, subst, ◌∙◌, arith, length-append}
use Rattle.std.proofs.lemmas.Bool.{false≢true}
use Rattle.std.proofs.lemmas.List.FromFn.{length-map-range_with_len}
use Rattle.codec_graph.specs.declared.raw.RawCodec.{RawCodec}
use Rattle.codec_graph.specs.Settings.{Entries}
use Rattle.codec_graph.specs.CodecStates.{CodecState, plugged, without_first, without_answer}
use Rattle.codec_graph.proofs.Callers.{graph-plugged, settings-plugged}
use Rattle.codec_sound.specs.declared.in_heard.InHeard.{InHeard}
use Rattle.codec_sound.specs.declared.in_heard.InHeard.TheVariants.{Pin}
use Rattle.hda_registers.specs.Fields.{Descriptor, Fields, Global, is_out_of_reset, is_running}
use Rattle.stream_format.specs.Cadence.{blocks_of, bytes_of_block}
use Rattle.stream_format.specs.Layouts.{Layout, layout_of}
use Rattle.world_rings.proofs.Callers.{batch_registers, none_fetched}
use Rattle.world_streams.specs.Streams.{StreamState}
use Rattle.world_streams.specs.Input.{given_block, given_blocks, kept_by_marks, marks_of, marks_after, entered_after, frame_took}
use Rattle.world_streams.proofs.Callers.{marks-length, entered-marks}
use Rattle.world_steps.specs.declared.Step.{Step}
use Rattle.hda_world.specs.Worlds.{World, with_codec, input_of}
use Rattle.hda_world.specs.Arriving.{brought_by_codec, brought_by, brought_alone, listened, due_blocks, arriving}
use Rattle.hda_world.specs.Steps.{passed, after_steps}
use Rattle.hda_world.specs.Kept.{Kept}
use Rattle.hda_world.specs.Streaming.{taken_sound, HearsPin, HasFetchedAll, HasTakenSound}
use Rattle.hda_world.proofs.Passing.{passed_global}
use Rattle.hda_world.proofs.Stepping.{kept_steps, frames_after}
use Rattle.hda_world.proofs.Taking.{entered_took, format_took, kept-append}

-- ---- what is heard depends on graphs and settings alone

module _ (tag word address : ℕ) (change : CodecState → CodecState) (graphs : (codec : CodecState) → (change codec).graph ≡ codec.graph) (settings : (codec : CodecState) → (change codec).settings ≡ codec.settings) where
  brought_one : (named : Bool) (codec : CodecState) → brought_by_codec tag word (if named then change codec else codec) ≡ brought_by_codec tag word codec
  brought_one true codec =
      ap₂ (λ (graph : RawCodec) (settings : Entries). brought_by_codec tag word (record codec { graph = graph; settings = settings })) (graphs codec) (settings codec)
  brought_one false codec = refl

  brought_same : (codecs : List CodecState) → brought_by tag word (with_codec address change codecs) ≡ brought_by tag word codecs
  brought_same [] = refl
  brought_same (codec ∷ codecs) =
      ap₂ (λ (first rest : List InHeard). first ++ rest) (brought_one (codec.graph.address == address) codec) (brought_same codecs)

  heard_same : (codecs : List CodecState) → listened tag word (with_codec address change codecs) ≡ listened tag word codecs
  unfolding listened
  heard_same codecs = ap brought_alone (brought_same codecs)

-- ---- the blocks of a sound in two rows

given-append : (size : ℕ) (sound : List ℕ) (from m n : ℕ) → given_blocks size sound from (m + n) ≡ given_blocks size sound from m ++ given_blocks size sound (from + m) n
given-append size sound from zero n =
    let all : 0 + n ≡ n = omega arith in
    let start : from + 0 ≡ from = omega arith in
    ap (given_blocks size sound from) all ∙ ap (λ (from : ℕ). given_blocks size sound from n) (sym start)
given-append size sound from (suc m) n =
    let more : suc m + n ≡ suc (m + n) = omega arith in
    let start : from + 1 + m ≡ from + suc m = omega arith in
    ap (given_blocks size sound from) more
    ∙ ap (λ (blocks : List (List ℕ)). given_block size sound from ∷ blocks) (given-append size sound (from + 1) m n)
    ∙ ap (λ (from' : ℕ). (given_block size sound from ∷ given_blocks size sound (from + 1) m) ++ given_blocks size sound from' n) start

-- the next blocks of the sound come
sound_on : (fifo left size : ℕ) (entered sound : List ℕ) (came : List Bool) (count : ℕ) → entered ≡ taken_sound size sound came
    → entered_after fifo left entered (given_blocks size sound (length came) count) ≡ taken_sound size sound (came ++ marks_after fifo left entered (given_blocks size sound (length came) count))
sound_on fifo left size entered sound came count is =
    let blocks = given_blocks size sound (length came) count in
    let marks = marks_after fifo left entered (given_blocks size sound (length came) count) in
    let one = length-append came (marks_after fifo left entered (given_blocks size sound (length came) count)) in
    let marked = marks-length fifo left entered (given_blocks size sound (length came) count) in
    let counted : length (given_blocks size sound (length came) count) ≡ count = length-map-range_with_len (given_block size sound) (length came) count in
    let long : length (came ++ marks_after fifo left entered (given_blocks size sound (length came) count)) ≡ length came + count = omega (arith, one, marked, counted) in
    let front : length (given_blocks size sound 0 (length came)) ≡ length came = length-map-range_with_len (given_block size sound) 0 (length came) in
    let start : 0 + length came ≡ length came = omega arith in
    entered-marks fifo left entered blocks
    ∙ ap (λ (front : List ℕ). front ++ kept_by_marks marks blocks) is
    ∙ sym (kept-append came marks (given_blocks size sound 0 (length came)) blocks front)
    ∙ ap (λ (from : ℕ). kept_by_marks (came ++ marks) (given_blocks size sound 0 (length came) ++ given_blocks size sound from count)) (sym start)
    ∙ ap (kept_by_marks (came ++ marks)) (sym (given-append size sound 0 (length came) count))
    ∙ ap (λ (n : ℕ). kept_by_marks (came ++ marks) (given_blocks size sound 0 n)) (sym long)

-- ---- what is kept

record SoundBy (nid read write : ℕ) (input : Descriptor) (state : StreamState) (codecs : List CodecState) (given : List ℕ) (came : List Bool) : Type 0 where
  idle : read ≡ write
  hears : listened input.tag input.format codecs ≡ Some (Pin nid)
  sound : is_running input ≡ true → (layout : Layout) → layout_of input.format ≡ Some layout → state.entered ≡ taken_sound (bytes_of_block layout.channels layout.bits) given came

abbrev Sound : ℕ → World → Type 0
Sound nid world =
    SoundBy nid world.registers.global.corb_read_pointer world.registers.global.corb_write_pointer world.registers.input world.input world.codecs world.given world.came

module _ (nid : ℕ) where
  -- codecs keep their graphs and settings
  changed : (world : World) (address : ℕ) (change : CodecState → CodecState) → ((codec : CodecState) → (change codec).graph ≡ codec.graph) → ((codec : CodecState) → (change codec).settings ≡ codec.settings) → Sound nid world
      → SoundBy nid world.registers.global.corb_read_pointer world.registers.global.corb_write_pointer world.registers.input world.input (with_codec address change world.codecs) world.given world.came
  changed world address change graphs settings holds = record {
    idle = holds.idle;
    hears = heard_same world.registers.input.tag world.registers.input.format address change graphs settings world.codecs ∙ holds.hears;
    sound = holds.sound;
  }

  passes : (world : World) → Sound nid world → Sound nid (passed world)
  passes world holds =
      subst (λ (g : Global). SoundBy nid g.corb_read_pointer g.corb_write_pointer world.registers.input world.input world.codecs world.given world.came) (sym (passed_global world)) holds

  -- blocks come
  tag_took : (fifo : ℕ) (blocks : List (List ℕ)) (world : World) → (frame_took fifo blocks (input_of world)).descriptor.tag ≡ world.registers.input.tag
  tag_took fifo [] world = refl
  tag_took fifo (block ∷ blocks) world = refl

  blocks_are : (world : World) (layout : Layout) → Sound nid world → layout_of world.registers.input.format ≡ Some layout
      → arriving world ≡ given_blocks (bytes_of_block layout.channels layout.bits) world.given (length world.came) (blocks_of layout.rate world.input.frame)
  blocks_are world layout holds found =
      ap₂ (λ (heard : Option InHeard) (layout : Option Layout). due_blocks heard layout world.given (length world.came) world.input.frame) holds.hears found

  takes : (world : World) → is_running world.registers.input ≡ true → Sound nid world
      → let took = frame_took world.registers.shape.fifo (arriving world) (input_of world) in
      SoundBy nid world.registers.global.corb_read_pointer world.registers.global.corb_write_pointer took.descriptor took.state world.codecs world.given (world.came ++ marks_of world.registers.shape.fifo (arriving world) (input_of world))
  takes world ran holds =
      let fifo = world.registers.shape.fifo in
      let blocks = arriving world in
      record {
        idle = holds.idle;
        hears = ap₂ (λ (tag word : ℕ). listened tag word world.codecs) (tag_took fifo blocks world) (format_took fifo blocks (input_of world)) ∙ holds.hears;
        sound = λ runs layout found.
            let is : layout_of world.registers.input.format ≡ Some layout = ap layout_of (sym (format_took fifo blocks (input_of world))) ∙ found in
            let size = bytes_of_block layout.channels layout.bits in
            entered_took fifo blocks (input_of world)
            ∙ subst (λ (blocks : List (List ℕ)). entered_after world.registers.shape.fifo world.input.left world.input.entered blocks
            ≡ taken_sound (bytes_of_block layout.channels layout.bits) world.given (world.came ++ marks_after world.registers.shape.fifo world.input.left world.input.entered blocks)) (sym (blocks_are world layout holds is))
            (sound_on fifo world.input.left size world.input.entered world.given world.came (blocks_of layout.rate world.input.frame) (holds.sound ran layout is));
      }

  stops : (world : World) → Sound nid world
      → SoundBy nid world.registers.global.corb_read_pointer world.registers.global.corb_write_pointer (record world.registers.input { descriptor_error = 1; run = 0; fifo_ready = 0 }) world.input world.codecs world.given world.came
  stops world holds = record { idle = holds.idle; hears = holds.hears; sound = λ runs. absurd (false≢true runs) }

  sound_kept : Kept (Sound nid)
  sound_kept = record {
    codecs = record {
      hands = λ world holds can free.
          none_fetched (is_out_of_reset world.registers.global) (world.registers.global.corb_run == 1) (not (world.registers.global.corb_pointer_reset == 1)) world.registers.global.corb_read_pointer world.registers.global.corb_write_pointer holds.idle can;
      sends = λ world address item rest holds out room are. changed world address without_first (λ codec. refl) (λ codec. refl) holds;
      loses = λ world address holds out. changed world address without_answer (λ codec. refl) (λ codec. refl) holds;
      plugs = λ world address nid present holds. changed world address (λ codec. plugged codec nid present) (graph-plugged nid present) (settings-plugged nid present) holds;
    };
    responds = λ world response rest holds can are.
        subst (λ (f : Fields). SoundBy nid f.global.corb_read_pointer f.global.corb_write_pointer f.input world.input world.codecs world.given world.came) (sym (batch_registers response rest world.registers)) holds;
    bytes = record {
      comes = λ world holds can room good is. holds;
      ends = λ world holds can room good is. holds;
      breaks = λ world holds can room bad. holds;
      refuses = λ world holds must. holds;
    };
    input = record {
      stores = λ world holds can some good. record { idle = holds.idle; hears = holds.hears; sound = holds.sound };
      jams = λ world holds can some bad. stops world holds;
      takes = λ world holds can. takes world can.runs holds;
      refuses = λ world holds must. stops world holds;
    };
    passes = λ world holds out still. passes world holds;
    frames = frames_after (Sound nid) (λ world holds out. passes world holds) (record {
      gaps = λ world holds can none. holds;
      sends = λ world holds can some enough. holds;
      misses = λ world holds can short. holds;
      stops = λ world holds must. holds;
    });
  }

pub steps_keep_sound : (nid : ℕ) (steps : List Step) (world : World) → HasFetchedAll world → HearsPin nid world → HasTakenSound world
    → HasFetchedAll (after_steps steps world) × HearsPin nid (after_steps steps world) × HasTakenSound (after_steps steps world)
steps_keep_sound nid steps world idle hears sound =
    let kept = kept_steps (Sound nid) (sound_kept nid) steps world (record { idle = idle; hears = hears; sound = sound }) in
    (kept.idle, kept.hears, kept.sound)
