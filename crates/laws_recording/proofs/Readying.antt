-- What holds while the first run sets the stream going, before RUN rises: kept by every move of the device, and led on by
-- each access. At each of them the input stream lies apart from the engine's blocks.
use Rattle.std.proofs.Common.{◌≡◌, ◌≢◌, ◌≤◌, ◌<◌, ◌+◌, ◌-◌, ◌*◌, ◌/◌, ◌%◌, ◌^◌, ◌==◌, inl, inr, ℕ, Bool, true, false, List, [], ◌∷◌, length, if◌then◌else◌, refl, sym, ap, subst, ◌∙◌, bit_and, arith}
use Rattle.std.specs.Prelude.{slice_index}
use Rattle.std.proofs.lemmas.Bool.{false≢true}
use Rattle.std.proofs.Math.Nat.{mod-lt}
use Rattle.codec_graph.specs.CodecStates.{CodecState}
use Rattle.hda_registers.specs.declared.shapes.Shape.{Shape}
use Rattle.hda_registers.specs.declared.shapes.Width.{Width}
use Rattle.hda_registers.specs.declared.shapes.Width.TheVariants.{One, Two, Four}
use Rattle.hda_registers.specs.declared.shapes.Raise.TheVariants as event
use Rattle.hda_registers.specs.Fields.{Descriptor, Fields, reset_descriptor, entries_of, is_out_of_reset, is_running}
use Rattle.hda_registers.specs.Moves.{raised}
use Rattle.hda_registers.specs.Access.{written}
use Rattle.hda_registers.specs.Laws.{IsBesideRings}
use Rattle.hda_registers.proofs.Callers.{keeps-reset, keeps-left, some_entries}
use Rattle.world_rings.specs.declared.response.Response.{Response}
use Rattle.world_rings.specs.Entries.{response_bytes, response_place, response_stored}
use Rattle.world_rings.specs.Memory.{IsOutside, stored}
use Rattle.world_rings.proofs.Callers.{stored_outside}
use Rattle.stream_format.specs.Words.{format_word}
use Rattle.world_streams.specs.Streams.{begun, settled, settled_state}
use Rattle.hda_world.specs.Worlds.{World, input_of}
use Rattle.hda_world.specs.Steps.{discovered}
use Rattle.hda_world.specs.Events.{Event, Write, IsHonest, happens, registers_written, settled_came}
use Rattle.hda_world.specs.Kept.{Kept}
use Rattle.hda_world.proofs.Callers.{kept_singly, by_stopped, plain_write, settled_same}
use Rattle.period_writer.specs.Rings.{list_bytes}
use Rattle.period_writer.specs.Starting.{entry_bytes, entry_write}
use Rattle.period_writer.specs.Standing.{Ring, IsRing, AreBesideRirb, bytes_in, size_of}
use Rattle.period_writer.proofs.Callers.{HasEntries, entries_stay, entry_more, outside_rirb, settled_reset}
use Rattle.command_engine.specs.Blocks.{corb_bytes, rirb_bytes}
use Rattle.command_engine.specs.Apart.{StaysApart}
use Rattle.command_engine.specs.Fetchings.{IsBeside, IsBesideBlock}
use Rattle.command_engine.proofs.Callers.{stopped_apart}
use Rattle.laws_recording.specs.Beside.{LiesBesideEngine}
use Rattle.laws_recording.proofs.EndedStays.{write-stop}
use Rattle.laws_recording.proofs.InputWrites.{write-input_reset, write-input_tag, write-input_run, write-input_length, write-input_last, write-input_format, write-input_list, write-input_interrupts}

-- ---- what holds

-- the controller is out of reset, RIRB lies outside the ring, so many entries of its list stand, WALCLK counts the link frames, of
-- which at least so many passed, and the input's descriptor is just this one
pub record ReadiesBy (ring : Ring) (since entries : ℕ) (is : Descriptor) (memory : List ℕ) (reset clock rirb_base : ℕ) (shape : Shape) (input : Descriptor) (frames : ℕ) : Type 0 where
  pub out : (reset == 1) ≡ true
  pub clock_is : clock ≡ (500 * frames) % 2 ^ 32
  pub fifo : shape.fifo ≡ ring.geometry.fifo
  pub since_before : since ≤ frames
  pub ring_is : IsRing ring (length memory)
  pub beside : AreBesideRirb ring rirb_base shape
  pub few : entries ≤ ring.geometry.periods
  pub list : HasEntries ring entries memory
  pub input_is : input ≡ is

abbrev pub Readies : Ring → (since entries : ℕ) → Descriptor → World → Type 0
Readies ring since entries is world =
    ReadiesBy ring since entries is world.memory world.registers.global.controller_reset world.registers.global.wall_clock world.registers.global.rirb_base
    world.registers.shape world.registers.input world.frames

-- what is asked of each event: it is beside the engine, wherever the engine's blocks lie beside the ring's
abbrev pub BesideEngine : Ring → World → Event → Type 0
BesideEngine ring world event = (corb rirb : ℕ) → LiesBesideEngine corb rirb ring → IsBeside corb rirb event × StaysApart corb rirb event world

tick_is : (clock frames : ℕ) → clock ≡ (500 * frames) % 2 ^ 32 → (clock + 500) % 2 ^ 32 ≡ (500 * (frames + 1)) % 2 ^ 32
tick_is clock frames is = omega (arith, is)

module _ (ring : Ring) where
  -- the memory changed
  memory_readies : (since entries entries' : ℕ) (is : Descriptor) (memory memory' : List ℕ) (reset clock rirb_base : ℕ) (shape : Shape) (input : Descriptor) (frames : ℕ)
      → ReadiesBy ring since entries is memory reset clock rirb_base shape input frames → length memory' ≡ length memory → entries' ≤ ring.geometry.periods → HasEntries ring entries' memory'
      → ReadiesBy ring since entries' is memory' reset clock rirb_base shape input frames
  memory_readies since entries entries' is memory memory' reset clock rirb_base shape input frames readies size few list = record {
    out = readies.out;
    clock_is = readies.clock_is;
    fifo = readies.fifo;
    since_before = readies.since_before;
    ring_is = subst (IsRing ring) (sym size) readies.ring_is;
    beside = readies.beside;
    few = few;
    list = list;
    input_is = readies.input_is;
  }

  -- a response is written outside the ring's blocks
  responded_readies : (since entries : ℕ) (is : Descriptor) (world : World) (response : Response) → Readies ring since entries is world
      → ReadiesBy ring since entries is (response_stored world.registers world.memory response) world.registers.global.controller_reset world.registers.global.wall_clock world.registers.global.rirb_base
      world.registers.shape world.registers.input world.frames
  responded_readies since entries is world response readies =
      let base = world.registers.global.rirb_base in
      let place = response_place world.registers in
      let stays = stored_outside (128 * base + 8 * place) (response_bytes response) world.memory in
      let long : length (response_bytes response) ≡ 8 = refl in
      let within : place < entries_of world.registers.shape.rirb = mod-lt _ (some_entries world.registers.shape.rirb) in
      let outside = λ (at : ℕ) (apart : IsOutside (128 * base + 8 * place) 8 at). stays.1 at (subst (λ (n : ℕ). IsOutside (128 * base + 8 * place) n at) (sym long) apart) in
      memory_readies since entries entries is world.memory (response_stored world.registers world.memory response) _ _ _ _ _ _ readies stays.0 readies.few
      (entries_stay ring entries world.memory _ readies.few (λ here small. outside (ring.list + here) (outside_rirb base place ring.list _ here world.registers.shape within readies.beside.list small)) readies.list)

  announced_readies : (since entries : ℕ) (is : Descriptor) (memory : List ℕ) (input : Descriptor) (shape : Shape) (frames : ℕ) (codecs : List CodecState) (fields : Fields)
      → ReadiesBy ring since entries is memory fields.global.controller_reset fields.global.wall_clock fields.global.rirb_base shape input frames
      → ReadiesBy ring since entries is memory (discovered codecs fields).global.controller_reset (discovered codecs fields).global.wall_clock (discovered codecs fields).global.rirb_base shape input frames
  announced_readies since entries is memory input shape frames [] fields readies = readies
  announced_readies since entries is memory input shape frames (codec ∷ codecs) fields readies =
      announced_readies since entries is memory input shape frames codecs (raised fields (event.Codec codec.graph.address)) readies

  ticked_readies : (since entries : ℕ) (is : Descriptor) (world : World) → Readies ring since entries is world → (test : Bool) → test ≡ true
      → ReadiesBy ring since entries is world.memory world.registers.global.controller_reset (if test then (world.registers.global.wall_clock + 500) % 2 ^ 32 else world.registers.global.wall_clock)
      world.registers.global.rirb_base world.registers.shape world.registers.input (world.frames + 1)
  ticked_readies since entries is world readies true on = record {
    out = readies.out;
    clock_is = tick_is _ _ readies.clock_is;
    fifo = readies.fifo;
    since_before = let before = readies.since_before in omega (arith, before);
    ring_is = readies.ring_is;
    beside = readies.beside;
    few = readies.few;
    list = readies.list;
    input_is = readies.input_is;
  }
  ticked_readies since entries is world readies false on = absurd (false≢true on)

  pub readies_kept : (since entries : ℕ) (is : Descriptor) → is_running is ≡ false → Kept (Readies ring since entries is)
  readies_kept since entries is still = kept_singly (Readies ring since entries is) (record {
    codecs = record {
      hands = λ world readies can free. readies;
      sends = λ world address item rest readies out room are. readies;
      loses = λ world address readies out. readies;
      plugs = λ world address nid present readies. readies;
    };
    writes = λ world response rest readies can are. responded_readies since entries is world response readies;
    flags = λ world readies can. readies;
    bytes = record {
      comes = λ world readies can room good ends. readies;
      ends = λ world readies can room good ends. readies;
      breaks = λ world readies can room bad. readies;
      refuses = λ world readies must. readies;
    };
    input = by_stopped (Readies ring since entries is) (λ world readies. ap is_running readies.input_is ∙ still);
    ticks = λ world readies out. ticked_readies since entries is world readies _ out;
    announces = λ world readies out now. announced_readies since entries is world.memory world.registers.input world.registers.shape world.frames world.codecs world.registers readies;
    frames = record {
      gaps = λ world readies can none. readies;
      sends = λ world readies can some enough. readies;
      misses = λ world readies can short. readies;
      stops = λ world readies must. readies;
    };
  })

-- ---- the input's descriptor, as it is set

abbrev pub set_to : (length last format base : ℕ) → Descriptor
set_to length last format base = record (reset_descriptor 0) { buffer_length = length; last_index = last; format = format; list_base = base }

abbrev pub tagged : Descriptor → Descriptor
tagged d = record d { completion_interrupt = 1; fifo_interrupt = 1; descriptor_interrupt = 1; tag = 1 }

abbrev pub running : Descriptor → Descriptor
running d = record (tagged d) { run = 1 }

-- the numbers that its registers take
abbrev pub length_in : Ring → ℕ
length_in ring = size_of ring % 2 ^ 32

abbrev pub last_in : Ring → ℕ
last_in ring = (ring.geometry.periods - 1) % 2 ^ 8

abbrev pub format_in : Ring → ℕ
format_in ring = format_word ring.geometry.format % 2 ^ 16

abbrev pub base_in : Ring → ℕ
base_in ring = ring.list % 2 ^ 32 / 2 ^ 7 % 2 ^ 25

abbrev pub as_set : Ring → Descriptor
as_set ring = set_to (length_in ring) (last_in ring) (format_in ring) (base_in ring)

-- ---- accesses

module _ (ring : Ring) (since : ℕ) where
  -- a write of a register leaves the registers so
  registers_so : (world : World) (at value : ℕ) (width : Width) (new : Fields) → at / 4 ≢ 2 → written world.registers at width value ≡ new → happens world (Write at width value) ≡ registers_written new world
  registers_so world at value width new apart is =
      plain_write world at value width (keeps-reset world.registers at width value apart) (keeps-left world.registers at width value apart) ∙ ap (λ (fields : Fields). registers_written fields world) is

  -- one that changes the input's descriptor alone
  input_changes : (entries at value : ℕ) (width : Width) (old new : Descriptor) (world : World) → at / 4 ≢ 2 → written world.registers at width value ≡ record world.registers { input = new } → settled world.registers.input new ≡ new
      → Readies ring since entries old world → Readies ring since entries new (happens world (Write at width value))
  input_changes entries at value width old new world apart is settles readies =
      subst (Readies ring since entries new) (sym (registers_so world at value width (record world.registers { input = new }) apart is))
      (subst (λ (d : Descriptor). ReadiesBy ring since entries new world.memory world.registers.global.controller_reset world.registers.global.wall_clock world.registers.global.rirb_base world.registers.shape d world.frames)
      (sym settles) (record {
        out = readies.out;
        clock_is = readies.clock_is;
        fifo = readies.fifo;
        since_before = readies.since_before;
        ring_is = readies.ring_is;
        beside = readies.beside;
        few = readies.few;
        list = readies.list;
        input_is = refl;
      }))

  -- where the input stream does not run it lies apart
  write_beside : (at value : ℕ) (width : Width) (new : Descriptor) (entries : ℕ) (world : World) → IsBesideRings at → is_running new ≡ false → Readies ring since entries new (happens world (Write at width value)) → BesideEngine ring world (Write at width value)
  write_beside at value width new entries world rings still after corb rirb lies =
      (rings, stopped_apart corb rirb (happens world (Write at width value)).memory (input_of (happens world (Write at width value))) (ap is_running after.input_is ∙ still))

  -- the input's descriptor rests before such a write and after it
  rests_on : (entries at value : ℕ) (width : Width) (old new : Descriptor) → at / 4 ≢ 2 → IsBesideRings at → is_running new ≡ false → settled old new ≡ new
      → ((fields : Fields) → is_out_of_reset fields.global ≡ true → fields.input ≡ old → written fields at width value ≡ record fields { input = new })
      → (world : World) → Readies ring since entries old world → IsHonest world (Write at width value)
      → BesideEngine ring world (Write at width value) × Readies ring since entries new (happens world (Write at width value))
  rests_on entries at value width old new apart rings still settles writes world readies honest =
      let is = writes world.registers readies.out readies.input_is in
      let after = input_changes entries at value width old new world apart is (ap (λ (d : Descriptor). settled d new) readies.input_is ∙ settles) readies in
      (write_beside at value width new entries world rings still after, after)

  abbrev Leads : (entries : ℕ) (old : Descriptor) (entries' : ℕ) (new : Descriptor) → Event → Type 0
  Leads entries old entries' new access = (world : World) → Readies ring since entries old world → IsHonest world access → BesideEngine ring world access × Readies ring since entries' new (happens world access)

  control_rings : IsBesideRings 0x80
  control_rings = record { control = inr (omega arith); rings = inr (omega arith) }

  -- the stream is reset, whatever it was
  pub resets : (d : Descriptor) → Leads 0 d 0 (reset_descriptor 1) (Write 0x80 One 1)
  resets d = rests_on 0 0x80 1 One d (reset_descriptor 1) (omega arith) control_rings refl (settled_reset d) (λ fields out is. write-input_reset fields out)

  pub readied : Leads 0 (reset_descriptor 1) 0 (reset_descriptor 0) (Write 0x80 One 0)
  readied = rests_on 0 0x80 0 One (reset_descriptor 1) (reset_descriptor 0) (omega arith) control_rings refl refl
      (λ fields out is. write-stop fields out ∙ ap (λ (d : Descriptor). record fields { input = record d { stream_reset = 0; run = 0; completion_interrupt = 0; fifo_interrupt = 0; descriptor_interrupt = 0 } }) is)

  -- ---- the registers, one by one

  pub sets_length : (entries : ℕ) → Leads entries (reset_descriptor 0) entries (set_to (length_in ring) 0 0 0) (Write 0x88 Four (size_of ring))
  sets_length entries = rests_on entries 0x88 (size_of ring) Four (reset_descriptor 0) (set_to (length_in ring) 0 0 0) (omega arith) (record { control = inr (omega arith); rings = inr (omega arith) }) refl refl
      (λ fields out is. write-input_length fields (size_of ring) out (ap (λ (d : Descriptor). d.run) is) ∙ ap (λ (d : Descriptor). record fields { input = record d { buffer_length = length_in ring } }) is)

  pub sets_last : (entries : ℕ) → Leads entries (set_to (length_in ring) 0 0 0) entries (set_to (length_in ring) (last_in ring) 0 0) (Write 0x8C Two (ring.geometry.periods - 1))
  sets_last entries = rests_on entries 0x8C (ring.geometry.periods - 1) Two (set_to (length_in ring) 0 0 0) (set_to (length_in ring) (last_in ring) 0 0) (omega arith) (record { control = inr (omega arith); rings = inr (omega arith) }) refl refl
      (λ fields out is. write-input_last fields (ring.geometry.periods - 1) out (ap (λ (d : Descriptor). d.run) is) ∙ ap (λ (d : Descriptor). record fields { input = record d { last_index = last_in ring } }) is)

  pub sets_format : (entries : ℕ) → Leads entries (set_to (length_in ring) (last_in ring) 0 0) entries (set_to (length_in ring) (last_in ring) (format_in ring) 0) (Write 0x92 Two (format_word ring.geometry.format))
  sets_format entries = rests_on entries 0x92 (format_word ring.geometry.format) Two (set_to (length_in ring) (last_in ring) 0 0) (set_to (length_in ring) (last_in ring) (format_in ring) 0) (omega arith) (record { control = inr (omega arith); rings = inr (omega arith) }) refl refl
      (λ fields out is. write-input_format fields (format_word ring.geometry.format) out (ap (λ (d : Descriptor). d.run) is) ∙ ap (λ (d : Descriptor). record fields { input = record d { format = format_in ring } }) is)

  pub sets_list : (entries : ℕ) → Leads entries (set_to (length_in ring) (last_in ring) (format_in ring) 0) entries (as_set ring) (Write 0x98 Four ring.list)
  sets_list entries = rests_on entries 0x98 ring.list Four (set_to (length_in ring) (last_in ring) (format_in ring) 0) (as_set ring) (omega arith) (record { control = inr (omega arith); rings = inr (omega arith) }) refl refl
      (λ fields out is. write-input_list fields ring.list out (ap (λ (d : Descriptor). d.run) is) ∙ ap (λ (d : Descriptor). record fields { input = record d { list_base = base_in ring } }) is)

  pub sets_tag : (entries : ℕ) → Leads entries (as_set ring) entries (tagged (as_set ring)) (Write 0x80 Four 0x0010001C)
  sets_tag entries = rests_on entries 0x80 0x0010001C Four (as_set ring) (tagged (as_set ring)) (omega arith) control_rings refl refl
      (λ fields out is. write-input_tag fields out ∙ ap (λ (d : Descriptor). record fields {
        input = record d {
          stream_reset = 0;
          run = 0;
          completion_interrupt = 1;
          fifo_interrupt = 1;
          descriptor_interrupt = 1;
          tag = 1;
          completion = d.completion - bit_and d.completion 0;
          fifo_error = d.fifo_error - bit_and d.fifo_error 0;
          descriptor_error = d.descriptor_error - bit_and d.descriptor_error 0;
        };
      }) is)

  -- what may interrupt changes the controller's part alone
  pub sets_interrupts : (entries : ℕ) (d : Descriptor) → is_running d ≡ false → Leads entries d entries d (Write 0x20 Four 0xC0000001)
  sets_interrupts entries d still world readies honest =
      let is = write-input_interrupts world.registers readies.out in
      let so = registers_so world 0x20 0xC0000001 Four (record world.registers { global = record world.registers.global { input_interrupt = 1; output_interrupt = 0; controller_interrupt = 1; global_interrupt = 1 } }) (omega arith) is in
      let after = subst (Readies ring since entries d) (sym so)
      (subst (λ (input : Descriptor). ReadiesBy ring since entries d world.memory world.registers.global.controller_reset world.registers.global.wall_clock world.registers.global.rirb_base world.registers.shape input world.frames)
      (sym (settled_same world.registers.input)) readies) in
      (write_beside 0x20 0xC0000001 Four d entries world (record { control = inr (omega arith); rings = inl (omega arith) }) still after, after)

  -- ---- RUN rises

  -- the stream begins
  pub record Rose (entries : ℕ) (world : World) : Type 0 where
    pub readies : Readies ring since entries (running (as_set ring)) world
    pub begun_is : world.input ≡ begun
    pub came_is : world.came ≡ []

  pub rises : (entries : ℕ) (world : World) → Readies ring since entries (tagged (as_set ring)) world → IsHonest world (Write 0x80 One 0x1E) → Rose entries (happens world (Write 0x80 One 0x1E))
  rises entries world readies honest =
      let is : written world.registers 0x80 One 0x1E ≡ record world.registers { input = running (as_set ring) } =
      write-input_run world.registers readies.out ∙ ap (λ (d : Descriptor). record world.registers { input = record d { stream_reset = 0; run = 1; completion_interrupt = 1; fifo_interrupt = 1; descriptor_interrupt = 1 } }) readies.input_is in
      let so = registers_so world 0x80 0x1E One (record world.registers { input = running (as_set ring) }) (omega arith) is in
      record {
        readies = input_changes entries 0x80 0x1E One (tagged (as_set ring)) (running (as_set ring)) world (omega arith) is (ap (λ (d : Descriptor). settled d (running (as_set ring))) readies.input_is) readies;
        begun_is = ap (λ (w : World). w.input) so ∙ ap (λ (d : Descriptor). settled_state d (running (as_set ring)) world.input) readies.input_is;
        came_is = ap (λ (w : World). w.came) so ∙ ap (λ (d : Descriptor). settled_came d (running (as_set ring)) world.came) readies.input_is;
      }

  -- ---- an entry of the list

  entry_beside : (block size index : ℕ) → index < ring.geometry.periods → IsBesideBlock block size ring.list (list_bytes ring.geometry.periods) → IsBesideBlock block size (ring.list + 16 * index) 16
  entry_beside block size index within (inl below) = inl (omega (arith, within, below))
  entry_beside block size index within (inr above) = inr (omega (arith, above))

  module _ (narrow : (index : ℕ) → index < ring.geometry.periods → slice_index ring.periods index < 2 ^ 32) (narrow' : bytes_in ring < 2 ^ 32) where
    pub writes_entry : (index : ℕ) (d : Descriptor) → index < ring.geometry.periods → is_running d ≡ false → Leads index d (index + 1) d (entry_write ring.list ring.periods (bytes_in ring) index)
    writes_entry index d within still world readies honest =
        let entry = entry_bytes (slice_index ring.periods index) (bytes_in ring) in
        let stays = stored_outside (ring.list + 16 * index) entry world.memory in
        let new = stored world.memory (ring.list + 16 * index) entry in (
          (λ corb rirb lies. (
            (entry_beside corb corb_bytes index within lies.list_corb, entry_beside rirb rirb_bytes index within lies.list_rirb),
            stopped_apart corb rirb (stored world.memory (ring.list + 16 * index) (entry_bytes (slice_index ring.periods index) (bytes_in ring))) (input_of world) (ap is_running readies.input_is ∙ still),
          )),
          memory_readies ring since index (index + 1) d world.memory new _ _ _ _ _ _ readies stays.0 (omega (arith, within)) (entry_more ring index world.memory (narrow index within) narrow' honest readies.list),
        )
