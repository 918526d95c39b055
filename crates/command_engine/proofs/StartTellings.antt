-- What a start brings about.
use Rattle.std.proofs.Common.{◌≡◌, ◌≢◌, ◌≤◌, ◌<◌, ◌⊎◌, ◌+◌, ◌-◌, ◌*◌, ◌/◌, ◌%◌, ◌^◌, ◌==◌, ℕ, Bool, true, false, List, [], ◌∷◌, ◌++◌, length, drop, slice_get, Option, None, Some, refl, sym, ap, subst, ◌∙◌, inl, inr, arith, rules, tests, lit<, lit≤, if◌then◌else◌}
use Rattle.std.proofs.Math.Nat.{mod-eq_of_lt}
use Rattle.std.proofs.lemmas.List.{drop_all}
use Rattle.std.proofs.lemmas.List.Elements.{All-nil}
use Rattle.codec_graph.specs.CodecStates.{CodecState, plugged, without_first, without_answer}
use Rattle.hda_registers.specs.declared.shapes.RingSize.{RingSize}
use Rattle.hda_registers.specs.declared.shapes.RingSize.TheVariants as size
use Rattle.hda_registers.specs.declared.shapes.Width.{Width}
use Rattle.hda_registers.specs.declared.shapes.Width.TheVariants.{One, Two, Four}
use Rattle.hda_registers.specs.declared.shapes.Raise.TheVariants as event
use Rattle.hda_registers.specs.Fields.{Fields, entries_of, list_address, is_out_of_reset}
use Rattle.hda_registers.specs.Moves.{framed, raised}
use Rattle.hda_registers.specs.Table.{size_code}
use Rattle.hda_registers.specs.Access.{written}
use Rattle.hda_registers.specs.Laws.{IsBesideRings}
use Rattle.hda_registers.proofs.Callers.{keeps-reset, keeps-left, read-corb_size, read-rirb_size, write-corb_write_pointer, some_entries}
use Rattle.codec_graph.proofs.Callers.{graph-plugged}
use Rattle.world_rings.specs.declared.response.Response.{Response}
use Rattle.world_rings.specs.Engines.{can_fetch, can_respond}
use Rattle.world_rings.proofs.Callers.{stored_outside}
use Rattle.world_streams.specs.Streams.{Stream}
use Rattle.world_streams.specs.Input.{byte_place, oldest_byte}
use Rattle.hda_world.specs.declared.step.TheConstants.{FRAMES_TO_DISCOVERY}
use Rattle.hda_world.specs.Worlds.{World, TakenCommand, with_codec, input_of}
use Rattle.hda_world.specs.Steps.{responses_of, discovered, passed}
use Rattle.hda_world.specs.Events as happens
use Rattle.hda_world.specs.Tellings.{Telling, world_of, Accessed, MakesBy, Makes}
use Rattle.hda_world.specs.Kept.{Kept, KeptByInput, byte_went, blocks_arrived, input_broke}
use Rattle.hda_world.proofs.Callers.{accessed_then, plain_write, frames_after}
use Rattle.command_engine.specs.declared.ring_places.RingPlaces.{RingPlaces}
use Rattle.command_engine.specs.Sizes.{largest_size, half_of}
use Rattle.command_engine.specs.Starting.{StartReads, codecs_in, rings_of, rings_read, settings_if, corb_accesses, rirb_accesses, start_accesses}
use Rattle.command_engine.specs.Apart.{IsApartBy, InputIsApart}
use Rattle.command_engine.specs.Fetchings.{RingPart, part_of, HasBlocks, AscendByAddress, AreOf, IsOfCodec, AreOfCodecs, graphs_in, IsOnItsWay, StandsBy, Stands}
use Rattle.command_engine.specs.Quiet.{CanStart, IsBlockAddress}
use Rattle.command_engine.proofs.Coming.{coming_sent, coming_lost, coming_plugged}
use Rattle.command_engine.proofs.Batches.{EachStands}
use Rattle.command_engine.proofs.Apart.{apart_moves, write_apart}
use Rattle.command_engine.proofs.Keeping.{ascend_with, part-passed, keeps_standing}
use Rattle.command_engine.proofs.Beside.{event_beside_input_keeps}
use Rattle.command_engine.proofs.StartWrites.{write-state_status, write-corb_base, write-corb_reset, write-corb_ready, write-corb_run, write-rirb_base, write-rirb_reset, write-response_count, write-rirb_run}

-- ---- while the rings are set, RIRB does not run, and CORB only once its pointers are 0

-- the run bits of both rings
pub record Runs : Type 0 where
  pub corb : ℕ
  pub rirb : ℕ

abbrev pub runs_of : Fields → Runs
runs_of fields = record { corb = fields.global.corb_run; rirb = fields.global.rirb_run }

runs-discovered : (codecs : List CodecState) (old fields : Fields) → runs_of (record old { global = (discovered codecs fields).global }) ≡ runs_of (record old { global = fields.global })
runs-discovered [] old fields = refl
runs-discovered (codec ∷ codecs) old fields = runs-discovered codecs old (raised fields (event.Codec codec.graph.address))

runs-frame : (now : Bool) (codecs : List CodecState) (old fields : Fields) → runs_of (record old { global = (if now then discovered codecs fields else fields).global }) ≡ runs_of (record old { global = fields.global })
runs-frame true codecs old fields = runs-discovered codecs old fields
runs-frame false codecs old fields = refl

runs-passed : (world : World) → runs_of (passed world).registers ≡ runs_of world.registers
runs-passed world = runs-frame (world.frames + 1 == FRAMES_TO_DISCOVERY) world.codecs world.registers (framed world.registers)

-- the rings' registers hold this, CORB runs or not, and nothing comes
pub record IsSetBy (from read corb rirb : ℕ) (part : RingPart) (run : ℕ) (now : RingPart) (runs : Runs) (memory : List ℕ) (codecs : List CodecState) (waiting : List Response) (commands : List TakenCommand) (written : List Response) (input : Stream) : Type 0 where
  pub part_is : now ≡ part
  pub runs_are : runs ≡ record { corb = run; rirb = 0 }
  pub blocks : HasBlocks corb rirb (length memory)
  pub ascend : AscendByAddress codecs
  pub way : IsOnItsWay [] [] waiting codecs
  pub from_is : length commands ≡ from
  pub read_is : length written ≡ read
  pub apart : IsApartBy corb rirb memory input

abbrev pub IsSet : (from read corb rirb : ℕ) → RingPart → ℕ → World → Type 0
IsSet from read corb rirb part run world =
    IsSetBy from read corb rirb part run (part_of world.registers) (runs_of world.registers) world.memory world.codecs world.waiting world.commands world.written (input_of world)

fetch_needs : (fields : Fields) → can_fetch fields ≡ true → (fields.global.corb_run ≡ 1) × (fields.global.corb_read_pointer ≢ fields.global.corb_write_pointer)
fetch_needs fields can = (search (rules, tests), λ same. search (rules, tests))

respond_needs : (fields : Fields) → can_respond fields ≡ true → fields.global.rirb_run ≡ 1
respond_needs fields can = search (rules, tests)

module _ (from read corb rirb : ℕ) where
  no_fetch : (part : RingPart) (run : ℕ) → (run ≡ 0) ⊎ (part.corb_read_pointer ≡ part.corb_write_pointer) → (world : World) → IsSet from read corb rirb part run world → can_fetch world.registers ≡ true → ⊥
  no_fetch part run (inl stopped) world holds can =
      let runs = (fetch_needs world.registers can).0 in
      let is = ap (λ (runs : Runs). runs.corb) holds.runs_are in
      absurd (omega arith)
  no_fetch part run (inr same) world holds can =
      (fetch_needs world.registers can).1 (ap (λ (p : RingPart). p.corb_read_pointer) holds.part_is ∙ same ∙ sym (ap (λ (p : RingPart). p.corb_write_pointer) holds.part_is))

  no_response : (part : RingPart) (run : ℕ) (world : World) → IsSet from read corb rirb part run world → can_respond world.registers ≡ true → ⊥
  no_response part run world holds can =
      let runs = respond_needs world.registers can in
      let is = ap (λ (runs : Runs). runs.rirb) holds.runs_are in
      absurd (omega arith)

  changed : (part : RingPart) (run : ℕ) (world : World) (codecs : List CodecState) (waiting : List Response) → IsSet from read corb rirb part run world → AscendByAddress codecs → IsOnItsWay [] [] waiting codecs
      → IsSetBy from read corb rirb part run (part_of world.registers) (runs_of world.registers) world.memory codecs waiting world.commands world.written (input_of world)
  changed part run world codecs waiting holds ascend way = record { part_is = holds.part_is; runs_are = holds.runs_are; blocks = holds.blocks; ascend = ascend; way = way; from_is = holds.from_is; read_is = holds.read_is; apart = holds.apart }

  set_passes : (part : RingPart) (run : ℕ) (world : World) → IsSet from read corb rirb part run world → IsSet from read corb rirb part run (passed world)
  set_passes part run world holds = record {
    part_is = part-passed world ∙ holds.part_is;
    runs_are = runs-passed world ∙ holds.runs_are;
    blocks = holds.blocks;
    ascend = holds.ascend;
    way = holds.way;
    from_is = holds.from_is;
    read_is = holds.read_is;
    apart = holds.apart;
  }

  -- the input stream moved: it lies apart still, and memory has its size
  set_moved : (part : RingPart) (run : ℕ) (world : World) (memory : List ℕ) (input : Stream) → length memory ≡ length world.memory → IsApartBy corb rirb memory input → IsSet from read corb rirb part run world
      → IsSetBy from read corb rirb part run (part_of world.registers) (runs_of world.registers) memory world.codecs world.waiting world.commands world.written input
  set_moved part run world memory input size apart holds = record {
    part_is = holds.part_is;
    runs_are = holds.runs_are;
    blocks = subst (HasBlocks corb rirb) (sym size) holds.blocks;
    ascend = holds.ascend;
    way = holds.way;
    from_is = holds.from_is;
    read_is = holds.read_is;
    apart = apart;
  }

  set_moves : (part : RingPart) (run : ℕ) → KeptByInput (IsSet from read corb rirb part run)
  set_moves part run = record {
    stores = λ world holds can some good.
        set_moved part run world (byte_went world).memory (input_of (byte_went world)) (stored_outside (byte_place world.memory (list_address world.registers.input) world.input) (oldest_byte world.input ∷ []) world.memory).0
        ((apart_moves corb rirb).stores world holds.apart can some good) holds;
    jams = λ world holds can some bad. set_moved part run world world.memory (input_of (input_broke world)) refl ((apart_moves corb rirb).jams world holds.apart can some bad) holds;
    takes = λ world holds can. set_moved part run world world.memory (input_of (blocks_arrived world)) refl ((apart_moves corb rirb).takes world holds.apart can) holds;
    refuses = λ world holds must. set_moved part run world world.memory (input_of (input_broke world)) refl ((apart_moves corb rirb).refuses world holds.apart must) holds;
  }

  pub set_kept : (part : RingPart) (run : ℕ) → (run ≡ 0) ⊎ (part.corb_read_pointer ≡ part.corb_write_pointer) → Kept (IsSet from read corb rirb part run)
  set_kept part run still = record {
    codecs = record {
      hands = λ world holds can free. absurd (no_fetch part run still world holds can);
      sends = λ world address item rest holds out room are.
          changed part run world (with_codec address without_first world.codecs) (world.waiting ++ responses_of world.registers address item) holds (ascend_with address without_first (λ codec. refl) world.codecs holds.ascend)
          (coming_sent [] world.registers address item rest [] world.waiting world.codecs holds.ascend are holds.way);
      loses = λ world address holds out.
          changed part run world (with_codec address without_answer world.codecs) world.waiting holds (ascend_with address without_answer (λ codec. refl) world.codecs holds.ascend)
          (coming_lost [] address [] world.waiting world.codecs holds.ascend holds.way);
      plugs = λ world address nid present holds.
          changed part run world (with_codec address (λ codec. plugged codec nid present) world.codecs) world.waiting holds (ascend_with address (λ codec. plugged codec nid present) (graph-plugged nid present) world.codecs holds.ascend)
          (coming_plugged [] address nid present [] world.waiting world.codecs holds.ascend holds.way);
    };
    responds = λ world response rest holds can are. absurd (no_response part run world holds can);
    bytes = record {
      comes = λ world holds can room good is. holds;
      ends = λ world holds can room good is. holds;
      breaks = λ world holds can room bad. holds;
      refuses = λ world holds must. holds;
    };
    input = set_moves part run;
    passes = λ world holds out still. set_passes part run world holds;
    frames = frames_after (IsSet from read corb rirb part run) (λ world holds out. set_passes part run world holds) (record {
      gaps = λ world holds can none. holds;
      sends = λ world holds can some enough. holds;
      misses = λ world holds can short. holds;
      stops = λ world holds must. holds;
    });
  }

  -- a write that changes the rings' registers so
  set_write : (part after : RingPart) (run run' at value : ℕ) (width : Width) → (run ≡ 0) ⊎ (part.corb_read_pointer ≡ part.corb_write_pointer) → at / 4 ≢ 2 → at < 0x80
      → ((fields : Fields) → part_of fields ≡ part → runs_of fields ≡ record { corb = run; rirb = 0 } → (part_of (written fields at width value) ≡ after) × (runs_of (written fields at width value) ≡ record { corb = run'; rirb = 0 }))
      → (old new : Telling) → Accessed old new (happens.Write at width value) → IsSet from read corb rirb part run (world_of old) → IsSet from read corb rirb after run' (world_of new)
  set_write part after run run' at value width still apart below writes old new accessed holds =
      accessed_then (IsSet from read corb rirb part run) (IsSet from read corb rirb after run') (happens.Write at width value) (set_kept part run still)
      (λ world there honest.
      let both = writes world.registers there.part_is there.runs_are in
      let plain = plain_write world at value width (keeps-reset world.registers at width value apart) (keeps-left world.registers at width value apart) in
      subst (IsSet from read corb rirb after run') (sym plain)
      (record {
        part_is = both.0;
        runs_are = both.1;
        blocks = there.blocks;
        ascend = there.ascend;
        way = there.way;
        from_is = there.from_is;
        read_is = there.read_is;
        apart = subst (InputIsApart corb rirb) plain (write_apart corb rirb world at value width apart (inl below) there.apart);
      })) old new accessed holds

  -- a read changes nothing
  set_read : (part : RingPart) (run at value : ℕ) (width : Width) → (run ≡ 0) ⊎ (part.corb_read_pointer ≡ part.corb_write_pointer)
      → (old new : Telling) → Accessed old new (happens.Read at width value) → IsSet from read corb rirb part run (world_of old) → IsSet from read corb rirb part run (world_of new)
  set_read part run at value width still old new accessed holds =
      accessed_then (IsSet from read corb rirb part run) (IsSet from read corb rirb part run) (happens.Read at width value) (set_kept part run still) (λ world there honest. there) old new accessed holds

  -- ---- the accesses in a row

  based : (at : ℕ) → IsBlockAddress at → 128 * (at % 2 ^ 32 / 2 ^ 7 % 2 ^ 25) ≡ at
  based at block =
      let aligned = block.aligned in
      let narrow = block.narrow in
      let low : at % 2 ^ 32 ≡ at = mod-eq_of_lt narrow in
      let small : at / 2 ^ 7 % 2 ^ 25 ≡ at / 2 ^ 7 = mod-eq_of_lt (omega arith) in
      ap (λ (n : ℕ). 128 * (n / 2 ^ 7 % 2 ^ 25)) low ∙ ap (λ (n : ℕ). 128 * n) small ∙ omega arith

  half_narrow : (s : RingSize) → half_of s % 2 ^ 8 ≡ half_of s
  half_narrow size.Two = refl
  half_narrow size.Sixteen = refl
  half_narrow size.Full = refl

  -- the rings' registers once all are set but that RIRB runs
  abbrev set_part : RingPart → RingSize → RingPart
  set_part part s = record part {
    corb_base = corb % 2 ^ 32 / 2 ^ 7 % 2 ^ 25;
    corb_write_pointer = 0;
    corb_read_pointer = 0;
    rirb_base = rirb % 2 ^ 32 / 2 ^ 7 % 2 ^ 25;
    rirb_write_pointer = 0;
    response_count = half_of s % 2 ^ 8;
  }

  corb_set : (part : RingPart) (status pointer_reset pointer_ready : ℕ) (s : RingSize) (old new : Telling) → (part.controller_reset == 1) ≡ true
      → MakesBy (corb_accesses corb status pointer_reset pointer_ready ++ rirb_accesses rirb s) old new → IsSet from read corb rirb part 0 (world_of old)
      → (next : Telling) × IsSet from read corb rirb (set_part part s) 1 (world_of next) × MakesBy (happens.Write 0x5C One 3 ∷ happens.Write 0x20 Four 0xC0000000 ∷ []) next new
  corb_set part status pointer_reset pointer_ready s old new out a1 holds =
      let p2 : RingPart = record part { corb_base = corb % 2 ^ 32 / 2 ^ 7 % 2 ^ 25 } in
      let p3 : RingPart = record p2 { corb_write_pointer = 0 } in
      let p4 : RingPart = record p3 { corb_read_pointer = 0 } in
      let p9 : RingPart = record p4 { rirb_base = rirb % 2 ^ 32 / 2 ^ 7 % 2 ^ 25 } in
      let p10 : RingPart = record p9 { rirb_write_pointer = 0 } in
      let is_out = λ (fields : Fields) (p : RingPart) (is : part_of fields ≡ p) (same : p.controller_reset ≡ part.controller_reset). ap (λ (q : RingPart). q.controller_reset == 1) is ∙ ap (λ (n : ℕ). n == 1) same ∙ out in
      let s1 = set_write part part 0 0 0x0E status Two (inl refl) (omega arith) (lit< tt) (λ fields is runs. let e = write-state_status fields status (is_out fields part is refl) in (ap part_of e ∙ is, ap runs_of e ∙ runs)) old a1.0 a1.1 holds in
      let a2 = a1.2 in
      let s2 = set_write part p2 0 0 0x40 corb Four (inl refl) (omega arith) (lit< tt) (λ fields is runs. let e = write-corb_base fields corb (is_out fields part is refl) in (ap part_of e ∙ ap (λ (p : RingPart). record p { corb_base = corb % 2 ^ 32 / 2 ^ 7 % 2 ^ 25 }) is, ap runs_of e ∙ runs)) a1.0 a2.0 a2.1 s1 in
      let a3 = a2.2 in
      let s3 = set_write p2 p3 0 0 0x48 0 Two (inl refl) (omega arith) (lit< tt) (λ fields is runs. let e = write-corb_write_pointer fields 0 (is_out fields p2 is refl) in (ap part_of e ∙ ap (λ (n : ℕ). record (part_of fields) { corb_write_pointer = n }) (mod-eq_of_lt (some_entries fields.shape.corb)) ∙ ap (λ (p : RingPart). record p { corb_write_pointer = 0 }) is, ap runs_of e ∙ runs)) a2.0 a3.0 a3.1 s2 in
      let a4 = a3.2 in
      let s4 = set_write p3 p4 0 0 0x4A 0x8000 Two (inl refl) (omega arith) (lit< tt) (λ fields is runs. let e = write-corb_reset fields (is_out fields p3 is refl) in (ap part_of e ∙ ap (λ (p : RingPart). record p { corb_read_pointer = 0 }) is, ap runs_of e ∙ runs)) a3.0 a4.0 a4.1 s3 in
      let a5 = a4.2 in
      let s5 = set_read p4 0 0x4A pointer_reset Two (inl refl) a4.0 a5.0 a5.1 s4 in
      let a6 = a5.2 in
      let s6 = set_write p4 p4 0 0 0x4A 0 Two (inl refl) (omega arith) (lit< tt) (λ fields is runs. let e = write-corb_ready fields (is_out fields p4 is refl) in (ap part_of e ∙ is, ap runs_of e ∙ runs)) a5.0 a6.0 a6.1 s5 in
      let a7 = a6.2 in
      let s7 = set_read p4 0 0x4A pointer_ready Two (inl refl) a6.0 a7.0 a7.1 s6 in
      let a8 = a7.2 in
      let s8 = set_write p4 p4 0 1 0x4C 2 One (inl refl) (omega arith) (lit< tt) (λ fields is runs. let e = write-corb_run fields (is_out fields p4 is refl) in (ap part_of e ∙ is, ap runs_of e ∙ ap (λ (r : Runs). record r { corb = 1 }) runs)) a7.0 a8.0 a8.1 s7 in
      let a9 = a8.2 in
      let s9 = set_write p4 p9 1 1 0x50 rirb Four (inr refl) (omega arith) (lit< tt) (λ fields is runs. let e = write-rirb_base fields rirb (is_out fields p4 is refl) in (ap part_of e ∙ ap (λ (p : RingPart). record p { rirb_base = rirb % 2 ^ 32 / 2 ^ 7 % 2 ^ 25 }) is, ap runs_of e ∙ runs)) a8.0 a9.0 a9.1 s8 in
      let a10 = a9.2 in
      let s10 = set_write p9 p10 1 1 0x58 0x8000 Two (inr refl) (omega arith) (lit< tt) (λ fields is runs. let e = write-rirb_reset fields (is_out fields p9 is refl) in (ap part_of e ∙ ap (λ (p : RingPart). record p { rirb_write_pointer = 0 }) is, ap runs_of e ∙ runs)) a9.0 a10.0 a10.1 s9 in
      let a11 = a10.2 in
      let s11 = set_write p10 (set_part part s) 1 1 0x5A (half_of s) Two (inr refl) (omega arith) (lit< tt) (λ fields is runs. let e = write-response_count fields (half_of s) (is_out fields p10 is refl) in (ap part_of e ∙ ap (λ (p : RingPart). record p { response_count = half_of s % 2 ^ 8 }) is, ap runs_of e ∙ runs)) a10.0 a11.0 a11.1 s10 in
      (a11.0, s11, a11.2)

  -- ---- RIRB runs, and so the engine stands

  abbrev fresh : RingSize → RingSize → RingPlaces
  fresh c r = record { corb = c; rirb = r; submitted = 0; read = 0; started = true; outstanding = None }

  stands_set : (part : RingPart) (world : World) → IsBlockAddress corb → IsBlockAddress rirb → (part.controller_reset == 1) ≡ true → part.response_flag ≤ 1
      → IsSet from read corb rirb (set_part part part.rirb_size) 1 world → Stands from read corb rirb (fresh part.corb_size part.rirb_size) (happens.after_write 0x5C One 3 world)
  stands_set part world corb_block rirb_block out flag holds =
      let fields = world.registers in
      let is_out : is_out_of_reset fields.global ≡ true = ap (λ (p : RingPart). p.controller_reset == 1) holds.part_is ∙ out in
      let e = write-rirb_run fields is_out in
      let is : part_of (written fields 0x5C One 3) ≡ set_part part part.rirb_size = ap part_of e ∙ holds.part_is in
      let read_is = holds.read_is in
      let from_is = holds.from_is in
      let some = some_entries part.rirb_size in
      let unread : drop read world.written ≡ [] = drop_all read world.written (omega arith) in
      let gained : drop from world.commands ≡ [] = drop_all from world.commands (omega arith) in
      let behind : 0 + (length world.written - read) ≡ 0 = omega arith in
      let plain = plain_write world 0x5C 3 One (keeps-reset fields 0x5C One 3 (omega arith)) (keeps-left fields 0x5C One 3 (omega arith)) in
      subst (λ (w : World). Stands from read corb rirb (fresh part.corb_size part.rirb_size) w) (sym plain)
      (subst (λ (p : RingPart). StandsBy from read corb rirb (fresh part.corb_size part.rirb_size) p world.memory world.codecs world.waiting world.commands world.written (input_of (happens.registers_written (written fields 0x5C One 3) world))) (sym is) (record {
        has_rings = record {
          out = out;
          corb_size = refl;
          rirb_size = refl;
          corb_at = based corb corb_block;
          rirb_at = based rirb rirb_block;
          submitted = refl;
          served = half_narrow part.rirb_size;
          submitted_within = some_entries part.corb_size;
          read_within = some;
        };
        blocks = holds.blocks;
        ascend = holds.ascend;
        reading = record { all = λ clear. read_is; within = omega arith; few = omega arith };
        flag = flag;
        few = omega arith;
        pointer = sym (ap (λ (n : ℕ). n % entries_of part.rirb_size) behind ∙ mod-eq_of_lt some);
        standing = λ index response byte there small.
            let past : slice_get (drop read world.written) index ≡ None = ap (λ (rs : List Response). slice_get rs index) unread in
            let z : None ≡ Some response = sym past ∙ there in
            cc;
        from_within = omega arith;
        fetching = inl (record { pointers = refl; taken = subst (AreOf None) (sym gained) tt });
        taken_by = subst (AreOfCodecs world.codecs) (sym gained) (All-nil (IsOfCodec (graphs_in world.codecs)));
        on_its_way = subst (λ (gained : List TakenCommand). IsOnItsWay gained (drop read world.written) world.waiting world.codecs) (sym gained)
            (subst (λ (unread : List Response). IsOnItsWay [] unread world.waiting world.codecs) (sym unread) holds.way);
        apart = subst (InputIsApart corb rirb) plain (write_apart corb rirb world 0x5C 3 One (omega arith) (inl (lit< tt)) holds.apart);
      }))

  beside_interrupts : IsBesideRings 0x20
  beside_interrupts = record { control = inr (lit≤ tt); rings = inl (lit< tt) }

  started : EachStands → (part : RingPart) (old new : Telling) → IsBlockAddress corb → IsBlockAddress rirb → (part.controller_reset == 1) ≡ true → part.response_flag ≤ 1
      → MakesBy (happens.Write 0x5C One 3 ∷ happens.Write 0x20 Four 0xC0000000 ∷ []) old new → IsSet from read corb rirb (set_part part part.rirb_size) 1 (world_of old)
      → Stands from read corb rirb (fresh part.corb_size part.rirb_size) (world_of new)
  started stands part old new corb_block rirb_block out flag made holds =
      let rings = fresh part.corb_size part.rirb_size in
      let runs = accessed_then (IsSet from read corb rirb (set_part part part.rirb_size) 1) (Stands from read corb rirb rings) (happens.Write 0x5C One 3) (set_kept (set_part part part.rirb_size) 1 (inr refl))
      (λ world there honest. stands_set part world corb_block rirb_block out flag there) old made.0 made.1 holds in
      let last = made.2 in
      let interrupts = accessed_then (Stands from read corb rirb rings) (Stands from read corb rirb rings) (happens.Write 0x20 Four 0xC0000000) (keeps_standing from read corb rirb rings stands)
      (λ world there honest. event_beside_input_keeps from read corb rirb rings stands (happens.Write 0x20 Four 0xC0000000) world (beside_interrupts, record { control = omega arith; descriptor = inl (lit< tt) }) there) made.0 last.0 last.1 runs in
      subst (λ (to : Telling). Stands from read corb rirb rings (world_of to)) (sym last.2) interrupts

-- ---- the sizes that are read

largest : (s : RingSize) → largest_size (size_code s) ≡ Some s
largest size.Two = refl
largest size.Sixteen = refl
largest size.Full = refl

begun_is : (none : Bool) (c r : RingSize) (begun : RingPlaces) → (if none then None else rings_of (Some c) (Some r)) ≡ Some begun → begun ≡ record { corb = c; rirb = r; submitted = 0; read = 0; started = true; outstanding = None }
begun_is true c r begun e = cc
begun_is false c r begun e = cc

pub runs_stopped : (corb rirb : ℕ) → corb ≡ 0 → rirb ≡ 0 → let runs : Runs = record { corb = corb; rirb = rirb } in runs ≡ record { corb = 0; rirb = 0 }
runs_stopped corb rirb a b = cc

pub start_leaves : EachStands → (corb rirb : ℕ) (reads : StartReads) (begun : RingPlaces) (old new : Telling) → IsBlockAddress corb → IsBlockAddress rirb → rings_read reads ≡ Some begun
    → Makes (start_accesses corb rirb reads) old new → CanStart corb rirb (world_of old) → Stands (length (world_of old).commands) (length (world_of old).written) corb rirb begun (world_of new)
start_leaves stands corb rirb reads begun old new corb_block rirb_block found makes can =
    let from = length (world_of old).commands in
    let read = length (world_of old).written in
    let part = part_of (world_of old).registers in
    let still : (0 ≡ 0) ⊎ (part.corb_read_pointer ≡ part.corb_write_pointer) = inl refl in
    let s0 : IsSet from read corb rirb part 0 (world_of old) = record {
      part_is = refl;
      runs_are = runs_stopped _ _ can.quiet.corb_stopped can.quiet.rirb_stopped;
      blocks = can.quiet.blocks;
      ascend = can.quiet.ascend;
      way = can.quiet.nothing_comes;
      from_is = refl;
      read_is = refl;
      apart = can.quiet.apart;
    } in
    let r1 = makes.by in
    let s1 = set_read from read corb rirb part 0 0x0E reads.status Two still old r1.0 r1.1 s0 in
    let r2 = r1.2 in
    let s2 : IsSet from read corb rirb part 0 (world_of r2.0) × (reads.corb_size ≡ size_code part.corb_size) =
    accessed_then (IsSet from read corb rirb part 0) (λ (world : World). IsSet from read corb rirb part 0 world × (reads.corb_size ≡ size_code part.corb_size)) (happens.Read 0x4E One reads.corb_size) (set_kept from read corb rirb part 0 still)
    (λ world there honest. (there, honest ∙ read-corb_size world.registers ∙ ap (λ (p : RingPart). size_code p.corb_size) there.part_is)) r1.0 r2.0 r2.1 s1 in
    let r3 = r2.2 in
    let s3 : IsSet from read corb rirb part 0 (world_of r3.0) × (reads.rirb_size ≡ size_code part.rirb_size) =
    accessed_then (IsSet from read corb rirb part 0) (λ (world : World). IsSet from read corb rirb part 0 world × (reads.rirb_size ≡ size_code part.rirb_size)) (happens.Read 0x5E One reads.rirb_size) (set_kept from read corb rirb part 0 still)
    (λ world there honest. (there, honest ∙ read-rirb_size world.registers ∙ ap (λ (p : RingPart). size_code p.rirb_size) there.part_is)) r2.0 r3.0 r3.1 s2.0 in
    let corb_found : largest_size reads.corb_size ≡ Some part.corb_size = ap largest_size s2.1 ∙ largest part.corb_size in
    let rirb_found : largest_size reads.rirb_size ≡ Some part.rirb_size = ap largest_size s3.1 ∙ largest part.rirb_size in
    let named : (if codecs_in reads.status == 0 then None else rings_of (Some part.corb_size) (Some part.rirb_size)) ≡ Some begun =
    ap (λ (r : Option RingSize). if codecs_in reads.status == 0 then None else rings_of (Some part.corb_size) r) (sym rirb_found)
    ∙ ap (λ (c : Option RingSize). if codecs_in reads.status == 0 then None else rings_of c (largest_size reads.rirb_size)) (sym corb_found) ∙ found in
    let is = begun_is (codecs_in reads.status == 0) part.corb_size part.rirb_size begun named in
    let rest : MakesBy (corb_accesses corb reads.status reads.pointer_reset reads.pointer_ready ++ rirb_accesses rirb part.rirb_size) r3.0 new =
    subst (λ (rings : RingPlaces). MakesBy (corb_accesses corb reads.status reads.pointer_reset reads.pointer_ready ++ rirb_accesses rirb rings.rirb) r3.0 new) is
    (subst (λ (rings : Option RingPlaces). MakesBy (settings_if rings corb rirb reads) r3.0 new) found r3.2) in
    let set = corb_set from read corb rirb part reads.status reads.pointer_reset reads.pointer_ready part.rirb_size r3.0 new can.out rest s3.0 in
    subst (λ (rings : RingPlaces). Stands from read corb rirb rings (world_of new)) (sym is)
    (started from read corb rirb stands part set.0 new corb_block rirb_block can.out can.quiet.flag set.2 set.1)
