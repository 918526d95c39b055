-- The accesses of a first run up to the rise of RUN, in a row.
use Rattle.std.proofs.Common.{◌≡◌, ◌<◌, ◌+◌, ◌-◌, ◌*◌, ◌%◌, ◌^◌, ℕ, zero, suc, false, List, [], ◌∷◌, ◌++◌, length, map, append_assoc, refl, sym, ap, subst, ◌∙◌, arith, inr}
use Rattle.std.specs.List.{range_with_len}
use Rattle.std.proofs.Math.Nat.{mod-eq_of_lt}
use Rattle.hda_registers.specs.declared.shapes.Width.{Width}
use Rattle.hda_registers.specs.declared.shapes.Width.TheVariants.{One, Two, Four}
use Rattle.hda_registers.specs.Fields.{Descriptor, reset_descriptor, is_running, list_address}
use Rattle.hda_registers.proofs.Callers.{read-wall_clock}
use Rattle.stream_format.specs.Words.{format_word}
use Rattle.stream_format.proofs.Callers.{word_small}
use Rattle.world_streams.specs.Streams.{StreamState}
use Rattle.hda_world.specs.Worlds.{World}
use Rattle.hda_world.specs.Events.{Event, Read, Write, IsHonest, AreHonest, happens, after}
use Rattle.hda_world.specs.Moments.{AreWoven, AtEach}
use Rattle.hda_world.proofs.Callers.{woven, woven_split, AreHonest-front, Lead, lead_none, lead_more, lead_both, lead_some, lead_to}
use Rattle.period_writer.specs.Starting.{entry_write, entry_writes}
use Rattle.period_writer.specs.Standing.{Ring, bytes_in, size_of}
use Rattle.period_writer.proofs.Callers.{AreWords, ring_small, based, place_at_start}
use Rattle.hda_capture.specs.Starting.{reset_accesses, set_accesses, start_accesses}
use Rattle.hda_registers.specs.Laws.{IsBesideRings}
use Rattle.laws_recording.specs.Filling.{FillsRingBy, FillsRing}
use Rattle.laws_recording.proofs.LyingApart.{filling_apart}
use Rattle.laws_recording.proofs.Readying.{Readies, BesideEngine, readies_kept, set_to, tagged, as_set, length_in, last_in, format_in, Rose, resets, readied, sets_length, sets_last, sets_format, sets_list, sets_tag, sets_interrupts, rises, writes_entry}

-- ---- where RUN rose the input stream fills the ring

module _ (ring : Ring) (words : AreWords ring) where
  narrow_bytes : bytes_in ring < 2 ^ 32
  narrow_bytes = let few = ring.geometry.few in omega (arith, few)

  length_held : length_in ring ≡ size_of ring
  length_held = mod-eq_of_lt (let small = ring_small ring.geometry.periods ring.geometry.period ring.geometry.few_periods ring.geometry.few in omega (arith, small))

  last_held : last_in ring ≡ ring.geometry.periods - 1
  last_held = let few = ring.geometry.few_periods in mod-eq_of_lt (omega (arith, few))

  format_held : format_in ring ≡ format_word ring.geometry.format
  format_held = mod-eq_of_lt (word_small ring.geometry.format)

  pub rose_fills : (since : ℕ) (world : World) → Rose ring since ring.geometry.periods world → FillsRing ring world
  rose_fills since world rose =
      let is = rose.readies.input_is in
      subst (λ (state : StreamState). FillsRingBy ring world.memory world.registers.global.controller_reset world.registers.global.wall_clock world.registers.global.rirb_base world.registers.shape world.registers.input world.frames state)
      (sym rose.begun_is) (record {
        set = record {
          out = rose.readies.out;
          fifo = rose.readies.fifo;
          runs = ap is_running is;
          no_error = ap (λ (d : Descriptor). d.descriptor_error) is;
          tag = ap (λ (d : Descriptor). d.tag) is;
          length_is = ap (λ (d : Descriptor). d.buffer_length) is ∙ length_held;
          last = ap (λ (d : Descriptor). d.last_index) is ∙ last_held;
          format_is = ap (λ (d : Descriptor). d.format) is ∙ format_held;
          list_is = ap list_address is ∙ based ring.list words.list rose.readies.ring_is.list_aligned;
        };
        ring_is = rose.readies.ring_is;
        clock_is = rose.readies.clock_is;
        position = ap (λ (d : Descriptor). d.link_position) is ∙ omega arith;
        beside = rose.readies.beside;
        list_stands = rose.readies.list;
        fifo = record { behind = omega arith; ahead = omega arith };
        place = place_at_start ring words;
        whole = omega arith;
        standing = λ at below again. absurd (omega (arith, below));
      })

  -- ---- at rest, where so many link frames passed before

  abbrev Beside : World → Event → Type 0
  Beside = BesideEngine ring

  module _ (number : length ring.periods ≡ ring.geometry.periods) (since : ℕ) where
    -- a read
    reads : (entries : ℕ) (d : Descriptor) (at value : ℕ) (width : Width) (made : List Event) (After : World → Type 0) → is_running d ≡ false
        → Lead Beside (Readies ring since entries d) made After → Lead Beside (Readies ring since entries d) (Read at width value ∷ made) After
    reads entries d at value width made After still more =
        lead_more Beside (Readies ring since entries d) (Readies ring since entries d) After (readies_kept ring since entries d still) (Read at width value) made
        (λ world step readies corb rirb lies. (tt, tt)) (λ world readies honest. ((λ corb rirb lies. (tt, tt)), readies)) more

    -- a write while the stream rests
    writes_on : (entries entries' : ℕ) (old new : Descriptor) (access : Event) (made : List Event) (After : World → Type 0) → is_running old ≡ false
        → ((world : World) → Readies ring since entries old world → IsHonest world access → Beside world access × Readies ring since entries' new (happens world access))
        → Lead Beside (Readies ring since entries' new) made After → Lead Beside (Readies ring since entries old) (access ∷ made) After
    writes_on entries entries' old new access made After still leads more =
        lead_more Beside (Readies ring since entries old) (Readies ring since entries' new) After (readies_kept ring since entries old still) access made
        (λ world step readies corb rirb lies. (tt, tt)) leads more

    -- the reset and its end
    reset_lead : (d : Descriptor) (in_reset ready : ℕ) → is_running d ≡ false → Lead Beside (Readies ring since 0 d) (reset_accesses in_reset ready) (Readies ring since 0 (reset_descriptor 0))
    reset_lead d in_reset ready still =
        let done = Readies ring since 0 (reset_descriptor 0) in
        writes_on 0 0 d (reset_descriptor 1) (Write 0x80 One 1) (Read 0x80 One in_reset ∷ Write 0x80 One 0 ∷ Read 0x80 One ready ∷ []) done still (resets ring since d)
        (reads 0 (reset_descriptor 1) 0x80 in_reset One (Write 0x80 One 0 ∷ Read 0x80 One ready ∷ []) done refl
        (writes_on 0 0 (reset_descriptor 1) (reset_descriptor 0) (Write 0x80 One 0) (Read 0x80 One ready ∷ []) done refl (readied ring since)
        (reads 0 (reset_descriptor 0) 0x80 ready One [] done refl
        (lead_none Beside done done (λ world readies. readies)))))

    entries_lead : (count first : ℕ) → first + count ≡ ring.geometry.periods
        → Lead Beside (Readies ring since first (reset_descriptor 0)) (map (entry_write ring.list ring.periods (bytes_in ring)) (range_with_len first count)) (Readies ring since ring.geometry.periods (reset_descriptor 0))
    entries_lead zero first all =
        lead_none Beside (Readies ring since first (reset_descriptor 0)) (Readies ring since ring.geometry.periods (reset_descriptor 0))
        (λ world readies. subst (λ (n : ℕ). Readies ring since n (reset_descriptor 0) world) (omega (arith, all)) readies)
    entries_lead (suc count) first all =
        writes_on first (first + 1) (reset_descriptor 0) (reset_descriptor 0) (entry_write ring.list ring.periods (bytes_in ring) first) (map (entry_write ring.list ring.periods (bytes_in ring)) (range_with_len (first + 1) count))
        (Readies ring since ring.geometry.periods (reset_descriptor 0)) refl (writes_entry ring since words.periods narrow_bytes first (reset_descriptor 0) (omega (arith, all)) refl) (entries_lead count (first + 1) (omega (arith, all)))

    list_lead : Lead Beside (Readies ring since 0 (reset_descriptor 0)) (entry_writes ring.list ring.periods (bytes_in ring)) (Readies ring since ring.geometry.periods (reset_descriptor 0))
    list_lead = entries_lead (length ring.periods) 0 (omega (arith, number))

    -- RUN
    rise_leads : (world : World) → Readies ring since ring.geometry.periods (tagged (as_set ring)) world → IsHonest world (Write 0x80 One 0x1E)
        → Beside world (Write 0x80 One 0x1E) × Rose ring since ring.geometry.periods (happens world (Write 0x80 One 0x1E))
    rise_leads world readies honest =
        let rose = rises ring since ring.geometry.periods world readies honest in
        let rings : IsBesideRings 0x80 = record { control = inr (omega arith); rings = inr (omega arith) } in (
          (λ corb rirb lies. (rings, λ runs. filling_apart ring (happens world (Write 0x80 One 0x1E)) (rose_fills since (happens world (Write 0x80 One 0x1E)) rose) corb rirb lies)),
          rose,
        )

    -- the registers, and RUN
    set_lead : Lead Beside (Readies ring since ring.geometry.periods (reset_descriptor 0)) (set_accesses ring.list ring.geometry) (Rose ring since ring.geometry.periods)
    set_lead =
        let n = ring.geometry.periods in
        let run : List Event = Write 0x80 One 0x1E ∷ [] in
        let interrupts : List Event = Write 0x20 Four 0xC0000001 ∷ run in
        let tag : List Event = Write 0x80 Four 0x0010001C ∷ interrupts in
        let list : List Event = Write 0x98 Four ring.list ∷ tag in
        let format : List Event = Write 0x92 Two (format_word ring.geometry.format) ∷ list in
        let last : List Event = Write 0x8C Two (ring.geometry.periods - 1) ∷ format in
        let done = Rose ring since ring.geometry.periods in
        let d1 = set_to (length_in ring) 0 0 0 in
        let d2 = set_to (length_in ring) (last_in ring) 0 0 in
        let d3 = set_to (length_in ring) (last_in ring) (format_in ring) 0 in
        let d4 = tagged (as_set ring) in
        writes_on n n (reset_descriptor 0) d1 (Write 0x88 Four (size_of ring)) last done refl (sets_length ring since n)
        (writes_on n n d1 d2 (Write 0x8C Two (ring.geometry.periods - 1)) format done refl (sets_last ring since n)
        (writes_on n n d2 d3 (Write 0x92 Two (format_word ring.geometry.format)) list done refl (sets_format ring since n)
        (writes_on n n d3 (as_set ring) (Write 0x98 Four ring.list) tag done refl (sets_list ring since n)
        (writes_on n n (as_set ring) d4 (Write 0x80 Four 0x0010001C) interrupts done refl (sets_tag ring since n)
        (writes_on n n d4 d4 (Write 0x20 Four 0xC0000001) run done refl (sets_interrupts ring since n d4 refl)
        (lead_more Beside (Readies ring since n d4) done done (readies_kept ring since n d4 refl) (Write 0x80 One 0x1E) [] (λ world step readies corb rirb lies. (tt, tt)) rise_leads
        (lead_none Beside done done (λ world rose. rose))))))))

    -- all after the first read
    rest_lead : (d : Descriptor) (in_reset ready : ℕ) → is_running d ≡ false
        → Lead Beside (Readies ring since 0 d) (reset_accesses in_reset ready ++ (entry_writes ring.list ring.periods (bytes_in ring) ++ set_accesses ring.list ring.geometry)) (Rose ring since ring.geometry.periods)
    rest_lead d in_reset ready still =
        let entries = entry_writes ring.list ring.periods (bytes_in ring) in
        let registers = set_accesses ring.list ring.geometry in
        let done = Rose ring since ring.geometry.periods in
        lead_both Beside (Readies ring since 0 d) (Readies ring since 0 (reset_descriptor 0)) done (reset_accesses in_reset ready) (entries ++ registers) (reset_lead d in_reset ready still)
        (lead_both Beside (Readies ring since 0 (reset_descriptor 0)) (Readies ring since ring.geometry.periods (reset_descriptor 0)) done entries registers list_lead set_lead)

  -- ---- the first read says how many link frames passed, modulo 2^32 ticks

  abbrev pub Counted : ℕ → Type 0
  Counted from = (since : ℕ) × (from ≡ (500 * since) % 2 ^ 32)

  abbrev pub RoseSince : ℕ → World → Type 0
  RoseSince from world = (counted : Counted from) × Rose ring counted.0 ring.geometry.periods world

  abbrev counts : (from : ℕ) → Descriptor → World → Type 0
  counts from d world = (counted : Counted from) × Readies ring counted.0 0 d world

  first_read : (from : ℕ) (d : Descriptor) (world : World) → Readies ring 0 0 d world → IsHonest world (Read 0x30 Four from) → Beside world (Read 0x30 Four from) × counts from d (happens world (Read 0x30 Four from))
  first_read from d world readies honest = (
    (λ corb rirb lies. (tt, tt)),
    (
      (world.frames, honest ∙ read-wall_clock world.registers ∙ readies.clock_is),
      record {
        out = readies.out;
        clock_is = readies.clock_is;
        fifo = readies.fifo;
        since_before = omega arith;
        ring_is = readies.ring_is;
        beside = readies.beside;
        few = readies.few;
        list = readies.list;
        input_is = readies.input_is;
      },
    ),
  )

  abbrev pub risen_by : (from in_reset ready : ℕ) → List Event
  risen_by from in_reset ready = Read 0x30 Four from ∷ (reset_accesses in_reset ready ++ (entry_writes ring.list ring.periods (bytes_in ring) ++ set_accesses ring.list ring.geometry))

  rise_lead : (number : length ring.periods ≡ ring.geometry.periods) (d : Descriptor) (from in_reset ready : ℕ) → is_running d ≡ false → Lead Beside (Readies ring 0 0 d) (risen_by from in_reset ready) (RoseSince from)
  rise_lead number d from in_reset ready still =
      let rest : List Event = reset_accesses in_reset ready ++ (entry_writes ring.list ring.periods (bytes_in ring) ++ set_accesses ring.list ring.geometry) in
      lead_more Beside (Readies ring 0 0 d) (counts from d) (RoseSince from) (readies_kept ring 0 0 d still) (Read 0x30 Four from) rest (λ world step readies corb rirb lies. (tt, tt)) (first_read from d)
      (lead_some Beside (λ (counted : Counted from) (world : World). Readies ring counted.0 0 d world) rest (RoseSince from)
      (λ (counted : Counted from). lead_to Beside (Readies ring counted.0 0 d) rest (Rose ring counted.0 ring.geometry.periods) (RoseSince from) (λ world rose. (counted, rose)) (rest_lead number counted.0 d in_reset ready still)))

  -- ---- the whole, with the last read

  together : (from in_reset ready to : ℕ) → start_accesses ring.geometry ring.list ring.periods from in_reset ready to ≡ risen_by from in_reset ready ++ Read 0x30 Four to ∷ []
  together from in_reset ready to =
      let reset = reset_accesses in_reset ready in
      let entries = entry_writes ring.list ring.periods (bytes_in ring) in
      let registers = set_accesses ring.list ring.geometry in
      let last : List Event = Read 0x30 Four to ∷ [] in
      ap (λ (events : List Event). Read 0x30 Four from ∷ (reset ++ events)) (sym (append_assoc entries registers last))
      ∙ ap (λ (events : List Event). Read 0x30 Four from ∷ events) (sym (append_assoc reset (entries ++ registers) last))

  -- the events of a first run: RUN rose after the front of them, and after it the clock was read
  pub record StartParts (from in_reset ready to : ℕ) (events : List Event) (world : World) : Type 0 where
    pub front : List Event
    pub back : List Event
    pub events_are : events ≡ front ++ back
    pub since : ℕ
    pub from_is : from ≡ (500 * since) % 2 ^ 32
    pub rose : Rose ring since ring.geometry.periods (after front world)
    pub moments : AtEach Beside front world
    pub woven_front : AreWoven (risen_by from in_reset ready) front
    pub woven_back : AreWoven (Read 0x30 Four to ∷ []) back

  pub start_parts : (from in_reset ready to : ℕ) (events : List Event) (world : World) → length ring.periods ≡ ring.geometry.periods → is_running world.registers.input ≡ false
      → Readies ring 0 0 world.registers.input world → AreWoven (start_accesses ring.geometry ring.list ring.periods from in_reset ready to) events → AreHonest events world → StartParts from in_reset ready to events world
  start_parts from in_reset ready to events world number still readies woven honest =
      let (front, back, are, in_front, in_back) = woven_split (risen_by from in_reset ready) (Read 0x30 Four to ∷ []) events (subst (λ (made : List Event). AreWoven made events) (together from in_reset ready to) woven) in
      let whole : AreHonest (front ++ back) world = subst (λ (events : List Event). AreHonest events world) are honest in
      let led = rise_lead number world.registers.input from in_reset ready still front world in_front (AreHonest-front front back world whole) readies in
      record {
        front = front;
        back = back;
        events_are = are;
        since = led.1.0.0;
        from_is = led.1.0.1;
        rose = led.1.1;
        moments = led.0;
        woven_front = in_front;
        woven_back = in_back;
      }
