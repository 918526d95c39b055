-- What a link frame of a stream that takes blocks leads to.
use Rattle.std.proofs.Common.{◌≡◌, ◌≢◌, ◌≤◌, ◌+◌, ◌-◌, ◌%◌, ◌==◌, ◌&&◌, not, nat_le, ℕ, suc, Bool, true, false, List, [], ◌∷◌, length, drop, if◌then◌else◌, refl, sym, ap, ap₂, subst, ◌∙◌, arith, length-drop}
use Rattle.std.specs.List.{list_all}
use Rattle.std.proofs.Math.Nat.{mod-add-mod}
use Rattle.std.proofs.lemmas.Bool.{and_parts, lt-ltb, ltb-true}
use Rattle.hda_registers.specs.Fields.{Descriptor, Fields, is_out_of_reset, is_running, stream_of}
use Rattle.hda_registers.specs.Status.{worth}
use Rattle.stream_format.specs.declared.format.Format.{Format}
use Rattle.stream_format.specs.Cadence.{most_bytes}
use Rattle.stream_format.specs.Layouts.{layout_of}
use Rattle.world_streams.specs.Streams.{StreamState, Stream, has_format, is_ready, is_usable, most_by, broke}
use Rattle.world_streams.specs.Output.{gap_passed}
use Rattle.world_streams.specs.Input.{Intake, entered_after, marks_after, marks_of, blocks_came, frame_took, frame_move}
use Rattle.world_streams.proofs.Callers.{entered-held, marks-held, entered-longer, move-stopped, move-unusable, move-took}
use Rattle.stream_fetch.specs.Fetching.{Fetching}
use Rattle.stream_descriptor.specs.declared.arrived.SoundBlocks.{SoundBlocks}
use Rattle.stream_descriptor.specs.declared.arrived.Arrived.{Arrived}
use Rattle.stream_descriptor.specs.Running.{Playing, RunsBy, CanPlay, taken_bytes, stream_at, with_descriptor, frame_cycle}
use Rattle.stream_descriptor.specs.Fetches.{Broke, broke_at}
use Rattle.stream_descriptor.specs.Taking.{TakesFor, TakesTo, WasFramed, WasPassed, blocks_in, blocks_taken, frame_counted, framed_at, marks_at, marks_in, none_arrived, took_to}
use Rattle.stream_descriptor.proofs.Placing.{leads_to, leads_nowhere, held_is, runs_on, with_same}
use Rattle.stream_descriptor.proofs.Accepting.{all-taken, given-count}

-- ---- in code

turned : (none : Bool) (error : ℕ) → (if not none then 1 else error) ≡ (if none then error else 1)
turned true error = refl
turned false error = refl

module _ (playing : Playing) (fields : Fields) (format : Format) (sound : List ℕ) (blocks : SoundBlocks) (can : CanPlay fields playing.index format) where
  abbrev d : Descriptor
  d = stream_of fields playing.index

  -- no block came
  pub gap_passes : blocks.count ≡ 0 → WasPassed (blocks_in sound blocks) playing fields (frame_counted playing) fields none_arrived
  gap_passes none = record {
    gap = λ empty. (refl, refl, refl);
    took = λ some. absurd (omega (arith, none, given-count blocks.size sound blocks.from blocks.count, ltb-true 0 (length (blocks_in sound blocks)) some));
  }

  -- some came
  pub blocks_pass : (fetch : Fetching) (new : Fields) (arrived : Arrived) (before now : ℕ) → blocks.count ≢ 0
      → before ≡ length playing.fetch.bytes → now ≡ length fetch.bytes
      → fetch ≡ record playing.fetch { bytes = entered_after playing.fetch.capacity 0 playing.fetch.bytes (blocks_in sound blocks) }
      → marks_in arrived ≡ marks_at (blocks_in sound blocks) playing
      → new ≡ with_descriptor playing.index (record d {
        link_position = (d.link_position + (now - before)) % d.buffer_length;
        fifo_error = if not (arrived.dropped == 0) then 1 else d.fifo_error;
        fifo_ready = worth (nat_le (most_bytes format) (length fetch.bytes)) 0;
      }) fields
      → WasPassed (blocks_in sound blocks) playing fields (record (frame_counted playing) { fetch = fetch }) new arrived
  blocks_pass fetch new arrived before now some before_is now_is is marks shown =
      let all = blocks_in sound blocks in
      let build = λ (taken error most long : ℕ). with_descriptor playing.index (record d {
        link_position = (d.link_position + taken) % d.buffer_length;
        fifo_error = error;
        fifo_ready = worth (nat_le most long) 0;
      }) fields in
      let long : length fetch.bytes ≡ length (blocks_taken all playing).fetch.bytes = ap (λ (fetch : Fetching). length fetch.bytes) is in
      let grown : now - before ≡ length (blocks_taken all playing).fetch.bytes - length playing.fetch.bytes = ap₂ (λ (now before : ℕ). now - before) (now_is ∙ long) before_is in
      let none : list_all (λ taken. taken) (marks_at all playing) ≡ (arrived.dropped == 0) =
      ap (list_all (λ taken. taken)) (sym marks) ∙ all-taken arrived.taken arrived.dropped in
      let error : (if not (arrived.dropped == 0) then 1 else d.fifo_error) ≡ (if list_all (λ taken. taken) (marks_at all playing) then d.fifo_error else 1) =
      turned (arrived.dropped == 0) d.fifo_error ∙ ap (λ (all : Bool). if all then d.fifo_error else 1) (sym none) in
      let most : most_bytes format ≡ most_by (layout_of d.format) = ap most_by (sym can.format_is) in
      record {
        gap = λ empty. absurd (some (sym (given-count blocks.size sound blocks.from blocks.count) ∙ empty));
        took = λ more. record {
          marks = marks;
          taken = ap (λ (fetch : Fetching). record (frame_counted playing) { fetch = fetch }) is;
          registers = (
              shown
              ∙ ap₂ (λ (taken error : ℕ). build taken error (most_bytes format) (length fetch.bytes)) grown error
              ∙ ap₂ (build _ _) most long);
        };
      }

-- ---- what it leads to

module _ (playing : Playing) (old : Fields) (blocks : List (List ℕ)) (state : StreamState) (stands : TakesFor playing old state)
    (runs : is_running (stream_of old playing.index) ≡ true) (usable : is_usable (stream_of old playing.index) ≡ true) where
  abbrev descriptor : Descriptor
  descriptor = stream_of old playing.index

  abbrev stream : Stream
  stream = stream_at playing.index old state

  -- what entered now
  abbrev came : List ℕ
  came = entered_after old.shape.fifo state.left state.entered blocks

  here : RunsBy taken_bytes playing stream
  here = stands.running runs

  bytes_are : (blocks_taken blocks playing).fetch.bytes ≡ drop state.left came
  bytes_are =
      ap₂ (λ (fifo : ℕ) (bytes : List ℕ). entered_after fifo 0 bytes blocks) stands.capacity here.fetch.bytes
      ∙ sym (entered-held old.shape.fifo state.left state.entered blocks here.fetch.behind)

  marks_are : marks_at blocks playing ≡ marks_of old.shape.fifo blocks stream
  marks_are =
      ap₂ (λ (fifo : ℕ) (bytes : List ℕ). marks_after fifo 0 bytes blocks) stands.capacity here.fetch.bytes
      ∙ sym (marks-held old.shape.fifo state.left state.entered blocks here.fetch.behind)

  longer : length state.entered ≤ length came
  longer = entered-longer old.shape.fifo state.left state.entered blocks

  grown : length (blocks_taken blocks playing).fetch.bytes - length playing.fetch.bytes ≡ length came - length state.entered
  grown =
      let now : length (blocks_taken blocks playing).fetch.bytes ≡ length came - state.left = ap length bytes_are ∙ length-drop state.left came in
      let before : length playing.fetch.bytes ≡ length state.entered - state.left = held_is playing.fetch state here.fetch in
      omega (arith, now, before, here.fetch.behind, longer)

  position_is : (descriptor.link_position + (length (blocks_taken blocks playing).fetch.bytes - length playing.fetch.bytes)) % descriptor.buffer_length
      ≡ length came % descriptor.buffer_length
  position_is =
      let all : length state.entered + (length came - length state.entered) ≡ length came = omega (arith, longer) in
      ap₂ (λ (position more : ℕ). (position + more) % descriptor.buffer_length) here.position grown
      ∙ mod-add-mod (length state.entered) descriptor.buffer_length (length came - length state.entered)
      ∙ ap (λ (n : ℕ). n % descriptor.buffer_length) all

  formatted : has_format descriptor ≡ true
  formatted = (and_parts _ _ (and_parts _ _ usable).0).0

  abbrev came_state : StreamState
  came_state = record state { frame = state.frame + 1; entered = came }

  ready_now : is_ready (stream_at playing.index old came_state) ≡ nat_le (most_by (layout_of descriptor.format)) (length (blocks_taken blocks playing).fetch.bytes)
  ready_now = rw (runs, formatted) (ap (nat_le (most_by (layout_of descriptor.format))) (sym (ap length bytes_are ∙ length-drop state.left came)))

  next_frame : (playing.frame + 1) % frame_cycle ≡ (state.frame + 1) % frame_cycle
  next_frame = ap (λ (n : ℕ). (n + 1) % frame_cycle) here.frame ∙ mod-add-mod state.frame frame_cycle 1

  -- no block came
  pub gap_took : TakesTo (frame_counted playing) old old (gap_passed stream)
  gap_took =
      leads_to (frame_counted playing) old old (gap_passed stream) (sym (with_same playing.index old)) stands.capacity
      (λ off. runs_on _ runs off)
      (λ on. record {
        fetch = record { bytes = here.fetch.bytes; list = here.fetch.list; behind = here.fetch.behind };
        frame = next_frame;
        position = here.position;
        ready = here.ready;
      })

  -- some came
  pub blocks_took : (new : Fields) → new ≡ with_descriptor playing.index (took_to
      (length (blocks_taken blocks playing).fetch.bytes - length playing.fetch.bytes) (length (blocks_taken blocks playing).fetch.bytes)
      (list_all (λ taken. taken) (marks_at blocks playing)) descriptor) old
      → TakesTo (blocks_taken blocks playing) old new (blocks_came old.shape.fifo blocks stream)
  blocks_took new is =
      let shown = λ (position : ℕ) (all ready : Bool). with_descriptor playing.index (record descriptor {
        link_position = position;
        fifo_ready = worth ready 0;
        fifo_error = if all then descriptor.fifo_error else 1;
      }) old in
      leads_to (blocks_taken blocks playing) old new (blocks_came old.shape.fifo blocks stream)
      (is
      ∙ ap₂ (λ (position : ℕ) (all : Bool). shown position all (nat_le (most_by (layout_of descriptor.format)) (length (blocks_taken blocks playing).fetch.bytes)))
      position_is (ap (list_all (λ taken. taken)) marks_are)
      ∙ ap (shown _ _) (sym ready_now))
      stands.capacity (λ off. runs_on _ runs off)
      (λ on. record {
        fetch = record { bytes = bytes_are; list = here.fetch.list; behind = omega (arith, here.fetch.behind, longer) };
        frame = next_frame;
        position = refl;
        ready = refl;
      })

-- what a link frame of a stream came to, at what it has to lead to
abbrev Framed : (after : Playing) (old new : Fields) (arrived : Arrived) → Intake → Type 0
Framed after old new arrived intake = TakesTo after old new intake.stream × (marks_in arrived ≡ intake.marks)

module _ (playing after : Playing) (old new : Fields) (arrived : Arrived) (state : StreamState) (stands : TakesFor playing old state)
    (index : after.index ≡ playing.index) (capacity : after.fetch.capacity ≡ playing.fetch.capacity) where
  -- nothing happened
  still : after ≡ playing → new ≡ old → arrived ≡ none_arrived → Framed after old new arrived (record { stream = stream_at playing.index old state; marks = [] })
  still same kept none = (
    subst (λ (p : Playing). TakesTo p old new (stream_at playing.index old state)) (sym same)
        (subst (λ (f : Fields). TakesTo playing old f (stream_at playing.index old state)) (sym kept) (leads_nowhere playing old state stands)),
    ap marks_in none,
  )

  -- it broke off
  pub broken_off_to : Broke false playing old after new → TakesTo after old new (broke (stream_at playing.index old state))
  broken_off_to off =
      leads_to after old new (broke (stream_at playing.index old state))
      (off.registers ∙ ap (λ (i : ℕ). with_descriptor i (broke_at false (stream_of old playing.index)) old) (sym index))
      (capacity ∙ stands.capacity) (λ stopped. off.empty) (λ on. runs_on _ on refl)

  passed_by : (blocks : List (List ℕ)) → is_running (stream_of old playing.index) ≡ true → is_usable (stream_of old playing.index) ≡ true → WasPassed blocks playing old after new arrived
      → Framed after old new arrived (record { stream = frame_took old.shape.fifo blocks (stream_at playing.index old state); marks = marks_of old.shape.fifo blocks (stream_at playing.index old state) })
  passed_by [] runs usable was =
      let gap = was.gap refl in (
        subst (λ (p : Playing). TakesTo p old new (gap_passed (stream_at playing.index old state))) (sym gap.0)
            (subst (λ (f : Fields). TakesTo (frame_counted playing) old f (gap_passed (stream_at playing.index old state))) (sym gap.1) (gap_took playing old [] state stands runs usable)),
        ap marks_in gap.2,
      )
  passed_by (block ∷ blocks) runs usable was =
      let took = was.took (lt-ltb 0 (suc (length blocks)) (omega arith)) in (
        subst (λ (p : Playing). TakesTo p old new (blocks_came old.shape.fifo (block ∷ blocks) (stream_at playing.index old state))) (sym took.taken)
            (blocks_took playing old (block ∷ blocks) state stands runs usable new took.registers),
        took.marks ∙ marks_are playing old (block ∷ blocks) state stands runs usable,
      )

  pub frame_leads : (blocks : List (List ℕ)) → WasFramed blocks playing old after new arrived → Framed after old new arrived (framed_at playing.index blocks old state)
  frame_leads blocks was = by_out _ refl
    where
      by_usable : is_out_of_reset old.global ≡ true → is_running (stream_of old playing.index) ≡ true → (usable : Bool) → is_usable (stream_of old playing.index) ≡ usable
          → Framed after old new arrived (frame_move old.shape.fifo blocks (stream_at playing.index old state))
      by_usable out runs false unusable =
          let off = was.unusable (ap₂ (λ (out runs : Bool). out && runs) out runs) unusable in
          subst (Framed after old new arrived) (sym (move-unusable old.shape.fifo blocks (stream_at playing.index old state) runs unusable))
          (broken_off_to off.0, ap marks_in off.1)
      by_usable out runs true usable =
          subst (Framed after old new arrived) (sym (move-took old.shape.fifo blocks (stream_at playing.index old state) runs usable))
          (passed_by blocks runs usable (was.passed (ap₂ (λ (out runs : Bool). out && runs) out runs) usable))

      by_runs : is_out_of_reset old.global ≡ true → (runs : Bool) → is_running (stream_of old playing.index) ≡ runs
          → Framed after old new arrived (frame_move old.shape.fifo blocks (stream_at playing.index old state))
      by_runs out false stopped =
          let idle = was.idle (ap₂ (λ (out runs : Bool). out && runs) out stopped) in
          subst (Framed after old new arrived) (sym (move-stopped old.shape.fifo blocks (stream_at playing.index old state) stopped)) (still idle.0 idle.1 idle.2)
      by_runs out true runs = by_usable out runs _ refl

      by_out : (out : Bool) → is_out_of_reset old.global ≡ out
          → Framed after old new arrived (if out then frame_move old.shape.fifo blocks (stream_at playing.index old state) else record { stream = stream_at playing.index old state; marks = [] })
      by_out false off =
          let idle = was.idle (ap (λ (out : Bool). out && is_running (stream_of old playing.index)) off) in still idle.0 idle.1 idle.2
      by_out true out = by_runs out _ refl
