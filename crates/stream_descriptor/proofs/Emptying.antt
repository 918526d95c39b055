-- What a store of a stream leads to.
use Rattle.std.proofs.Common.{◌≡◌, ◌%◌, ◌&&◌, nat_lt, nat_le, ℕ, zero, suc, Bool, true, false, List, length, if◌then◌else◌, refl, sym, ap, ap₂, subst, ◌∙◌, arith}
use Rattle.std.proofs.lemmas.Bool.{and_parts, lt-ltb}
use Rattle.hda_registers.specs.Fields.{Descriptor, Fields, is_out_of_reset, is_running, list_address, stream_of}
use Rattle.hda_registers.specs.Status.{worth}
use Rattle.stream_format.specs.Layouts.{layout_of}
use Rattle.world_streams.specs.Streams.{StreamState, Stream, has_format, is_ready, is_usable, most_by}
use Rattle.world_streams.specs.Input.{Storage, bytes_went, some_fills, some_jams, store}
use Rattle.world_streams.proofs.Callers.{whole, store-stopped, store-unusable, store-whole, went-rest}
use Rattle.stream_descriptor.specs.Running.{Playing, RunsBy, taken_bytes, stream_at, with_descriptor, frame_cycle}
use Rattle.stream_descriptor.specs.Fetches.{Broke, Came, broke_at}
use Rattle.stream_descriptor.specs.Taking.{TakesFor, TakesTo, WasStored, WasEmptied, held_with, stored_at}
use Rattle.stream_descriptor.proofs.Placing.{leads_to, leads_nowhere, held_is, runs_on}
use Rattle.stream_descriptor.proofs.Taking.{broken_off_to}

-- what a store came to, at what it has to lead to
abbrev Stores : (after : Playing) (old new : Fields) (now : List ℕ) → Storage → Type 0
Stores after old new now storage = TakesTo after old new storage.stream × (now ≡ storage.memory)

module _ (playing after : Playing) (old new : Fields) (memory now : List ℕ) (state : StreamState) (stands : TakesFor playing old state)
    (index : after.index ≡ playing.index) (capacity : after.fetch.capacity ≡ playing.fetch.capacity) where
  abbrev descriptor : Descriptor
  descriptor = stream_of old playing.index

  abbrev stream : Stream
  stream = stream_at playing.index old state

  abbrev before : Storage
  before = record { memory = memory; stream = stream }

  -- nothing happened
  still : after ≡ playing → new ≡ old → now ≡ memory → Stores after old new now before
  still same kept stays = (
    subst (λ (p : Playing). TakesTo p old new stream) (sym same)
        (subst (λ (f : Fields). TakesTo playing old f stream) (sym kept) (leads_nowhere playing old state stands)),
    stays,
  )

  module _ (runs : is_running (stream_of old playing.index) ≡ true) (usable : is_usable (stream_of old playing.index) ≡ true) (went : StreamState) (done : Bool)
      (frame : went.frame ≡ state.frame) (entered : went.entered ≡ state.entered) where
    here : RunsBy taken_bytes playing stream
    here = stands.running runs

    formatted : has_format descriptor ≡ true
    formatted = (and_parts _ _ (and_parts _ _ usable).0).0

    -- bytes went
    went_to : Came done went playing old after new → TakesTo after old new (whole done false went stream)
    went_to came =
        let shown = λ (i : ℕ) (ready : Bool). with_descriptor i (record descriptor { completion = if done then 1 else descriptor.completion; fifo_ready = worth ready 0 }) old in
        let ready : is_ready (stream_at playing.index old went) ≡ nat_le (most_by (layout_of descriptor.format)) (length after.fetch.bytes) =
        rw (runs, formatted) (ap (nat_le (most_by (layout_of descriptor.format))) (sym (held_is after.fetch went came.fetch))) in
        leads_to after old new (whole done false went stream)
        (came.registers ∙ ap₂ shown (sym index) (sym ready))
        (capacity ∙ stands.capacity) (λ off. runs_on _ runs off)
        (λ on. record {
          fetch = came.fetch;
          frame = came.frame ∙ here.frame ∙ ap (λ (n : ℕ). n % frame_cycle) (sym frame);
          position = here.position ∙ ap (λ (bytes : List ℕ). length bytes % descriptor.buffer_length) (sym entered);
          ready = refl;
        })

    -- the list broke
    jammed_to : Broke done playing old after new → TakesTo after old new (whole done true went stream)
    jammed_to off =
        leads_to after old new (whole done true went stream)
        (off.registers ∙ ap (λ (i : ℕ). with_descriptor i (broke_at done (stream_of old playing.index)) old) (sym index))
        (capacity ∙ stands.capacity) (λ stopped. off.empty) (λ on. runs_on _ on refl)

  emptied_by : (most : ℕ) → is_running (stream_of old playing.index) ≡ true → is_usable (stream_of old playing.index) ≡ true → WasEmptied most memory playing old after new now
      → Stores after old new now (store most before)
  emptied_by most runs usable was =
      let base = list_address (stream_of old playing.index) in
      let last = (stream_of old playing.index).last_index in
      let held = held_with memory state in
      let standing = (stands.running runs).fetch in
      let rest = went-rest most base last held in
      let done = some_fills most base last held in
      let went = (bytes_went most base last held).state in
      let by_jams : (jams : Bool) → some_jams most base last held ≡ jams → TakesTo after old new (whole done jams went stream) =
      λ jams. elim jams as (λ jams. some_jams most base last held ≡ jams → TakesTo after old new (whole done jams went stream)) [
        | true ↦ λ is. jammed_to runs usable went done rest.2 rest.1 (was.jammed state standing is)
        | false ↦ λ is. went_to runs usable went done rest.2 rest.1 (was.went state standing is)
      ] in
      subst (Stores after old new now) (sym (store-whole most before runs usable (stands.running runs).ready))
      (by_jams _ refl, was.stored state standing)

  pub store_leads : (most : ℕ) → WasStored most memory playing old after new now → Stores after old new now (stored_at playing.index most memory old state)
  store_leads most was = by_out _ refl
    where
      by_most : (n : ℕ) → most ≡ n → is_out_of_reset old.global ≡ true → is_running (stream_of old playing.index) ≡ true → (usable : Bool) → is_usable (stream_of old playing.index) ≡ usable
          → Stores after old new now (store n before)
      by_most zero none out runs usable is = let stays = was.none none in still stays.0 stays.1 stays.2
      by_most (suc n) some out runs false unusable =
          let more : nat_lt 0 most ≡ true = ap (nat_lt 0) some ∙ lt-ltb 0 (suc n) (omega arith) in
          let off = was.unusable more (ap₂ (λ (out runs : Bool). out && runs) out runs) unusable in
          subst (Stores after old new now) (sym (store-unusable n before runs unusable))
          (broken_off_to playing after old new (record { taken = 0; dropped = 0 }) state stands index capacity off.0, off.1)
      by_most (suc n) some out runs true usable =
          let more : nat_lt 0 most ≡ true = ap (nat_lt 0) some ∙ lt-ltb 0 (suc n) (omega arith) in
          subst (λ (n : ℕ). Stores after old new now (store n before)) some (emptied_by most runs usable (was.emptied more (ap₂ (λ (out runs : Bool). out && runs) out runs) usable))

      by_runs : is_out_of_reset old.global ≡ true → (runs : Bool) → is_running (stream_of old playing.index) ≡ runs → Stores after old new now (store most before)
      by_runs out false stopped =
          let idle = was.idle (ap₂ (λ (out runs : Bool). out && runs) out stopped) in
          subst (Stores after old new now) (sym (store-stopped most before stopped)) (still idle.0 idle.1 idle.2)
      by_runs out true runs = by_most most refl out runs _ refl

      by_out : (out : Bool) → is_out_of_reset old.global ≡ out → Stores after old new now (if out then store most before else before)
      by_out false off = let idle = was.idle (ap (λ (out : Bool). out && is_running (stream_of old playing.index)) off) in still idle.0 idle.1 idle.2
      by_out true out = by_runs out _ refl
