-- What a link frame of a stream that plays leads to.
use Rattle.std.proofs.Common.{◌≡◌, ◌≢◌, ◌+◌, ◌*◌, ◌%◌, ◌==◌, nat_le, ℕ, Bool, true, false, List, ◌++◌, length, take, drop, if◌then◌else◌, refl, sym, ap, ap₂, subst, ◌∙◌, rules, tests}
use Rattle.std.proofs.Math.Nat.{mod-add-mod}
use Rattle.hda_registers.specs.Fields.{Descriptor, Fields, is_running, stream_of}
use Rattle.hda_registers.specs.Status.{worth}
use Rattle.stream_format.specs.declared.format.Format.{Format}
use Rattle.stream_format.specs.Cadence.{blocks_of, most_bytes, block_bytes}
use Rattle.stream_format.specs.Layouts.{layout, frame_bytes}
use Rattle.world_streams.specs.Streams.{StreamState, Stream, held, due, due_by, is_usable, is_ready}
use Rattle.world_streams.specs.Output as output
use Rattle.world_streams.proofs.Callers.{blocks-cycle}
use Rattle.stream_fetch.specs.Fetching.{Fetching}
use Rattle.stream_fetch.specs.Fetching as fetching
use Rattle.stream_descriptor.specs.declared.frame.Frame.TheVariants.{Blocks}
use Rattle.stream_descriptor.specs.Running.{Playing, StandsFor, LeadsTo, Runs, CanPlay, stream_at, with_descriptor, frame_cycle}
use Rattle.stream_descriptor.specs.Frames.{IsAnswer}
use Rattle.stream_descriptor.proofs.Placing.{leads_to, with_same, ready_is, held_is, runs_on}

-- what a frame finds at a stream that plays
found : (stream : Stream) → is_running stream.descriptor ≡ true → is_usable stream.descriptor ≡ true
    → output.frame_of stream ≡ (if due stream == 0 then output.Gap else (if nat_le (due stream) (held stream.state) then output.Blocks else output.Hole))
found stream runs usable = rw (runs, usable) refl

is_zero : (n : ℕ) → n ≡ 0 → (n == 0) ≡ true
is_zero n is = search (rules, tests)

not_zero : (n : ℕ) → n ≢ 0 → (n == 0) ≡ false
not_zero n is = search (rules, tests)

module _ (playing : Playing) (fields : Fields) (format : Format) (state : StreamState) (sent : ℕ)
    (stands : StandsFor playing fields state) (can : CanPlay fields playing.index format) (sent_is : sent ≡ frame_bytes (layout format) playing.frame) where
  abbrev stream : Stream
  stream = stream_at playing.index fields state

  abbrev d : Descriptor
  d = stream_of fields playing.index

  abbrev next : Playing
  next = record playing { frame = (playing.frame + 1) % frame_cycle }

  runs : Runs playing stream
  runs = stands.running can.runs

  pub blocks_are : blocks_of format.rate playing.frame ≡ blocks_of format.rate state.frame
  blocks_are = ap (blocks_of format.rate) runs.frame ∙ blocks-cycle format.rate state.frame

  due_is : due stream ≡ sent
  due_is =
      ap (λ found. due_by found state.frame) can.format_is
      ∙ (ap (λ (blocks : ℕ). blocks * block_bytes format) (sym blocks_are) ∙ sym sent_is)

  next_frame : (playing.frame + 1) % frame_cycle ≡ (state.frame + 1) % frame_cycle
  next_frame = ap (λ (n : ℕ). (n + 1) % frame_cycle) runs.frame ∙ mod-add-mod state.frame frame_cycle 1

  -- no block is due
  pub gap_found : sent ≡ 0 → output.frame_of stream ≡ output.Gap
  gap_found none = found stream can.runs can.usable ∙ ap (λ (test : Bool). if test then output.Gap else (if nat_le (due stream) (held state) then output.Blocks else output.Hole)) (is_zero _ (due_is ∙ none))

  pub gap_leads : LeadsTo next fields fields (output.after_frame output.Gap stream)
  gap_leads =
      leads_to next fields fields (output.after_frame output.Gap stream) (sym (with_same playing.index fields)) stands.capacity
      (λ off. runs_on _ can.runs off)
      (λ on. record {
        fetch = record { bytes = runs.fetch.bytes; list = runs.fetch.list; behind = runs.fetch.behind };
        frame = next_frame;
        position = runs.position;
        ready = runs.ready;
      })

  -- blocks are due that are not there
  pub hole_found : sent ≢ 0 → nat_le sent (length playing.fetch.bytes) ≡ false → output.frame_of stream ≡ output.Hole
  hole_found some short =
      let missing : nat_le (due stream) (held state) ≡ false = ap₂ nat_le due_is (sym (held_is playing.fetch state runs.fetch)) ∙ short in
      found stream can.runs can.usable ∙ rw (not_zero _ (λ is. some (sym due_is ∙ is)), missing) refl

  pub hole_leads : (new : Fields) → new ≡ with_descriptor playing.index (record d { fifo_error = 1 }) fields → LeadsTo next fields new (output.after_frame output.Hole stream)
  hole_leads new is =
      leads_to next fields new (output.after_frame output.Hole stream) is stands.capacity
      (λ off. runs_on _ can.runs off)
      (λ on. record {
        fetch = record { bytes = runs.fetch.bytes; list = runs.fetch.list; behind = runs.fetch.behind };
        frame = next_frame;
        position = runs.position;
        ready = runs.ready;
      })

  -- they are there
  pub blocks_found : sent ≢ 0 → nat_le sent (length playing.fetch.bytes) ≡ true → output.frame_of stream ≡ output.Blocks
  blocks_found some enough =
      let there : nat_le (due stream) (held state) ≡ true = ap₂ nat_le due_is (sym (held_is playing.fetch state runs.fetch)) ∙ enough in
      found stream can.runs can.usable ∙ rw (not_zero _ (λ is. some (sym due_is ∙ is)), there) refl

  abbrev sent_state : StreamState
  sent_state = record state { frame = state.frame + 1; left = state.left + due stream }

  pub blocks_leads : (after : Fetching) (new : Fields) → fetching.StandsFor after (record state { left = state.left + sent }) → after.capacity ≡ playing.fetch.capacity
      → new ≡ with_descriptor playing.index (record d { link_position = (d.link_position + sent) % d.buffer_length; fifo_ready = worth (nat_le (most_bytes format) (length after.bytes)) 0 }) fields
      → LeadsTo (record next { fetch = after }) fields new (output.after_frame output.Blocks stream)
  blocks_leads after new held_after capacity is =
      let here : fetching.StandsFor after (record state { left = state.left + due stream }) = subst (λ (n : ℕ). fetching.StandsFor after (record state { left = state.left + n })) (sym due_is) held_after in
      let standing : fetching.StandsFor after sent_state = record { bytes = here.bytes; list = here.list; behind = here.behind } in
      let position : (d.link_position + sent) % d.buffer_length ≡ (state.left + due stream) % d.buffer_length =
      ap (λ (n : ℕ). (n + sent) % d.buffer_length) runs.position
      ∙ (mod-add-mod state.left d.buffer_length sent ∙ ap (λ (n : ℕ). (state.left + n) % d.buffer_length) (sym due_is)) in
      let ready : is_ready (stream_at playing.index fields sent_state) ≡ nat_le (most_bytes format) (length after.bytes) =
      ready_is fields playing.index format sent_state can ∙ ap (nat_le (most_bytes format)) (sym (held_is after sent_state standing)) in
      leads_to (record next { fetch = after }) fields new (output.after_frame output.Blocks stream)
      (is ∙ ap₂ (λ (position : ℕ) (shown : Bool). with_descriptor playing.index (record d { link_position = position; fifo_ready = worth shown 0 }) fields) position (sym ready))
      (capacity ∙ stands.capacity) (λ off. runs_on _ can.runs off)
      (λ on. record { fetch = standing; frame = next_frame; position = refl; ready = refl })

  -- what was sent
  pub blocks_answer : (blocks : ℕ) (old new : List ℕ) → sent ≢ 0 → nat_le sent (length playing.fetch.bytes) ≡ true → blocks ≡ blocks_of format.rate playing.frame
      → new ≡ take sent playing.fetch.bytes ++ drop sent old → IsAnswer stream (output.frame_of stream) old new (Blocks blocks)
  blocks_answer blocks old new some enough are stood = (
    blocks_found some enough,
    (layout format, can.format_is, are ∙ blocks_are),
    stood ∙ (ap (λ (n : ℕ). take n playing.fetch.bytes ++ drop n old) (sym due_is) ∙ ap (λ (bytes : List ℕ). take (due stream) bytes ++ drop (due stream) old) runs.fetch.bytes),
  )
