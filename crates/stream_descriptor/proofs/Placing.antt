-- A descriptor in the registers, and what a stream that plays stands for.
use Rattle.std.proofs.Common.{◌≡◌, ◌==◌, nat_le, ℕ, Bool, true, false, [], length, if◌then◌else◌, refl, sym, ap, subst, ◌∙◌, length-drop}
use Rattle.std.proofs.lemmas.Bool.{true≢false}
use Rattle.hda_registers.specs.Fields.{Descriptor, Fields, is_running, stream_of}
use Rattle.hda_registers.specs.Moves.{at_stream}
use Rattle.stream_format.specs.declared.format.Format.{Format}
use Rattle.stream_format.specs.Cadence.{most_bytes}
use Rattle.world_streams.specs.Streams.{StreamState, Stream, held, is_ready}
use Rattle.stream_fetch.specs.Fetching.{Fetching}
use Rattle.stream_fetch.specs.Fetching as fetching
use Rattle.stream_descriptor.specs.Running.{Counts, Playing, StandsForBy, LeadsToBy, RunsBy, CanPlay, stream_at, with_descriptor}

pub of_with : (index : ℕ) (d : Descriptor) (fields : Fields) → stream_of (with_descriptor index d fields) index ≡ d
of_with index d fields = by_zero (index == 0)
  where
    by_zero : (input : Bool) → (if input then (if input then d else fields.input) else (if input then fields.output else d)) ≡ d
    by_zero true = refl
    by_zero false = refl

pub with_with : (index : ℕ) (one other : Descriptor) (fields : Fields) → with_descriptor index other (with_descriptor index one fields) ≡ with_descriptor index other fields
with_with index one other fields = by_zero (index == 0)
  where
    by_zero : (input : Bool) → record fields {
      input = if input then other else (if input then one else fields.input);
      output = if input then (if input then fields.output else one) else other;
    } ≡ record fields { input = if input then other else fields.input; output = if input then fields.output else other }
    by_zero true = refl
    by_zero false = refl

-- the registers keep a descriptor that does not change
pub with_same : (index : ℕ) (fields : Fields) → with_descriptor index (stream_of fields index) fields ≡ fields
with_same index fields = by_zero (index == 0)
  where
    by_zero : (input : Bool) → record fields {
      input = if input then (if input then fields.input else fields.output) else fields.input;
      output = if input then fields.output else (if input then fields.input else fields.output);
    } ≡ fields
    by_zero true = refl
    by_zero false = refl

pub at-with : (index : ℕ) (change : Descriptor → Descriptor) (fields : Fields) → at_stream index change fields ≡ with_descriptor index (change (stream_of fields index)) fields
at-with index change fields = by_zero (index == 0)
  where
    by_zero : (input : Bool) → record fields {
      input = if input then change fields.input else fields.input;
      output = if input then fields.output else change fields.output;
    } ≡ record fields {
      input = if input then change (if input then fields.input else fields.output) else fields.input;
      output = if input then fields.output else change (if input then fields.input else fields.output);
    }
    by_zero true = refl
    by_zero false = refl

-- ---- FIFORDY

-- that of a stream that runs with this format
pub ready_is : (fields : Fields) (index : ℕ) (format : Format) (state : StreamState) → CanPlay fields index format
    → is_ready (stream_at index fields state) ≡ nat_le (most_bytes format) (held state)
ready_is fields index format state can =
    rw (can.runs, can.format_is) refl

-- what a FIFO holds
pub held_is : (fetch : Fetching) (state : StreamState) → fetching.StandsFor fetch state → length fetch.bytes ≡ held state
held_is fetch state stands = ap length stands.bytes ∙ length-drop state.left state.entered

-- ---- what it leads to

-- new registers that have this descriptor, and what stands for the stream then
pub leads_to : {counts : Counts} (playing : Playing) (old new : Fields) (stream : Stream) → new ≡ with_descriptor playing.index stream.descriptor old → playing.fetch.capacity ≡ old.shape.fifo
    → (is_running stream.descriptor ≡ false → playing.fetch.bytes ≡ []) → (is_running stream.descriptor ≡ true → RunsBy counts playing stream) → LeadsToBy counts playing old new stream
leads_to {counts} playing old new stream is capacity stopped running =
    let here : stream_of new playing.index ≡ stream.descriptor = ap (λ (fields : Fields). stream_of fields playing.index) is ∙ of_with playing.index stream.descriptor old in
    record {
      registers = is;
      stands = record {
        capacity = capacity ∙ sym (ap (λ (fields : Fields). fields.shape.fifo) is);
        stopped = λ off. stopped (ap is_running (sym here) ∙ off);
        running = λ on. subst (λ (d : Descriptor). RunsBy counts playing (record { descriptor = d; state = stream.state })) (sym here) (running (ap is_running (sym here) ∙ on));
      };
    }

-- nothing changed
pub leads_nowhere : {counts : Counts} (playing : Playing) (fields : Fields) (state : StreamState) → StandsForBy counts playing fields state
    → LeadsToBy counts playing fields fields (stream_at playing.index fields state)
leads_nowhere playing fields state stands = record { registers = sym (with_same playing.index fields); stands = stands }

-- a stream that runs does not stand still
pub runs_on : {A : Type 0} (test : Bool) → test ≡ true → test ≡ false → A
runs_on test on off = absurd (true≢false (sym on ∙ off))
