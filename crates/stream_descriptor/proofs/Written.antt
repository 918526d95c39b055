-- Both streams after a write of a register.
use Rattle.std.proofs.Common.{◌≡◌, ◌&&◌, ◌||◌, not, slice_index_or, ℕ, Bool, true, false, if◌then◌else◌, refl, sym, ap, subst, ◌∙◌}
use Rattle.hda_registers.specs.declared.shapes.Width.{Width}
use Rattle.hda_registers.specs.declared.shapes.Shape.{Shape}
use Rattle.hda_registers.specs.declared.shapes.Effects.{Effects}
use Rattle.hda_registers.specs.Fields.{Descriptor, Fields, reset_descriptor, is_running, stream_of}
use Rattle.hda_registers.specs.Access.{written, effects_of, rose, fell}
use Rattle.hda_registers.specs.Laws.{IsHeldInReset}
use Rattle.hda_registers.proofs.Callers.{keeps-shape, stays-held}
use Rattle.world_streams.specs.Streams.{StreamState, settled, settled_state}
use Rattle.stream_descriptor.specs.Running.{Counts, Playing, StandsFor, StandsForBy, StoodFor, StoodForBy, RunsBy, LeadsToBy, sent_bytes, with_descriptor}
use Rattle.stream_descriptor.proofs.Settling.{stood_written}

-- the input stream stands for its state whatever the output's descriptor is
pub beside_output : {counts : Counts} (playing : Playing) (old new : Fields) (state : StreamState) → playing.index ≡ 0 → StandsForBy counts playing old state → new.shape ≡ old.shape → new.input ≡ old.input
    → StandsForBy counts playing new state
beside_output {counts} playing old new state index stands shape input =
    let here : stream_of new playing.index ≡ stream_of old playing.index =
    ap (stream_of new) index ∙ (input ∙ sym (ap (stream_of old) index)) in
    record {
      capacity = stands.capacity ∙ ap (λ (s : Shape). s.fifo) (sym shape);
      stopped = λ off. stands.stopped (ap is_running (sym here) ∙ off);
      running = λ on. subst (λ (d : Descriptor). RunsBy counts playing (record { descriptor = d; state = state })) (sym here) (stands.running (ap is_running (sym here) ∙ on));
    }

-- what was reset stays so, whatever it was before
reset_settled : (old : Descriptor) → settled old (reset_descriptor 0) ≡ reset_descriptor 0
reset_settled old = by_run (is_running old)
  where
    by_run : (ran : Bool) → record (reset_descriptor 0) {
      link_position = if not ran && false then 0 else 0;
      fifo_ready = if (not ran && false) || (ran && true) then 0 else 0;
    } ≡ reset_descriptor 0
    by_run true = refl
    by_run false = refl

input_held : (old : Descriptor) (new : Fields) → IsHeldInReset new → IsHeldInReset (record new { input = settled old new.input })
input_held old new held off =
    let is : new.input ≡ reset_descriptor 0 = ap (λ (f : Fields). f.input) (held off) in
    ap (λ (d : Descriptor). record new { input = d }) (ap (settled old) is ∙ (reset_settled old ∙ sym is)) ∙ held off

output_held : (old : Descriptor) (new : Fields) → IsHeldInReset new → IsHeldInReset (record new { output = settled old new.output })
output_held old new held off =
    let is : new.output ≡ reset_descriptor 0 = ap (λ (f : Fields). f.output) (held off) in
    ap (λ (d : Descriptor). record new { output = d }) (ap (settled old) is ∙ (reset_settled old ∙ sym is)) ∙ held off

-- what is promised of a stream after a write that left these registers
abbrev pub SettlesBy : (counts : Counts) (before after : Playing) (new settled : Fields) (started stopped : Bool) → Type 0
SettlesBy counts before after new done started stopped =
    (old : Descriptor) (state : StreamState) → IsHeldInReset new → started ≡ rose old (stream_of new before.index) → stopped ≡ fell old (stream_of new before.index)
    → StoodForBy counts before new old state
    → LeadsToBy counts after new done (record { descriptor = settled old (stream_of new before.index); state = settled_state old (stream_of new before.index) state })

abbrev pub Settles : (before after : Playing) (new settled : Fields) (started stopped : Bool) → Type 0
Settles = SettlesBy sent_bytes

-- for the descriptor of this number
settles_at : {counts : Counts} (index : ℕ) (before after : Playing) (new done : Fields) (started stopped : Bool) (old : Descriptor) (state : StreamState) → before.index ≡ index → after.index ≡ before.index
    → IsHeldInReset new → started ≡ rose old (stream_of new index) → stopped ≡ fell old (stream_of new index) → StoodForBy counts before new old state
    → SettlesBy counts before after new done started stopped
    → (done ≡ with_descriptor index (settled old (stream_of new index)) new) × StandsForBy counts after done (settled_state old (stream_of new index) state)
settles_at {counts} index before after new done started stopped old state is same held rises falls stood settles =
    let here : stream_of new before.index ≡ stream_of new index = ap (stream_of new) is in
    let leads = subst (λ (d : Descriptor). LeadsToBy counts after new done (record { descriptor = settled old d; state = settled_state old d state })) here
    (settles old state held (rises ∙ ap (rose old) (sym here)) (falls ∙ ap (fell old) (sym here)) stood) in
    (leads.registers ∙ ap (λ (i : ℕ). with_descriptor i (settled old (stream_of new index)) new) (same ∙ is), leads.stands)

-- what a write of a register tells of the streams
pub starts_are : (old : Fields) (at value : ℕ) (width : Width) (effects : Effects) → effects ≡ effects_of old at width value → let new = written old at width value in
    (slice_index_or effects.started 0 false ≡ rose old.input new.input) × (slice_index_or effects.started 1 false ≡ rose old.output new.output)
    × (slice_index_or effects.stopped 0 false ≡ fell old.input new.input) × (slice_index_or effects.stopped 1 false ≡ fell old.output new.output)
unfolding effects_of
starts_are old at value width effects is = (
  ap (λ (e : Effects). slice_index_or e.started 0 false) is,
  ap (λ (e : Effects). slice_index_or e.started 1 false) is,
  ap (λ (e : Effects). slice_index_or e.stopped 0 false) is,
  ap (λ (e : Effects). slice_index_or e.stopped 1 false) is,
)

-- the registers and the streams after a write, by what LPIB counts at the input stream
pub record SettledBy (counts : Counts) (old new second : Fields) (input output : Playing) (input_state output_state : StreamState) : Type 0 where
  pub registers : second ≡ record new { input = settled old.input new.input; output = settled old.output new.output }
  pub held : IsHeldInReset second
  pub input_stands : StandsForBy counts input second (settled_state old.input new.input input_state)
  pub output_stands : StandsFor output second (settled_state old.output new.output output_state)

abbrev pub Settled : (old new second : Fields) (input output : Playing) (input_state output_state : StreamState) → Type 0
Settled = SettledBy sent_bytes

module _ (old : Fields) (old_input old_output input output : Playing) (new first second : Fields) (at : ℕ) (width : Width) (value : ℕ) where
  -- a write that was settled at the input stream, and then at the output stream
  pub streams_settle : {counts : Counts} (in_starts in_stops out_starts out_stops : Bool) (input_state output_state : StreamState) → IsHeldInReset old → old_input.index ≡ 0 → old_output.index ≡ 1 → StandsForBy counts old_input old input_state → StandsFor old_output old output_state
      → new ≡ written old at width value → input.index ≡ old_input.index → output.index ≡ old_output.index
      → in_starts ≡ rose old.input new.input → in_stops ≡ fell old.input new.input → out_starts ≡ rose old.output new.output → out_stops ≡ fell old.output new.output
      → SettlesBy counts old_input input new first in_starts in_stops → Settles old_output output first second out_starts out_stops
      → SettledBy counts old new second input output input_state output_state
  streams_settle {counts} in_starts in_stops out_starts out_stops input_state output_state held input_index output_index in_stands out_stands new_is input_same output_same in_rises in_falls out_rises out_falls in_settles out_settles =
      let held_new : IsHeldInReset new = subst IsHeldInReset (sym new_is) (stays-held old at width value held) in
      let shape : new.shape ≡ old.shape = ap (λ (f : Fields). f.shape) new_is ∙ keeps-shape old at width value in
      let in_stood : StoodForBy counts old_input new old.input input_state = subst (λ (i : ℕ). StoodForBy counts old_input new (stream_of old i) input_state) input_index
      (stood_written old_input old new at width value input_state in_stands (ap (λ (f : Fields). stream_of f old_input.index) new_is) shape) in
      let in_done = settles_at 0 old_input input new first in_starts in_stops old.input input_state input_index input_same held_new in_rises in_falls in_stood in_settles in
      let first_is : first ≡ record new { input = settled old.input new.input } = in_done.0 in
      let held_first : IsHeldInReset first = subst IsHeldInReset (sym first_is) (input_held old.input new held_new) in
      let left : first.output ≡ new.output = ap (λ (f : Fields). f.output) first_is in
      let first_here : stream_of first old_output.index ≡ stream_of (written old at width value) old_output.index =
      ap (stream_of first) output_index ∙ (left ∙ (ap (λ (f : Fields). f.output) new_is ∙ sym (ap (stream_of (written old at width value)) output_index))) in
      let out_stood : StoodFor old_output first old.output output_state = subst (λ (i : ℕ). StoodFor old_output first (stream_of old i) output_state) output_index
      (stood_written old_output old first at width value output_state out_stands first_here (ap (λ (f : Fields). f.shape) first_is ∙ shape)) in
      let out_done = settles_at 1 old_output output first second out_starts out_stops old.output output_state output_index output_same held_first
      (out_rises ∙ ap (rose old.output) (sym left)) (out_falls ∙ ap (fell old.output) (sym left)) out_stood out_settles in
      let second_is : second ≡ record first { output = settled old.output first.output } = out_done.0 in
      record {
        registers = second_is ∙ (ap (λ (d : Descriptor). record first { output = settled old.output d }) left ∙ ap (λ (f : Fields). record f { output = settled old.output new.output }) first_is);
        held = subst IsHeldInReset (sym second_is) (output_held old.output first held_first);
        input_stands = beside_output input first second (settled_state old.input new.input input_state) (input_same ∙ input_index) in_done.1 (ap (λ (f : Fields). f.shape) second_is) (ap (λ (f : Fields). f.input) second_is);
        output_stands = subst (λ (d : Descriptor). StandsFor output second (settled_state old.output d output_state)) left out_done.1;
      }
