-- What a write of a register leaves of a stream.
use Rattle.std.proofs.Common.{◌≡◌, ◌==◌, ◌&&◌, ◌/◌, ◌-◌, ◌<◌, ◌⊎◌, inl, inr, nat_lt, nat_le, ℕ, Bool, true, false, Option, None, Some, if◌then◌else◌, refl, sym, ap, ◌∙◌, rules, tests}
use Rattle.std.proofs.lemmas.Bool.{true≢false}
use Rattle.hda_registers.specs.declared.shapes.Width.{Width}
use Rattle.hda_registers.specs.Fields.{Global, Descriptor, Fields, reset_fields, reset_descriptor, is_out_of_reset, is_running, stream_of}
use Rattle.hda_registers.specs.Status.{worth}
use Rattle.stream_format.specs.Layouts.{Layout, layout_of}
use Rattle.world_streams.specs.Streams.{SamePlay, begun, is_ready, is_format, most_by}
use Rattle.world_streams.proofs.Formats.{some_most}
use Rattle.hda_registers.specs.Table as table
use Rattle.hda_registers.specs.Table.{Rule, Row, stream_row}
use Rattle.hda_registers.specs.Access.{written, placed, with_global, stream_written, stream_by_rules, global_written, access_of, after_write, is_taken, writes_one}

same_if : {A : Type 0} (test : Bool) (x : A) → (if test then x else x) ≡ x
same_if true x = refl
same_if false x = refl

module _ (at : ℕ) (width : Width) (value : ℕ) where
  -- a group that is read only stays
  kept_by : (place low bits old run : ℕ) → (run == 1) ≡ true
      → after_write (access_of at width value) (record { place = place; low = low; bits = bits; rule = if run == 1 then table.ReadOnly else table.ReadWrite }) old ≡ old
  kept_by place low bits old run runs =
      ap (λ (b : Bool). after_write (access_of at width value) (record { place = place; low = low; bits = bits; rule = if b then table.ReadOnly else table.ReadWrite }) old) runs
      ∙ same_if (place / 4 == at / 4) old

  by_rules : (d : Descriptor) → is_running d ≡ true → SamePlay d (stream_by_rules (access_of at width value) d)
  by_rules d runs = record {
    position = same_if _ d.link_position;
    length = kept_by (stream_row d.run table.Length).place (stream_row d.run table.Length).low (stream_row d.run table.Length).bits d.buffer_length d.run runs;
    format = kept_by (stream_row d.run table.Format).place (stream_row d.run table.Format).low (stream_row d.run table.Format).bits d.format d.run runs;
    ready = same_if _ d.fifo_ready;
  }

  -- a stream that runs before and after a write of its descriptor
  one_written : (d : Descriptor) → is_running d ≡ true → is_running (stream_written (access_of at width value) d) ≡ true → SamePlay d (stream_written (access_of at width value) d)
  unfolding stream_written
  one_written d runs still = by_reset ((at / 4 == 0) && writes_one (access_of at width value) 0) still
    where
      by_reset : (reset : Bool) → is_running (if reset then reset_descriptor 1 else stream_by_rules (access_of at width value) d) ≡ true
          → SamePlay d (if reset then reset_descriptor 1 else stream_by_rules (access_of at width value) d)
      by_reset true still = absurd (true≢false (sym still))
      by_reset false still = by_rules d runs

pub same_play : (d : Descriptor) → SamePlay d d
same_play d = record { position = refl; length = refl; format = refl; ready = refl }

-- a stream of the registers that runs before and after a change of them
abbrev Plays : ℕ → Fields → Fields → Type 0
Plays index before after =
    is_running (stream_of before index) ≡ true → is_running (stream_of after index) ≡ true → SamePlay (stream_of before index) (stream_of after index)

-- a write of the controller's part keeps the descriptors or resets them
with_global_plays : (index : ℕ) (before : Fields) (g : Global) → Plays index before (with_global before g)
with_global_plays index before g = by_out (is_out_of_reset g)
  where
    by_input : (input : Bool) → is_running (if input then reset_descriptor 0 else reset_descriptor 0) ≡ false
    by_input true = refl
    by_input false = refl

    by_out : (out : Bool) → Plays index before (if out then record before { global = g } else reset_fields before.shape g.state_status)
    by_out true = λ runs still. same_play (stream_of before index)
    by_out false = λ runs still. absurd (true≢false (sym still ∙ by_input (index == 0)))

-- a write at one descriptor
input_plays : (index at : ℕ) (width : Width) (value : ℕ) (before : Fields) → Plays index before (record before { input = stream_written (access_of at width value) before.input })
input_plays index at width value before = by_input (index == 0)
  where
    by_input : (input : Bool) → is_running (if input then before.input else before.output) ≡ true
        → is_running (if input then stream_written (access_of at width value) before.input else before.output) ≡ true
        → SamePlay (if input then before.input else before.output) (if input then stream_written (access_of at width value) before.input else before.output)
    by_input true = one_written at width value before.input
    by_input false = λ runs still. same_play before.output

output_plays : (index at : ℕ) (width : Width) (value : ℕ) (before : Fields) → Plays index before (record before { output = stream_written (access_of at width value) before.output })
output_plays index at width value before = by_input (index == 0)
  where
    by_input : (input : Bool) → is_running (if input then before.input else before.output) ≡ true
        → is_running (if input then before.input else stream_written (access_of at width value) before.output) ≡ true
        → SamePlay (if input then before.input else before.output) (if input then before.input else stream_written (access_of at width value) before.output)
    by_input true = λ runs still. same_play before.input
    by_input false = one_written at width value before.output

by_test : (Holds : Fields → Type 0) (test : Bool) (one other : Fields) → Holds one → Holds other → Holds (if test then one else other)
by_test Holds true one other first second = first
by_test Holds false one other first second = second

-- a write
pub write_plays : (index : ℕ) (before : Fields) (at : ℕ) (width : Width) (value : ℕ) → Plays index before (written before at width value)
unfolding written placed
write_plays index before at width value =
    by_test (Plays index before) (is_taken before at width) _ before
    (by_test (Plays index before) (nat_lt at 0x80) _ _ (with_global_plays index before (global_written before.shape (access_of at width value) before.global))
    (by_test (Plays index before) (nat_lt at 0xA0) _ _ (input_plays index (at - 0x80) width value before)
    (by_test (Plays index before) (nat_lt at 0xC0) _ before (output_plays index (at - 0xA0) width value before) (λ runs still. same_play (stream_of before index)))))
    (λ runs still. same_play (stream_of before index))

-- ---- FIFORDY

-- FIFORDY stays or is reset
abbrev pub ReadyStays : Descriptor → Descriptor → Type 0
ReadyStays old new = (new.fifo_ready ≡ old.fifo_ready) ⊎ (new.fifo_ready ≡ 0)

one_ready : (at : ℕ) (width : Width) (value : ℕ) (d : Descriptor) → ReadyStays d (stream_written (access_of at width value) d)
unfolding stream_written
one_ready at width value d = by_reset ((at / 4 == 0) && writes_one (access_of at width value) 0)
  where
    by_reset : (reset : Bool) → ReadyStays d (if reset then reset_descriptor 1 else stream_by_rules (access_of at width value) d)
    by_reset true = inr refl
    by_reset false = inl (same_if _ d.fifo_ready)

-- of the output stream
abbrev pub OutputReady : Fields → Fields → Type 0
OutputReady before after = ReadyStays before.output after.output

global_ready : (before : Fields) (g : Global) → OutputReady before (with_global before g)
global_ready before g = by_out (is_out_of_reset g)
  where
    by_out : (out : Bool) → OutputReady before (if out then record before { global = g } else reset_fields before.shape g.state_status)
    by_out true = inl refl
    by_out false = inr refl

pub write_ready : (before : Fields) (at : ℕ) (width : Width) (value : ℕ) → OutputReady before (written before at width value)
unfolding written placed
write_ready before at width value =
    by_test (OutputReady before) (is_taken before at width) _ before
    (by_test (OutputReady before) (nat_lt at 0x80) _ _ (global_ready before (global_written before.shape (access_of at width value) before.global))
    (by_test (OutputReady before) (nat_lt at 0xA0) _ _ (inl refl)
    (by_test (OutputReady before) (nat_lt at 0xC0) _ before (one_ready (at - 0xA0) width value before.output) (inl refl))))
    (inl refl)

-- of the input stream
abbrev pub InputReady : Fields → Fields → Type 0
InputReady before after = ReadyStays before.input after.input

global_ready_input : (before : Fields) (g : Global) → InputReady before (with_global before g)
global_ready_input before g = by_out (is_out_of_reset g)
  where
    by_out : (out : Bool) → InputReady before (if out then record before { global = g } else reset_fields before.shape g.state_status)
    by_out true = inl refl
    by_out false = inr refl

pub write_ready_input : (before : Fields) (at : ℕ) (width : Width) (value : ℕ) → InputReady before (written before at width value)
unfolding written placed
write_ready_input before at width value =
    by_test (InputReady before) (is_taken before at width) _ before
    (by_test (InputReady before) (nat_lt at 0x80) _ _ (global_ready_input before (global_written before.shape (access_of at width value) before.global))
    (by_test (InputReady before) (nat_lt at 0xA0) _ _ (one_ready (at - 0x80) width value before.input)
    (by_test (InputReady before) (nat_lt at 0xC0) _ before (inl refl) (inl refl))))
    (inl refl)

not_yet : (most : ℕ) → 0 < most → nat_le most 0 ≡ false
not_yet most some = search (rules, tests)

no_and : (one : Bool) → (one && false) ≡ false
no_and true = refl
no_and false = refl

-- an empty FIFO is not ready
pub not_ready : (d : Descriptor) → worth (is_ready (record { descriptor = d; state = begun })) 0 ≡ 0
not_ready d = by_format (layout_of d.format) refl
  where
    by_format : (found : Option Layout) → layout_of d.format ≡ found → worth (is_running d && is_format found && nat_le (most_by found) 0) 0 ≡ 0
    by_format None is = ap (λ (ready : Bool). worth (ready && nat_le 0 0) 0) (no_and (is_running d))
    by_format (Some layout) is =
        ap (λ (enough : Bool). worth (is_running d && true && enough) 0) (not_yet (most_by (Some layout)) (some_most d.format layout is))
        ∙ ap (λ (ready : Bool). worth ready 0) (no_and (is_running d && true))
