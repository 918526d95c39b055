-- Until the stream is set going link frames carry nothing.
use Rattle.std.proofs.Common.{◌≡◌, ◌≢◌, inl, inr, ◌-◌, ◌/◌, ◌==◌, ℕ, Bool, true, false, List, [], ◌∷◌, ◌++◌, length, refl, sym, ap, subst, ◌∙◌, append_assoc, arith}
use Rattle.std.specs.Prelude.{All}
use Rattle.std.specs.List.{range_with_len}
use Rattle.std.proofs.lemmas.List.Elements.{All-append, All-cons, All-from_recursion, All-head, All-nil, All-tail}
use Rattle.hda_registers.specs.declared.shapes.Width.{Width}
use Rattle.hda_registers.specs.declared.shapes.Width.TheVariants.{One, Two, Four}
use Rattle.hda_registers.specs.declared.places.TheConstants.{INTCTL, WALCLK}
use Rattle.hda_registers.specs.Fields.{Fields, Descriptor, is_out_of_reset, is_running}
use Rattle.hda_registers.specs.Access.{written, placed, stream_written}
use Rattle.hda_registers.proofs.Callers.{ignored, leaves-streams, status-output}
use Rattle.stream_format.specs.Words.{format_word}
use Rattle.hda_world.specs.Worlds.{World}
use Rattle.hda_world.specs.Events.{Event, Stepped, Begin, End, Read, Write, DmaRead, DmaWrite, happens}
use Rattle.hda_world.proofs.Callers.{access_leaves, steps_leave_stopped, write_registers}
use Rattle.period_writer.specs.declared.geometry.Geometry.{Geometry}
use Rattle.period_writer.specs.declared.registers.TheConstants.{CONTROL, RING_LENGTH, LAST_INDEX, FORMAT, LIST_ADDRESS}
use Rattle.period_writer.specs.Rings.{period_bytes, ring_bytes}
use Rattle.period_writer.specs.Places.{line_writes, piece_write}
use Rattle.period_writer.specs.Starting.{entry_write, entry_writes, reset_accesses, rise_accesses}
use Rattle.period_writer.proofs.Callers.{status_error}
use Rattle.laws_hearing.specs.Steady.{LeavesCommands}
use Rattle.laws_stream.specs.Lives.{Along, HasNotBegun, sets_going}
use Rattle.laws_stream.proofs.Rows.{all_map}

-- the stream does not run, and has no error
pub record IsStill (output : Descriptor) : Type 0 where
  pub stopped : is_running output ≡ false
  pub no_error : output.descriptor_error ≡ 0

-- a write that leaves a stream still
abbrev pub LeavesSilent : Event → Type 0
LeavesSilent (Write at width value) = (f : Fields) → IsStill f.output → IsStill (written f at width value).output
LeavesSilent (Stepped step) = Unit {0}
LeavesSilent Begin = Unit {0}
LeavesSilent End = Unit {0}
LeavesSilent (Read at width value) = Unit {0}
LeavesSilent (DmaRead at bytes) = Unit {0}
LeavesSilent (DmaWrite at bytes) = Unit {0}

event_silent : (event : Event) (world : World) → LeavesSilent event → HasNotBegun world → HasNotBegun (happens world event)
event_silent (Stepped step) world leaves silent =
    let stays = steps_leave_stopped (step ∷ []) world silent.stopped in record {
      stopped = stays.stopped;
      no_error = ap (λ (output : Descriptor). output.descriptor_error) stays.registers ∙ silent.no_error;
      none = stays.carried_stays ∙ silent.none;
    }
event_silent (Write at width value) world leaves silent =
    let still = leaves world.registers (record { stopped = silent.stopped; no_error = silent.no_error }) in record {
      stopped = ap (λ (f : Fields). is_running f.output) (write_registers world at value width) ∙ still.stopped;
      no_error = ap (λ (f : Fields). f.output.descriptor_error) (write_registers world at value width) ∙ still.no_error;
      none = (access_leaves world at value width).carried ∙ silent.none;
    }
event_silent Begin world leaves silent = silent
event_silent End world leaves silent = silent
event_silent (Read at width value) world leaves silent = silent
event_silent (DmaRead at bytes) world leaves silent = silent
event_silent (DmaWrite at bytes) world leaves silent = record { stopped = silent.stopped; no_error = silent.no_error; none = silent.none }

pub events_silent : (events : List Event) (world : World) → All LeavesSilent events → HasNotBegun world → Along HasNotBegun events world
events_silent [] world all silent = silent
events_silent (event ∷ events) world all silent =
    (silent, events_silent events (happens world event) (All-tail LeavesSilent event events all) (event_silent event world (All-head LeavesSilent event events all) silent))

-- ---- the writes, one by one

by_reset : (f : Fields) (at value : ℕ) (width : Width) → at / 4 ≢ 2 → (out : Bool) → is_out_of_reset f.global ≡ out → (is_out_of_reset f.global ≡ true → IsStill (written f at width value).output)
    → IsStill f.output → IsStill (written f at width value).output
by_reset f at value width apart true is leaves still = leaves is
by_reset f at value width apart false is leaves still = subst (λ (f : Fields). IsStill f.output) (sym (ignored f at width value is apart)) still

reset_still : (f : Fields) → is_out_of_reset f.global ≡ true → IsStill (written f 0xA0 One 1).output
unfolding written placed stream_written
reset_still f out = record { stopped = rw out refl; no_error = rw out refl }

ready_still : (f : Fields) → is_out_of_reset f.global ≡ true → IsStill f.output → IsStill (written f 0xA0 One 0).output
unfolding written placed stream_written
ready_still f out still = record { stopped = rw out refl; no_error = rw out still.no_error }

tag_still : (f : Fields) → is_out_of_reset f.global ≡ true → IsStill f.output → IsStill (written f 0xA0 Four 0x0010001C).output
unfolding written placed stream_written
tag_still f out still = let none = still.no_error in record { stopped = rw out refl; no_error = rw (out, none) refl }

-- a write of a register that is neither CTL nor STS
record KeepsRun (old new : Descriptor) : Type 0 where
  run : new.run ≡ old.run
  error : new.descriptor_error ≡ old.descriptor_error

still_on : (old new : Descriptor) → KeepsRun old new → IsStill old → IsStill new
still_on old new keeps still = record { stopped = ap (λ (n : ℕ). n == 1) keeps.run ∙ still.stopped; no_error = keeps.error ∙ still.no_error }

length_run : (f : Fields) (v : ℕ) → is_out_of_reset f.global ≡ true → KeepsRun f.output (written f 0xA8 Four v).output
unfolding written placed stream_written
length_run f v out = record { run = rw out refl; error = rw out refl }

last_run : (f : Fields) (v : ℕ) → is_out_of_reset f.global ≡ true → KeepsRun f.output (written f 0xAC Two v).output
unfolding written placed stream_written
last_run f v out = record { run = rw out refl; error = rw out refl }

format_run : (f : Fields) (v : ℕ) → is_out_of_reset f.global ≡ true → KeepsRun f.output (written f 0xB2 Two v).output
unfolding written placed stream_written
format_run f v out = record { run = rw out refl; error = rw out refl }

list_run : (f : Fields) (v : ℕ) → is_out_of_reset f.global ≡ true → KeepsRun f.output (written f 0xB8 Four v).output
unfolding written placed stream_written
list_run f v out = record { run = rw out refl; error = rw out refl }

resets : LeavesSilent (Write 0xA0 One 1)
resets f still = by_reset f 0xA0 1 One (λ e. cc) (is_out_of_reset f.global) refl (reset_still f) still

readies : LeavesSilent (Write 0xA0 One 0)
readies f still = by_reset f 0xA0 0 One (λ e. cc) (is_out_of_reset f.global) refl (λ out. ready_still f out still) still

tags : LeavesSilent (Write 0xA0 Four 0x0010001C)
tags f still = by_reset f 0xA0 0x0010001C Four (λ e. cc) (is_out_of_reset f.global) refl (λ out. tag_still f out still) still

lengths : (v : ℕ) → LeavesSilent (Write 0xA8 Four v)
lengths v f still = by_reset f 0xA8 v Four (λ e. cc) (is_out_of_reset f.global) refl (λ out. still_on f.output (written f 0xA8 Four v).output (length_run f v out) still) still

lasts : (v : ℕ) → LeavesSilent (Write 0xAC Two v)
lasts v f still = by_reset f 0xAC v Two (λ e. cc) (is_out_of_reset f.global) refl (λ out. still_on f.output (written f 0xAC Two v).output (last_run f v out) still) still

formats : (v : ℕ) → LeavesSilent (Write 0xB2 Two v)
formats v f still = by_reset f 0xB2 v Two (λ e. cc) (is_out_of_reset f.global) refl (λ out. still_on f.output (written f 0xB2 Two v).output (format_run f v out) still) still

lists : (v : ℕ) → LeavesSilent (Write 0xB8 Four v)
lists v f still = by_reset f 0xB8 v Four (λ e. cc) (is_out_of_reset f.global) refl (λ out. still_on f.output (written f 0xB8 Four v).output (list_run f v out) still) still

interrupts : LeavesSilent (Write 0x20 Four 0xC0000002)
interrupts f still = subst IsStill (sym (leaves-streams f 0x20 Four 0xC0000002 (λ e. cc) (inl (omega arith))).output) still

-- a status bit is cleared
pub clears_silent : (value : ℕ) → LeavesSilent (Write 0xA3 One value)
clears_silent value f still = record { stopped = ap is_running (status-output f value) ∙ still.stopped; no_error = status_error f value still.no_error }

-- ---- the first run up to the rise of RUN

module _ (geometry : Geometry) (list : ℕ) (periods : List ℕ) (from in_reset ready : ℕ) (line : List ℕ) where
  abbrev entries : List Event
  entries = entry_writes list periods (period_bytes geometry.period)

  abbrev lines : List Event
  lines = line_writes (period_bytes geometry.period) periods 0 (ring_bytes geometry.periods geometry.period) line

  -- the registers but for RUN
  abbrev settings : List Event
  settings =
      Write RING_LENGTH Four (ring_bytes geometry.periods geometry.period) ∷ Write LAST_INDEX Two (geometry.periods - 1)
      ∷ Write FORMAT Two (format_word geometry.format) ∷ Write LIST_ADDRESS Four list ∷ Write CONTROL Four 0x0010001C
      ∷ Write INTCTL Four 0xC0000002 ∷ []

  abbrev pub front : List Event
  front = Read WALCLK Four from ∷ (reset_accesses in_reset ready ++ (entries ++ (lines ++ settings)))

  pub rise_is : rise_accesses geometry list periods from in_reset ready line ≡ front ++ sets_going ∷ []
  rise_is =
      ap (λ (rest : List Event). Read WALCLK Four from ∷ rest)
      (ap (λ (rest : List Event). reset_accesses in_reset ready ++ (entries ++ rest)) (sym (append_assoc lines settings (sets_going ∷ [])))
      ∙ ap (λ (rest : List Event). reset_accesses in_reset ready ++ rest) (sym (append_assoc entries (lines ++ settings) (sets_going ∷ [])))
      ∙ sym (append_assoc (reset_accesses in_reset ready) (entries ++ (lines ++ settings)) (sets_going ∷ [])))

  -- what holds of reads, of writes of memory and of these writes of registers
  module _ (P : Event → Type 0) (reads : (at value : ℕ) (width : Width) → P (Read at width value)) (stores : (at : ℕ) (bytes : List ℕ) → P (DmaWrite at bytes)) where
    front_all : All P (reset_accesses in_reset ready) → All P settings → All P front
    front_all resets sets =
        All-cons P (Read WALCLK Four from) (reset_accesses in_reset ready ++ (entries ++ (lines ++ settings))) (reads WALCLK from Four)
        (All-append P (reset_accesses in_reset ready) (entries ++ (lines ++ settings)) resets
        (All-append P entries (lines ++ settings) (all_map P (entry_write list periods (period_bytes geometry.period)) (λ index. stores _ _) (range_with_len 0 (length periods)))
        (All-append P lines settings (all_map P (piece_write (period_bytes geometry.period) periods 0 (ring_bytes geometry.periods geometry.period) line) (λ period. stores _ _) (range_with_len _ _)) sets)))

    reset_all : P (Write 0xA0 One 1) → P (Write 0xA0 One 0) → All P (reset_accesses in_reset ready)
    reset_all one zero = All-from_recursion P (reset_accesses in_reset ready) (one, (reads 0xA0 in_reset One, (zero, (reads 0xA0 ready One, tt))))

    settings_all : ((v : ℕ) → P (Write 0xA8 Four v)) → ((v : ℕ) → P (Write 0xAC Two v)) → ((v : ℕ) → P (Write 0xB2 Two v)) → ((v : ℕ) → P (Write 0xB8 Four v)) → P (Write 0xA0 Four 0x0010001C) → P (Write 0x20 Four 0xC0000002) → All P settings
    settings_all a b c d e f =
        All-from_recursion P settings (a (ring_bytes geometry.periods geometry.period), (b (geometry.periods - 1), (c (format_word geometry.format), (d list, (e, (f, tt))))))

  pub front_silent : All LeavesSilent front
  front_silent =
      front_all LeavesSilent (λ at value width. tt {0}) (λ at bytes. tt {0})
      (reset_all LeavesSilent (λ at value width. tt {0}) (λ at bytes. tt {0}) resets readies)
      (settings_all LeavesSilent (λ at value width. tt {0}) (λ at bytes. tt {0}) lengths lasts formats lists tags interrupts)

  pub rise_idle : All LeavesCommands (rise_accesses geometry list periods from in_reset ready line)
  rise_idle =
      subst (All LeavesCommands) (sym rise_is)
      (All-append LeavesCommands front (sets_going ∷ [])
      (front_all LeavesCommands (λ at value width. tt {0}) (λ at bytes. tt {0})
      (reset_all LeavesCommands (λ at value width. tt {0}) (λ at bytes. tt {0}) (record { control = λ e. cc; corb = inr (omega arith) }) (record { control = λ e. cc; corb = inr (omega arith) }))
      (settings_all LeavesCommands (λ at value width. tt {0}) (λ at bytes. tt {0}) (λ v. record { control = λ e. cc; corb = inr (omega arith) }) (λ v. record { control = λ e. cc; corb = inr (omega arith) })
      (λ v. record { control = λ e. cc; corb = inr (omega arith) }) (λ v. record { control = λ e. cc; corb = inr (omega arith) })
      (record { control = λ e. cc; corb = inr (omega arith) }) (record { control = λ e. cc; corb = inl (omega arith) })))
      (All-cons LeavesCommands sets_going [] (record { control = λ e. cc; corb = inr (omega arith) }) (All-nil LeavesCommands)))
