-- What a poll and a submission leave of the engines of both rings.
use Rattle.std.proofs.Common.{◌≡◌, ◌≢◌, ◌≤◌, ℕ, zero, suc, ◌+◌, ◌*◌, ◌/◌, ◌%◌, Bool, true, false, List, [], ◌∷◌, refl, sym, ap, subst, ◌∙◌, arith, if◌then◌else◌}
use Rattle.std.specs.Prelude.{All}
use Rattle.std.proofs.lemmas.List.Elements.{All-nil, All-cons, All-head, All-tail}
use Rattle.byteorder.specs.Endian.{little_bytes}
use Rattle.verb_codes.specs.Words.{has_bit}
use Rattle.hda_registers.specs.declared.shapes.Width.{Width}
use Rattle.hda_registers.specs.declared.shapes.Width.TheVariants.{One, Two}
use Rattle.hda_registers.specs.Fields.{Fields, Global, entries_of, is_out_of_reset}
use Rattle.hda_registers.specs.Access.{written, placed, global_written}
use Rattle.hda_registers.proofs.Callers.{read-response_flag, write-corb_write_pointer}
use Rattle.world_steps.specs.declared.Step.{Step}
use Rattle.hda_world.specs.Worlds.{World}
use Rattle.hda_world.specs.Steps.{after_step, after_steps}
use Rattle.hda_world.specs.Events.{Event, Stepped, Begin, End, Read, Write, DmaRead, DmaWrite, IsHonest, happens, after_write}
use Rattle.command_engine.specs.declared.ring_places.RingPlaces.{RingPlaces}
use Rattle.world_rings.specs.declared.entries.TheConstants.{COMMAND_BYTES, RESPONSE_BYTES}
use Rattle.command_engine.specs.Submitting.{command_place, submit_accesses}
use Rattle.command_engine.specs.Polling.{PollReads, entry_reads, batch_accesses, poll_accesses}
use Rattle.laws_serving.specs.ServingSchedules.{IsOfStreams}
use Rattle.laws_serving.proofs.Rows.{CalmRow, kept_row, row_split}
use Rattle.laws_serving.proofs.Worlds.{SameLink, link_then, step_link, event_link, step_control, write_is, IsTimed, timed_step, timed_access}
use Rattle.command_engine.proofs.Callers.{write-response_flag}

-- ---- both engines run

-- they run, CORB's pointer is not reset, and CORB's engine stands at this entry
pub record EnginesRun (place : ℕ) (global : Global) : Type 0 where
  pub out : is_out_of_reset global ≡ true
  pub corb_runs : global.corb_run ≡ 1
  pub no_reset : global.corb_pointer_reset ≡ 0
  pub rirb_runs : global.rirb_run ≡ 1
  pub place_is : global.corb_read_pointer ≡ place

pub engines_step : (place : ℕ) (one : Step) (world : World) → IsOfStreams one → EnginesRun place world.registers.global → EnginesRun place (after_step one world).registers.global
engines_step place one world is run =
    let same = (step_control one world is).global in record {
      out = ap (λ (global : Global). is_out_of_reset global) same ∙ run.out;
      corb_runs = ap (λ (global : Global). global.corb_run) same ∙ run.corb_runs;
      no_reset = ap (λ (global : Global). global.corb_pointer_reset) same ∙ run.no_reset;
      rirb_runs = ap (λ (global : Global). global.rirb_run) same ∙ run.rirb_runs;
      place_is = ap (λ (global : Global). global.corb_read_pointer) same ∙ run.place_is;
    }

pub write-flag : (f : Fields) → is_out_of_reset f.global ≡ true → written f 0x5D One 1 ≡ record f { global = record f.global { response_flag = (written f 0x5D One 1).global.response_flag } }
unfolding written placed global_written
write-flag f out = rw out refl

-- ---- one access

streams_keep : (P : World → Type 0) → ((one : Step) (world : World) → IsOfStreams one → P world → P (after_step one world)) → (steps : List Step) (world : World) → All IsOfStreams steps → P world → P (after_steps steps world)
streams_keep P keeps [] world are holds = holds
streams_keep P keeps (one ∷ steps) world are holds = streams_keep P keeps steps (after_step one world) (All-tail IsOfStreams one steps are) (keeps one world (All-head IsOfStreams one steps are) holds)

-- the moment of the first access of a row, and what holds there
pub record AtFirst (P : World → Type 0) (event : Event) (rest : List Event) (new : World) : Type 0 where
  pub world : World
  pub holds : P world
  pub honest : IsHonest world event
  pub row : CalmRow rest (happens world event) new

pub at_first : (P : World → Type 0) → ((one : Step) (world : World) → IsOfStreams one → P world → P (after_step one world)) → (event : Event) (rest : List Event) (old new : World) → CalmRow (event ∷ rest) old new → P old → AtFirst P event rest new
at_first P keeps event rest old new row holds =
    record { world = after_steps row.0 old; holds = streams_keep P keeps row.0 old row.1 holds; honest = row.2; row = row.3 }

-- ---- all that a call keeps of the rings

-- codecs and what waits are those of the start, both engines run, and RINTFL is this
pub record RunsOn (start : World) (place flag least : ℕ) (world : World) : Type 0 where
  pub engines : EnginesRun place world.registers.global
  pub flag_is : world.registers.global.response_flag ≡ flag
  pub link : SameLink start world
  pub timed : IsTimed least world

-- a read, or a write of memory
abbrev pub IsReading : Event → Type 0
IsReading (Stepped step) = ⊥
IsReading Begin = ⊥
IsReading End = ⊥
IsReading (Read at width value) = Unit {0}
IsReading (Write at width value) = ⊥
IsReading (DmaRead at bytes) = Unit {0}
IsReading (DmaWrite at bytes) = Unit {0}

module _ (start : World) (place flag least : ℕ) where
  pub runs_step : (one : Step) (world : World) → IsOfStreams one → RunsOn start place flag least world → RunsOn start place flag least (after_step one world)
  runs_step one world is runs = record {
    engines = engines_step place one world is runs.engines;
    flag_is = ap (λ (global : Global). global.response_flag) (step_control one world is).global ∙ runs.flag_is;
    link = link_then start world (after_step one world) runs.link (step_link one world is);
    timed = timed_step least one world is runs.timed;
  }

  stored_runs : (world : World) (memory : List ℕ) → RunsOn start place flag least world → RunsOn start place flag least (record world { memory = memory })
  stored_runs world memory runs = record {
    engines = runs.engines;
    flag_is = runs.flag_is;
    link = record { codecs = runs.link.codecs; waiting = runs.link.waiting; commands = runs.link.commands; written = runs.link.written };
    timed = record { out = runs.timed.out; time = runs.timed.time; later = runs.timed.later };
  }

  pub runs_quiet : (event : Event) (world : World) → IsReading event → IsHonest world event → RunsOn start place flag least world → RunsOn start place flag least (happens world event)
  runs_quiet (Stepped step) world is honest runs = absurd is
  runs_quiet Begin world is honest runs = absurd is
  runs_quiet End world is honest runs = absurd is
  runs_quiet (Read at width value) world is honest runs = runs
  runs_quiet (Write at width value) world is honest runs = absurd is
  runs_quiet (DmaRead at bytes) world is honest runs = runs
  runs_quiet (DmaWrite at bytes) world is honest runs = stored_runs world (happens world (DmaWrite at bytes)).memory runs

  -- a row of such accesses
  pub quiet_row : (accesses : List Event) (old new : World) → All IsReading accesses → CalmRow accesses old new → RunsOn start place flag least old → RunsOn start place flag least new
  quiet_row accesses old new are row runs = kept_row (RunsOn start place flag least) IsReading runs_step runs_quiet accesses old new are row runs

  -- after a write that changes the controller's registers so, beside GCTL
  written_runs : (world : World) (at value flag' : ℕ) (width : Width) → at / 4 ≢ 2 → EnginesRun place (written world.registers at width value).global → (written world.registers at width value).global.response_flag ≡ flag'
      → RunsOn start place flag least world → RunsOn start place flag' least (after_write at width value world)
  written_runs world at value flag' width apart engines flag_is runs =
      let is = write_is world at value width apart in record {
        engines = subst (λ (now : World). EnginesRun place now.registers.global) (sym is) engines;
        flag_is = ap (λ (now : World). now.registers.global.response_flag) is ∙ flag_is;
        link = link_then start world (after_write at width value world) runs.link (event_link (Write at width value) world apart tt);
        timed = timed_access least (Write at width value) world apart tt runs.timed;
      }

  -- CORBWP is written
  pub pointed_runs : (world : World) (value : ℕ) → RunsOn start place flag least world → RunsOn start place flag least (after_write 0x48 Two value world)
  pointed_runs world value runs =
      let is = write-corb_write_pointer world.registers value runs.engines.out in
      written_runs world 0x48 value flag Two (omega arith)
      (subst (λ (fields : Fields). EnginesRun place fields.global) (sym is) (record { out = runs.engines.out; corb_runs = runs.engines.corb_runs; no_reset = runs.engines.no_reset; rirb_runs = runs.engines.rirb_runs; place_is = runs.engines.place_is }))
      (ap (λ (fields : Fields). fields.global.response_flag) is ∙ runs.flag_is) runs

-- RINTFL is cleared
pub cleared_runs : (start : World) (place least : ℕ) (world : World) → RunsOn start place 1 least world → RunsOn start place 0 least (after_write 0x5D One 1 world)
cleared_runs start place least world runs =
    let is = write-response_flag world.registers runs.engines.out runs.flag_is in
    written_runs start place 1 least world 0x5D 1 0 One (omega arith)
    (subst (λ (fields : Fields). EnginesRun place fields.global) (sym is) (record { out = runs.engines.out; corb_runs = runs.engines.corb_runs; no_reset = runs.engines.no_reset; rirb_runs = runs.engines.rirb_runs; place_is = runs.engines.place_is }))
    (ap (λ (fields : Fields). fields.global.response_flag) is) runs

-- ---- a poll

entries_quiet : (start : World) (place flag least rirb size from : ℕ) (entries : List (List ℕ)) → All IsReading (entry_reads rirb size from entries)
entries_quiet start place flag least rirb size from [] = All-nil IsReading
entries_quiet start place flag least rirb size from (entry ∷ entries) =
    All-cons IsReading (DmaRead (rirb + RESPONSE_BYTES * (from % size)) entry) (entry_reads rirb size (from + 1) entries) tt (entries_quiet start place flag least rirb size (from + 1) entries)

flag_by : (flag : ℕ) → flag ≤ 1 → (b : Bool) → has_bit flag 0 ≡ b → flag ≡ (if b then 1 else 0)
flag_by zero few true is = cc
flag_by zero few false is = refl
flag_by (suc zero) few true is = refl
flag_by (suc zero) few false is = cc
flag_by (suc (suc more)) few b is = absurd (omega (arith, few))

module _ (start : World) (place least rirb : ℕ) (rings : RingPlaces) (reads : PollReads) where
  batch_runs : (flag : ℕ) (b : Bool) → flag ≡ (if b then 1 else 0) → (old new : World) → CalmRow (if b then batch_accesses rirb rings reads.pointer reads.entries else []) old new → RunsOn start place flag least old → RunsOn start place 0 least new
  batch_runs flag true is old new row runs =
      let entries = entry_reads rirb (entries_of rings.rirb) (rings.read + 1) reads.entries in
      let set = subst (λ (flag : ℕ). RunsOn start place flag least old) is runs in
      let parts = row_split (Read 0x58 Two reads.pointer ∷ entries) (Write 0x5D One 1 ∷ []) old new row in
      let before = quiet_row start place 1 least (Read 0x58 Two reads.pointer ∷ entries) old parts.0
      (All-cons IsReading (Read 0x58 Two reads.pointer) entries tt (entries_quiet start place 1 least rirb (entries_of rings.rirb) (rings.read + 1) reads.entries)) parts.1 set in
      let last = at_first (RunsOn start place 1 least) (runs_step start place 1 least) (Write 0x5D One 1) [] parts.0 new parts.2 before in
      quiet_row start place 0 least [] (happens last.world (Write 0x5D One 1)) new (All-nil IsReading) last.row (cleared_runs start place least last.world last.holds)
  batch_runs flag false is old new row runs =
      quiet_row start place 0 least [] old new (All-nil IsReading) row (subst (λ (flag : ℕ). RunsOn start place flag least old) is runs)

  -- after it RINTFL is clear, and all else is as before
  pub poll_runs : (flag : ℕ) → flag ≤ 1 → (old new : World) → CalmRow (poll_accesses rirb rings reads) old new → RunsOn start place flag least old → RunsOn start place 0 least new
  poll_runs flag few old new row runs =
      let first = at_first (RunsOn start place flag least) (runs_step start place flag least) (Read 0x5D One reads.flag)
      (if has_bit reads.flag 0 then batch_accesses rirb rings reads.pointer reads.entries else []) old new row runs in
      let is : reads.flag ≡ flag = first.honest ∙ read-response_flag first.world.registers ∙ first.holds.flag_is in
      batch_runs flag (has_bit reads.flag 0) (flag_by flag few (has_bit reads.flag 0) (ap (λ (n : ℕ). has_bit n 0) (sym is))) first.world new first.row first.holds

  -- and so after a submission
  pub submit_runs : (corb word : ℕ) (old new : World) → CalmRow (submit_accesses corb rings word) old new → RunsOn start place 0 least old → RunsOn start place 0 least new
  submit_runs corb word old new row runs =
      let first = at_first (RunsOn start place 0 least) (runs_step start place 0 least) (DmaWrite (corb + COMMAND_BYTES * command_place rings) (little_bytes 4 word)) (Write 0x48 Two (command_place rings) ∷ []) old new row runs in
      let stored = runs_quiet start place 0 least (DmaWrite (corb + COMMAND_BYTES * command_place rings) (little_bytes 4 word)) first.world tt first.honest first.holds in
      let last = at_first (RunsOn start place 0 least) (runs_step start place 0 least) (Write 0x48 Two (command_place rings)) []
      (happens first.world (DmaWrite (corb + COMMAND_BYTES * command_place rings) (little_bytes 4 word))) new first.row stored in
      quiet_row start place 0 least [] (happens last.world (Write 0x48 Two (command_place rings))) new (All-nil IsReading) last.row (pointed_runs start place 0 least last.world (command_place rings) last.holds)
