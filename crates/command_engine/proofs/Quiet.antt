-- What keeps the world quiet, and what leads to a start.
use Rattle.std.proofs.Common.{◌≡◌, ◌≢◌, ◌≤◌, ◌<◌, ◌⊎◌, ◌-◌, ◌*◌, ◌/◌, ◌%◌, ◌==◌, ◌||◌, ◌&&◌, not, ℕ, Bool, true, false, List, [], ◌∷◌, length, map, refl, sym, ap, ap₂, subst, ◌∙◌, inl, inr, arith, rules, tests, lit<, lit≤, if◌then◌else◌}
use Rattle.std.specs.Prelude.{All, nat_lt}
use Rattle.std.proofs.lemmas.List.Elements.{All-cons, All-nil}
use Rattle.std.proofs.lemmas.List.Sums.{sum_by-cons}
use Rattle.codec_graph.specs.declared.raw.RawCodec.{RawCodec}
use Rattle.codec_graph.specs.CodecStates.{CodecState, cleared, answers}
use Rattle.hda_registers.specs.declared.shapes.Width.{Width}
use Rattle.hda_registers.specs.declared.shapes.Width.TheVariants.{Four}
use Rattle.hda_registers.specs.declared.shapes.Shape.{Shape}
use Rattle.hda_registers.specs.Fields.{Fields, Global, Descriptor, reset_fields, is_out_of_reset, is_running}
use Rattle.hda_registers.specs.Access.{access_of, is_taken, with_global, written, placed, global_written, stream_written, effects_of}
use Rattle.hda_registers.specs.Laws.{IsBesideRings}
use Rattle.hda_registers.proofs.Callers.{leaves-rings}
use Rattle.world_rings.proofs.Callers.{stored_outside}
use Rattle.world_streams.specs.Streams.{StreamState}
use Rattle.world_steps.specs.declared.Step.{Step}
use Rattle.hda_world.specs.Worlds.{World, input_of}
use Rattle.hda_world.specs.Steps.{after_steps}
use Rattle.hda_world.specs.Events.{Event, Stepped, Begin, End, Read, Write, DmaRead, DmaWrite, registers_written, after_write, happens, after}
use Rattle.hda_world.proofs.Callers.{kept_steps, beside_write, reset_write, plain_write, rising_write, write_memory, write_registers, streams_out}
use Rattle.command_engine.specs.Fetchings.{RingPart, part_of, HasBlocks, AscendFrom, AscendByAddress, CodecCanSend, ItemCanCome, waiting_answers}
use Rattle.command_engine.specs.Apart.{InputIsApart, StaysApart, LeavesInput}
use Rattle.command_engine.specs.Quiet.{IsQuiet, CanStart, LeavesRegisters, LeaveRegisters}
use Rattle.command_engine.proofs.Apart.{stopped_apart, same_apart}
use Rattle.command_engine.proofs.Beside.{stopped_events, stopped_leave}
use Rattle.command_engine.proofs.StartTellings.{Runs, IsSet, set_kept, runs_stopped}

-- ---- steps

abbrev set_of : (corb rirb : ℕ) → World → World → Type 0
set_of corb rirb world = IsSet (length world.commands) (length world.written) corb rirb (part_of world.registers) 0

quiet_set : (corb rirb : ℕ) (world : World) → IsQuiet corb rirb world → set_of corb rirb world world
quiet_set corb rirb world quiet = record {
  part_is = refl;
  runs_are = runs_stopped _ _ quiet.corb_stopped quiet.rirb_stopped;
  blocks = quiet.blocks;
  ascend = quiet.ascend;
  way = quiet.nothing_comes;
  from_is = refl;
  read_is = refl;
  apart = quiet.apart;
}

steps_set : (corb rirb : ℕ) (steps : List Step) (world : World) → IsQuiet corb rirb world → set_of corb rirb world (after_steps steps world)
steps_set corb rirb steps world quiet =
    kept_steps (set_of corb rirb world) (set_kept (length world.commands) (length world.written) corb rirb (part_of world.registers) 0 (inl refl)) steps world (quiet_set corb rirb world quiet)

set_quiet : (corb rirb : ℕ) (old new : World) → IsQuiet corb rirb old → set_of corb rirb old new → IsQuiet corb rirb new
set_quiet corb rirb old new quiet set = record {
  corb_stopped = ap (λ (runs : Runs). runs.corb) set.runs_are;
  rirb_stopped = ap (λ (runs : Runs). runs.rirb) set.runs_are;
  flag = subst (λ (flag : ℕ). flag ≤ 1) (sym (ap (λ (part : RingPart). part.response_flag) set.part_is)) quiet.flag;
  blocks = set.blocks;
  ascend = set.ascend;
  nothing_comes = set.way;
  apart = set.apart;
}

pub quiet_steps : (corb rirb : ℕ) (steps : List Step) (world : World) → IsQuiet corb rirb world → IsQuiet corb rirb (after_steps steps world)
quiet_steps corb rirb steps world quiet = set_quiet corb rirb world (after_steps steps world) quiet (steps_set corb rirb steps world quiet)

pub can_start_steps : (corb rirb : ℕ) (steps : List Step) (world : World) → CanStart corb rirb world → CanStart corb rirb (after_steps steps world)
can_start_steps corb rirb steps world can =
    let set = steps_set corb rirb steps world can.quiet in
    record {
      quiet = set_quiet corb rirb world (after_steps steps world) can.quiet set;
      out = ap (λ (part : RingPart). part.controller_reset == 1) set.part_is ∙ can.out;
    }

-- ---- events beside

not_control : (at : ℕ) → IsBesideRings at → at / 4 ≢ 2
not_control at beside = by beside.control
  where
    by : (at < 0x08) ⊎ (0x0C ≤ at) → at / 4 ≢ 2
    by (inl below) = omega arith
    by (inr above) = omega arith

not_equal : (n : ℕ) → n ≢ 2 → (2 == n) ≡ false
not_equal n apart = search (rules, tests)

global-out : (shape : Shape) (at value : ℕ) (width : Width) (g : Global) → at / 4 ≢ 2 → is_out_of_reset (global_written shape (access_of at width value) g) ≡ is_out_of_reset g
unfolding global_written
global-out shape at value width g apart = rw (not_equal (at / 4) apart) refl

with-out : (fields : Fields) (g : Global) → is_out_of_reset g ≡ true → is_out_of_reset (with_global fields g).global ≡ true
with-out fields g out = rw (out, out) refl

placed-cases : (a b c : Bool) (x y z w : Fields) → is_out_of_reset x.global ≡ true → is_out_of_reset y.global ≡ true → is_out_of_reset z.global ≡ true → is_out_of_reset w.global ≡ true
    → is_out_of_reset (if a then x else (if b then y else (if c then z else w))).global ≡ true
placed-cases true b c x y z w p q r s = p
placed-cases false true c x y z w p q r s = q
placed-cases false false true x y z w p q r s = r
placed-cases false false false x y z w p q r s = s

placed-out : (fields : Fields) (at value : ℕ) (width : Width) → at / 4 ≢ 2 → is_out_of_reset fields.global ≡ true → is_out_of_reset (placed fields at width value).global ≡ true
unfolding placed
placed-out fields at value width apart out =
    let g = global_written fields.shape (access_of at width value) fields.global in
    placed-cases (nat_lt at 0x80) (nat_lt at 0xA0) (nat_lt at 0xC0) (with_global fields g)
    (record fields { input = stream_written (access_of (at - 0x80) width value) fields.input }) (record fields { output = stream_written (access_of (at - 0xA0) width value) fields.output }) fields
    (with-out fields g (global-out fields.shape at value width fields.global apart ∙ out)) out out out

taken-cases : (a : Bool) (x y : Fields) → is_out_of_reset x.global ≡ true → is_out_of_reset y.global ≡ true → is_out_of_reset (if a then x else y).global ≡ true
taken-cases true x y p q = p
taken-cases false x y p q = q

-- a write elsewhere than at GCTL leaves the controller out of reset
written-out : (fields : Fields) (at value : ℕ) (width : Width) → at / 4 ≢ 2 → is_out_of_reset fields.global ≡ true → is_out_of_reset (written fields at width value).global ≡ true
unfolding written
written-out fields at value width apart out = taken-cases (is_taken fields at width) (placed fields at width value) fields (placed-out fields at value width apart out) out

write_quiet : (corb rirb : ℕ) (world : World) (at value : ℕ) (width : Width) → IsBesideRings at → InputIsApart corb rirb (after_write at width value world) → IsQuiet corb rirb world
    → IsQuiet corb rirb (registers_written (written world.registers at width value) world)
write_quiet corb rirb world at value width beside apart quiet =
    let leaves = leaves-rings world.registers at width value beside in
    record {
      corb_stopped = leaves.corb_run ∙ quiet.corb_stopped;
      rirb_stopped = leaves.rirb_run ∙ quiet.rirb_stopped;
      flag = subst (λ (flag : ℕ). flag ≤ 1) (sym leaves.response_flag) quiet.flag;
      blocks = quiet.blocks;
      ascend = quiet.ascend;
      nothing_comes = quiet.nothing_comes;
      apart = subst (InputIsApart corb rirb) (beside_write world at value width beside) apart;
    }

stored_quiet : (corb rirb : ℕ) (world : World) (at : ℕ) (bytes : List ℕ) → InputIsApart corb rirb (happens world (DmaWrite at bytes)) → IsQuiet corb rirb world → IsQuiet corb rirb (happens world (DmaWrite at bytes))
stored_quiet corb rirb world at bytes apart quiet = record {
  corb_stopped = quiet.corb_stopped;
  rirb_stopped = quiet.rirb_stopped;
  flag = quiet.flag;
  blocks = subst (HasBlocks corb rirb) (sym (stored_outside at bytes world.memory).0) quiet.blocks;
  ascend = quiet.ascend;
  nothing_comes = quiet.nothing_comes;
  apart = apart;
}

quiet_event : (corb rirb : ℕ) (event : Event) (world : World) → LeavesRegisters event → StaysApart corb rirb event world → IsQuiet corb rirb world → IsQuiet corb rirb (happens world event)
quiet_event corb rirb (Stepped step) world leaves apart quiet = quiet_steps corb rirb (step ∷ []) world quiet
quiet_event corb rirb Begin world leaves apart quiet = quiet
quiet_event corb rirb End world leaves apart quiet = quiet
quiet_event corb rirb (Read at width value) world leaves apart quiet = quiet
quiet_event corb rirb (Write at width value) world leaves apart quiet =
    subst (IsQuiet corb rirb) (sym (beside_write world at value width leaves)) (write_quiet corb rirb world at value width leaves apart quiet)
quiet_event corb rirb (DmaRead at bytes) world leaves apart quiet = quiet
quiet_event corb rirb (DmaWrite at bytes) world leaves apart quiet = stored_quiet corb rirb world at bytes apart quiet

pub quiet_events : (corb rirb : ℕ) (events : List Event) (world : World) → LeaveRegisters corb rirb events world → IsQuiet corb rirb world → IsQuiet corb rirb (after events world)
quiet_events corb rirb [] world leave quiet = quiet
quiet_events corb rirb (event ∷ events) world leave quiet = quiet_events corb rirb events (happens world event) leave.2 (quiet_event corb rirb event world leave.0 leave.1 quiet)

can_start_event : (corb rirb : ℕ) (event : Event) (world : World) → LeavesRegisters event → StaysApart corb rirb event world → CanStart corb rirb world → CanStart corb rirb (happens world event)
can_start_event corb rirb (Stepped step) world leaves apart can = can_start_steps corb rirb (step ∷ []) world can
can_start_event corb rirb Begin world leaves apart can = can
can_start_event corb rirb End world leaves apart can = can
can_start_event corb rirb (Read at width value) world leaves apart can = can
can_start_event corb rirb (Write at width value) world leaves apart can =
    subst (CanStart corb rirb) (sym (beside_write world at value width leaves))
    (record { quiet = write_quiet corb rirb world at value width leaves apart can.quiet; out = written-out world.registers at value width (not_control at leaves) can.out })
can_start_event corb rirb (DmaRead at bytes) world leaves apart can = can
can_start_event corb rirb (DmaWrite at bytes) world leaves apart can = record { quiet = stored_quiet corb rirb world at bytes apart can.quiet; out = can.out }

pub can_start_events : (corb rirb : ℕ) (events : List Event) (world : World) → LeaveRegisters corb rirb events world → CanStart corb rirb world → CanStart corb rirb (after events world)
can_start_events corb rirb [] world leave can = can
can_start_events corb rirb (event ∷ events) world leave can = can_start_events corb rirb events (happens world event) leave.2 (can_start_event corb rirb event world leave.0 leave.1 can)

-- ---- a reset

pub resets : (fields : Fields) (value : ℕ) → value % 2 ≡ 0 → (effects_of fields 0x08 Four value).reset ≡ true
unfolding effects_of
resets fields value even = rw even refl

taken : (b : Bool) (fields new : Fields) → (if (8 % 4 == 0) && (b || (8 / 4 == 2)) then new else fields) ≡ new
taken true fields new = refl
taken false fields new = refl

in_reset : (fields : Fields) (g : Global) → g.controller_reset ≡ 0 → with_global fields g ≡ reset_fields fields.shape g.state_status
in_reset fields g zero = rw zero refl

out_of_reset : (fields : Fields) (g : Global) → g.controller_reset ≡ 1 → with_global fields g ≡ record fields { global = g }
out_of_reset fields g one = rw one refl

write-control : (fields : Fields) (value : ℕ) → written fields 0x08 Four value ≡ with_global fields (global_written fields.shape (access_of 0x08 Four value) fields.global)
unfolding written placed
write-control fields value = taken (is_out_of_reset fields.global) fields (with_global fields (global_written fields.shape (access_of 0x08 Four value) fields.global))

pub control-written : (shape : Shape) (g : Global) (value : ℕ)
    → global_written shape (access_of 0x08 Four value) g ≡ record g { controller_reset = value % 2; unsolicited = (global_written shape (access_of 0x08 Four value) g).unsolicited }
unfolding global_written
control-written shape g value =
    let low : value % 4294967296 * 1 / 1 % 2 ≡ value % 2 = omega arith in
    rw low refl

none_wait : (codecs : List CodecState) → All (CodecCanSend []) (map cleared codecs) × (waiting_answers (map cleared codecs) ≡ 0)
none_wait [] = (All-nil (CodecCanSend []), refl)
none_wait (codec ∷ codecs) =
    let rest = none_wait codecs in
    let more = sum_by-cons (λ (codec : CodecState). answers codec.waiting) (cleared codec) (map cleared codecs) in
    let none = rest.1 in
    (All-cons (CodecCanSend []) (cleared codec) (map cleared codecs) (All-nil (ItemCanCome [] codec.graph.address)) rest.0, omega arith)

graphs_cleared : (codecs : List CodecState) → map (λ (codec : CodecState). codec.graph) (map cleared codecs) ≡ map (λ (codec : CodecState). codec.graph) codecs
graphs_cleared [] = refl
graphs_cleared (codec ∷ codecs) = ap (λ (graphs : List RawCodec). codec.graph ∷ graphs) (graphs_cleared codecs)

pub reset_registers : (fields : Fields) (value : ℕ) → value % 2 ≡ 0 → written fields 0x08 Four value ≡ reset_fields fields.shape (global_written fields.shape (access_of 0x08 Four value) fields.global).state_status
reset_registers fields value even =
    let g = global_written fields.shape (access_of 0x08 Four value) fields.global in
    write-control fields value ∙ in_reset fields g (ap (λ (g : Global). g.controller_reset) (control-written fields.shape fields.global value) ∙ even)

-- the input stream does not run after it
reset_stops : (value : ℕ) (world : World) → value % 2 ≡ 0 → is_running (after_write 0x08 Four value world).registers.input ≡ false
reset_stops value world even =
    ap (λ (f : Fields). is_running f.input) (write_registers world 0x08 value Four) ∙ ap (λ (f : Fields). is_running f.input) (reset_registers world.registers value even)

pub reset_apart : (corb rirb value : ℕ) (world : World) → value % 2 ≡ 0 → InputIsApart corb rirb (after_write 0x08 Four value world)
reset_apart corb rirb value world even =
    stopped_apart corb rirb (after_write 0x08 Four value world).memory (input_of (after_write 0x08 Four value world)) (reset_stops value world even)

pub reset_quiet : (corb rirb value : ℕ) (world : World) → value % 2 ≡ 0 → HasBlocks corb rirb (length world.memory) → AscendByAddress world.codecs → IsQuiet corb rirb (after_write 0x08 Four value world)
reset_quiet corb rirb value world even blocks ascend =
    let is = reset_registers world.registers value even in
    let none = none_wait world.codecs in
    let few = none.1 in
    subst (IsQuiet corb rirb) (sym (reset_write world 0x08 value Four (resets world.registers value even)))
    (record {
      corb_stopped = ap (λ (f : Fields). f.global.corb_run) is;
      rirb_stopped = ap (λ (f : Fields). f.global.rirb_run) is;
      flag = subst (λ (flag : ℕ). flag ≤ 1) (sym (ap (λ (f : Fields). f.global.response_flag) is)) (lit≤ tt);
      blocks = blocks;
      ascend = subst (AscendFrom 0) (sym (graphs_cleared world.codecs)) ascend;
      nothing_comes = record { in_ring = All-nil _; in_controller = All-nil _; at_codecs = none.0; few = omega arith };
      apart = subst (InputIsApart corb rirb) (reset_write world 0x08 value Four (resets world.registers value even)) (reset_apart corb rirb value world even);
    })

-- ---- the controller leaves reset

pub no_reset : (fields : Fields) (value : ℕ) → value % 2 ≡ 1 → (effects_of fields 0x08 Four value).reset ≡ false
unfolding effects_of
no_reset fields value odd = rw odd refl

rising : (world : World) (value : ℕ) → value % 2 ≡ 1 → (anew : ℕ) × (after_write 0x08 Four value world ≡ record (registers_written (written world.registers 0x08 Four value) world) { frames = anew })
rising world value odd = by (effects_of world.registers 0x08 Four value).left_reset refl
  where
    by : (b : Bool) → (effects_of world.registers 0x08 Four value).left_reset ≡ b → (anew : ℕ) × (after_write 0x08 Four value world ≡ record (registers_written (written world.registers 0x08 Four value) world) { frames = anew })
    by true is = (0, rising_write world 0x08 value Four (no_reset world.registers value odd) is)
    by false is = (world.frames, plain_write world 0x08 value Four (no_reset world.registers value odd) is)

pub risen_registers : (fields : Fields) (value : ℕ) → value % 2 ≡ 1 → (unsolicited : ℕ) × (written fields 0x08 Four value ≡ record fields { global = record fields.global { controller_reset = 1; unsolicited = unsolicited } })
risen_registers fields value odd =
    let g = global_written fields.shape (access_of 0x08 Four value) fields.global in
    let is : g ≡ record fields.global { controller_reset = value % 2; unsolicited = g.unsolicited } = control-written fields.shape fields.global value in
    let one : g.controller_reset ≡ 1 = ap (λ (g : Global). g.controller_reset) is ∙ odd in (
      g.unsolicited,
      write-control fields value ∙ out_of_reset fields g one ∙ ap (λ (g : Global). record fields { global = g }) is
          ∙ ap (λ (reset : ℕ). record fields { global = record fields.global { controller_reset = reset; unsolicited = g.unsolicited } }) odd,
    )

-- such a write takes the controller out of reset
pub leaves_reset : (fields : Fields) → fields.global.controller_reset ≡ 0 → (effects_of fields 0x08 Four 0x101).left_reset ≡ true
unfolding effects_of
leaves_reset fields held =
    ap (λ (reset : ℕ). not (reset == 1) && is_out_of_reset (written fields 0x08 Four 0x101).global) held
    ∙ ap (λ (f : Fields). not (0 == 1) && is_out_of_reset f.global) (risen_registers fields 0x101 refl).1

risen_apart : (corb rirb value : ℕ) (world : World) → value % 2 ≡ 1 → InputIsApart corb rirb world → InputIsApart corb rirb (after_write 0x08 Four value world)
risen_apart corb rirb value world odd apart =
    let out : is_out_of_reset (after_write 0x08 Four value world).registers.global ≡ true =
    ap (λ (w : World). is_out_of_reset w.registers.global) (rising world value odd).1 ∙ ap (λ (f : Fields). is_out_of_reset f.global) (risen_registers world.registers value odd).1 in
    let stay = streams_out world 0x08 value Four (inl (lit< tt)) out in
    same_apart corb rirb world (after_write 0x08 Four value world) (write_memory world 0x08 value Four)
    (ap₂ (λ (descriptor : Descriptor) (state : StreamState). record { descriptor = descriptor; state = state }) stay.input_registers stay.input) apart

pub risen_can_start : (corb rirb value : ℕ) (world : World) → value % 2 ≡ 1 → IsQuiet corb rirb world → CanStart corb rirb (after_write 0x08 Four value world)
risen_can_start corb rirb value world odd quiet =
    let is = (risen_registers world.registers value odd).1 in
    subst (CanStart corb rirb) (sym (rising world value odd).1)
    (record {
      quiet = record {
        corb_stopped = ap (λ (f : Fields). f.global.corb_run) is ∙ quiet.corb_stopped;
        rirb_stopped = ap (λ (f : Fields). f.global.rirb_run) is ∙ quiet.rirb_stopped;
        flag = subst (λ (flag : ℕ). flag ≤ 1) (sym (ap (λ (f : Fields). f.global.response_flag) is)) quiet.flag;
        blocks = quiet.blocks;
        ascend = quiet.ascend;
        nothing_comes = quiet.nothing_comes;
        apart = subst (InputIsApart corb rirb) (rising world value odd).1 (risen_apart corb rirb value world odd quiet.apart);
      };
      out = ap (λ (f : Fields). is_out_of_reset f.global) is;
    })

-- ---- all of it

pub reset_can_start : (corb rirb : ℕ) (before later : List Event) (world : World) → HasBlocks corb rirb (length world.memory) → AscendByAddress world.codecs → LeaveRegisters corb rirb before (after_write 0x08 Four 0 world)
    → LeaveRegisters corb rirb later (after_write 0x08 Four 0x101 (after before (after_write 0x08 Four 0 world)))
    → CanStart corb rirb (after later (after_write 0x08 Four 0x101 (after before (after_write 0x08 Four 0 world))))
reset_can_start corb rirb before later world blocks ascend first second =
    let reset = reset_quiet corb rirb 0 world refl blocks ascend in
    let waits = quiet_events corb rirb before (after_write 0x08 Four 0 world) first reset in
    can_start_events corb rirb later (after_write 0x08 Four 0x101 (after before (after_write 0x08 Four 0 world))) second
    (risen_can_start corb rirb 0x101 (after before (after_write 0x08 Four 0 world)) refl waits)

-- where no event sets the input stream going
risen_stopped : (value : ℕ) (world : World) → value % 2 ≡ 1 → is_running world.registers.input ≡ false → is_running (after_write 0x08 Four value world).registers.input ≡ false
risen_stopped value world odd stopped =
    ap (λ (f : Fields). is_running f.input) (write_registers world 0x08 value Four) ∙ ap (λ (f : Fields). is_running f.input) (risen_registers world.registers value odd).1 ∙ stopped

pub reset_can_start_stopped : (corb rirb : ℕ) (before later : List Event) (world : World) → HasBlocks corb rirb (length world.memory) → AscendByAddress world.codecs
    → All LeavesRegisters before → All LeavesInput before → All LeavesRegisters later → All LeavesInput later
    → CanStart corb rirb (after later (after_write 0x08 Four 0x101 (after before (after_write 0x08 Four 0 world))))
reset_can_start_stopped corb rirb before later world blocks ascend first first_input second second_input =
    let reset = after_write 0x08 Four 0 world in
    let still = reset_stops 0 world refl in
    let waits = stopped_events before reset first_input still in
    let up = risen_stopped 0x101 (after before reset) refl waits in
    reset_can_start corb rirb before later world blocks ascend (stopped_leave corb rirb before reset first first_input still)
    (stopped_leave corb rirb later (after_write 0x08 Four 0x101 (after before reset)) second second_input up)
