-- What happens beside the engine leaves how it stands.
use Rattle.std.proofs.Common.{◌≡◌, ◌≢◌, ◌==◌, ℕ, Bool, true, false, List, [], ◌∷◌, refl, sym, ap, subst, ◌∙◌, arith, rules, tests}
use Rattle.std.specs.Prelude.{All}
use Rattle.std.proofs.lemmas.List.Elements.{All-head, All-tail}
use Rattle.hda_registers.specs.declared.shapes.Width.{Width}
use Rattle.hda_registers.specs.declared.shapes.Shape.{Shape}
use Rattle.hda_registers.specs.declared.shapes.RingSize.{RingSize}
use Rattle.hda_registers.specs.declared.shapes.RingSize.TheVariants.{Two, Sixteen, Full}
use Rattle.hda_registers.specs.Fields.{Fields, is_out_of_reset, is_running}
use Rattle.hda_registers.specs.Access.{written}
use Rattle.hda_registers.specs.Laws.{IsBesideRings, IsHeldInReset}
use Rattle.hda_registers.proofs.Callers.{leaves-rings, keeps-shape, stays-held}
use Rattle.world_streams.specs.Streams.{Stream}
use Rattle.hda_world.specs.Worlds.{World, input_of}
use Rattle.hda_world.specs.Events.{Event, Stepped, Begin, End, Read, Write, DmaRead, DmaWrite, registers_written, after_write, happens, after}
use Rattle.hda_world.proofs.Callers.{beside_write, steps_leave, input_stays}
use Rattle.command_engine.specs.declared.ring_places.RingPlaces.{RingPlaces}
use Rattle.command_engine.specs.Sizes.{half_of}
use Rattle.command_engine.specs.Apart.{InputIsApart, StaysApart, LeavesInput, IsBesideBoth}
use Rattle.command_engine.specs.Quiet.{LeavesRegisters, LeaveRegisters}
use Rattle.command_engine.specs.Fetchings.{RingPart, part_of, HasRings, IsBeside, AreBeside, StandsBy, Stands}
use Rattle.command_engine.proofs.Batches.{EachStands}
use Rattle.command_engine.proofs.Apart.{with_apart, write_apart, stopped_apart}
use Rattle.command_engine.proofs.Pieces.{piece_beside}
use Rattle.command_engine.proofs.Keeping.{steps_keep_standing}

some_half : (size : RingSize) → half_of size ≢ 0
some_half Two = omega arith
some_half Sixteen = omega arith
some_half Full = omega arith

is_one : (n : ℕ) → (n == 1) ≡ true → n ≡ 1
is_one n is = search (rules, tests)

-- a write beside the rings does not reset the controller
out_after : (fields : Fields) (at value : ℕ) (width : Width) → IsBesideRings at → is_out_of_reset fields.global ≡ true → fields.global.response_count ≢ 0 → is_out_of_reset (written fields at width value).global ≡ true
out_after fields at value width beside out some = by (is_out_of_reset (written fields at width value).global) refl
  where
    by : (b : Bool) → is_out_of_reset (written fields at width value).global ≡ b → b ≡ true
    by true is = refl
    by false is =
        let held : IsHeldInReset fields = λ in_reset. let z : true ≡ false = sym out ∙ in_reset in cc in
        let reset = stays-held fields at width value held is in
        let none : (written fields at width value).global.response_count ≡ 0 = ap (λ (f : Fields). f.global.response_count) reset in
        let leaves = leaves-rings fields at width value beside in
        absurd (some (sym leaves.response_count ∙ none))

-- the rings' registers are the same where each of them is
same_part : (a a' : ℕ) (b b' : RingSize) (c c' d d' e e' : ℕ) (f f' : RingSize) (g g' h h' i i' j j' : ℕ) → a' ≡ a → b' ≡ b → c' ≡ c → d' ≡ d → e' ≡ e → f' ≡ f → g' ≡ g → h' ≡ h → i' ≡ i → j' ≡ j
    → let new : RingPart = record { controller_reset = a'; corb_size = b'; corb_base = c'; corb_write_pointer = d'; corb_read_pointer = e'; rirb_size = f'; rirb_base = g'; rirb_write_pointer = h'; response_count = i'; response_flag = j' } in
    let old : RingPart = record { controller_reset = a; corb_size = b; corb_base = c; corb_write_pointer = d; corb_read_pointer = e; rirb_size = f; rirb_base = g; rirb_write_pointer = h; response_count = i; response_flag = j } in
    new ≡ old
same_part a a' b b' c c' d d' e e' f f' g g' h h' i i' j j' p q r s t u v w x y = cc

module _ (from read corb rirb : ℕ) (rings : RingPlaces) where
  part_beside : (fields : Fields) (at value : ℕ) (width : Width) → IsBesideRings at → HasRings corb rirb rings (part_of fields) → part_of (written fields at width value) ≡ part_of fields
  part_beside fields at value width beside has =
      let leaves = leaves-rings fields at width value beside in
      let shape = keeps-shape fields at width value in
      let served = has.served in
      let out = out_after fields at value width beside has.out (λ none. some_half rings.rirb (sym served ∙ none)) in
      same_part _ _ _ _ _ _ _ _ _ _ _ _ _ _ _ _ _ _ _ _ (is_one _ out ∙ sym (is_one _ has.out)) (ap (λ (s : Shape). s.corb) shape) leaves.corb_base leaves.corb_write_pointer leaves.corb_read_pointer
      (ap (λ (s : Shape). s.rirb) shape) leaves.rirb_base leaves.rirb_write_pointer leaves.response_count leaves.response_flag

  write_beside : (world : World) (at value : ℕ) (width : Width) → IsBesideRings at → InputIsApart corb rirb (after_write at width value world) → Stands from read corb rirb rings world → Stands from read corb rirb rings (after_write at width value world)
  write_beside world at value width beside apart holds =
      let same = beside_write world at value width beside in
      subst (λ (w : World). Stands from read corb rirb rings w) (sym same)
      (with_apart from read corb rirb rings (part_of (written world.registers at width value)) world.memory world.codecs world.waiting world.commands world.written (input_of world) (input_of (registers_written (written world.registers at width value) world))
      (subst (InputIsApart corb rirb) same apart)
      (subst (λ (part : RingPart). StandsBy from read corb rirb rings part world.memory world.codecs world.waiting world.commands world.written (input_of world)) (sym (part_beside world.registers at value width beside holds.has_rings)) holds))

  pub event_keeps : EachStands → (event : Event) (world : World) → IsBeside corb rirb event → StaysApart corb rirb event world → Stands from read corb rirb rings world → Stands from read corb rirb rings (happens world event)
  event_keeps stands (Stepped step) world beside apart holds = steps_keep_standing from read corb rirb rings stands (step ∷ []) world holds
  event_keeps stands Begin world beside apart holds = holds
  event_keeps stands End world beside apart holds = holds
  event_keeps stands (Read at width value) world beside apart holds = holds
  event_keeps stands (Write at width value) world beside apart holds = write_beside world at value width beside apart holds
  event_keeps stands (DmaRead at bytes) world beside apart holds = holds
  event_keeps stands (DmaWrite at bytes) world beside apart holds = piece_beside from read corb rirb rings world at bytes (input_of world) beside.0 beside.1 apart holds

  pub events_keep : EachStands → (events : List Event) (world : World) → AreBeside corb rirb events world → Stands from read corb rirb rings world → Stands from read corb rirb rings (after events world)
  events_keep stands [] world beside holds = holds
  events_keep stands (event ∷ events) world beside holds = events_keep stands events (happens world event) beside.2 (event_keeps stands event world beside.0 beside.1 holds)

  -- an event that leaves memory and the input stream keeps it
  pub event_beside_input_keeps : EachStands → (event : Event) (world : World) → IsBesideBoth event → Stands from read corb rirb rings world → Stands from read corb rirb rings (happens world event)
  event_beside_input_keeps stands (Stepped step) world beside holds = steps_keep_standing from read corb rirb rings stands (step ∷ []) world holds
  event_beside_input_keeps stands Begin world beside holds = holds
  event_beside_input_keeps stands End world beside holds = holds
  event_beside_input_keeps stands (Read at width value) world beside holds = holds
  event_beside_input_keeps stands (Write at width value) world beside holds = write_beside world at value width beside.0 (write_apart corb rirb world at value width beside.1.control beside.1.descriptor holds.apart) holds
  event_beside_input_keeps stands (DmaRead at bytes) world beside holds = holds
  event_beside_input_keeps stands (DmaWrite at bytes) world beside holds = absurd beside

  pub events_beside_input_keep : EachStands → (events : List Event) (world : World) → All IsBesideBoth events → Stands from read corb rirb rings world → Stands from read corb rirb rings (after events world)
  events_beside_input_keep stands [] world beside holds = holds
  events_beside_input_keep stands (event ∷ events) world beside holds =
      events_beside_input_keep stands events (happens world event) (All-tail IsBesideBoth event events beside) (event_beside_input_keeps stands event world (All-head IsBesideBoth event events beside) holds)

-- ---- an input stream that does not run

-- it stays so
stopped_after : (event : Event) (world : World) → LeavesInput event → is_running world.registers.input ≡ false → is_running (happens world event).registers.input ≡ false
stopped_after (Stepped step) world leaves stopped =
    let stay = steps_leave (step ∷ []) world in
    ap is_running (stay.registers.input.still stopped) ∙ stopped
stopped_after Begin world leaves stopped = stopped
stopped_after End world leaves stopped = stopped
stopped_after (Read at width value) world leaves stopped = stopped
stopped_after (Write at width value) world leaves stopped =
    ap (λ (stream : Stream). is_running stream.descriptor) (input_stays world at value width leaves.control leaves.descriptor) ∙ stopped
stopped_after (DmaRead at bytes) world leaves stopped = stopped
stopped_after (DmaWrite at bytes) world leaves stopped = stopped

pub stopped_events : (events : List Event) (world : World) → All LeavesInput events → is_running world.registers.input ≡ false → is_running (after events world).registers.input ≡ false
stopped_events [] world leave stopped = stopped
stopped_events (event ∷ events) world leave stopped =
    stopped_events events (happens world event) (All-tail LeavesInput event events leave) (stopped_after event world (All-head LeavesInput event events leave) stopped)

-- and so it is apart after each event
stays_apart : (corb rirb : ℕ) (event : Event) (world : World) → is_running (happens world event).registers.input ≡ false → StaysApart corb rirb event world
stays_apart corb rirb (Stepped step) world stopped = tt {0}
stays_apart corb rirb Begin world stopped = tt {0}
stays_apart corb rirb End world stopped = tt {0}
stays_apart corb rirb (Read at width value) world stopped = tt {0}
stays_apart corb rirb (Write at width value) world stopped = stopped_apart corb rirb _ (input_of (after_write at width value world)) stopped
stays_apart corb rirb (DmaRead at bytes) world stopped = tt {0}
stays_apart corb rirb (DmaWrite at bytes) world stopped = stopped_apart corb rirb _ (input_of world) stopped

pub stopped_beside : (corb rirb : ℕ) (events : List Event) (world : World) → All (IsBeside corb rirb) events → All LeavesInput events → is_running world.registers.input ≡ false → AreBeside corb rirb events world
stopped_beside corb rirb [] world beside leave stopped = tt {0}
stopped_beside corb rirb (event ∷ events) world beside leave stopped =
    let still = stopped_after event world (All-head LeavesInput event events leave) stopped in (
      All-head (IsBeside corb rirb) event events beside,
      stays_apart corb rirb event world still,
      stopped_beside corb rirb events (happens world event) (All-tail (IsBeside corb rirb) event events beside) (All-tail LeavesInput event events leave) still,
    )

pub stopped_leave : (corb rirb : ℕ) (events : List Event) (world : World) → All LeavesRegisters events → All LeavesInput events → is_running world.registers.input ≡ false → LeaveRegisters corb rirb events world
stopped_leave corb rirb [] world registers leave stopped = tt {0}
stopped_leave corb rirb (event ∷ events) world registers leave stopped =
    let still = stopped_after event world (All-head LeavesInput event events leave) stopped in (
      All-head LeavesRegisters event events registers,
      stays_apart corb rirb event world still,
      stopped_leave corb rirb events (happens world event) (All-tail LeavesRegisters event events registers) (All-tail LeavesInput event events leave) still,
    )
