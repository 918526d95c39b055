-- The second call: the codecs have announced themselves, and both rings are set going.
use Rattle.std.proofs.Common.{◌≡◌, ◌≢◌, ◌≤◌, ℕ, ◌+◌, ◌*◌, ◌/◌, ◌%◌, ◌^◌, ◌==◌, ◌&&◌, not, Bool, true, false, List, [], ◌∷◌, ◌++◌, length, Option, None, Some, refl, sym, ap, subst, ◌∙◌, arith, rules, if◌then◌else◌}
use Rattle.std.specs.Prelude.{All, slice_get}
use Rattle.std.specs.Option.{is_some}
use Rattle.std.specs.List.{list_any}
use Rattle.verb_codes.specs.Words.{has_bit}
use Rattle.std.proofs.Math.Nat.{mod-eq_of_lt}
use Rattle.std.proofs.lemmas.List.{drop_all}
use Rattle.std.proofs.lemmas.List.Elements.{All-nil, All-cons, All-head, All-tail}
use Rattle.std.proofs.lemmas.List.Sums.{sum_by-cons}
use Rattle.codec_graph.specs.CodecStates.{CodecState, answers}
use Rattle.hda_registers.specs.declared.shapes.Width.{Width}
use Rattle.hda_registers.specs.declared.shapes.Width.TheVariants.{One, Two, Four}
use Rattle.hda_registers.specs.declared.shapes.RingSize.{RingSize}
use Rattle.hda_registers.specs.declared.places.TheConstants.{STATESTS, INTCTL, WALCLK, CORBLBASE, CORBWP, CORBRP, CORBCTL, CORBSIZE, RIRBLBASE, RIRBWP, RINTCNT, RIRBCTL, RIRBSIZE}
use Rattle.hda_registers.specs.Fields.{Fields, Global, is_out_of_reset}
use Rattle.hda_registers.specs.Access.{written, placed, global_written}
use Rattle.hda_registers.proofs.Callers.{read-wall_clock}
use Rattle.world_rings.specs.declared.response.Response.{Response}
use Rattle.world_steps.specs.declared.Step.{Step}
use Rattle.hda_world.specs.Worlds.{World, TakenCommand}
use Rattle.hda_world.specs.Steps.{after_step, after_steps}
use Rattle.hda_world.specs.Events.{Event, Read, Write, happens, after_write}
use Rattle.hda_world.specs.Tellings.{world_of}
use Rattle.command_engine.specs.declared.ring_places.RingPlaces.{RingPlaces}
use Rattle.command_engine.specs.Sizes.{half_of, largest_size}
use Rattle.command_engine.specs.Starting.{StartReads, codecs_in, rings_of, rings_found, rings_read, first_reads, settings_if, corb_accesses, rirb_accesses, start_accesses}
use Rattle.command_engine.specs.Fetchings.{Stands, solicited, waiting_answers}
use Rattle.command_engine.specs.Quiet.{CanStart, IsBlockAddress}
use Rattle.command_engine.proofs.Callers.{start_leaves, steps_keep_standing, responses_apart}
use Rattle.period_writer.specs.Runs.{Tally, tally_opened}
use Rattle.driver_progress.specs.declared.phase.Phase.{Phase}
use Rattle.driver_progress.specs.declared.phase.Phase.TheVariants.{Settling, Walking}
use Rattle.driver_progress.specs.Tasks.{Task, DriverLine}
use Rattle.driver_progress.specs.Seen.{Seen, seen_by, clock_of, values_of, interrupts_at}
use Rattle.driver_progress.specs.States.{State}
use Rattle.driver_progress.specs.Requests.{Request, Gets, Puts, requests_of}
use Rattle.driver_progress.specs.Expected.{has_settled, rings_seen, sets_rings, settles, runs}
use Rattle.driver_progress.specs.Next.{settled_if, walking_if, led, tally_next}
use Rattle.driver_progress.specs.Progress.{Trail, seen_in, begun}
use Rattle.laws_bring_up.specs.Stretches.{FindsIn, FindsBy}
use Rattle.rig.specs.Follows.{AreAccesses}
use Rattle.laws_serving.specs.ServingDevices.{HasAnswersAlone, Serves, StandsServed}
use Rattle.laws_serving.specs.ServingSchedules.{IsOfStreams}
use Rattle.laws_serving.proofs.Rows.{CalmRow, told_row, just}
use Rattle.laws_serving.proofs.Worlds.{SameLink, link_same, link_then, step_link, event_link, step_control, write_is, IsTimed, IsBeside, timed_step, timed_access, timed_row}
use Rattle.laws_serving.proofs.Engines.{at_first}
use Rattle.laws_serving.proofs.Requests.{reads_first, writes_first, none_asked}
use Rattle.laws_serving.proofs.Notes.{gets, asks_none, none_read, ReadsNone, trail_made, IsNoted, notes_stay}
use Rattle.laws_serving.proofs.Asking.{fits_so, leads_so, plainly_asked, plainly_led, no_run}
use Rattle.laws_serving.proofs.Resetting.{IsIdle, NothingWaits, IsOut, out_step}

-- ---- the bits of both engines

pub record Bits : Type 0 where
  pub corb : ℕ
  pub reset : ℕ
  pub rirb : ℕ
  pub flag : ℕ

abbrev pub bits_of : Global → Bits
bits_of global = record { corb = global.corb_run; reset = global.corb_pointer_reset; rirb = global.rirb_run; flag = global.response_flag }

-- what each write leaves of them
after_status : (f : Fields) (v : ℕ) → is_out_of_reset f.global ≡ true → bits_of (written f 0x0E Two v).global ≡ bits_of f.global
unfolding written placed global_written
after_status f v out = rw out refl

after_corb_base : (f : Fields) (v : ℕ) → is_out_of_reset f.global ≡ true → bits_of (written f 0x40 Four v).global ≡ bits_of f.global
unfolding written placed global_written
after_corb_base f v out = rw out refl

after_corb_pointer : (f : Fields) (v : ℕ) → is_out_of_reset f.global ≡ true → bits_of (written f 0x48 Two v).global ≡ bits_of f.global
unfolding written placed global_written
after_corb_pointer f v out = rw out refl

after_corb_reset : (f : Fields) → is_out_of_reset f.global ≡ true → bits_of (written f 0x4A Two 0x8000).global ≡ record (bits_of f.global) { reset = 1 }
unfolding written placed global_written
after_corb_reset f out = rw out refl

after_corb_ready : (f : Fields) → is_out_of_reset f.global ≡ true → bits_of (written f 0x4A Two 0).global ≡ record (bits_of f.global) { reset = 0 }
unfolding written placed global_written
after_corb_ready f out = rw out refl

after_corb_run : (f : Fields) → is_out_of_reset f.global ≡ true → bits_of (written f 0x4C One 2).global ≡ record (bits_of f.global) { corb = 1 }
unfolding written placed global_written
after_corb_run f out = rw out refl

after_rirb_base : (f : Fields) (v : ℕ) → is_out_of_reset f.global ≡ true → bits_of (written f 0x50 Four v).global ≡ bits_of f.global
unfolding written placed global_written
after_rirb_base f v out = rw out refl

after_rirb_pointer : (f : Fields) → is_out_of_reset f.global ≡ true → bits_of (written f 0x58 Two 0x8000).global ≡ bits_of f.global
unfolding written placed global_written
after_rirb_pointer f out = rw out refl

after_count : (f : Fields) (v : ℕ) → is_out_of_reset f.global ≡ true → bits_of (written f 0x5A Two v).global ≡ bits_of f.global
unfolding written placed global_written
after_count f v out = rw out refl

after_rirb_run : (f : Fields) → is_out_of_reset f.global ≡ true → bits_of (written f 0x5C One 3).global ≡ record (bits_of f.global) { rirb = 1 }
unfolding written placed global_written
after_rirb_run f out = rw out refl

after_interrupts : (f : Fields) → is_out_of_reset f.global ≡ true → bits_of (written f 0x20 Four 0xC0000000).global ≡ bits_of f.global
unfolding written placed global_written
after_interrupts f out = rw out refl

-- ---- while the rings are set

record SetTo (start : World) (least : ℕ) (bits : Bits) (world : World) : Type 0 where
  are : bits_of world.registers.global ≡ bits
  link : SameLink start world
  timed : IsTimed least world

module _ (start : World) (least : ℕ) where
  set_step : (bits : Bits) (one : Step) (world : World) → IsOfStreams one → SetTo start least bits world → SetTo start least bits (after_step one world)
  set_step bits one world is set = record {
    are = ap bits_of (step_control one world is).global ∙ set.are;
    link = link_then start world (after_step one world) set.link (step_link one world is);
    timed = timed_step least one world is set.timed;
  }

  set_write : (bits bits' : Bits) (at value : ℕ) (width : Width) (world : World) → at / 4 ≢ 2 → ((f : Fields) → is_out_of_reset f.global ≡ true → bits_of f.global ≡ bits → bits_of (written f at width value).global ≡ bits')
      → SetTo start least bits world → SetTo start least bits' (after_write at width value world)
  set_write bits bits' at value width world apart writes set = record {
    are = ap (λ (w : World). bits_of w.registers.global) (write_is world at value width apart) ∙ writes world.registers set.timed.out set.are;
    link = link_then start world (after_write at width value world) set.link (event_link (Write at width value) world apart tt);
    timed = timed_access least (Write at width value) world apart tt set.timed;
  }

  -- the next access of a row
  one_read : (bits : Bits) (at value : ℕ) (width : Width) (rest : List Event) (old new : World) → CalmRow (Read at width value ∷ rest) old new → SetTo start least bits old → (world : World) × SetTo start least bits world × CalmRow rest world new
  one_read bits at value width rest old new row set =
      let first = at_first (SetTo start least bits) (set_step bits) (Read at width value) rest old new row set in (first.world, first.holds, first.row)

  one_write : (bits bits' : Bits) (at value : ℕ) (width : Width) (rest : List Event) (old new : World) → at / 4 ≢ 2 → ((f : Fields) → is_out_of_reset f.global ≡ true → bits_of f.global ≡ bits → bits_of (written f at width value).global ≡ bits')
      → CalmRow (Write at width value ∷ rest) old new → SetTo start least bits old → (world : World) × SetTo start least bits' world × CalmRow rest world new
  one_write bits bits' at value width rest old new apart writes row set =
      let first = at_first (SetTo start least bits) (set_step bits) (Write at width value) rest old new row set in
      (happens first.world (Write at width value), set_write bits bits' at value width first.world apart writes first.holds, first.row)

  steps_set : (bits : Bits) (steps : List Step) (world : World) → All IsOfStreams steps → SetTo start least bits world → SetTo start least bits (after_steps steps world)
  steps_set bits [] world are set = set
  steps_set bits (one ∷ steps) world are set = steps_set bits steps (after_step one world) (All-tail IsOfStreams one steps are) (set_step bits one world (All-head IsOfStreams one steps are) set)

  set_end : (bits : Bits) (old new : World) → CalmRow [] old new → SetTo start least bits old → SetTo start least bits new
  set_end bits old new row set = subst (SetTo start least bits) (sym row.2) (steps_set bits row.0 old row.1 set)

  corb_set : (corb status pointer_reset pointer_ready : ℕ) (bits : Bits) (rest : List Event) (old new : World) → CalmRow (corb_accesses corb status pointer_reset pointer_ready ++ rest) old new → SetTo start least bits old
      → (world : World) × SetTo start least (record bits { reset = 0; corb = 1 }) world × CalmRow rest world new
  corb_set corb status pointer_reset pointer_ready bits rest old new row set =
      let one = one_write bits bits 0x0E status Two (Write CORBLBASE Four corb ∷ Write CORBWP Two 0 ∷ Write CORBRP Two 32768 ∷ Read CORBRP Two pointer_reset ∷ Write CORBRP Two 0 ∷ Read CORBRP Two pointer_ready ∷ Write CORBCTL One 2 ∷ rest) old new (omega arith) (λ f out are. after_status f status out ∙ are) row set in
      let two = one_write bits bits 0x40 corb Four (Write CORBWP Two 0 ∷ Write CORBRP Two 32768 ∷ Read CORBRP Two pointer_reset ∷ Write CORBRP Two 0 ∷ Read CORBRP Two pointer_ready ∷ Write CORBCTL One 2 ∷ rest) one.0 new (omega arith) (λ f out are. after_corb_base f corb out ∙ are) one.2 one.1 in
      let three = one_write bits bits 0x48 0 Two (Write CORBRP Two 32768 ∷ Read CORBRP Two pointer_reset ∷ Write CORBRP Two 0 ∷ Read CORBRP Two pointer_ready ∷ Write CORBCTL One 2 ∷ rest) two.0 new (omega arith) (λ f out are. after_corb_pointer f 0 out ∙ are) two.2 two.1 in
      let four = one_write bits (record bits { reset = 1 }) 0x4A 0x8000 Two (Read CORBRP Two pointer_reset ∷ Write CORBRP Two 0 ∷ Read CORBRP Two pointer_ready ∷ Write CORBCTL One 2 ∷ rest) three.0 new (omega arith) (λ f out are. after_corb_reset f out ∙ ap (λ (b : Bits). record b { reset = 1 }) are) three.2 three.1 in
      let five = one_read (record bits { reset = 1 }) 0x4A pointer_reset Two (Write CORBRP Two 0 ∷ Read CORBRP Two pointer_ready ∷ Write CORBCTL One 2 ∷ rest) four.0 new four.2 four.1 in
      let six = one_write (record bits { reset = 1 }) (record bits { reset = 0 }) 0x4A 0 Two (Read CORBRP Two pointer_ready ∷ Write CORBCTL One 2 ∷ rest) five.0 new (omega arith) (λ f out are. after_corb_ready f out ∙ ap (λ (b : Bits). record b { reset = 0 }) are) five.2 five.1 in
      let seven = one_read (record bits { reset = 0 }) 0x4A pointer_ready Two (Write CORBCTL One 2 ∷ rest) six.0 new six.2 six.1 in
      one_write (record bits { reset = 0 }) (record bits { reset = 0; corb = 1 }) 0x4C 2 One rest seven.0 new (omega arith) (λ f out are. after_corb_run f out ∙ ap (λ (b : Bits). record b { corb = 1 }) are) seven.2 seven.1

  rirb_set : (rirb : ℕ) (size : RingSize) (bits : Bits) (old new : World) → CalmRow (rirb_accesses rirb size) old new → SetTo start least bits old → SetTo start least (record bits { rirb = 1 }) new
  rirb_set rirb size bits old new row set =
      let one = one_write bits bits 0x50 rirb Four (Write RIRBWP Two 32768 ∷ Write RINTCNT Two (half_of size) ∷ Write RIRBCTL One 3 ∷ Write INTCTL Four 3221225472 ∷ []) old new (omega arith) (λ f out are. after_rirb_base f rirb out ∙ are) row set in
      let two = one_write bits bits 0x58 0x8000 Two (Write RINTCNT Two (half_of size) ∷ Write RIRBCTL One 3 ∷ Write INTCTL Four 3221225472 ∷ []) one.0 new (omega arith) (λ f out are. after_rirb_pointer f out ∙ are) one.2 one.1 in
      let three = one_write bits bits 0x5A (half_of size) Two (Write RIRBCTL One 3 ∷ Write INTCTL Four 3221225472 ∷ []) two.0 new (omega arith) (λ f out are. after_count f (half_of size) out ∙ are) two.2 two.1 in
      let four = one_write bits (record bits { rirb = 1 }) 0x5C 3 One (Write INTCTL Four 3221225472 ∷ []) three.0 new (omega arith) (λ f out are. after_rirb_run f out ∙ ap (λ (b : Bits). record b { rirb = 1 }) are) three.2 three.1 in
      let five = one_write (record bits { rirb = 1 }) (record bits { rirb = 1 }) 0x20 0xC0000000 Four [] four.0 new (omega arith) (λ f out are. after_interrupts f out ∙ are) four.2 four.1 in
      set_end (record bits { rirb = 1 }) five.0 new five.2 five.1

  -- all of a start that finds rings
  start_set : (corb rirb : ℕ) (reads : StartReads) (rings : RingPlaces) (bits : Bits) (old new : World) → rings_read reads ≡ Some rings → CalmRow (start_accesses corb rirb reads) old new → SetTo start least bits old
      → SetTo start least (record bits { reset = 0; corb = 1; rirb = 1 }) new
  start_set corb rirb reads rings bits old new found row set =
      let row' = subst (λ (rings : Option RingPlaces). CalmRow (first_reads reads.status reads.corb_size reads.rirb_size ++ settings_if rings corb rirb reads) old new) found row in
      let one = one_read bits 0x0E reads.status Two (Read CORBSIZE One reads.corb_size ∷ Read RIRBSIZE One reads.rirb_size ∷ settings_if (Some rings) corb rirb reads) old new row' set in
      let two = one_read bits 0x4E reads.corb_size One (Read RIRBSIZE One reads.rirb_size ∷ settings_if (Some rings) corb rirb reads) one.0 new one.2 one.1 in
      let three = one_read bits 0x5E reads.rirb_size One (settings_if (Some rings) corb rirb reads) two.0 new two.2 two.1 in
      let half = corb_set corb reads.status reads.pointer_reset reads.pointer_ready bits (rirb_accesses rirb rings.rirb) three.0 new three.2 three.1 in
      rirb_set rirb rings.rirb (record bits { reset = 0; corb = 1 }) half.0 new half.2 half.1

-- ---- then the device serves

idle_alone : (codecs : List CodecState) → All IsIdle codecs → All HasAnswersAlone codecs
idle_alone [] idle = All-nil HasAnswersAlone
idle_alone (codec ∷ codecs) idle =
    let none = All-head IsIdle codec codecs idle in
    All-cons HasAnswersAlone codec codecs (ap answers none ∙ sym (ap length none)) (idle_alone codecs (All-tail IsIdle codec codecs idle))

idle_none : (codecs : List CodecState) → All IsIdle codecs → waiting_answers codecs ≡ 0
idle_none [] idle = refl
idle_none (codec ∷ codecs) idle =
    let none : answers codec.waiting ≡ 0 = ap answers (All-head IsIdle codec codecs idle) in
    let rest = idle_none codecs (All-tail IsIdle codec codecs idle) in
    let cons = sum_by-cons (λ (codec : CodecState). answers codec.waiting) codec codecs in omega (arith, none, rest, cons)

nothing_serves : (world : World) → NothingWaits world → bits_of world.registers.global ≡ record { corb = 1; reset = 0; rirb = 1; flag = 0 } → Serves (length world.commands) (length world.written) world
nothing_serves world nothing are =
    let unread = drop_all (length world.written) world.written (omega arith) in
    let gained = drop_all (length world.commands) world.commands (omega arith) in
    let counts = ap solicited unread in
    let longs = ap length unread in
    let taken = ap length gained in
    let waits = ap solicited nothing.none in
    let waits_long = ap length nothing.none in
    let none = idle_none world.codecs nothing.idle in record {
      corb_runs = ap (λ (b : Bits). b.corb) are;
      no_reset = ap (λ (b : Bits). b.reset) are;
      rirb_runs = ap (λ (b : Bits). b.rirb) are;
      flag = λ is. absurd (not_one (ap (λ (b : Bits). b.flag) are) is);
      asked = idle_alone world.codecs nothing.idle;
      all_asked = omega (arith, waits, waits_long);
      read_asked = omega (arith, counts, longs);
      none_lost = omega (arith, counts, waits, none, taken);
    }
  where
    not_one : world.registers.global.response_flag ≡ 0 → world.registers.global.response_flag ≡ 1 → ⊥
    not_one clear is = omega (arith, clear, is)

pub start_serves : (corb rirb least : ℕ) (reads : StartReads) (rings : RingPlaces) (old new : World) → IsBlockAddress corb → IsBlockAddress rirb → rings_read reads ≡ Some rings → CanStart corb rirb old → NothingWaits old → IsTimed least old
    → CalmRow (start_accesses corb rirb reads) old new → StandsServed (length new.commands) (length new.written) corb rirb rings new × IsTimed least new
start_serves corb rirb least reads rings old new corb_block rirb_block found can nothing timed row =
    let set = start_set old least corb rirb reads rings (bits_of old.registers.global) old new found row (record { are = refl; link = link_same old; timed = timed }) in
    let told = told_row (start_accesses corb rirb reads) (just old) new row in
    let leaves = start_leaves responses_apart corb rirb reads rings (just old) told.telling corb_block rirb_block found (record { by = told.made }) can in
    let stands = subst (Stands (length old.commands) (length old.written) corb rirb rings) (sym told.leads) (steps_keep_standing (length old.commands) (length old.written) corb rirb rings responses_apart told.steps (world_of told.telling) leaves) in
    let waits : NothingWaits new = record {
      idle = subst (All IsIdle) (sym set.link.codecs) nothing.idle;
      none = set.link.waiting ∙ nothing.none;
      clear = ap (λ (b : Bits). b.flag) set.are ∙ nothing.clear;
    } in (
      record {
        stands = subst (λ (commands : List TakenCommand). Stands (length commands) (length new.written) corb rirb rings new) (sym set.link.commands)
            (subst (λ (written : List Response). Stands (length old.commands) (length written) corb rirb rings new) (sym set.link.written) stands);
        serves = nothing_serves new waits (set.are ∙ ap (λ (flag : ℕ). record { corb = 1; reset = 0; rirb = 1; flag = flag }) nothing.clear);
      },
      set.timed,
    )

-- ---- the call

-- the codecs had their time, and nothing else happened since the reset
pub record HasWaited (task : Task) (least : ℕ) (trail : Trail) (world : World) : Type 0 where
  pub phase : trail.state.phase ≡ Settling
  pub sent_is : trail.state.sent ≡ 0
  pub tally_is : trail.state.tally ≡ tally_opened
  pub out : IsOut task.blocks.corb task.blocks.rirb least world
  pub kept : trail.state.kept + 12500 ≤ 500 * least

-- the rings are set so
sets_as : (corb rirb status : ℕ) (size : RingSize) (accesses : List Event) → AreAccesses accesses
    → requests_of accesses ≡ Puts STATESTS Two status ∷ Puts CORBLBASE Four corb ∷ Puts CORBWP Two 0 ∷ Puts CORBRP Two 0x8000 ∷ Gets CORBRP Two
    ∷ Puts CORBRP Two 0 ∷ Gets CORBRP Two ∷ Puts CORBCTL One 2 ∷ requests_of (rirb_accesses rirb size)
    → (pointer_reset : ℕ) × (pointer_ready : ℕ) × (accesses ≡ corb_accesses corb status pointer_reset pointer_ready ++ rirb_accesses rirb size)
sets_as corb rirb status size accesses are asks =
    let one = writes_first accesses STATESTS Two status _ are asks in
    let two = writes_first one.later CORBLBASE Four corb _ one.are one.rest_is in
    let three = writes_first two.later CORBWP Two 0 _ two.are two.rest_is in
    let four = writes_first three.later CORBRP Two 0x8000 _ three.are three.rest_is in
    let five = reads_first four.later CORBRP Two _ four.are four.rest_is in
    let six = writes_first five.later CORBRP Two 0 _ five.are five.rest_is in
    let seven = reads_first six.later CORBRP Two _ six.are six.rest_is in
    let eight = writes_first seven.later CORBCTL One 2 _ seven.are seven.rest_is in
    let last = rirb_as rirb size eight.later eight.are eight.rest_is in (
      five.value,
      seven.value,
      one.is
          ∙ ap (λ (l : List Event). Write STATESTS Two status ∷ l) two.is
          ∙ ap (λ (l : List Event). Write STATESTS Two status ∷ Write CORBLBASE Four corb ∷ l) three.is
          ∙ ap (λ (l : List Event). Write STATESTS Two status ∷ Write CORBLBASE Four corb ∷ Write CORBWP Two 0 ∷ l) four.is
          ∙ ap (λ (l : List Event). Write STATESTS Two status ∷ Write CORBLBASE Four corb ∷ Write CORBWP Two 0 ∷ Write CORBRP Two 0x8000 ∷ l) five.is
          ∙ ap (λ (l : List Event). Write STATESTS Two status ∷ Write CORBLBASE Four corb ∷ Write CORBWP Two 0 ∷ Write CORBRP Two 0x8000 ∷ Read CORBRP Two five.value ∷ l) six.is
          ∙ ap (λ (l : List Event). Write STATESTS Two status ∷ Write CORBLBASE Four corb ∷ Write CORBWP Two 0 ∷ Write CORBRP Two 0x8000 ∷ Read CORBRP Two five.value ∷ Write CORBRP Two 0 ∷ l) seven.is
          ∙ ap (λ (l : List Event). Write STATESTS Two status ∷ Write CORBLBASE Four corb ∷ Write CORBWP Two 0 ∷ Write CORBRP Two 0x8000 ∷ Read CORBRP Two five.value ∷ Write CORBRP Two 0 ∷ Read CORBRP Two seven.value ∷ l) eight.is
          ∙ ap (λ (l : List Event). corb_accesses corb status five.value seven.value ++ l) last,
    )
  where
    rirb_as : (rirb : ℕ) (size : RingSize) (accesses : List Event) → AreAccesses accesses → requests_of accesses ≡ requests_of (rirb_accesses rirb size) → accesses ≡ rirb_accesses rirb size
    rirb_as rirb size accesses are asks =
        let one = writes_first accesses RIRBLBASE Four rirb _ are asks in
        let two = writes_first one.later RIRBWP Two 0x8000 _ one.are one.rest_is in
        let three = writes_first two.later RINTCNT Two (half_of size) _ two.are two.rest_is in
        let four = writes_first three.later RIRBCTL One 3 _ three.are three.rest_is in
        let five = writes_first four.later INTCTL Four 0xC0000000 _ four.are four.rest_is in
        let none = none_asked five.later five.are five.rest_is in
        one.is
        ∙ ap (λ (l : List Event). Write RIRBLBASE Four rirb ∷ l) two.is
        ∙ ap (λ (l : List Event). Write RIRBLBASE Four rirb ∷ Write RIRBWP Two 0x8000 ∷ l) three.is
        ∙ ap (λ (l : List Event). Write RIRBLBASE Four rirb ∷ Write RIRBWP Two 0x8000 ∷ Write RINTCNT Two (half_of size) ∷ l) four.is
        ∙ ap (λ (l : List Event). Write RIRBLBASE Four rirb ∷ Write RIRBWP Two 0x8000 ∷ Write RINTCNT Two (half_of size) ∷ Write RIRBCTL One 3 ∷ l) five.is
        ∙ ap (λ (l : List Event). Write RIRBLBASE Four rirb ∷ Write RIRBWP Two 0x8000 ∷ Write RINTCNT Two (half_of size) ∷ Write RIRBCTL One 3 ∷ Write INTCTL Four 0xC0000000 ∷ l) none

-- what is asked once the codecs had their time
starts_as : (task : Task) (rings : RingPlaces) (seen : Seen) (clock : ℕ) (accesses later : List Event) (answered : Bool) → seen ≡ seen_by (values_of accesses) answered → accesses ≡ Read WALCLK Four clock ∷ later → AreAccesses later → rings_seen seen ≡ Some rings
    → requests_of later ≡ Gets STATESTS Two ∷ Gets CORBSIZE One ∷ Gets RIRBSIZE One ∷ sets_rings task.blocks seen (rings_seen seen)
    → (reads : StartReads) × (later ≡ start_accesses task.blocks.corb task.blocks.rirb reads) × (rings_read reads ≡ Some rings)
starts_as task rings seen clock accesses later answered seen_is is are found asks =
    let corb = task.blocks.corb in
    let rirb = task.blocks.rirb in
    let one = reads_first later STATESTS Two (Gets CORBSIZE One ∷ Gets RIRBSIZE One ∷ sets_rings task.blocks seen (rings_seen seen)) are asks in
    let two = reads_first one.later CORBSIZE One (Gets RIRBSIZE One ∷ sets_rings task.blocks seen (rings_seen seen)) one.are one.rest_is in
    let three = reads_first two.later RIRBSIZE One (sets_rings task.blocks seen (rings_seen seen)) two.are two.rest_is in
    let front : accesses ≡ Read WALCLK Four clock ∷ Read STATESTS Two one.value ∷ Read CORBSIZE One two.value ∷ Read RIRBSIZE One three.value ∷ three.later =
    is ∙ ap (λ (later : List Event). Read WALCLK Four clock ∷ later) one.is
    ∙ ap (λ (later : List Event). Read WALCLK Four clock ∷ Read STATESTS Two one.value ∷ later) two.is
    ∙ ap (λ (later : List Event). Read WALCLK Four clock ∷ Read STATESTS Two one.value ∷ Read CORBSIZE One two.value ∷ later) three.is in
    let whole : seen ≡ seen_by (values_of (Read WALCLK Four clock ∷ Read STATESTS Two one.value ∷ Read CORBSIZE One two.value ∷ Read RIRBSIZE One three.value ∷ three.later)) answered =
    seen_is ∙ ap (λ (accesses : List Event). seen_by (values_of accesses) answered) front in
    let changes : seen.changes ≡ one.value = ap (λ (seen : Seen). seen.changes) whole in
    let named : rings_seen seen ≡ rings_found one.value two.value three.value =
    ap (λ (seen : Seen). rings_found seen.changes seen.corb_size seen.rirb_size) whole in
    let sets : requests_of three.later ≡ Puts STATESTS Two one.value ∷ Puts CORBLBASE Four corb ∷ Puts CORBWP Two 0 ∷ Puts CORBRP Two 0x8000 ∷ Gets CORBRP Two
    ∷ Puts CORBRP Two 0 ∷ Gets CORBRP Two ∷ Puts CORBCTL One 2 ∷ requests_of (rirb_accesses rirb rings.rirb) =
    three.rest_is ∙ ap (sets_rings task.blocks seen) found
    ∙ ap (λ (changes : ℕ). Puts STATESTS Two changes ∷ Puts CORBLBASE Four corb ∷ Puts CORBWP Two 0 ∷ Puts CORBRP Two 0x8000 ∷ Gets CORBRP Two
    ∷ Puts CORBRP Two 0 ∷ Gets CORBRP Two ∷ Puts CORBCTL One 2 ∷ requests_of (rirb_accesses rirb rings.rirb)) changes in
    let done = sets_as corb rirb one.value rings.rirb three.later three.are sets in
    let reads : StartReads = record { status = one.value; corb_size = two.value; rirb_size = three.value; pointer_reset = done.0; pointer_ready = done.1 } in
    let read : rings_read reads ≡ Some rings = sym named ∙ found in (
      reads,
      one.is ∙ ap (λ (later : List Event). Read STATESTS Two one.value ∷ later) two.is
          ∙ ap (λ (later : List Event). Read STATESTS Two one.value ∷ Read CORBSIZE One two.value ∷ later) three.is
          ∙ ap (λ (later : List Event). first_reads one.value two.value three.value ++ later) done.2
          ∙ ap (λ (rings : Option RingPlaces). first_reads one.value two.value three.value ++ settings_if rings corb rirb reads) (sym read),
      read,
    )

-- the codecs had their time by this clock
settled_by : (kept clock least frames : ℕ) → kept + 12500 ≤ 500 * least → least ≤ frames → frames ≤ 8000000 → clock ≡ 500 * frames % 2 ^ 32 → has_settled kept clock ≡ true
settled_by kept clock least frames waited later few is =
    let small : 500 * frames % 2 ^ 32 ≡ 500 * frames = mod-eq_of_lt (omega (arith, few)) in
    let whole : clock ≡ 500 * frames = is ∙ small in
    let had : kept + 12500 ≤ clock = omega (arith, waited, later, whole) in search (rules, had)

-- rings that were just found have no command outstanding
found_idle : (corb rirb : Option RingSize) (rings : RingPlaces) → rings_of corb rirb ≡ Some rings → rings.outstanding ≡ None
found_idle None rirb rings found = cc
found_idle (Some corb) None rings found = cc
found_idle (Some corb) (Some rirb) rings found = some_idle (record { corb = corb; rirb = rirb; submitted = 0; read = 0; started = true; outstanding = None }) rings found refl
  where
    some_idle : (one other : RingPlaces) → Some one ≡ Some other → one.outstanding ≡ None → other.outstanding ≡ None
    some_idle one other same idle = let is : one ≡ other = cc in sym (ap (λ (rings : RingPlaces). rings.outstanding) is) ∙ idle

idle_by : (none : Bool) (corb rirb : Option RingSize) (rings : RingPlaces) → (if none then None else rings_of corb rirb) ≡ Some rings → rings.outstanding ≡ None
idle_by true corb rirb rings found = cc
idle_by false corb rirb rings found = found_idle corb rirb rings found

some_rings : (rings : Option RingPlaces) → is_some rings ≡ true → (found : RingPlaces) × (rings ≡ Some found)
some_rings None some = cc
some_rings (Some rings) some = (rings, refl)

-- the second call finds the rings and sets them going
record HasSet (task : Task) (state : State) (seen : Seen) (least : ℕ) (later : List Event) (new : World) : Type 0 where
  had : has_settled state.kept (clock_of seen) ≡ true
  rings : RingPlaces
  found : rings_seen seen ≡ Some rings
  idle : rings.outstanding ≡ None
  none : All (ReadsNone WALCLK) later
  served : StandsServed (length new.commands) (length new.written) task.blocks.corb task.blocks.rirb rings new
  timed : IsTimed least new

abbrev start_asked : Task → Seen → Option RingPlaces → List Request
start_asked task seen rings = Gets STATESTS Two ∷ Gets CORBSIZE One ∷ Gets RIRBSIZE One ∷ sets_rings task.blocks seen rings

second_by : (b : Bool) (task : Task) (state : State) (seen : Seen) (given : Bool) (least : ℕ) (accesses later : List Event) (clock : ℕ) (world new : World) → has_settled state.kept (clock_of seen) ≡ b → seen ≡ seen_by (values_of accesses) given
    → accesses ≡ Read WALCLK Four clock ∷ later → AreAccesses later → CalmRow (Read WALCLK Four clock ∷ later) world new → IsBlockAddress task.blocks.corb → IsBlockAddress task.blocks.rirb
    → IsOut task.blocks.corb task.blocks.rirb least world → state.kept + 12500 ≤ 500 * least → new.frames ≤ 8000000 → (has_settled state.kept (clock_of seen) ≡ true → is_some (rings_seen seen) ≡ true)
    → requests_of later ≡ (if b then start_asked task seen (rings_seen seen) else []) → HasSet task state seen least later new
second_by true task state seen given least accesses later clock world new had seen_is is are row corb_block rirb_block out waited few finds asks =
    let corb = task.blocks.corb in
    let rirb = task.blocks.rirb in
    let rings = some_rings (rings_seen seen) (finds had) in
    let first = at_first (IsOut corb rirb least) (out_step corb rirb least) (Read WALCLK Four clock) later world new row out in
    let start = starts_as task rings.0 seen clock accesses later given seen_is is are rings.1 asks in
    let done = start_serves corb rirb least start.0 rings.0 first.world new corb_block rirb_block start.2 first.holds.can first.holds.nothing first.holds.timed (subst (λ (later : List Event). CalmRow later first.world new) start.1 first.row) in
    record {
      had = had;
      rings = rings.0;
      found = rings.1;
      idle = idle_by (codecs_in seen.changes == 0) (largest_size seen.corb_size) (largest_size seen.rirb_size) rings.0 rings.1;
      none = asks_none WALCLK later (ap (list_any (gets WALCLK)) (asks ∙ ap (start_asked task seen) rings.1));
      served = done.0;
      timed = done.1;
    }
second_by false task state seen given least accesses later clock world new had seen_is is are row corb_block rirb_block out waited few finds asks =
    let corb = task.blocks.corb in
    let rirb = task.blocks.rirb in
    let none = none_asked later are asks in
    let first = at_first (IsOut corb rirb least) (out_step corb rirb least) (Read WALCLK Four clock) later world new row out in
    let timed = timed_row [] first.world new first.world.frames (All-nil IsBeside) (subst (λ (later : List Event). CalmRow later first.world new) none first.row)
    (record { out = first.holds.timed.out; time = first.holds.timed.time; later = omega arith }) in
    let more = timed.later in
    let seen_clock : clock_of seen ≡ clock = ap clock_of (seen_is ∙ ap (λ (accesses : List Event). seen_by (values_of accesses) given) is) in
    let late = settled_by state.kept clock least first.world.frames waited first.holds.timed.later (omega (arith, more, few)) (first.honest ∙ read-wall_clock first.world.registers ∙ first.holds.timed.time) in
    let z : true ≡ false = sym late ∙ ap (has_settled state.kept) (sym seen_clock) ∙ had in cc

-- after the second call: both rings run, and nothing was sent
pub record HasStarted (task : Task) (least : ℕ) (trail : Trail) (world : World) : Type 0 where
  pub phase : trail.state.phase ≡ Walking
  pub sent_is : trail.state.sent ≡ 0
  pub tally_is : trail.state.tally ≡ tally_opened
  pub idle : trail.state.rings.outstanding ≡ None
  pub from : ℕ
  pub read : ℕ
  pub served : StandsServed from read task.blocks.corb task.blocks.rirb trail.state.rings world
  pub timed : IsTimed least world

found_rings : (line : DriverLine) (state : State) (seen : Seen) → state.phase ≡ Settling → line.irq ≡ false → FindsBy (Some line) state seen → has_settled state.kept (clock_of seen) ≡ true → is_some (rings_seen seen) ≡ true
found_rings line state seen phase calm finds had =
    subst (λ (phase : Phase). FindsIn phase state seen) phase (finds (ap (λ (irq : Bool). irq && not (has_bit seen.interrupts interrupts_at)) calm)) had

pub second_call : (task : Task) (least : ℕ) (trail trail' : Trail) (line : DriverLine) (accesses : List Event) (world new : World) → IsBlockAddress task.blocks.corb → IsBlockAddress task.blocks.rirb → HasWaited task least trail world → AreAccesses accesses
    → CalmRow accesses world new → IsNoted task world trail accesses trail' → slice_get trail.left 0 ≡ Some line → line.irq ≡ false → new.frames ≤ 8000000 → HasStarted task least trail' new
second_call task least trail trail' line accesses world new corb_block rirb_block waited are row noted turn calm few =
    let c = trail_made world trail accesses in
    let seen = seen_in c in
    let stays = notes_stay world.written (begun trail) accesses are in
    let tally = tally_next task trail.state (Some line) seen in
    let asks : requests_of accesses ≡ settles task trail.state seen =
    fits_so task world trail trail' accesses (Some line) are noted turn ∙ plainly_asked task trail.state line seen tally calm ∙ ap (runs task trail.state line.budget seen tally) waited.phase in
    let first = reads_first accesses WALCLK Four (if has_settled trail.state.kept (clock_of seen) then start_asked task seen (rings_seen seen) else []) are asks in
    let seen_is : seen ≡ seen_by (values_of accesses) c.answered = ap (λ (made : List Event). seen_by (values_of made) c.answered) stays.made in
    let finds = subst (λ (turn : Option DriverLine). FindsBy turn trail.state seen) (stays.turn ∙ turn) (subst (λ (state : State). FindsBy c.turn state seen) stays.state noted.finds) in
    let set = second_by (has_settled trail.state.kept (clock_of seen)) task trail.state seen c.answered least accesses first.later first.value world new refl seen_is first.is first.are
    (subst (λ (accesses : List Event). CalmRow accesses world new) first.is row) corb_block rirb_block waited.out waited.kept few (found_rings line trail.state seen waited.phase calm finds) first.rest_is in
    let clocks : seen.clocks ≡ first.value ∷ [] = ap (λ (made : List Event). values_of made WALCLK) (stays.made ∙ first.is) ∙ ap (λ (rest : List ℕ). first.value ∷ rest) (none_read WALCLK first.later set.none) in
    let none = no_run task trail.state (Some line) seen first.value waited.tally_is clocks in
    let state : trail'.state ≡ record trail.state { phase = Walking; rings = set.rings; tally = tally_opened } =
    leads_so task world trail trail' accesses (Some line) are noted turn ∙ plainly_led task trail.state line seen calm
    ∙ ap (λ (tally' : Tally). record (led task trail.state seen tally trail.state.phase) { tally = tally' }) none
    ∙ ap (λ (phase : Phase). record (led task trail.state seen tally phase) { tally = tally_opened }) waited.phase
    ∙ ap (λ (settled : Bool). record (settled_if settled (rings_seen seen) trail.state) { tally = tally_opened }) set.had
    ∙ ap (λ (rings : Option RingPlaces). record (walking_if rings trail.state) { tally = tally_opened }) set.found in
    record {
      phase = ap (λ (state : State). state.phase) state;
      sent_is = ap (λ (state : State). state.sent) state ∙ waited.sent_is;
      tally_is = ap (λ (state : State). state.tally) state;
      idle = ap (λ (state : State). state.rings.outstanding) state ∙ set.idle;
      from = length new.commands;
      read = length new.written;
      served = subst (λ (state : State). StandsServed (length new.commands) (length new.written) task.blocks.corb task.blocks.rirb state.rings new) (sym state) set.served;
      timed = set.timed;
    }
