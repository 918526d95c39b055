-- What the output stream keeps over a write of a register.
use Rattle.std.proofs.Common.{◌≡◌, ◌⊎◌, inl, inr, ◌%◌, ◌&&◌, ◌||◌, not, nat_le, ℕ, Bool, true, false, List, [], length, if◌then◌else◌, refl, sym, ap, subst, ◌∙◌, arith}
use Rattle.std.proofs.Math.Nat.{zero-mod}
use Rattle.std.proofs.Math.Seq.{drop-length}
use Rattle.hda_registers.specs.declared.shapes.Width.{Width}
use Rattle.hda_registers.specs.Fields.{Descriptor, Fields, is_running}
use Rattle.hda_registers.specs.Status.{worth}
use Rattle.hda_registers.specs.Access.{written, rose, fell}
use Rattle.stream_format.specs.Layouts.{layout_of}
use Rattle.world_streams.specs.Streams.{SamePlay, StreamState, begun, has_format, held, is_ready, most_by, settled, settled_state}
use Rattle.world_streams.proofs.Callers.{not_ready, write_plays, write_ready}
use Rattle.hda_world.specs.Worlds.{World, CarriedFrame}
use Rattle.hda_world.specs.Events.{after_write}
use Rattle.hda_world.specs.Streaming.{AreSent, HasPosition, HasSent, ShowsReady, carried_bytes}
use Rattle.hda_world.proofs.Leaving.{access_leaves, write_registers}
use Rattle.hda_world.proofs.Writing.{write_states}

-- a stream that runs where RUN did not rise ran before
pub was_running : (ran runs : Bool) → (not ran && runs) ≡ false → runs ≡ true → ran ≡ true
was_running true runs still on = refl
was_running false true still on = cc
was_running false false still on = cc

-- a stream that does not run where RUN did not fall did not run before
was_stopped : (ran runs : Bool) → (ran && not runs) ≡ false → runs ≡ false → ran ≡ false
was_stopped true true still off = cc
was_stopped true false still off = cc
was_stopped false runs still off = refl

-- ---- LPIB

position_by : (rises : Bool) (old new : Descriptor) (state : StreamState) → rose old new ≡ rises → (is_running old ≡ true → is_running new ≡ true → SamePlay old new)
    → (is_running old ≡ true → old.link_position ≡ state.left % old.buffer_length) → is_running new ≡ true
    → (if rises then 0 else new.link_position) ≡ (if rises then begun else state).left % new.buffer_length
position_by true old new state is plays holds on = sym (zero-mod new.buffer_length)
position_by false old new state is plays holds on =
    let ran : is_running old ≡ true = was_running (is_running old) (is_running new) is on in
    let same : SamePlay old new = plays ran on in
    same.position ∙ (holds ran ∙ ap (λ (length : ℕ). state.left % length) (sym same.length))

-- the output stream's registers and state after a write
module _ (world : World) (at value : ℕ) (width : Width) where
  abbrev before : Descriptor
  before = world.registers.output

  abbrev after : Descriptor
  after = (written world.registers at width value).output

  registers_are : (after_write at width value world).registers.output ≡ settled before after
  registers_are = ap (λ (f : Fields). f.output) (write_registers world at value width)

  state_is : (after_write at width value world).output ≡ settled_state before after world.output
  state_is = (write_states world at value width).1

  pub write_keeps_position : HasPosition world → HasPosition (after_write at width value world)
  write_keeps_position holds =
      subst (λ (d : Descriptor). is_running d ≡ true → d.link_position ≡ (after_write at width value world).output.left % d.buffer_length) (sym registers_are)
      (subst (λ (state : StreamState). is_running after ≡ true → (settled before after).link_position ≡ state.left % after.buffer_length) (sym state_is)
      (position_by (rose before after) before after world.output refl (write_plays 1 world.registers at width value) holds))

-- ---- FIFORDY

no_ready : (d : Descriptor) (state : StreamState) → is_running d ≡ false → worth (is_ready (record { descriptor = d; state = state })) 0 ≡ 0
no_ready d state off = rw off refl

same_ready : (old new : Descriptor) (state : StreamState) → is_running old ≡ true → is_running new ≡ true → SamePlay old new
    → worth (is_ready (record { descriptor = old; state = state })) 0 ≡ worth (is_ready (record { descriptor = new; state = state })) 0
same_ready old new state ran on same =
    ap (λ (runs : Bool). worth (runs && has_format old && nat_le (most_by (layout_of old.format)) (held state)) 0) (ran ∙ sym on)
    ∙ ap (λ (word : ℕ). worth (is_ready (record { descriptor = record new { format = word }; state = state })) 0) (sym same.format)

ready_stays : (runs : Bool) (old new : Descriptor) (state : StreamState) → is_running new ≡ runs → rose old new ≡ false → fell old new ≡ false
    → (is_running old ≡ true → is_running new ≡ true → SamePlay old new) → (new.fifo_ready ≡ old.fifo_ready) ⊎ (new.fifo_ready ≡ 0)
    → old.fifo_ready ≡ worth (is_ready (record { descriptor = old; state = state })) 0 → new.fifo_ready ≡ worth (is_ready (record { descriptor = new; state = state })) 0
ready_stays true old new state is no_rise no_fall plays stays shows =
    let ran : is_running old ≡ true = was_running (is_running old) (is_running new) no_rise is in
    (plays ran is).ready ∙ (shows ∙ same_ready old new state ran is (plays ran is))
ready_stays false old new state is no_rise no_fall plays stays shows =
    let stopped : is_running old ≡ false = was_stopped (is_running old) (is_running new) no_fall is in
    let zero : new.fifo_ready ≡ 0 = elim stays [ inl same ↦ same ∙ (shows ∙ no_ready old state stopped) | inr reset ↦ reset ] in
    zero ∙ sym (no_ready new state is)

stopped_now : (ran runs : Bool) → (ran && not runs) ≡ true → runs ≡ false
stopped_now true true falls = cc
stopped_now true false falls = refl
stopped_now false runs falls = cc

pub ready_by : (rises falls : Bool) (old new : Descriptor) (state : StreamState) → rose old new ≡ rises → fell old new ≡ falls
    → (is_running old ≡ true → is_running new ≡ true → SamePlay old new) → (new.fifo_ready ≡ old.fifo_ready) ⊎ (new.fifo_ready ≡ 0)
    → old.fifo_ready ≡ worth (is_ready (record { descriptor = old; state = state })) 0
    → (if rises || falls then 0 else new.fifo_ready) ≡ worth (is_ready (record { descriptor = new; state = if rises then begun else state })) 0
ready_by true falls old new state is_rise is_fall plays stays shows = sym (not_ready new)
ready_by false true old new state is_rise is_fall plays stays shows = sym (no_ready new state (stopped_now (is_running old) (is_running new) is_fall))
ready_by false false old new state is_rise is_fall plays stays shows = ready_stays (is_running new) old new state refl is_rise is_fall plays stays shows

module _ (world : World) (at value : ℕ) (width : Width) where
  pub write_keeps_ready : ShowsReady world → ShowsReady (after_write at width value world)
  write_keeps_ready shows =
      subst (λ (d : Descriptor). d.fifo_ready ≡ worth (is_ready (record { descriptor = d; state = (after_write at width value world).output })) 0) (sym (registers_are world at value width))
      (subst (λ (state : StreamState). (settled (before world at value width) (after world at value width)).fifo_ready ≡ worth (is_ready (record { descriptor = after world at value width; state = state })) 0) (sym (state_is world at value width))
      (ready_by (rose (before world at value width) (after world at value width)) (fell (before world at value width) (after world at value width)) (before world at value width) (after world at value width) world.output refl refl
      (write_plays 1 world.registers at width value) (write_ready world.registers at width value) shows))

-- ---- the order of the sound

fresh_sent : (carried : List CarriedFrame) → AreSent (length carried) 0 0 [] carried
fresh_sent carried = record { frames = omega arith; behind = omega arith; bytes = ap carried_bytes (drop-length carried) }

-- where RUN rose nothing was sent yet, and else all stays
module _ (world : World) (at value : ℕ) (width : Width) where
  carried_stays : (after_write at width value world).carried ≡ world.carried
  carried_stays = (access_leaves world at value width).carried

  pub write_begins_order : rose world.registers.output (written world.registers at width value).output ≡ true → HasSent (length world.carried) (after_write at width value world)
  write_begins_order rises =
      subst (λ (state : StreamState). AreSent (length world.carried) state.frame state.left state.entered (after_write at width value world).carried)
      (sym (state_is world at value width ∙ ap (λ (begins : Bool). if begins then begun else world.output) rises))
      (subst (AreSent (length world.carried) 0 0 []) (sym carried_stays) (fresh_sent world.carried))

  pub write_keeps_order : (from : ℕ) → rose world.registers.output (written world.registers at width value).output ≡ false → HasSent from world → HasSent from (after_write at width value world)
  write_keeps_order from rises sent =
      subst (λ (state : StreamState). AreSent from state.frame state.left state.entered (after_write at width value world).carried)
      (sym (state_is world at value width ∙ ap (λ (begins : Bool). if begins then begun else world.output) rises))
      (subst (AreSent from world.output.frame world.output.left world.output.entered) (sym carried_stays) sent)
