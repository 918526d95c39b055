-- Accesses beside the rings and the stream keep what is steady.
use Rattle.std.proofs.Common.{◌≡◌, ◌≢◌, ◌≤◌, ◌<◌, ◌/◌, ◌==◌, ◌&&◌, not, ◌⊎◌, inl, inr, ℕ, Bool, true, false, List, [], ◌∷◌, length, drop, Some, refl, sym, ap, subst, ◌∙◌, arith}
use Rattle.std.specs.Prelude.{All}
use Rattle.std.proofs.lemmas.List.Elements.{All-head, All-tail}
use Rattle.std.proofs.Math.Bool.{not-and_self}
use Rattle.codec_graph.specs.CodecStates.{CodecState}
use Rattle.hda_registers.specs.declared.shapes.Width.{Width}
use Rattle.hda_registers.specs.declared.shapes.Width.TheVariants.{One}
use Rattle.hda_registers.specs.Fields.{Fields, Descriptor, is_out_of_reset, is_running}
use Rattle.hda_registers.specs.Access.{written, rose}
use Rattle.hda_registers.specs.Laws.{IsBesideStreams}
use Rattle.hda_registers.proofs.Callers.{leaves-streams, changes-input, status-output, ignored, keeps-reset, keeps-left, written_pointers}
use Rattle.stream_format.specs.Layouts.{Layout, layout_of}
use Rattle.hda_world.specs.Worlds.{World}
use Rattle.hda_world.specs.Events.{Event, Stepped, Begin, End, Read, Write, DmaRead, DmaWrite, happens, after, after_write}
use Rattle.hda_world.specs.Streaming.{HasSent}
use Rattle.hda_world.proofs.Callers.{kept_step, plain_write, keeps_sent, write_keeps_order}
use Rattle.heard_frames.specs.HeardLists.{block_size}
use Rattle.laws_hearing.specs.Steady.{settings_of, IsSteadyFrame, Steady, IsStatusOrStop, LeavesSteady}
use Rattle.laws_hearing.proofs.Steadying.{steady_kept}
use Rattle.period_writer.proofs.Callers.{write-ready}

-- the stream's tag and its format word are the same, and RUN does not rise
pub record KeepsStream (old new : Fields) : Type 0 where
  pub tag : new.output.tag ≡ old.output.tag
  pub format : new.output.format ≡ old.output.format
  pub still : rose old.output new.output ≡ false

not_then : (ran : Bool) → (not ran && false) ≡ false
not_then true = refl
not_then false = refl

same_run : (old new : Descriptor) → new.run ≡ old.run → rose old new ≡ false
same_run old new same = ap (λ (run : ℕ). not (is_running old) && (run == 1)) same ∙ not-and_self (is_running old)

same_output : (old new : Fields) → new.output ≡ old.output → KeepsStream old new
same_output old new same = record {
  tag = ap (λ (d : Descriptor). d.tag) same;
  format = ap (λ (d : Descriptor). d.format) same;
  still = same_run old.output new.output (ap (λ (d : Descriptor). d.run) same);
}

stop_keeps : (f : Fields) (out : Bool) → is_out_of_reset f.global ≡ out → KeepsStream f (written f 0xA0 One 0)
stop_keeps f true is = subst (KeepsStream f) (sym (write-ready f is)) (record { tag = refl; format = refl; still = not_then (is_running f.output) })
stop_keeps f false is = same_output f (written f 0xA0 One 0) (ap (λ (g : Fields). g.output) (ignored f 0xA0 One 0 is (λ e. cc)))

pub written_keeps : (f : Fields) (at value : ℕ) (width : Width) → at / 4 ≢ 2 → IsBesideStreams at ⊎ IsStatusOrStop at width value → KeepsStream f (written f at width value)
written_keeps f at value width other (inl beside) = same_output f (written f at width value) (leaves-streams f at width value other beside).output
written_keeps f at value width other (inr (one, inl input)) =
    subst (λ (at : ℕ). KeepsStream f (written f at width value)) (sym input) (same_output f (written f 0x83 width value) (changes-input f 0x83 width value (omega arith) (omega arith)).output)
written_keeps f at value width other (inr (one, inr (inl output))) =
    subst (λ (at : ℕ). KeepsStream f (written f at width value)) (sym output)
    (subst (λ (w : Width). KeepsStream f (written f 0xA3 w value)) (sym one)
    (let status = status-output f value in record {
      tag = ap (λ (d : Descriptor). d.tag) status;
      format = ap (λ (d : Descriptor). d.format) status;
      still = same_run f.output (written f 0xA3 One value).output (ap (λ (d : Descriptor). d.run) status);
    }))
written_keeps f at value width other (inr (one, inr (inr (control, none)))) =
    subst (λ (at : ℕ). KeepsStream f (written f at width value)) (sym control)
    (subst (λ (w : Width). KeepsStream f (written f 0xA0 w value)) (sym one)
    (subst (λ (v : ℕ). KeepsStream f (written f 0xA0 One v)) (sym none) (stop_keeps f (is_out_of_reset f.global) refl)))

-- ---- CORB's pointers

pub not_pointers : (at : ℕ) → (at < 0x40) ⊎ (0x50 ≤ at) → at / 4 ≢ 18
not_pointers at (inl low) is = absurd (omega (arith, low, is))
not_pointers at (inr high) is = absurd (omega (arith, high, is))

module _ (codecs : List CodecState) (tag word : ℕ) (layout : Layout) (from : ℕ) (known : layout_of word ≡ Some layout) where
  abbrev Holds : World → Type 0
  Holds = Steady codecs tag word (block_size layout) from

  write_kept : (world : World) (at value : ℕ) (width : Width) → LeavesSteady (Write at width value) → Holds world → Holds (after_write at width value world)
  write_kept world at value width (beside, streams) steady =
      let plain = plain_write world at value width (keeps-reset world.registers at width value beside.control) (keeps-left world.registers at width value beside.control) in
      let pointers = written_pointers world.registers at width value beside.control (not_pointers at beside.corb) (is_out_of_reset world.registers.global) refl in
      let keeps = written_keeps world.registers at value width beside.control streams in
      record {
        settings = ap (λ (w : World). settings_of w.codecs) plain ∙ steady.settings;
        idle = ap (λ (w : World). w.registers.global.corb_read_pointer) plain ∙ pointers.read ∙ steady.idle ∙ sym (ap (λ (w : World). w.registers.global.corb_write_pointer) plain ∙ pointers.write);
        tag_is = ap (λ (w : World). w.registers.output.tag) plain ∙ keeps.tag ∙ steady.tag_is;
        word_is = ap (λ (w : World). w.registers.output.format) plain ∙ keeps.format ∙ steady.word_is;
        begun = subst (λ (w : World). from ≤ length w.carried) (sym plain) steady.begun;
        frames = subst (λ (w : World). All (IsSteadyFrame codecs tag word (block_size layout)) (drop from w.carried)) (sym plain) steady.frames;
      }

  event_kept : (event : Event) (world : World) → LeavesSteady event → Holds world → Holds (happens world event)
  event_kept (Stepped step) world leaves steady = kept_step Holds (steady_kept codecs tag word layout from known) step world steady
  event_kept Begin world leaves steady = steady
  event_kept End world leaves steady = steady
  event_kept (Read at width value) world leaves steady = steady
  event_kept (Write at width value) world leaves steady = write_kept world at value width leaves steady
  event_kept (DmaRead at bytes) world leaves steady = steady
  event_kept (DmaWrite at bytes) world leaves steady = steady

  pub events_steady : (events : List Event) (world : World) → All LeavesSteady events → Holds world → Holds (after events world)
  events_steady [] world all steady = steady
  events_steady (event ∷ events) world all steady =
      events_steady events (happens world event) (All-tail LeavesSteady event events all) (event_kept event world (All-head LeavesSteady event events all) steady)

-- ---- what was sent

module _ (from : ℕ) where
  sent_kept : (event : Event) (world : World) → LeavesSteady event → HasSent from world → HasSent from (happens world event)
  sent_kept (Stepped step) world leaves sent = kept_step (HasSent from) (keeps_sent from) step world sent
  sent_kept Begin world leaves sent = sent
  sent_kept End world leaves sent = sent
  sent_kept (Read at width value) world leaves sent = sent
  sent_kept (Write at width value) world (beside, streams) sent =
      write_keeps_order world at value width from (written_keeps world.registers at value width beside.control streams).still sent
  sent_kept (DmaRead at bytes) world leaves sent = sent
  sent_kept (DmaWrite at bytes) world leaves sent = sent

  pub events_sent : (events : List Event) (world : World) → All LeavesSteady events → HasSent from world → HasSent from (after events world)
  events_sent [] world all sent = sent
  events_sent (event ∷ events) world all sent =
      events_sent events (happens world event) (All-tail LeavesSteady event events all) (sent_kept event world (All-head LeavesSteady event events all) sent)
