-- How far the input stream goes in steps: it takes no more than the most bytes of a frame in each link frame, and neither
-- what it took nor what it stored gets less.
use Rattle.std.proofs.Common.{◌≡◌, ◌≤◌, ◌+◌, ◌-◌, ◌*◌, ◌==◌, ◌&&◌, nat_lt, ℕ, zero, suc, Bool, true, false, List, [], ◌∷◌, ◌++◌, length, Option, None, Some, if◌then◌else◌, append_assoc, sym, ap, subst, ◌∙◌, arith}
use Rattle.std.proofs.lemmas.List.{append-nil}
use Rattle.codec_graph.specs.declared.waiting.Waiting.{Waiting}
use Rattle.hda_registers.specs.Fields.{is_out_of_reset, is_running}
use Rattle.world_rings.specs.declared.response.TheConstants.{MOST_WAITING}
use Rattle.world_rings.specs.Engines.{next_word}
use Rattle.stream_format.specs.Cadence.{most_bytes}
use Rattle.stream_format.specs.declared.format.Format.{Format}
use Rattle.world_streams.specs.Streams.{StreamState, Stream, is_usable, broke}
use Rattle.world_streams.specs.Output.{frame_of}
use Rattle.world_streams.specs.Input.{Intake, marks_after, kept_by_marks, marks_of, frame_took, frame_move}
use Rattle.world_streams.proofs.Callers.{store-entered, entered-marks}
use Rattle.world_steps.specs.declared.Step.{Step}
use Rattle.world_steps.specs.declared.Step.TheVariants as step
use Rattle.hda_world.specs.Worlds.{World, codec_at, input_of, output_of}
use Rattle.hda_world.specs.Arriving.{arriving}
use Rattle.hda_world.specs.Steps.{address_of, is_busy, handed, handed_next, waiting_of, sent_first, lost, passed, output_framed, input_framed, output_fetched, storage_of, input_stored, frame_step, times, after_step}
use Rattle.hda_world.specs.Kept.{Kept}
use Rattle.hda_world.proofs.Callers.{kept_step}
use Rattle.period_writer.specs.Standing.{Ring, Pace}
use Rattle.laws_recording.specs.Filling.{FillsRing, KeepsPace}
use Rattle.laws_recording.proofs.Wholes.{AreDue, arriving_due, entered_few}
use Rattle.laws_recording.proofs.FillingKept.{fills_kept}

-- ---- in how many link frames

-- link frames passed, and in each of them no more than so many bytes were taken
pub record GrowsBy (most frames taken frames' taken' : ℕ) : Type 0 where
  pub up : frames ≤ frames'
  pub few : taken' ≤ taken + most * (frames' - frames)

abbrev pub Grows : (most : ℕ) → World → World → Type 0
Grows most old new = GrowsBy most old.frames (length old.input.entered) new.frames (length new.input.entered)

grows_none : (most frames taken : ℕ) → GrowsBy most frames taken frames taken
grows_none most frames taken = record { up = omega arith; few = omega arith }

grows_both : (most : ℕ) (first second third : World) → Grows most first second → Grows most second third → Grows most first third
grows_both most first second third one other =
    let up = one.up in
    let up' = other.up in
    let few = one.few in
    let few' = other.few in
    let later : third.frames - first.frames ≡ (third.frames - second.frames) + (second.frames - first.frames) = omega (arith, up, up') in
    let wide : most * ((third.frames - second.frames) + (second.frames - first.frames)) ≡ most * (third.frames - second.frames) + most * (second.frames - first.frames) = omega arith in
    let whole : most * (third.frames - first.frames) ≡ most * (third.frames - second.frames) + most * (second.frames - first.frames) = ap (λ n. most * n) later ∙ wide in
    record { up = omega (arith, up, up'); few = omega (arith, few, few', whole) }

-- ---- a link frame

-- the input stream takes no more than the most bytes of a frame
move_few : (format : Format) (fifo : ℕ) (blocks : List (List ℕ)) (stream : Stream) → AreDue format blocks
    → length (frame_move fifo blocks stream).stream.state.entered ≤ length stream.state.entered + most_bytes format
move_few format fifo blocks stream due = by (is_running stream.descriptor) (is_usable stream.descriptor) where
  took : (blocks : List (List ℕ)) → AreDue format blocks → length (frame_took fifo blocks stream).state.entered ≤ length stream.state.entered + most_bytes format
  took [] due = omega arith
  took (block ∷ blocks) due = entered_few format fifo stream.state.left stream.state.entered (block ∷ blocks) due

  by : (runs usable : Bool)
      → (let intake : Intake = if runs then (if usable then record { stream = frame_took fifo blocks stream; marks = marks_of fifo blocks stream } else record { stream = broke stream; marks = [] }) else record { stream = stream; marks = [] } in
      length intake.stream.state.entered ≤ length stream.state.entered + most_bytes format)
  by true true = took blocks due
  by true false = omega arith
  by false usable = omega arith

module _ (ring : Ring) where
  abbrev most : ℕ
  most = most_bytes ring.geometry.format

  one_frame : (world : World) → FillsRing ring world → Grows most world (frame_step world)
  one_frame world fills = by (is_out_of_reset world.registers.global) where
    due : AreDue ring.geometry.format (arriving world)
    due = arriving_due ring.geometry.format world fills.set.format_is

    by : (out : Bool) → Grows most world (if out then input_framed (output_framed (frame_of (output_of world)) (passed world)) else world)
    by true =
        let few = move_few ring.geometry.format world.registers.shape.fifo (arriving world) (input_of world) due in
        let one : world.frames + 1 - world.frames ≡ 1 = omega arith in
        let wide : most * (world.frames + 1 - world.frames) ≡ most = ap (λ n. most * n) one ∙ omega arith in
        record { up = omega arith; few = omega (arith, few, wide) }
    by false = grows_none most world.frames (length world.input.entered)

  some_frames : (count : ℕ) (world : World) → FillsRing ring world → Grows most world (times count frame_step world)
  some_frames zero world fills = grows_none most world.frames (length world.input.entered)
  some_frames (suc count) world fills =
      grows_both most world (frame_step world) (times count frame_step (frame_step world)) (one_frame world fills)
      (some_frames count (frame_step world) (kept_step (FillsRing ring) (fills_kept ring) (step.Link 1) world fills))

  -- ---- any step

  either : (test : Bool) (one other old : World) → Grows most old one → Grows most old other → Grows most old (if test then one else other)
  either true one other old first second = first
  either false one other old first second = second

  none : (world : World) → Grows most world world
  none world = grows_none most world.frames (length world.input.entered)

  corb_grows : (next : Option ℕ) (world : World) → Grows most world (handed_next next world)
  corb_grows None world = none world
  corb_grows (Some word) world = either (is_busy (codec_at (address_of word) world.codecs)) world (handed word world) world (none world) (none world)

  sent_grows : (items : List Waiting) (address : ℕ) (world : World) → Grows most world (sent_first address items world)
  sent_grows [] address world = none world
  sent_grows (item ∷ items) address world = none world

  stored_grows : (count : ℕ) (world : World) → Grows most world (input_stored count world)
  stored_grows count world =
      subst (λ (entered : List ℕ). GrowsBy most world.frames (length world.input.entered) world.frames (length entered)) (sym (store-entered count (storage_of world))) (none world)

  pub step_grows : (one : Step) (world : World) → FillsRing ring world → Grows most world (after_step one world)
  step_grows step.Corb world fills = corb_grows (next_word world.registers world.memory) world
  step_grows (step.Answer codec) world fills =
      either (is_out_of_reset world.registers.global && nat_lt (length world.waiting) MOST_WAITING) _ world world (sent_grows (waiting_of (codec_at codec world.codecs)) codec world) (none world)
  step_grows (step.Lose codec) world fills = either (is_out_of_reset world.registers.global) (lost codec world) world world (none world) (none world)
  step_grows step.Rirb world fills = none world
  step_grows (step.Fetch stream count) world fills =
      either (is_out_of_reset world.registers.global && stream == 1) (output_fetched count world) _ world (none world)
      (either (is_out_of_reset world.registers.global && stream == 0) (input_stored count world) world world (stored_grows count world) (none world))
  step_grows (step.Link frames) world fills = some_frames frames world fills
  step_grows (step.Plug codec nid) world fills = none world
  step_grows (step.Unplug codec nid) world fills = none world

  -- so the link keeps its pace
  pub pace_on : (pace : Pace) (old new : World) → Grows most old new → KeepsPace ring pace old → KeepsPace ring pace new
  pace_on pace old new grows paced =
      let up = grows.up in
      let few = grows.few in
      let before = paced.before in
      let soon = paced.soon in
      let later : new.frames - pace.since ≡ (old.frames - pace.since) + (new.frames - old.frames) = omega (arith, up, before) in
      let wide : most * ((old.frames - pace.since) + (new.frames - old.frames)) ≡ most * (old.frames - pace.since) + most * (new.frames - old.frames) = omega arith in
      let whole : most * (new.frames - pace.since) ≡ most * (old.frames - pace.since) + most * (new.frames - old.frames) = ap (λ n. most * n) later ∙ wide in
      record { before = omega (arith, before, up); soon = omega (arith, soon, few, whole) }

-- ---- what was taken and stored

-- more bytes were taken after these, and no fewer were stored
pub record GoneOn (entered : List ℕ) (left : ℕ) (state : StreamState) : Type 0 where
  pub more : List ℕ
  pub taken : state.entered ≡ entered ++ more
  pub stored : left ≤ state.left

abbrev pub HasGone : (entered : List ℕ) (left : ℕ) → World → Type 0
HasGone entered left world = GoneOn entered left world.input

module _ (entered : List ℕ) (left : ℕ) where
  -- a link frame
  took_on : (fifo : ℕ) (blocks : List (List ℕ)) (stream : Stream) → GoneOn entered left stream.state → GoneOn entered left (frame_took fifo blocks stream).state
  took_on fifo [] stream gone = record { more = gone.more; taken = gone.taken; stored = gone.stored }
  took_on fifo (block ∷ blocks) stream gone =
      let marks = marks_after fifo stream.state.left stream.state.entered (block ∷ blocks) in
      let kept = kept_by_marks marks (block ∷ blocks) in
      record {
        more = gone.more ++ kept_by_marks (marks_after fifo stream.state.left stream.state.entered (block ∷ blocks)) (block ∷ blocks);
        taken = entered-marks fifo stream.state.left stream.state.entered (block ∷ blocks) ∙ ap (λ (front : List ℕ). front ++ kept) gone.taken ∙ append_assoc entered gone.more kept;
        stored = gone.stored;
      }

  pub gone_kept : Kept (HasGone entered left)
  gone_kept = record {
    codecs = record {
      hands = λ world gone can free. gone;
      sends = λ world address item rest gone out room are. gone;
      loses = λ world address gone out. gone;
      plugs = λ world address nid present gone. gone;
    };
    responds = λ world response rest gone can are. gone;
    bytes = record {
      comes = λ world gone can room good is. gone;
      ends = λ world gone can room good is. gone;
      breaks = λ world gone can room bad. gone;
      refuses = λ world gone must. gone;
    };
    input = record {
      stores = λ world gone can some good. record { more = gone.more; taken = gone.taken; stored = (let before = gone.stored in omega (arith, before)) };
      jams = λ world gone can some bad. gone;
      takes = λ world gone can. took_on world.registers.shape.fifo (arriving world) (input_of world) gone;
      refuses = λ world gone must. gone;
    };
    passes = λ world gone out still. gone;
    frames = record {
      gaps = λ world gone can none. gone;
      sends = λ world gone can some enough. gone;
      misses = λ world gone can short. gone;
      stops = λ world gone must. gone;
    };
  }

pub gone_none : (world : World) → HasGone world.input.entered world.input.left world
gone_none world = record { more = []; taken = sym (append-nil world.input.entered); stored = omega arith }

pub gone_both : (first second third : World) → HasGone first.input.entered first.input.left second → HasGone second.input.entered second.input.left third → HasGone first.input.entered first.input.left third
gone_both first second third one other =
    let up = one.stored in
    let up' = other.stored in
    record {
      more = one.more ++ other.more;
      taken = other.taken ∙ ap (λ (front : List ℕ). front ++ other.more) one.taken ∙ append_assoc first.input.entered one.more other.more;
      stored = omega (arith, up, up');
    }

-- ---- a ring that is filled on

-- from one world to another the input stream filled the ring, no faster than it may
pub record Goes (ring : Ring) (old new : World) : Type 0 where
  pub fills : FillsRing ring new
  pub grows : Grows (most_bytes ring.geometry.format) old new
  pub gone : HasGone old.input.entered old.input.left new

pub goes_none : (ring : Ring) (world : World) → FillsRing ring world → Goes ring world world
goes_none ring world fills = record { fills = fills; grows = grows_none (most_bytes ring.geometry.format) world.frames (length world.input.entered); gone = gone_none world }

pub goes_both : (ring : Ring) (first second third : World) → Goes ring first second → Goes ring second third → Goes ring first third
goes_both ring first second third one other = record {
  fills = other.fills;
  grows = grows_both (most_bytes ring.geometry.format) first second third one.grows other.grows;
  gone = gone_both first second third one.gone other.gone;
}

pub step_goes : (ring : Ring) (one : Step) (world : World) → FillsRing ring world → Goes ring world (after_step one world)
step_goes ring one world fills = record {
  fills = kept_step (FillsRing ring) (fills_kept ring) one world fills;
  grows = step_grows ring one world fills;
  gone = kept_step (HasGone world.input.entered world.input.left) (gone_kept world.input.entered world.input.left) one world (gone_none world);
}
