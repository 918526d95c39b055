-- Which blocks a link frame brings to the input stream.
use Rattle.std.proofs.Common.{◌≡◌, ◌≤◌, ◌<◌, ◌+◌, ◌*◌, ◌%◌, ℕ, zero, suc, min, Bool, true, false, nat_le, List, [], ◌∷◌, length, replicate, take, drop, Option, Some, None, if◌then◌else◌, refl, sym, ap, ap₂, ◌∙◌, inl, inr, arith, zero-le}
use Rattle.std.proofs.Math.Nat.{mul-le-mul, min-eq_left}
use Rattle.std.proofs.lemmas.Bool.{leb-true, cases_lt}
use Rattle.codec_sound.specs.declared.in_heard.InHeard.{InHeard}
use Rattle.codec_sound.specs.declared.in_heard.InHeard.TheVariants.{Silence, Pin, Altered}
use Rattle.hda_registers.specs.Fields.{Fields, is_out_of_reset, is_running, stream_of}
use Rattle.stream_format.specs.Cadence.{bytes_of_block}
use Rattle.stream_format.specs.Layouts.{Layout, layout_of}
use Rattle.world_streams.specs.Streams.{StreamState}
use Rattle.world_streams.specs.Input.{silent_block, given_block, given_blocks, Intake, frame_move}
use Rattle.world_streams.proofs.Callers.{move-stopped, some_block}
use Rattle.stream_descriptor.specs.Running.{Playing, RunsBy, frame_cycle, stream_at, taken_bytes}
use Rattle.stream_descriptor.specs.Taking.{TakesFor, blocks_in, due_in, framed_at}
use Rattle.stream_descriptor.proofs.Callers.{due-cycle}
use Rattle.hda_world.specs.Arriving.{heard_sound, due_blocks}
use Rattle.device_core.specs.Captures.{most_came}

-- ---- past the sound's end

past_end : (size : ℕ) (sound : List ℕ) (place : ℕ) → 0 < size → length sound ≤ place → given_block size sound place ≡ silent_block size
past_end size sound place some past = by_fits _ refl
  where
    by_fits : (fits : Bool) → nat_le ((place + 1) * size) (length sound) ≡ fits
        → (if fits then take size (drop (place * size) sound) else silent_block size) ≡ silent_block size
    by_fits true is = absurd (
        let within = leb-true ((place + 1) * size) (length sound) is in
        let one : (place + 1) * 1 ≤ (place + 1) * size = mul-le-mul (omega arith) some in
        omega (arith, within, one, past))
    by_fits false is = refl

all_past : (size : ℕ) (sound : List ℕ) (from count : ℕ) → 0 < size → length sound ≤ from → given_blocks size sound from count ≡ replicate count (silent_block size)
all_past size sound from zero some past = refl
all_past size sound from (suc count) some past =
    ap₂ (λ (first : List ℕ) (rest : List (List ℕ)). first ∷ rest) (past_end size sound from some past) (all_past size sound (from + 1) count some (omega (arith, past)))

-- so it does not matter how far past it the count goes
blocks_capped : (size : ℕ) (sound : List ℕ) (came count : ℕ) → 0 < size → length sound ≤ most_came → given_blocks size sound (min came most_came) count ≡ given_blocks size sound came count
blocks_capped size sound came count some short = elim (cases_lt came most_came) [
  | inl within ↦ ap (λ (from : ℕ). given_blocks size sound from count) (min-eq_left (omega (arith, within)))
  | inr past ↦ (
      let capped : length sound ≤ min came most_came = omega (arith, past, short) in
      all_past size sound (min came most_came) count some capped ∙ sym (all_past size sound came count some (omega (arith, past, short))))
]

-- ---- what is put on the link

heard_short : (heard : InHeard) (given : List ℕ) (most : ℕ) → length given ≤ most → length (heard_sound heard given) ≤ most
heard_short Silence given most short = zero-le
heard_short (Pin nid) given most short = short
heard_short Altered given most short = zero-le

due_same : (heard : InHeard) (word : ℕ) (found : Option Layout) (given : List ℕ) (counted came frame : ℕ) → layout_of word ≡ found → length given ≤ most_came → counted ≡ min came most_came
    → blocks_in (heard_sound heard given) (due_in found counted (frame % frame_cycle)) ≡ due_blocks (Some heard) found given came frame
due_same heard word None given counted came frame is short counts = refl
due_same heard word (Some layout) given counted came frame is short counts =
    let sound : List ℕ = heard_sound heard given in
    ap (blocks_in sound) (due-cycle (Some layout) counted frame)
    ∙ (ap (λ (from : ℕ). blocks_in sound (due_in (Some layout) from frame)) counts
    ∙ blocks_capped (bytes_of_block layout.channels layout.bits) sound came _ (some_block word layout is) (heard_short heard given most_came short))

-- ---- what they do

-- only a stream that runs looks at the blocks
pub framed-same : (fields : Fields) (state : StreamState) (one other : List (List ℕ)) → (is_running fields.input ≡ true → one ≡ other) → framed_at 0 one fields state ≡ framed_at 0 other fields state
framed-same fields state one other same = by_run _ refl
  where
    moved_same : (runs : Bool) → is_running fields.input ≡ runs → frame_move fields.shape.fifo one (stream_at 0 fields state) ≡ frame_move fields.shape.fifo other (stream_at 0 fields state)
    moved_same true is = ap (λ (blocks : List (List ℕ)). frame_move fields.shape.fifo blocks (stream_at 0 fields state)) (same is)
    moved_same false is = move-stopped fields.shape.fifo one (stream_at 0 fields state) is ∙ sym (move-stopped fields.shape.fifo other (stream_at 0 fields state) is)

    by_run : (runs : Bool) → is_running fields.input ≡ runs → framed_at 0 one fields state ≡ framed_at 0 other fields state
    by_run runs is = ap (λ (intake : Intake). if is_out_of_reset fields.global then intake else record { stream = stream_at 0 fields state; marks = [] }) (moved_same runs is)

-- and where it does not run nothing happens
pub framed-stopped : (fields : Fields) (state : StreamState) (blocks : List (List ℕ)) → is_running fields.input ≡ false → framed_at 0 blocks fields state ≡ record { stream = stream_at 0 fields state; marks = [] }
framed-stopped fields state blocks stopped =
    ap (λ (intake : Intake). if is_out_of_reset fields.global then intake else record { stream = stream_at 0 fields state; marks = [] }) (move-stopped fields.shape.fifo blocks (stream_at 0 fields state) stopped)
    ∙ either (is_out_of_reset fields.global) (record { stream = stream_at 0 fields state; marks = [] })
  where
    either : (out : Bool) (intake : Intake) → (if out then intake else intake) ≡ intake
    either true intake = refl
    either false intake = refl

-- the blocks that the code puts on the link are those that are due
pub brought-some : (heard : InHeard) (playing : Playing) (fields : Fields) (given : List ℕ) (counted came : ℕ) (state : StreamState) → playing.index ≡ 0 → length given ≤ most_came → counted ≡ min came most_came
    → TakesFor playing fields state
    → framed_at 0 (blocks_in (heard_sound heard given) (due_in (layout_of fields.input.format) counted playing.frame)) fields state
    ≡ framed_at 0 (due_blocks (Some heard) (layout_of fields.input.format) given came state.frame) fields state
brought-some heard playing fields given counted came state index short counts stands =
    framed-same fields state _ _ (λ runs.
    let here : RunsBy taken_bytes playing (stream_at playing.index fields state) = stands.running (ap (λ (i : ℕ). is_running (stream_of fields i)) index ∙ runs) in
    ap (λ (frame : ℕ). blocks_in (heard_sound heard given) (due_in (layout_of fields.input.format) counted frame)) here.frame
    ∙ due_same heard fields.input.format (layout_of fields.input.format) given counted came state.frame refl short counts)
