-- How many link frames events let pass.
use Rattle.std.proofs.Common.{◌≡◌, ◌≤◌, ◌+◌, ℕ, zero, suc, Bool, true, false, List, [], ◌∷◌, Option, Some, None, refl, arith, if◌then◌else◌}
use Rattle.world_steps.specs.declared.Step.{Step}
use Rattle.world_steps.specs.declared.Step.TheVariants as step
use Rattle.hda_registers.specs.Fields.{is_out_of_reset}
use Rattle.hda_registers.specs.Access.{written, effects_of}
use Rattle.codec_graph.specs.declared.waiting.Waiting.{Waiting}
use Rattle.schedule_reader.specs.Counts.{step_frames}
use Rattle.world_rings.specs.Engines.{next_word}
use Rattle.world_streams.specs.Output.{frame_of}
use Rattle.hda_world.specs.Worlds.{World, codec_at, output_of}
use Rattle.hda_world.specs.Steps.{address_of, is_busy, handed, handed_next, sent_first, waiting_of as waiting_of, lost, passed, output_framed, input_framed, frame_step, times, output_fetched, input_stored, after_step}
use Rattle.hda_world.specs.Events.{Event, Stepped, Begin, End, Read, Write, DmaRead, DmaWrite, happens, reset_if, counted_anew_if, registers_written}
use Rattle.rig.specs.Stretches.{is_access}
use Rattle.rig.specs.LinkFrames.{event_frames}

level : (n : ℕ) → n ≤ n + 0
level n = omega arith

if_frames : (b : Bool) (one other : World) (most : ℕ) → one.frames ≤ most → other.frames ≤ most → (if b then one else other).frames ≤ most
if_frames true one other most first second = first
if_frames false one other most first second = second

handed_frames : (word : Option ℕ) (world : World) → (handed_next word world).frames ≤ world.frames + 0
handed_frames None world = level world.frames
handed_frames (Some word) world = if_frames (is_busy (codec_at (address_of word) world.codecs)) world (handed word world) (world.frames + 0) (level world.frames) (level world.frames)

sent_frames : (address : ℕ) (items : List Waiting) (world : World) → (sent_first address items world).frames ≤ world.frames + 0
sent_frames address [] world = level world.frames
sent_frames address (item ∷ items) world = level world.frames

frame_frames : (world : World) → (frame_step world).frames ≤ world.frames + 1
frame_frames world =
    if_frames (is_out_of_reset world.registers.global) (input_framed (output_framed (frame_of (output_of world)) (passed world))) world (world.frames + 1) (omega arith) (omega arith)

times_frames : (n : ℕ) (world : World) → (times n frame_step world).frames ≤ world.frames + n
times_frames zero world = level world.frames
times_frames (suc n) world = (let rest = times_frames n (frame_step world) in let one = frame_frames world in omega (arith, rest, one))

-- a step lets no more pass than its link frames
pub step_frames_bounded : (step : Step) (world : World) → (after_step step world).frames ≤ world.frames + step_frames step
step_frames_bounded step.Corb world = handed_frames (next_word world.registers world.memory) world
step_frames_bounded (step.Answer codec) world = if_frames _ (sent_first codec (waiting_of (codec_at codec world.codecs)) world) world (world.frames + 0) (sent_frames codec (waiting_of (codec_at codec world.codecs)) world) (level world.frames)
step_frames_bounded (step.Lose codec) world = if_frames (is_out_of_reset world.registers.global) (lost codec world) world (world.frames + 0) (level world.frames) (level world.frames)
step_frames_bounded step.Rirb world = level world.frames
step_frames_bounded (step.Fetch stream most) world =
    if_frames _ (output_fetched most world) _ (world.frames + 0) (level world.frames)
    (if_frames _ (input_stored most world) world (world.frames + 0) (level world.frames) (level world.frames))
step_frames_bounded (step.Link frames) world = times_frames frames world
step_frames_bounded (step.Plug codec nid) world = level world.frames
step_frames_bounded (step.Unplug codec nid) world = level world.frames

reset_frames : (resets : Bool) (world : World) → (reset_if resets world).frames ≤ world.frames
reset_frames true world = omega arith
reset_frames false world = omega arith

anew_frames : (anew : Bool) (world : World) → (counted_anew_if anew world).frames ≤ world.frames
anew_frames true world = omega arith
anew_frames false world = omega arith

-- nor does an event
pub event_frames_bounded : (world : World) (event : Event) → (happens world event).frames ≤ world.frames + event_frames event
event_frames_bounded world (Stepped step) = step_frames_bounded step world
event_frames_bounded world (Write at width value) =
    let effects = effects_of world.registers at width value in
    let new = registers_written (written world.registers at width value) world in
    let first : (reset_if effects.reset new).frames ≤ world.frames = reset_frames effects.reset new in
    let second : (happens world (Write at width value)).frames ≤ (reset_if effects.reset new).frames = anew_frames effects.left_reset (reset_if effects.reset new) in
    omega (arith, first, second)
event_frames_bounded world (DmaWrite at bytes) = level world.frames
event_frames_bounded world Begin = level world.frames
event_frames_bounded world End = level world.frames
event_frames_bounded world (Read at width value) = level world.frames
event_frames_bounded world (DmaRead at bytes) = level world.frames

-- an access lets none pass
pub access_frames : (event : Event) → is_access event ≡ true → event_frames event ≡ 0
access_frames (Stepped step) is = cc
access_frames Begin is = cc
access_frames End is = cc
access_frames (Read at width value) is = refl
access_frames (Write at width value) is = refl
access_frames (DmaRead at bytes) is = refl
access_frames (DmaWrite at bytes) is = refl
