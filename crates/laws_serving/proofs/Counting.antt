-- How many link frames events let pass.
use Rattle.std.proofs.Common.{◌≡◌, ◌≤◌, ◌+◌, ℕ, zero, suc, Bool, true, false, List, [], ◌∷◌, ◌++◌, length, map, drop, Option, Some, None, refl, ap, ◌∙◌, arith, if◌then◌else◌}
use Rattle.std.specs.Prelude.{sum_by}
use Rattle.std.proofs.lemmas.List.Sums.{sum_by-cons, sum_by-append}
use Rattle.std.proofs.lemmas.List.Elements.{All-head, All-tail}
use Rattle.codec_graph.specs.declared.waiting.Waiting.{Waiting}
use Rattle.world_steps.specs.declared.Step.{Step}
use Rattle.world_steps.specs.declared.Step.TheVariants as step
use Rattle.hda_registers.specs.Fields.{Global, is_out_of_reset}
use Rattle.world_rings.specs.Engines.{next_word}
use Rattle.world_streams.specs.Output.{frame_of}
use Rattle.schedule_reader.specs.declared.schedule.Group.{Group}
use Rattle.schedule_reader.specs.Counts.{step_frames, group_frames}
use Rattle.hda_world.specs.Worlds.{World, codec_at, output_of}
use Rattle.hda_world.specs.Steps.{address_of, is_busy, handed, handed_next, sent_first, waiting_of as waiting_of, lost, passed, output_framed, input_framed, frame_step, times, output_fetched, input_stored, after_step, after_steps}
use Rattle.hda_world.specs.Events.{Event, Stepped, Begin, End, Read, Write, DmaRead, DmaWrite, happens, after}
use Rattle.hda_world.specs.Leaving.{StepsLeave, graphs_of}
use Rattle.hda_world.proofs.Callers.{kept_steps, steps_leave, access_leaves}
use Rattle.driver_progress.specs.Beginning.{KeepsTime}
use Rattle.rig.specs.Stretches.{steps_in, all_steps_in, woven}
use Rattle.rig.specs.Follows.{AreAccesses}
use Rattle.rig.specs.LinkFrames.{event_frames}
use Rattle.rig.proofs.Callers.{step_frames_bounded, event_frames_bounded, access_frames}
use Rattle.driver_progress.proofs.Callers.{keeps_time}
use Rattle.laws_serving.specs.Rounds.{frames_of_steps}
use Rattle.laws_serving.proofs.Requests.{IsAccess}
use Rattle.laws_serving.proofs.Rows.{within_call, within_alone}
use Rattle.laws_serving.proofs.Worlds.{IsTimed}

-- ---- a step counts no more than its frames

pub steps_count : (steps : List Step) (world : World) → (after_steps steps world).frames ≤ world.frames + frames_of_steps steps
steps_count [] world = omega arith
steps_count (one ∷ steps) world =
    let rest = steps_count steps (after_step one world) in
    let first = step_frames_bounded one world in
    let all = sum_by-cons step_frames one steps in omega (arith, rest, first, all)

-- ---- and so an event

pub events_count : (events : List Event) (world : World) → (after events world).frames ≤ world.frames + sum_by event_frames events
events_count [] world = omega arith
events_count (event ∷ events) world =
    let rest = events_count events (happens world event) in
    let one = event_frames_bounded world event in
    let all = sum_by-cons event_frames event events in
    omega (arith, rest, one, all)

-- ---- a call counts those of its groups

steps_frames : (steps : List Step) → sum_by event_frames (map Stepped steps) ≡ sum_by step_frames steps
steps_frames [] = refl
steps_frames (one ∷ steps) =
    let rest = steps_frames steps in
    let here = sum_by-cons event_frames (Stepped one) (map Stepped steps) in
    let there = sum_by-cons step_frames one steps in omega (arith, rest, here, there)

groups_frames : (groups : List Group) → sum_by event_frames (all_steps_in groups) ≡ sum_by group_frames groups
groups_frames [] = refl
groups_frames (group ∷ groups) =
    let rest = groups_frames groups in
    let one = steps_frames group.steps in
    let both = sum_by-append event_frames (steps_in group) (all_steps_in groups) in
    let cons = sum_by-cons group_frames group groups in omega (arith, rest, one, both, cons)

pub call_frames : (groups : List Group) (accesses : List Event) → AreAccesses accesses → sum_by event_frames (within_call groups accesses) ≡ sum_by group_frames groups
call_frames groups [] are = groups_frames groups
call_frames [] (access ∷ accesses) are =
    let rest = call_frames [] accesses (All-tail IsAccess access accesses are) in
    let none = access_frames access (All-head IsAccess access accesses are) in
    let alone = ap (sum_by event_frames) (within_alone access accesses) in
    let cons = sum_by-cons event_frames access (within_call [] accesses) in omega (arith, rest, none, cons, alone)
call_frames (group ∷ groups) (access ∷ accesses) are =
    let rest = call_frames groups accesses (All-tail IsAccess access accesses are) in
    let none = access_frames access (All-head IsAccess access accesses are) in
    let one = steps_frames group.steps in
    let cons = sum_by-cons group_frames group groups in
    let here = sum_by-cons event_frames access (woven groups accesses) in
    let first = sum_by-append event_frames (steps_in group) (access ∷ woven groups accesses) in
    let all = sum_by-append event_frames (steps_in group ++ access ∷ woven groups accesses) (all_steps_in (drop (length accesses) groups)) in
    let split = sum_by-append event_frames (woven groups accesses) (all_steps_in (drop (length accesses) groups)) in
    omega (arith, rest, none, one, cons, here, first, all, split)

pub call_counts : (groups : List Group) (accesses : List Event) (world : World) → AreAccesses accesses → (after (within_call groups accesses) world).frames ≤ world.frames + sum_by group_frames groups
call_counts groups accesses world are =
    let all = events_count (within_call groups accesses) world in
    let same = call_frames groups accesses are in omega (arith, all, same)

-- ---- and the count never falls over steps

if_grows : (b : Bool) (one other : World) (least : ℕ) → least ≤ one.frames → least ≤ other.frames → least ≤ (if b then one else other).frames
if_grows true one other least first second = first
if_grows false one other least first second = second

handed_grows : (word : Option ℕ) (world : World) → world.frames ≤ (handed_next word world).frames
handed_grows None world = omega arith
handed_grows (Some word) world = if_grows (is_busy (codec_at (address_of word) world.codecs)) world (handed word world) world.frames (omega arith) (omega arith)

sent_grows : (address : ℕ) (items : List Waiting) (world : World) → world.frames ≤ (sent_first address items world).frames
sent_grows address [] world = omega arith
sent_grows address (item ∷ items) world = omega arith

frame_grows : (world : World) → world.frames ≤ (frame_step world).frames
frame_grows world = if_grows (is_out_of_reset world.registers.global) (input_framed (output_framed (frame_of (output_of world)) (passed world))) world world.frames (omega arith) (omega arith)

times_grow : (n : ℕ) (world : World) → world.frames ≤ (times n frame_step world).frames
times_grow zero world = omega arith
times_grow (suc n) world = (let rest = times_grow n (frame_step world) in let one = frame_grows world in omega (arith, rest, one))

pub step_grows : (step : Step) (world : World) → world.frames ≤ (after_step step world).frames
step_grows step.Corb world = handed_grows (next_word world.registers world.memory) world
step_grows (step.Answer codec) world = if_grows _ (sent_first codec (waiting_of (codec_at codec world.codecs)) world) world world.frames (sent_grows codec (waiting_of (codec_at codec world.codecs)) world) (omega arith)
step_grows (step.Lose codec) world = if_grows (is_out_of_reset world.registers.global) (lost codec world) world world.frames (omega arith) (omega arith)
step_grows step.Rirb world = omega arith
step_grows (step.Fetch stream most) world =
    if_grows _ (output_fetched most world) _ world.frames (omega arith)
    (if_grows _ (input_stored most world) world world.frames (omega arith) (omega arith))
step_grows (step.Link frames) world = times_grow frames world
step_grows (step.Plug codec nid) world = omega arith
step_grows (step.Unplug codec nid) world = omega arith

pub steps_grow : (steps : List Step) (world : World) → world.frames ≤ (after_steps steps world).frames
steps_grow [] world = omega arith
steps_grow (one ∷ steps) world = (let rest = steps_grow steps (after_step one world) in let first = step_grows one world in omega (arith, rest, first))

-- the wall clock goes on with them
pub timed_steps : (least : ℕ) (steps : List Step) (world : World) → IsTimed least world → IsTimed least (after_steps steps world)
timed_steps least steps world timed =
    let leaves : StepsLeave world (after_steps steps world) = steps_leave steps world in
    let grows = steps_grow steps world in
    let later = timed.later in record {
      out = ap (λ (global : Global). is_out_of_reset global) leaves.registers.global ∙ timed.out;
      time = kept_steps KeepsTime keeps_time steps world timed.time;
      later = omega (arith, grows, later);
    }

-- ---- the graphs stay

event_graphs : (event : Event) (world : World) → graphs_of (happens world event) ≡ graphs_of world
event_graphs (Stepped step) world = let leaves : StepsLeave world (after_step step world) = steps_leave (step ∷ []) world in leaves.graphs
event_graphs Begin world = refl
event_graphs End world = refl
event_graphs (Read at width value) world = refl
event_graphs (Write at width value) world = (access_leaves world at value width).graphs
event_graphs (DmaRead at bytes) world = refl
event_graphs (DmaWrite at bytes) world = refl

pub events_graphs : (events : List Event) (world : World) → graphs_of (after events world) ≡ graphs_of world
events_graphs [] world = refl
events_graphs (event ∷ events) world = events_graphs events (happens world event) ∙ event_graphs event world

pub steps_graphs : (steps : List Step) (world : World) → graphs_of (after_steps steps world) ≡ graphs_of world
steps_graphs steps world = let leaves : StepsLeave world (after_steps steps world) = steps_leave steps world in leaves.graphs
