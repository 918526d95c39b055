-- The link frames of journals: how many are counted, and that WALCLK does not wrap meanwhile.
use Rattle.std.proofs.Common.{◌≡◌, ◌≤◌, ◌+◌, ℕ, true, List, [], ◌∷◌, ◌++◌, length, map, drop, All, refl, sym, ap, ◌∙◌, arith}
use Rattle.std.specs.Prelude.{sum_by}
use Rattle.std.specs.List.{flat_map}
use Rattle.std.proofs.lemmas.List.Sums.{sum_by-cons, sum_by-append}
use Rattle.std.proofs.lemmas.List.Elements.{All-head, All-tail}
use Rattle.std.proofs.Math.Seq.{drop-nil}
use Rattle.world_steps.specs.declared.Step.{Step}
use Rattle.schedule_reader.specs.declared.schedule.Group.{Group}
use Rattle.schedule_reader.specs.declared.schedule.Item.{Item}
use Rattle.schedule_reader.specs.declared.schedule.Item.TheVariants.{Device, Drive}
use Rattle.schedule_reader.specs.declared.schedule.Schedule.{Schedule}
use Rattle.schedule_reader.specs.Counts.{items_of, step_frames, group_frames, item_frames, frames_of}
use Rattle.schedule_reader.specs.Schedules.{most_frames}
use Rattle.hda_world.specs.Worlds.{World}
use Rattle.hda_world.specs.Events.{Event, Stepped, Begin, End, happens, after}
use Rattle.hda_world.specs.Tellings.{Telling, Went, world_of}
use Rattle.period_writer.specs.Outcomes.{HasNotWrapped}
use Rattle.laws_stream.specs.Lives.{Along}
use Rattle.rig.specs.Stretches.{is_access, steps_in, all_steps_in, woven, stretch}
use Rattle.rig.specs.Follows.{Piece, AreAccesses, laid_out, FollowItems, Follows}
use Rattle.rig.specs.LinkFrames.{event_frames, frames_in}
use Rattle.rig.proofs.Callers.{event_frames_bounded, access_frames}
use Rattle.program_runs.specs.LinkFrames.{IsShort}

-- ---- events count no more than their frames

pub events_count : (events : List Event) (world : World) → (after events world).frames ≤ world.frames + frames_in events
events_count [] world = omega arith
events_count (event ∷ events) world =
    let rest = events_count events (happens world event) in
    let one = event_frames_bounded world event in
    let all = sum_by-cons event_frames event events in
    omega (arith, rest, one, all)

pub frames_both : (first second : List Event) → frames_in (first ++ second) ≡ frames_in first + frames_in second
frames_both first second = sum_by-append event_frames first second

-- ---- a short journal

-- WALCLK has not wrapped while the frames are few
along_few : (events : List Event) (world : World) → world.frames + frames_in events ≤ most_frames → Along HasNotWrapped events world
along_few [] world few = omega (arith, few)
along_few (event ∷ events) world few =
    let one = event_frames_bounded world event in
    let all = sum_by-cons event_frames event events in
    (omega (arith, few), along_few events (happens world event) (omega (arith, few, one, all)))

pub short_before : (old new : Telling) (events : List Event) → Went old new events → IsShort new → IsShort old
short_before old new events went short =
    let start : new.start.frames ≡ old.start.frames = ap (λ (world : World). world.frames) went.start in
    let all = ap frames_in went.journal ∙ frames_both old.journal events in
    omega (arith, short, start, all)

pub not_wrapped : (telling : Telling) → IsShort telling → HasNotWrapped (world_of telling)
not_wrapped telling short = (let few = events_count telling.journal telling.start in omega (arith, few, short))

pub never_wrapped : (old new : Telling) (events : List Event) → Went old new events → IsShort new → Along HasNotWrapped events (world_of old)
never_wrapped old new events went short =
    let few = events_count old.journal old.start in
    let start : new.start.frames ≡ old.start.frames = ap (λ (world : World). world.frames) went.start in
    let all = ap frames_in went.journal ∙ frames_both old.journal events in
    along_few events (world_of old) (omega (arith, few, short, start, all))

-- ---- the frames of a schedule

steps_frames : (steps : List Step) → frames_in (map Stepped steps) ≡ sum_by step_frames steps
steps_frames [] = refl
steps_frames (step ∷ steps) =
    sum_by-cons event_frames (Stepped step) (map Stepped steps) ∙ ap (λ (n : ℕ). step_frames step + n) (steps_frames steps) ∙ sym (sum_by-cons step_frames step steps)

groups_frames : (groups : List Group) → frames_in (all_steps_in groups) ≡ sum_by group_frames groups
groups_frames [] = refl
groups_frames (group ∷ groups) =
    let rest = groups_frames groups in
    let here = steps_frames group.steps in
    let both = frames_both (steps_in group) (all_steps_in groups) in
    let all = sum_by-cons group_frames group groups in
    omega (arith, rest, here, both, all)

-- those of groups come between accesses or after them
woven_frames : (groups : List Group) (accesses : List Event) → AreAccesses accesses → frames_in (woven groups accesses) + frames_in (all_steps_in (drop (length accesses) groups)) ≡ sum_by group_frames groups
woven_frames [] [] are = refl
woven_frames (group ∷ groups) [] are = (let all = groups_frames (group ∷ groups) in omega (arith, all))
woven_frames [] (access ∷ accesses) are =
    let rest = woven_frames [] accesses (All-tail (λ (event : Event). is_access event ≡ true) access accesses are) in
    let here = access_frames access (All-head (λ (event : Event). is_access event ≡ true) access accesses are) in
    let all = sum_by-cons event_frames access (woven [] accesses) in
    let none = ap (λ (groups : List Group). frames_in (all_steps_in groups)) (drop-nil (length accesses)) in
    let none' = ap (λ (groups : List Group). frames_in (all_steps_in groups)) (drop-nil (length (access ∷ accesses))) in
    omega (arith, rest, here, all, none, none')
woven_frames (group ∷ groups) (access ∷ accesses) are =
    let rest = woven_frames groups accesses (All-tail (λ (event : Event). is_access event ≡ true) access accesses are) in
    let here = access_frames access (All-head (λ (event : Event). is_access event ≡ true) access accesses are) in
    let steps = steps_frames group.steps in
    let both = frames_both (steps_in group) (access ∷ woven groups accesses) in
    let one = sum_by-cons event_frames access (woven groups accesses) in
    let all = sum_by-cons group_frames group groups in
    omega (arith, rest, here, steps, both, one, all)

stretch_frames : (groups : List Group) (accesses : List Event) → AreAccesses accesses → frames_in (stretch groups accesses) ≡ sum_by group_frames groups
stretch_frames groups accesses are =
    let left = all_steps_in (drop (length accesses) groups) in
    let begins = sum_by-cons event_frames Begin (woven groups accesses ++ (left ++ End ∷ [])) in
    let front = frames_both (woven groups accesses) (left ++ End ∷ []) in
    let back = frames_both left (End ∷ []) in
    let woven = woven_frames groups accesses are in
    omega (arith, begins, front, back, woven)

laid_frames : (item : Item) (accesses : List Event) → AreAccesses accesses → frames_in (laid_out item accesses) ≡ item_frames item
laid_frames (Device step) accesses are = omega arith
laid_frames (Drive line) accesses are = stretch_frames line.groups accesses are

pieces_frames : (pieces : List Piece) → All (λ (piece : Piece). AreAccesses piece.accesses) pieces
    → frames_in (flat_map (λ (piece : Piece). laid_out piece.item piece.accesses) pieces) ≡ sum_by item_frames (map (λ (piece : Piece). piece.item) pieces)
pieces_frames [] are = refl
pieces_frames (piece ∷ pieces) are =
    let rest = pieces_frames pieces (All-tail (λ (piece : Piece). AreAccesses piece.accesses) piece pieces are) in
    let here = laid_frames piece.item piece.accesses (All-head (λ (piece : Piece). AreAccesses piece.accesses) piece pieces are) in
    let both = frames_both (laid_out piece.item piece.accesses) (flat_map (λ (piece : Piece). laid_out piece.item piece.accesses) pieces) in
    let all = sum_by-cons item_frames piece.item (map (λ (piece : Piece). piece.item) pieces) in
    omega (arith, rest, here, both, all)

followed_frames : (items : List Item) (events : List Event) → FollowItems items events → frames_in events ≡ sum_by item_frames items
followed_frames items events follow = ap frames_in (sym follow.laid) ∙ pieces_frames follow.pieces follow.accesses ∙ ap (sum_by item_frames) follow.are

-- a journal that follows a schedule has the frames of the schedule
pub follows_frames : (schedule : Schedule) (events : List Event) → Follows schedule events → frames_in events ≡ frames_of schedule
unfolding frames_of
follows_frames schedule events follows =
    let laid = ap frames_in follows.laid in
    let both = frames_both follows.followed (stretch [] follows.closing) in
    let followed = followed_frames (items_of schedule) follows.followed follows.items in
    let closing = stretch_frames [] follows.closing follows.accesses in
    omega (arith, laid, both, followed, closing)
