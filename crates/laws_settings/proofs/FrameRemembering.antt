-- What link frames found of codecs is remembered over every event.
use Rattle.std.proofs.Common.{◌≡◌, ◌≤◌, ◌<◌, ℕ, ◌+◌, Bool, false, true, List, [], ◌∷◌, ◌++◌, length, map, drop, Option, None, Some, refl, sym, ap, subst, ◌∙◌, ◌⊎◌, inl, inr, append-nil, arith, length-append}
use Rattle.std.specs.Prelude.{All, slice_get, nat_le}
use Rattle.std.proofs.lemmas.Bool.{cases_lt}
use Rattle.std.proofs.lemmas.Bool.Decides.{nat_tests}
use Rattle.std.proofs.lemmas.List.{drop-append-le, drop_all}
use Rattle.std.proofs.lemmas.List.Elements.{All-push, All-weaker, All-head, All-tail, filter-append}
use Rattle.std.proofs.lemmas.Option.{slice_get_within}
use Rattle.codec_graph.specs.CodecStates.{CodecState}
use Rattle.hda_registers.specs.Fields.{is_running}
use Rattle.hda_registers.specs.declared.shapes.Width.{Width}
use Rattle.world_rings.specs.Entries.{next_command}
use Rattle.world_steps.specs.declared.Step.{Step}
use Rattle.hda_world.specs.Worlds.{World, TakenCommand, CarriedFrame, codec_at}
use Rattle.hda_world.specs.Steps.{address_of, taking, after_steps}
use Rattle.hda_world.specs.Events.{Event, Stepped, Begin, End, Read, Write, DmaRead, DmaWrite, after_write, happens, after}
use Rattle.hda_world.specs.Kept.{Kept, KeptByFrames, unmoved}
use Rattle.hda_world.proofs.Callers.{kept_steps, access_leaves, frames_after, by_moves}
use Rattle.laws_settings.specs.Histories.{RemembersBy, Remembers}
use Rattle.laws_settings.specs.Frames.{taken_before, IsFrameAfter, RemembersFramesBy, RemembersFrames}
use Rattle.laws_settings.proofs.Remembering.{get_front, get_seam, keeps_remembering, event_remembers}

-- ---- commands before a link frame

-- a command that was taken later is none of them
not_before : (place : ℕ) (commands : List TakenCommand) (one : TakenCommand) → place < one.carried → taken_before place (commands ++ one ∷ []) ≡ taken_before place commands
not_before place commands one late =
    filter-append (λ (c : TakenCommand). nat_le c.carried place) commands (one ∷ [])
    ∙ ap (λ (more : List TakenCommand). taken_before place commands ++ more) single
    ∙ append-nil (taken_before place commands)
  where
    test : nat_le one.carried place ≡ false
    test = grind (arith, nat_tests)

    single : taken_before place (one ∷ []) ≡ []
    single = rw test refl

-- and before a later one all of them were
pub all_before : (place : ℕ) (commands : List TakenCommand) → All (λ (one : TakenCommand). one.carried ≤ place) commands → taken_before place commands ≡ commands
all_before place [] all = refl
all_before place (one ∷ commands) all =
    let low : one.carried ≤ place = All-head (λ (one : TakenCommand). one.carried ≤ place) one commands all in
    let test : nat_le one.carried place ≡ true = grind (arith, nat_tests) in
    let rest : taken_before place commands ≡ commands = all_before place commands (All-tail (λ (one : TakenCommand). one.carried ≤ place) one commands all) in
    rw test (ap (λ (l : List TakenCommand). one ∷ l) rest)

-- ---- the world

module _ (start : List CodecState) (from frames : ℕ) where
  abbrev By : List TakenCommand → List CarriedFrame → Type 0
  By = RemembersFramesBy start from frames

  abbrev IsLow : ℕ → TakenCommand → Type 0
  IsLow most one = one.carried ≤ most

  abbrev IsLate : TakenCommand → Type 0
  IsLate one = frames ≤ one.carried

  -- a command more
  command_more : (commands : List TakenCommand) (carried : List CarriedFrame) (one : TakenCommand) → from ≤ length commands → one.carried ≡ length carried → By commands carried → By (commands ++ one ∷ []) carried
  command_more commands carried one inside at by =
      let since = drop from commands in
      let begun = by.begun in
      let goes : drop from (commands ++ one ∷ []) ≡ since ++ one ∷ [] = drop-append-le from commands (one ∷ []) inside in
      record {
        begun = begun;
        within = subst (All (IsLow (length carried))) (sym goes) (All-push (IsLow (length carried)) since one by.within (omega (arith, at)));
        since = subst (All IsLate) (sym goes) (All-push IsLate since one by.since (omega (arith, at, begun)));
        found = λ place frame low there.
            subst (λ (c : List TakenCommand). IsFrameAfter start (taken_before place c) frame) (sym goes)
            (subst (λ (c : List TakenCommand). IsFrameAfter start c frame)
            (sym (not_before place since one (let below = slice_get_within carried place frame there in omega (arith, below, at))))
            (by.found place frame low there));
      }

  -- or none
  handed_more : (word : ℕ) (running : Bool) (found : Option CodecState) (commands : List TakenCommand) (carried : List CarriedFrame) → from ≤ length commands → By commands carried
      → By (commands ++ taking word found running (length carried)) carried
  handed_more word running None commands carried inside by = subst (λ (c : List TakenCommand). By c carried) (sym (append-nil commands)) by
  handed_more word running (Some codec) commands carried inside by =
      command_more commands carried (record { word = word; codec = codec; running = running; carried = length carried }) inside refl by

  -- a link frame more, which found the codecs as they are
  frame_more : (codecs : List CodecState) (commands : List TakenCommand) (carried : List CarriedFrame) (frame : CarriedFrame) → frame.codecs ≡ codecs → RemembersBy start from codecs commands → By commands carried
      → By commands (carried ++ frame ∷ [])
  frame_more codecs commands carried frame are is by = record {
    begun = let begun = by.begun in omega (arith, begun, long);
    within = All-weaker (IsLow (length carried)) (IsLow (length (carried ++ frame ∷ []))) (λ one low. omega (arith, low, long)) (drop from commands) by.within;
    since = by.since;
    found = λ place other low there. at place other low there (cases_lt place (length carried));
  }
    where
      long : length (carried ++ frame ∷ []) ≡ length carried + 1
      long = length-append carried (frame ∷ [])

      now : IsFrameAfter start (drop from commands) frame
      now = record {
        graphs = ap (map (λ (codec : CodecState). codec.graph)) are ∙ is.graphs;
        settings = ap (map (λ (codec : CodecState). codec.settings)) are ∙ is.settings;
      }

      at : (place : ℕ) (other : CarriedFrame) → frames ≤ place → slice_get (carried ++ frame ∷ []) place ≡ Some other → (place < length carried) ⊎ (length carried ≤ place)
          → IsFrameAfter start (taken_before place (drop from commands)) other
      at place other low there (inl below) = by.found place other low (sym (get_front carried (frame ∷ []) place below) ∙ there)
      at place other low there (inr above) =
          let below : place < length (carried ++ frame ∷ []) = slice_get_within (carried ++ frame ∷ []) place other there in
          let size = long in
          let end : length carried ≡ place = omega (arith, below, above, size) in
          let found : slice_get (carried ++ frame ∷ []) (length carried) ≡ Some other = ap (slice_get (carried ++ frame ∷ [])) end ∙ there in
          let seam = get_seam carried frame in
          let same : frame ≡ other = cc in
          subst (λ (n : ℕ). IsFrameAfter start (taken_before n (drop from commands)) other) end
          (subst (λ (c : List TakenCommand). IsFrameAfter start c other) (sym (all_before (length carried) (drop from commands) by.within))
          (subst (λ (f : CarriedFrame). IsFrameAfter start (drop from commands) f) same now))

  abbrev Holds : World → Type 0
  Holds world = Remembers start from world × RemembersFrames start from frames world

  frame_now : (world : World) (frame : CarriedFrame) → frame.codecs ≡ world.codecs → Holds world → Remembers start from world × By world.commands (world.carried ++ frame ∷ [])
  frame_now world frame are holds = (holds.0, frame_more world.codecs world.commands world.carried frame are holds.0 holds.1)

  stream_keeps : KeptByFrames Holds unmoved
  stream_keeps = record {
    gaps = λ world holds can none. frame_now world _ refl holds;
    sends = λ world holds can some enough. frame_now world _ refl holds;
    misses = λ world holds can short. frame_now world _ refl holds;
    stops = λ world holds must. holds;
  }

  keeps_frames : Kept Holds
  keeps_frames =
      let keeps = keeps_remembering start from in
      record {
        codecs = record {
          hands = λ world holds can free. (
              let word = next_command world.registers world.memory in (
                keeps.codecs.hands world holds.0 can free,
                handed_more word (is_running world.registers.output) (codec_at (address_of word) world.codecs) world.commands world.carried holds.0.within holds.1,
              ));
          sends = λ world address item rest holds out room are. (keeps.codecs.sends world address item rest holds.0 out room are, holds.1);
          loses = λ world address holds out. (keeps.codecs.loses world address holds.0 out, holds.1);
          plugs = λ world address nid present holds. (keeps.codecs.plugs world address nid present holds.0, holds.1);
        };
        responds = λ world response rest holds can are. holds;
        bytes = record {
          comes = λ world holds can room good is. holds;
          ends = λ world holds can room good is. holds;
          breaks = λ world holds can room bad. holds;
          refuses = λ world holds must. holds;
        };
        input = by_moves Holds (λ world change holds moves. holds);
        passes = λ world holds out still. holds;
        frames = frames_after Holds (λ world holds out. holds) stream_keeps;
      }

  pub steps_remember_frames : (steps : List Step) (world : World) → Remembers start from world → RemembersFrames start from frames world → RemembersFrames start from frames (after_steps steps world)
  steps_remember_frames steps world is by = (kept_steps Holds keeps_frames steps world (is, by)).1

  written : (world : World) (at value : ℕ) (width : Width) → RemembersFrames start from frames world → RemembersFrames start from frames (after_write at width value world)
  written world at value width by =
      let leaves = access_leaves world at value width in
      subst (λ (c : List TakenCommand). By c (after_write at width value world).carried) (sym leaves.commands)
      (subst (By world.commands) (sym leaves.carried) by)

  event_remembers_frames : (event : Event) (world : World) → Remembers start from world → RemembersFrames start from frames world → RemembersFrames start from frames (happens world event)
  event_remembers_frames (Stepped step) world is by = steps_remember_frames (step ∷ []) world is by
  event_remembers_frames Begin world is by = by
  event_remembers_frames End world is by = by
  event_remembers_frames (Read at width value) world is by = by
  event_remembers_frames (Write at width value) world is by = written world at value width by
  event_remembers_frames (DmaRead at bytes) world is by = by
  event_remembers_frames (DmaWrite at bytes) world is by = by

  pub events_remember_frames : (events : List Event) (world : World) → Remembers start from world → RemembersFrames start from frames world → RemembersFrames start from frames (after events world)
  events_remember_frames [] world is by = by
  events_remember_frames (event ∷ events) world is by =
      events_remember_frames events (happens world event) (event_remembers start from event world is) (event_remembers_frames event world is by)

-- a world remembers itself
no_commands : (P : TakenCommand → Type 0) (commands : List TakenCommand) → commands ≡ [] → All P commands
no_commands P commands none = subst (All P) (sym none) (λ place other below. absurd (omega (arith, below)))

pub remembers_its_frames : (world : World) → RemembersFrames world.codecs (length world.commands) (length world.carried) world
remembers_its_frames world =
    let none : drop (length world.commands) world.commands ≡ [] = drop_all (length world.commands) world.commands (omega arith) in
    record {
      begun = omega arith;
      within = no_commands (λ (one : TakenCommand). one.carried ≤ length world.carried) (drop (length world.commands) world.commands) none;
      since = no_commands (λ (one : TakenCommand). length world.carried ≤ one.carried) (drop (length world.commands) world.commands) none;
      found = λ place frame low there. absurd (let below = slice_get_within world.carried place frame there in omega (arith, low, below));
    }
