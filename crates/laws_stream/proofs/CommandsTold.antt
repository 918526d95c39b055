-- Commands are taken while the stream runs or while it does not.
use Rattle.std.proofs.Common.{◌≡◌, ◌==◌, ◌&&◌, ℕ, zero, suc, Bool, true, false, List, [], ◌∷◌, ◌++◌, append_assoc, append-nil, length, Option, None, Some, refl, sym, ap, subst, ◌∙◌, if◌then◌else◌, nat_lt}
use Rattle.std.specs.Prelude.{All}
use Rattle.std.proofs.lemmas.List.Elements.{All-append, All-cons, All-nil}
use Rattle.codec_graph.specs.CodecStates.{CodecState}
use Rattle.codec_graph.specs.declared.waiting.Waiting.{Waiting}
use Rattle.hda_registers.specs.Fields.{is_out_of_reset, is_running}
use Rattle.world_rings.specs.Engines.{next_word}
use Rattle.world_rings.specs.declared.response.TheConstants.{MOST_WAITING}
use Rattle.world_steps.specs.declared.Step.{Step}
use Rattle.world_steps.specs.declared.Step.TheVariants as step
use Rattle.hda_world.specs.Worlds.{World, TakenCommand, CarriedFrame, codec_at, output_of}
use Rattle.world_streams.specs.Output.{frame_of}
use Rattle.hda_world.specs.Steps.{address_of, taking, is_busy, handed, handed_next, sent_first, waiting_of, lost, output_fetched, input_stored, passed, output_framed, input_framed, frame_step, times, after_step}
use Rattle.hda_world.specs.Events.{Event, Stepped, Begin, End, Read, Write, DmaRead, DmaWrite, happens, after}
use Rattle.hda_world.proofs.Callers.{access_leaves, steps_leave_stopped}
use Rattle.laws_stream.specs.Lives.{Along, Runs, IsStopped, HasNotBegun}
use Rattle.laws_stream.specs.Going.{TookWhile, TookLast}

-- what codecs took by one event
record Took (old new : World) : Type 0 where
  more : List TakenCommand
  commands : new.commands ≡ old.commands ++ more
  running : All (λ (one : TakenCommand). one.running ≡ is_running old.registers.output) more
  carried : All (λ (one : TakenCommand). one.carried ≡ length old.carried) more

took_none : (old new : World) → new.commands ≡ old.commands → Took old new
took_none old new same = record { more = []; commands = same ∙ sym (append-nil old.commands); running = All-nil _; carried = All-nil _ }

-- ---- steps

took_word : (word : ℕ) (world : World) (found : Option CodecState) → codec_at (address_of word) world.codecs ≡ found → Took world (handed word world)
took_word word world None there = took_none world (handed word world)
    (ap (λ (found : Option CodecState). world.commands ++ taking word found (is_running world.registers.output) (length world.carried)) there ∙ append-nil world.commands)
took_word word world (Some codec) there =
    let one : TakenCommand = record { word = word; codec = codec; running = is_running world.registers.output; carried = length world.carried } in record {
      more = one ∷ [];
      commands = ap (λ (found : Option CodecState). world.commands ++ taking word found (is_running world.registers.output) (length world.carried)) there;
      running = All-cons (λ (one : TakenCommand). one.running ≡ is_running world.registers.output) one [] refl (All-nil (λ (one : TakenCommand). one.running ≡ is_running world.registers.output));
      carried = All-cons (λ (one : TakenCommand). one.carried ≡ length world.carried) one [] refl (All-nil (λ (one : TakenCommand). one.carried ≡ length world.carried));
    }

took_next : (word : Option ℕ) (world : World) → Took world (handed_next word world)
took_next None world = took_none world world refl
took_next (Some word) world = by (is_busy (codec_at (address_of word) world.codecs)) where
  by : (busy : Bool) → Took world (if busy then world else handed word world)
  by true = took_none world world refl
  by false = took_word word world (codec_at (address_of word) world.codecs) refl

sends_same : (address : ℕ) (waiting : List Waiting) (world : World) → (sent_first address waiting world).commands ≡ world.commands
sends_same address [] world = refl
sends_same address (item ∷ rest) world = refl

chosen : (test : Bool) (one other world : World) → one.commands ≡ world.commands → other.commands ≡ world.commands → (if test then one else other).commands ≡ world.commands
chosen true one other world first second = first
chosen false one other world first second = second

frame_same : (world : World) → (frame_step world).commands ≡ world.commands
frame_same world = chosen (is_out_of_reset world.registers.global) (input_framed (output_framed (frame_of (output_of world)) (passed world))) world world refl refl

times_same : (frames : ℕ) (world : World) → (times frames frame_step world).commands ≡ world.commands
times_same zero world = refl
times_same (suc frames) world = times_same frames (frame_step world) ∙ frame_same world

step_took : (made : Step) (world : World) → Took world (after_step made world)
step_took step.Corb world = took_next (next_word world.registers world.memory) world
step_took (step.Answer codec) world = took_none world _
    (chosen (is_out_of_reset world.registers.global && nat_lt (length world.waiting) MOST_WAITING) (sent_first codec (waiting_of (codec_at codec world.codecs)) world) world world (sends_same codec (waiting_of (codec_at codec world.codecs)) world) refl)
step_took (step.Lose codec) world = took_none world _ (chosen (is_out_of_reset world.registers.global) (lost codec world) world world refl refl)
step_took step.Rirb world = took_none world _ refl
step_took (step.Fetch stream most) world = took_none world _
    (chosen (is_out_of_reset world.registers.global && stream == 1) (output_fetched most world) (if is_out_of_reset world.registers.global && stream == 0 then input_stored most world else world) world refl
    (chosen (is_out_of_reset world.registers.global && stream == 0) (input_stored most world) world world refl refl))
step_took (step.Link frames) world = took_none world _ (times_same frames world)
step_took (step.Plug codec nid) world = took_none world _ refl
step_took (step.Unplug codec nid) world = took_none world _ refl

event_took : (event : Event) (world : World) → Took world (happens world event)
event_took (Stepped made) world = step_took made world
event_took Begin world = took_none world world refl
event_took End world = took_none world world refl
event_took (Read at width value) world = took_none world world refl
event_took (Write at width value) world = took_none world _ (access_leaves world at value width).commands
event_took (DmaRead at bytes) world = took_none world world refl
event_took (DmaWrite at bytes) world = took_none world _ refl

-- ---- while it runs, or does not

pub took_along : (Holds : World → Type 0) (running : Bool) → ((world : World) → Holds world → is_running world.registers.output ≡ running) → (events : List Event) (world : World) → Along Holds events world
    → TookWhile running world (after events world)
took_along Holds running is [] world along = record { more = []; commands = sym (append-nil world.commands); each = All-nil (λ (one : TakenCommand). one.running ≡ running) }
took_along Holds running is (event ∷ events) world along =
    let here = event_took event world in
    let later = took_along Holds running is events (happens world event) along.1 in
    let each = subst (λ (runs : Bool). All (λ (one : TakenCommand). one.running ≡ runs) here.more) (is world along.0) here.running in record {
      more = here.more ++ later.more;
      commands = later.commands ∙ ap (λ (commands : List TakenCommand). commands ++ later.more) here.commands ∙ append_assoc world.commands here.more later.more;
      each = All-append (λ (one : TakenCommand). one.running ≡ running) here.more later.more each later.each;
    }

pub took_before : (events : List Event) (world : World) → Along HasNotBegun events world → TookWhile false world (after events world)
took_before = took_along HasNotBegun false (λ world has. has.stopped)

pub took_playing : (events : List Event) (world : World) → Along Runs events world → TookWhile true world (after events world)
took_playing = took_along Runs true (λ world runs. runs.running)

-- ---- after the stop

event_carried : (event : Event) (world : World) → is_running world.registers.output ≡ false → (happens world event).carried ≡ world.carried
event_carried (Stepped made) world still = (steps_leave_stopped (made ∷ []) world still).carried_stays
event_carried Begin world still = refl
event_carried End world still = refl
event_carried (Read at width value) world still = refl
event_carried (Write at width value) world still = (access_leaves world at value width).carried
event_carried (DmaRead at bytes) world still = refl
event_carried (DmaWrite at bytes) world still = refl

pub took_over : (events : List Event) (world : World) → Along IsStopped events world → TookLast world (after events world)
took_over [] world along = record { carried = refl; more = []; commands = sym (append-nil world.commands); each = All-nil (λ (one : TakenCommand). one.carried ≡ length world.carried) }
took_over (event ∷ events) world along =
    let here = event_took event world in
    let later = took_over events (happens world event) along.1 in
    let same = event_carried event world along.0.stopped in
    let each = subst (λ (carried : List CarriedFrame). All (λ (one : TakenCommand). one.carried ≡ length carried) later.more) same later.each in record {
      carried = later.carried ∙ same;
      more = here.more ++ later.more;
      commands = later.commands ∙ ap (λ (commands : List TakenCommand). commands ++ later.more) here.commands ∙ append_assoc world.commands here.more later.more;
      each = All-append (λ (one : TakenCommand). one.carried ≡ length world.carried) here.more later.more here.carried each;
    }
