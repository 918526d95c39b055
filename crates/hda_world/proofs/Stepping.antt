-- What every move of the device keeps, every list of steps keeps.
use Rattle.std.proofs.Common.{◌≡◌, ◌<◌, ℕ, zero, suc, ◌+◌, Bool, true, false, ◌&&◌, ◌==◌, nat_le, List, [], ◌∷◌, ◌++◌, length, take, Some, None, append-nil, refl, sym, ap, subst, ◌∙◌, nat_lt, if◌then◌else◌, rules, tests}
use Rattle.codec_graph.specs.declared.waiting.Waiting.{Waiting}
use Rattle.codec_graph.specs.CodecStates.{CodecState}
use Rattle.hda_registers.specs.Fields.{Fields, is_out_of_reset, is_running}
use Rattle.hda_registers.specs.declared.shapes.Raise.TheVariants as event
use Rattle.hda_registers.specs.Moves.{framed, raised}
use Rattle.world_rings.specs.declared.response.Response.{Response}
use Rattle.world_rings.specs.declared.response.TheConstants.{MOST_WAITING}
use Rattle.world_rings.specs.Entries.{next_command}
use Rattle.world_rings.specs.Engines.{can_fetch, can_respond, batch_of, batch}
use Rattle.world_streams.specs.Streams.{Stream, held, due, is_usable, broke}
use Rattle.world_streams.specs.Output.{has_room, byte_came, fetched_one, fetch_move, moves, Frame, Stopped, Broken, Gap, Blocks, Hole, frame_of}
use Rattle.world_streams.specs.Input.{Intake, Storage, store_move, store}
use Rattle.world_streams.proofs.Callers.{store-cases}
use Rattle.world_steps.specs.declared.Step.{Step}
use Rattle.world_steps.specs.declared.Step.TheVariants as step
use Rattle.world_rings.proofs.Callers.{batch_none}
use Rattle.hda_world.specs.declared.step.TheConstants.{FRAMES_TO_DISCOVERY}
use Rattle.hda_world.specs.Worlds.{World, CarriedFrame, codec_at, output_of, with_output}
use Rattle.hda_world.specs.Steps.{address_of, is_busy, handed_next, waiting_of, sent_first, responded, discovered, passed, output_framed, with_intake, input_framed, storage_of, with_storage, frame_step, fetch_step, times, answer_step, lose_step, rirb_step, after_step, after_steps}
use Rattle.hda_world.specs.Kept.{Kept, KeptByFrames, unmoved, CanStream, MustBreak, next_is_good, next_completes, input_broke}

pub after_steps-append : (first second : List Step) (world : World) → after_steps (first ++ second) world ≡ after_steps second (after_steps first world)
after_steps-append [] second world = refl
after_steps-append (step ∷ first) second world = after_steps-append first second (after_step step world)

-- a batch of no response changes nothing
pub responded_none : (world : World) → responded [] world ≡ world
responded_none world = ap (λ (written : List Response). record world { written = written }) (append-nil world.written)

pub batch_some : (fields : Fields) (waiting : List Response) → can_respond fields ≡ true → batch fields waiting ≡ take (batch_of fields) waiting
batch_some fields waiting can = ap (λ (can : Bool). if can then take (batch_of fields) waiting else []) can

-- a link frame at a stream that does not run, or that stops, carries nothing
stopped_same : (world : World) → output_framed Stopped world ≡ world
stopped_same world = ap (λ (carried : List CarriedFrame). record world { carried = carried }) (append-nil world.carried)

pub broken_same : (world : World) → output_framed Broken world ≡ with_output (broke (output_of world)) world
broken_same world =
    ap (λ (carried : List CarriedFrame). record (with_output (broke (output_of world)) world) { carried = carried }) (append-nil world.carried)

-- where nothing comes to an input stream, what came stays
nothing_came : (world : World) → record world { came = world.came ++ [] } ≡ world
nothing_came world = ap (λ (came : List Bool). record world { came = came }) (append-nil world.came)

-- a link frame keeps the controller out of reset
out-discovered : (codecs : List CodecState) (fields : Fields) → is_out_of_reset (discovered codecs fields).global ≡ is_out_of_reset fields.global
out-discovered [] fields = refl
out-discovered (codec ∷ codecs) fields = out-discovered codecs (raised fields (event.Codec codec.graph.address))

out-frame : (now : Bool) (codecs : List CodecState) (fields : Fields) → is_out_of_reset (if now then discovered codecs fields else fields).global ≡ is_out_of_reset fields.global
out-frame true codecs fields = out-discovered codecs fields
out-frame false codecs fields = refl

pub passed_out : (world : World) → is_out_of_reset world.registers.global ≡ true → is_out_of_reset (passed world).registers.global ≡ true
passed_out world out = out-frame (world.frames + 1 == FRAMES_TO_DISCOVERY) world.codecs (framed world.registers) ∙ out

can_after : (world : World) → CanStream world → CanStream (passed world)
can_after world can = record { out = passed_out world can.out; runs = can.runs; usable = can.usable }

must_after : (world : World) → MustBreak world → MustBreak (passed world)
must_after world must = record { out = passed_out world must.out; runs = must.runs; unusable = must.unusable }

-- what the tick and the discovery keep, and then what a frame does to the output stream, a whole frame keeps
pub frames_after : (Holds : World → Type 0) → ((world : World) → Holds world → is_out_of_reset world.registers.global ≡ true → Holds (passed world))
    → KeptByFrames Holds unmoved → KeptByFrames Holds passed
frames_after Holds passes frames = record {
  gaps = λ world holds can none. frames.gaps (passed world) (passes world holds can.out) (can_after world can) none;
  sends = λ world holds can some enough. frames.sends (passed world) (passes world holds can.out) (can_after world can) some enough;
  misses = λ world holds can short. frames.misses (passed world) (passes world holds can.out) (can_after world can) short;
  stops = λ world holds must. frames.stops (passed world) (passes world holds must.out) (must_after world must);
}

cases_of : {A : Type 0} (P : A → Type 0) (test : Bool) (one other : A) → (test ≡ true → P one) → (test ≡ false → P other) → P (if test then one else other)
cases_of P true one other then_one else_other = then_one refl
cases_of P false one other then_one else_other = else_other refl

module _ (Holds : World → Type 0) (kept : Kept Holds) where
  branch : (test : Bool) (new old : World) → (test ≡ true → Holds new) → Holds old → Holds (if test then new else old)
  branch true new old then_new else_old = then_new refl
  branch false new old then_new else_old = else_old

  branch_not : (test : Bool) (new old : World) → (test ≡ false → Holds new) → Holds old → Holds (if test then old else new)
  branch_not true new old else_new then_old = then_old
  branch_not false new old else_new then_old = else_new refl

  corb_by : (can : Bool) (world : World) → can_fetch world.registers ≡ can → Holds world
      → Holds (handed_next (if can then Some (next_command world.registers world.memory) else None) world)
  corb_by true world is holds =
      branch_not (is_busy (codec_at (address_of (next_command world.registers world.memory)) world.codecs)) _ world (λ free. kept.codecs.hands world holds is free) holds
  corb_by false world is holds = holds

  kept_sent : (items : List Waiting) (address : ℕ) (world : World) → waiting_of (codec_at address world.codecs) ≡ items → is_out_of_reset world.registers.global ≡ true → length world.waiting < MOST_WAITING → Holds world → Holds (sent_first address items world)
  kept_sent [] address world are out room holds = holds
  kept_sent (item ∷ rest) address world are out room holds = kept.codecs.sends world address item rest holds out room are

  kept_answer : (address : ℕ) (world : World) → Holds world → Holds (answer_step address world)
  kept_answer address world holds =
      branch (is_out_of_reset world.registers.global && nat_lt (length world.waiting) MOST_WAITING) _ world (λ can.
      kept_sent _ address world refl (search (rules, tests)) (search (rules, tests)) holds) holds

  kept_lose : (address : ℕ) (world : World) → Holds world → Holds (lose_step address world)
  kept_lose address world holds = branch (is_out_of_reset world.registers.global) _ world (λ out. kept.codecs.loses world address holds out) holds

  kept_batch : (responses : List Response) (world : World) → can_respond world.registers ≡ true → batch world.registers world.waiting ≡ responses → Holds world → Holds (responded responses world)
  kept_batch [] world can are holds = subst Holds (sym (responded_none world)) holds
  kept_batch (response ∷ rest) world can are holds = kept.responds world response rest holds can are

  rirb_by : (can : Bool) (world : World) → can_respond world.registers ≡ can → Holds world → Holds (rirb_step world)
  rirb_by true world is holds = kept_batch (batch world.registers world.waiting) world is refl holds
  rirb_by false world is holds =
      subst (λ (responses : List Response). Holds (responded responses world)) (sym (batch_none world.registers world.waiting is)) (subst Holds (sym (responded_none world)) holds)

  -- one move of a fetch
  kept_byte : (world : World) → CanStream world → has_room world.registers.shape.fifo world.output ≡ true → next_is_good world ≡ true → (ends : Bool) → next_completes world ≡ ends → Holds world
      → Holds (with_output (byte_came world.memory (output_of world)) world)
  kept_byte world can room good true is holds = kept.bytes.ends world holds can (search (rules, tests)) good is
  kept_byte world can room good false is holds = kept.bytes.comes world holds can (search (rules, tests)) good is

  kept_one : (world : World) → CanStream world → Holds world → Holds (with_output (fetched_one world.registers.shape.fifo world.memory (output_of world)) world)
  kept_one world can holds =
      cases_of (λ (stream : Stream). Holds (with_output stream world)) (has_room world.registers.shape.fifo world.output) _ (output_of world)
      (λ room. cases_of (λ (stream : Stream). Holds (with_output stream world)) (next_is_good world) _ _
      (λ good. kept_byte world can room good _ refl holds)
      (λ bad. kept.bytes.breaks world holds can (search (rules, tests)) bad)) (λ full. holds)

  kept_move : (world : World) → is_out_of_reset world.registers.global ≡ true → Holds world
      → Holds (with_output (fetch_move world.registers.shape.fifo world.memory (output_of world)) world)
  kept_move world out holds =
      cases_of (λ (stream : Stream). Holds (with_output stream world)) (is_running world.registers.output) _ (output_of world)
      (λ runs. cases_of (λ (stream : Stream). Holds (with_output stream world)) (is_usable world.registers.output) _ _
      (λ usable. kept_one world (record { out = out; runs = runs; usable = usable }) holds)
      (λ unusable. kept.bytes.refuses world holds (record { out = out; runs = runs; unusable = unusable }))) (λ still. holds)

  kept_moves : (n : ℕ) (world : World) → is_out_of_reset world.registers.global ≡ true → Holds world
      → Holds (with_output (moves n (fetch_move world.registers.shape.fifo world.memory) (output_of world)) world)
  kept_moves zero world out holds = holds
  kept_moves (suc n) world out holds =
      kept_moves n (with_output (fetch_move world.registers.shape.fifo world.memory (output_of world)) world) out (kept_move world out holds)

  -- one byte of the input stream, or what it does instead
  kept_store : (world : World) → is_out_of_reset world.registers.global ≡ true → Holds world → Holds (with_storage (store_move (storage_of world)) world)
  kept_store world out holds =
      store-cases (λ (storage : Storage). Holds (with_storage storage world)) (storage_of world) holds
      (λ runs unusable. kept.input.refuses world holds (record { out = out; runs = runs; unusable = unusable }))
      (λ runs usable some bad. kept.input.jams world holds (record { out = out; runs = runs; usable = usable }) some bad)
      (λ runs usable some good. kept.input.stores world holds (record { out = out; runs = runs; usable = usable }) some good)

  kept_stores : (n : ℕ) (world : World) → is_out_of_reset world.registers.global ≡ true → Holds world → Holds (with_storage (store n (storage_of world)) world)
  kept_stores zero world out holds = holds
  kept_stores (suc n) world out holds = kept_stores n (with_storage (store_move (storage_of world)) world) out (kept_store world out holds)

  kept_fetch : (stream most : ℕ) (world : World) → Holds world → Holds (fetch_step stream most world)
  kept_fetch stream most world holds =
      branch (is_out_of_reset world.registers.global && stream == 1) _ _ (λ can. kept_moves most world (search (rules, tests)) holds)
      (branch (is_out_of_reset world.registers.global && stream == 0) _ world (λ can. kept_stores most world (search (rules, tests)) holds) holds)

  -- a link frame, by what it finds
  kept_running : (world : World) → CanStream world → Holds world
      → Holds (output_framed (if due (output_of world) == 0 then Gap else (if nat_le (due (output_of world)) (held world.output) then Blocks else Hole)) (passed world))
  kept_running world can holds =
      cases_of (λ (found : Frame). Holds (output_framed found (passed world))) (due (output_of world) == 0) Gap _
      (λ none. kept.frames.gaps world holds can (search (rules, tests)))
      (λ some. cases_of (λ (found : Frame). Holds (output_framed found (passed world))) (nat_le (due (output_of world)) (held world.output)) Blocks Hole
      (λ enough. kept.frames.sends world holds can (search (rules, tests)) (search (rules, tests)))
      (λ short. kept.frames.misses world holds can (search (rules, tests))))

  kept_found : (world : World) → is_out_of_reset world.registers.global ≡ true → Holds world
      → Holds (output_framed (frame_of (output_of world)) (passed world))
  kept_found world out holds =
      cases_of (λ (found : Frame). Holds (output_framed found (passed world))) (is_running world.registers.output) _ Stopped
      (λ runs. cases_of (λ (found : Frame). Holds (output_framed found (passed world))) (is_usable world.registers.output) _ Broken
      (λ usable. kept_running world (record { out = out; runs = runs; usable = usable }) holds)
      (λ unusable. subst Holds (sym (broken_same (passed world))) (kept.frames.stops world holds (record { out = out; runs = runs; unusable = unusable }))))
      (λ still. subst Holds (sym (stopped_same (passed world))) (kept.passes world holds out still))

  -- and then the input stream, by what it finds
  kept_heard : (world : World) → is_out_of_reset world.registers.global ≡ true → Holds world → Holds (input_framed world)
  kept_heard world out holds =
      cases_of (λ (intake : Intake). Holds (with_intake intake world)) (is_running world.registers.input) _ _
      (λ runs. cases_of (λ (intake : Intake). Holds (with_intake intake world)) (is_usable world.registers.input) _ _
      (λ usable. kept.input.takes world holds (record { out = out; runs = runs; usable = usable }))
      (λ unusable. subst Holds (sym (nothing_came (input_broke world))) (kept.input.refuses world holds (record { out = out; runs = runs; unusable = unusable }))))
      (λ still. subst Holds (sym (nothing_came world)) holds)

  kept_frame : (world : World) → Holds world → Holds (frame_step world)
  kept_frame world holds =
      branch (is_out_of_reset world.registers.global) _ world
      (λ out. kept_heard (output_framed (frame_of (output_of world)) (passed world)) (passed_out world out) (kept_found world out holds)) holds

  kept_frames : (n : ℕ) (world : World) → Holds world → Holds (times n frame_step world)
  kept_frames zero world holds = holds
  kept_frames (suc n) world holds = kept_frames n (frame_step world) (kept_frame world holds)

  pub kept_step : (step : Step) (world : World) → Holds world → Holds (after_step step world)
  kept_step step.Corb world holds = corb_by _ world refl holds
  kept_step (step.Answer codec) world holds = kept_answer codec world holds
  kept_step (step.Lose codec) world holds = kept_lose codec world holds
  kept_step step.Rirb world holds = rirb_by _ world refl holds
  kept_step (step.Fetch stream most) world holds = kept_fetch stream most world holds
  kept_step (step.Link frames) world holds = kept_frames frames world holds
  kept_step (step.Plug codec nid) world holds = kept.codecs.plugs world codec nid true holds
  kept_step (step.Unplug codec nid) world holds = kept.codecs.plugs world codec nid false holds

  pub kept_steps : (steps : List Step) (world : World) → Holds world → Holds (after_steps steps world)
  kept_steps [] world holds = holds
  kept_steps (step ∷ steps) world holds = kept_steps steps (after_step step world) (kept_step step world holds)
