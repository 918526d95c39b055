-- A fetch that fills the FIFO, and link frames that the FIFO serves.
use Rattle.std.proofs.Common.{◌≡◌, ◌≤◌, ℕ, zero, suc, ◌+◌, ◌*◌, ◌==◌, ◌&&◌, min, nat_lt, nat_le, Bool, true, false, List, [], ◌∷◌, ◌++◌, length, take, refl, sym, ap, subst, ◌∙◌, arith, rules, append_assoc, if◌then◌else◌}
use Rattle.std.specs.Prelude.{All}
use Rattle.std.proofs.lemmas.List.{length-take, length-drop, length-append}
use Rattle.std.proofs.lemmas.List.Elements.{All-nil, All-cons}
use Rattle.world_steps.specs.declared.Step.TheVariants as step
use Rattle.hda_registers.specs.Fields.{Descriptor, is_out_of_reset, is_running, list_address}
use Rattle.stream_format.specs.Layouts.{layout_of}
use Rattle.world_streams.specs.Lists.{is_good, byte_of}
use Rattle.world_streams.specs.Streams.{Stream, due, due_by, held, held_bytes, is_usable, broke}
use Rattle.world_streams.specs.Output.{Frame, Stopped, Broken, Gap, Blocks, Hole, Sent, frame_of, has_room, next_of, byte_came, fetch_move, moves}
use Rattle.world_streams.proofs.Callers.{fetch-stopped}
use Rattle.hda_world.specs.Worlds.{World, CarriedFrame, output_of}
use Rattle.hda_world.specs.Steps.{after_steps, frame_step, fetch_step, frame_carried, output_framed, input_framed, output_fetched, input_stored, passed, times}
use Rattle.hda_world.specs.Leaving.{StepsLeave}
use Rattle.hda_world.proofs.Callers.{steps_leave, passed_out}
use Rattle.laws_serving.specs.Turns.{CarriedBytes}

-- ---- a fetch

-- it left what was sent, and the FIFO has as many bytes more as were asked for, or is full
record Fetched (fifo count : ℕ) (old new : Stream) : Type 0 where
  left : new.state.left ≡ old.state.left
  more : min (old.state.left + fifo) (length old.state.entered + count) ≤ length new.state.entered

module _ (fifo : ℕ) (memory : List ℕ) where
  -- a stream that runs after a fetch ran before
  ran : (count : ℕ) (stream : Stream) → is_running (moves count (fetch_move fifo memory) stream).descriptor ≡ true → is_running stream.descriptor ≡ true
  ran count stream runs = by (is_running stream.descriptor) refl
    where
      by : (b : Bool) → is_running stream.descriptor ≡ b → is_running stream.descriptor ≡ true
      by true is = is
      by false is = ap (λ (now : Stream). is_running now.descriptor) (sym (fetch-stopped fifo memory count stream is)) ∙ runs

  one_byte : (stream : Stream) (runs usable room good : Bool) → is_running stream.descriptor ≡ runs → has_room fifo stream.state ≡ room
      → is_running (if runs then (if usable then (if room then (if good then byte_came memory stream else broke stream) else stream) else broke stream) else stream).descriptor ≡ true
      → Fetched fifo 1 stream (if runs then (if usable then (if room then (if good then byte_came memory stream else broke stream) else stream) else broke stream) else stream)
  one_byte stream false usable room good runs_is room_is still = absurd (let z : true ≡ false = sym still ∙ runs_is in cc)
  one_byte stream true false room good runs_is room_is still = absurd cc
  one_byte stream true true false good runs_is room_is still = record { left = refl; more = full (stream.state.left + fifo) (length stream.state.entered) room_is }
    where
      full : (room n : ℕ) → nat_lt n room ≡ false → min room (n + 1) ≤ n
      full room n none = let most : room ≤ n = search (rules, none) in grind (arith, most)
  one_byte stream true true true false runs_is room_is still = absurd cc
  one_byte stream true true true true runs_is room_is still =
      let long = length-append stream.state.entered (byte_of memory (next_of memory (list_address stream.descriptor) stream.state) stream.state.list.fetched ∷ []) in
      record { left = refl; more = subst (λ (n : ℕ). min (stream.state.left + fifo) (length stream.state.entered + 1) ≤ n) (sym long) (least (stream.state.left + fifo) (length stream.state.entered + 1)) }
    where
      least : (a b : ℕ) → min a b ≤ b
      least a b = grind arith

  one_move : (stream : Stream) → is_running (fetch_move fifo memory stream).descriptor ≡ true → Fetched fifo 1 stream (fetch_move fifo memory stream)
  one_move stream still =
      one_byte stream (is_running stream.descriptor) (is_usable stream.descriptor) (has_room fifo stream.state) (is_good memory (next_of memory (list_address stream.descriptor) stream.state)) refl refl still

  fills : (count : ℕ) (stream : Stream) → is_running (moves count (fetch_move fifo memory) stream).descriptor ≡ true → Fetched fifo count stream (moves count (fetch_move fifo memory) stream)
  fills zero stream still = record { left = refl; more = none (stream.state.left + fifo) (length stream.state.entered) }
    where
      none : (a b : ℕ) → min a (b + 0) ≤ b
      none a b = grind arith
  fills (suc count) stream still =
      let there = fetch_move fifo memory stream in
      let first = one_move stream (ran count there still) in
      let rest = fills count there still in
      let full : min (stream.state.left + fifo) (length there.state.entered + count) ≤ length (moves count (fetch_move fifo memory) there).state.entered =
      subst (λ (left : ℕ). min (left + fifo) (length there.state.entered + count) ≤ length (moves count (fetch_move fifo memory) there).state.entered) first.left rest.more in
      record {
        left = rest.left ∙ first.left;
        more = numbers (stream.state.left + fifo) (length stream.state.entered) (length there.state.entered) (length (moves count (fetch_move fifo memory) there).state.entered) count first.more full;
      }
    where
      numbers : (room a b c count : ℕ) → min room (a + 1) ≤ b → min room (b + count) ≤ c → min room (a + suc count) ≤ c
      numbers room a b c count first rest = grind (arith, first, rest)

-- over a world: the FIFO is full
pub record IsFull (fifo : ℕ) (old new : World) : Type 0 where
  pub left : new.output.left ≡ old.output.left
  pub full : new.output.left + fifo ≤ length new.output.entered
  pub carried : new.carried ≡ old.carried

fetch_fills : (most : ℕ) (world : World) → is_out_of_reset world.registers.global ≡ true → world.output.left ≤ length world.output.entered → world.registers.shape.fifo ≤ most
    → is_running (fetch_step 1 most world).registers.output ≡ true → IsFull world.registers.shape.fifo world (fetch_step 1 most world)
fetch_fills most world out behind enough runs =
    let is : fetch_step 1 most world ≡ output_fetched most world = ap (λ (out : Bool). if out && 1 == 1 then output_fetched most world else (if out && 1 == 0 then input_stored most world else world)) out in
    let fetched = fills world.registers.shape.fifo world.memory most (output_of world) (ap (λ (now : World). is_running now.registers.output) (sym is) ∙ runs) in
    let left = fetched.left in
    subst (IsFull world.registers.shape.fifo world) (sym is) (record {
      left = left;
      full = numbers world.output.left (output_fetched most world).output.left world.registers.shape.fifo (length world.output.entered) (length (output_fetched most world).output.entered) most left behind enough fetched.more;
      carried = refl;
    })
  where
    numbers : (left now fifo was entered most : ℕ) → now ≡ left → left ≤ was → fifo ≤ most → min (left + fifo) (was + most) ≤ entered → now + fifo ≤ entered
    numbers left now fifo was entered most same behind enough more = grind (arith, same, behind, enough, more)

-- ---- link frames

-- link frames passed that carried a block each
pub record Serves (block count : ℕ) (old new : World) : Type 0 where
  pub left : new.output.left ≡ old.output.left + count * block
  pub more : List CarriedFrame
  pub carried : new.carried ≡ old.carried ++ more
  pub count_is : length more ≡ count
  pub are : All (CarriedBytes block) more

record ServesOne (block word : ℕ) (old new : World) : Type 0 where
  left : new.output.left ≡ old.output.left + block
  frame : CarriedFrame
  carried : new.carried ≡ old.carried ++ frame ∷ []
  is : CarriedBytes block frame
  entered : new.output.entered ≡ old.output.entered
  word_is : new.registers.output.format ≡ word
  out : is_out_of_reset new.registers.global ≡ true

module _ (block word : ℕ) (some : 1 ≤ block) (one_block : (frame : ℕ) → due_by (layout_of word) frame ≡ block) where
  due_is : (world : World) → world.registers.output.format ≡ word → due (output_of world) ≡ block
  due_is world word_is = ap (λ (word : ℕ). due_by (layout_of word) world.output.frame) word_is ∙ one_block world.output.frame

  -- what it finds at a stream that runs still
  finds_blocks : (world : World) (runs usable : Bool) → is_running world.registers.output ≡ runs → due (output_of world) ≡ block → world.output.left + block ≤ length world.output.entered
      → is_running (output_framed (if runs then (if usable then (if due (output_of world) == 0 then Gap else (if nat_le (due (output_of world)) (held world.output) then Blocks else Hole)) else Broken) else Stopped) (passed world)).registers.output ≡ true
      → (if runs then (if usable then (if due (output_of world) == 0 then Gap else (if nat_le (due (output_of world)) (held world.output) then Blocks else Hole)) else Broken) else Stopped) ≡ Blocks
  finds_blocks world false usable runs_is due enough still = absurd (let z : true ≡ false = sym still ∙ runs_is in cc)
  finds_blocks world true false runs_is due enough still = absurd cc
  finds_blocks world true true runs_is due_of enough still =
      let due_some : (due (output_of world) == 0) ≡ false = not_none (due (output_of world)) (omega (arith, due_of, some)) in
      let holds : nat_le (due (output_of world)) (held world.output) ≡ true = through (due (output_of world)) (held world.output) (omega (arith, due_of, enough)) in
      ap (λ (none : Bool). if none then Gap else (if nat_le (due (output_of world)) (held world.output) then Blocks else Hole)) due_some
      ∙ ap (λ (holds : Bool). if holds then Blocks else Hole) holds
    where
      not_none : (n : ℕ) → 1 ≤ n → (n == 0) ≡ false
      not_none n some = search (rules, some)

      through : (a b : ℕ) → a ≤ b → nat_le a b ≡ true
      through a b few = search (rules, few)

  frame_serves : (world : World) → is_out_of_reset world.registers.global ≡ true → world.registers.output.format ≡ word → world.output.left + block ≤ length world.output.entered → is_running (frame_step world).registers.output ≡ true
      → ServesOne block word world (frame_step world)
  frame_serves world out word_is enough runs =
      let due_of = due_is world word_is in
      let steps : frame_step world ≡ input_framed (output_framed (frame_of (output_of world)) (passed world)) = ap (λ (out : Bool). if out then input_framed (output_framed (frame_of (output_of world)) (passed world)) else world) out in
      let found : frame_of (output_of world) ≡ Blocks =
      finds_blocks world (is_running world.registers.output) (is_usable world.registers.output) refl due_of enough (ap (λ (now : World). is_running now.registers.output) (sym steps) ∙ runs) in
      let is : frame_step world ≡ input_framed (output_framed Blocks (passed world)) = steps ∙ ap (λ (found : Frame). input_framed (output_framed found (passed world))) found in
      let sent = take (due (output_of world)) (held_bytes world.output) in
      let there = length-drop world.output.left world.output.entered in
      subst (ServesOne block word world) (sym is) (record {
        left = ap (λ (n : ℕ). world.output.left + n) due_of;
        frame = frame_carried (passed world) (Sent sent);
        carried = refl;
        is = length-take (due (output_of world)) (held_bytes world.output) ∙ least (due (output_of world)) (length (held_bytes world.output)) block due_of (omega (arith, there, enough));
        entered = refl;
        word_is = word_is;
        out = passed_out world out;
      })
    where
      least : (due held block : ℕ) → due ≡ block → block ≤ held → min due held ≡ block
      least due held block same enough = grind (arith, same, enough)

  -- a stream that runs after link frames ran before
  ran_before : (count : ℕ) (world : World) → is_running (times count frame_step world).registers.output ≡ true → is_running world.registers.output ≡ true
  ran_before count world runs = by (is_running world.registers.output) refl
    where
      by : (b : Bool) → is_running world.registers.output ≡ b → is_running world.registers.output ≡ true
      by true is = is
      by false is =
          let leaves : StepsLeave world (times count frame_step world) = steps_leave (step.Link count ∷ []) world in
          ap is_running (sym (leaves.registers.output.still is)) ∙ runs

  frames_serve : (count : ℕ) (world : World) → is_out_of_reset world.registers.global ≡ true → world.registers.output.format ≡ word → world.output.left + count * block ≤ length world.output.entered
      → is_running (times count frame_step world).registers.output ≡ true → Serves block count world (times count frame_step world)
  frames_serve zero world out word_is enough runs = record { left = omega arith; more = []; carried = sym (append_nil world.carried); count_is = refl; are = All-nil (CarriedBytes block) }
    where
      append_nil : (frames : List CarriedFrame) → frames ++ [] ≡ frames
      append_nil [] = refl
      append_nil (frame ∷ frames) = ap (λ (rest : List CarriedFrame). frame ∷ rest) (append_nil frames)
  frames_serve (suc count) world out word_is enough runs =
      let wide : suc count * block ≡ block + count * block = omega arith in
      let there = frame_step world in
      let first = frame_serves world out word_is (omega (arith, enough, wide)) (ran_before count there runs) in
      let left = first.left in
      let entered = ap length first.entered in
      let rest = frames_serve count there first.out first.word_is (omega (arith, left, entered, enough, wide)) runs in
      let rest_left = rest.left in
      record {
        left = omega (arith, left, rest_left, wide);
        more = first.frame ∷ rest.more;
        carried = carried_on world.carried there.carried (times count frame_step there).carried first.frame rest.more first.carried rest.carried;
        count_is = let counted : length rest.more ≡ count = rest.count_is in omega (arith, counted);
        are = All-cons (CarriedBytes block) first.frame rest.more first.is rest.are;
      }
    where
      carried_on : (old middle new : List CarriedFrame) (frame : CarriedFrame) (more : List CarriedFrame) → middle ≡ old ++ frame ∷ [] → new ≡ middle ++ more → new ≡ old ++ frame ∷ more
      carried_on old middle new frame more first rest = rest ∙ ap (λ (carried : List CarriedFrame). carried ++ more) first ∙ append_assoc old (frame ∷ []) more

  -- ---- both

  pub turn_serves : (fifo most count : ℕ) (world : World) → is_out_of_reset world.registers.global ≡ true → world.registers.output.format ≡ word → world.registers.shape.fifo ≡ fifo → world.output.left ≤ length world.output.entered → fifo ≤ most
      → count * block ≤ fifo → is_running (after_steps (step.Fetch 1 most ∷ step.Link count ∷ []) world).registers.output ≡ true → Serves block count world (after_steps (step.Fetch 1 most ∷ step.Link count ∷ []) world)
  turn_serves fifo most count world out word_is fifo_is behind fills_it serves runs =
      let there = fetch_step 1 most world in
      let leaves : StepsLeave world there = steps_leave (step.Fetch 1 most ∷ []) world in
      let filled = fetch_fills most world out behind (omega (arith, fifo_is, fills_it)) (ran_before count there runs) in
      let full = filled.full in
      let left = filled.left in
      let out_there : is_out_of_reset there.registers.global ≡ true = ap is_out_of_reset leaves.registers.global ∙ out in
      let word_there : there.registers.output.format ≡ word = ap (λ (descriptor : Descriptor). descriptor.format) leaves.registers.output.only ∙ word_is in
      let done = frames_serve count there out_there word_there (omega (arith, full, fifo_is, serves)) runs in
      let rest = done.left in
      record {
        left = omega (arith, rest, left);
        more = done.more;
        carried = done.carried ∙ ap (λ (carried : List CarriedFrame). carried ++ done.more) filled.carried;
        count_is = done.count_is;
        are = done.are;
      }
