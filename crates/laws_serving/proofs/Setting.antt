-- The first run sets the output stream going: what its descriptor holds then.
use Rattle.std.proofs.Common.{◌≡◌, ◌≢◌, ◌<◌, inl, ◌+◌, ◌-◌, ◌*◌, ◌/◌, ◌%◌, ◌^◌, ◌==◌, ℕ, true, false, List, [], ◌∷◌, ◌++◌, length, refl, sym, ap, subst, ◌∙◌, arith, append_assoc}
use Rattle.std.specs.Prelude.{All, min, map, drop}
use Rattle.std.specs.List.{range_with_len}
use Rattle.std.proofs.lemmas.List.Concat.{flat_map-append}
use Rattle.std.proofs.lemmas.List.Elements.{All-nil, All-cons, All-head, All-tail, All-append}
use Rattle.hda_registers.specs.declared.shapes.Width.{Width}
use Rattle.hda_registers.specs.declared.shapes.Width.TheVariants.{One, Two, Four}
use Rattle.hda_registers.specs.declared.places.TheConstants.{INTCTL, WALCLK}
use Rattle.hda_registers.specs.Fields.{Fields, Descriptor, is_out_of_reset, is_running}
use Rattle.hda_registers.specs.Access.{written, placed, stream_written}
use Rattle.hda_registers.proofs.Callers.{write-output_length}
use Rattle.stream_format.specs.Words.{format_word}
use Rattle.world_steps.specs.declared.Step.{Step}
use Rattle.hda_world.specs.Worlds.{World}
use Rattle.hda_world.specs.Steps.{after_step}
use Rattle.hda_world.specs.Events.{Event, Stepped, Begin, End, Read, Write, DmaRead, DmaWrite, IsHonest, happens}
use Rattle.hda_world.specs.Leaving.{StepsLeave}
use Rattle.hda_world.proofs.Callers.{steps_leave, beside_streams}
use Rattle.period_writer.specs.declared.geometry.Geometry.{Geometry}
use Rattle.period_writer.specs.declared.registers.TheConstants.{CONTROL, RING_LENGTH, LAST_INDEX, FORMAT, LIST_ADDRESS}
use Rattle.period_writer.specs.Rings.{period_bytes, ring_bytes}
use Rattle.period_writer.specs.Places.{touched, piece_write, line_writes}
use Rattle.period_writer.specs.Lines.{sound_and_silence}
use Rattle.period_writer.specs.Playing.{writes_by}
use Rattle.period_writer.specs.Runs.{measures, run_start, run_sound, run_reach}
use Rattle.period_writer.specs.Starting.{entry_write, entry_writes, run_accesses}
use Rattle.driver_progress.specs.Tasks.{Task}
use Rattle.driver_progress.specs.States.{State}
use Rattle.driver_progress.specs.Seen.{Seen}
use Rattle.driver_progress.specs.Requests.{Request, Gets, Puts, Fetches, Stores, requests_in, requests_of}
use Rattle.driver_progress.specs.Expected.{facts_seen, appends}
use Rattle.rig.specs.Follows.{AreAccesses}
use Rattle.laws_stream.specs.Lives.{sets_going}
use Rattle.laws_serving.proofs.Rolling.{IsBesideSound}
use Rattle.laws_serving.specs.ServingSchedules.{IsOfStreams}
use Rattle.laws_serving.proofs.Callers.{IsAccess, reads_first, writes_first, in_two, none_asked, CalmRow, kept_row, at_first, row_split, write_is, step_out, event_time, going}

-- ---- writes of memory

abbrev IsStored : Request → Type 0
IsStored (Gets at width) = ⊥
IsStored (Puts at width value) = ⊥
IsStored (Fetches at count) = ⊥
IsStored (Stores at bytes) = Unit {0}

abbrev pub IsStore : Event → Type 0
IsStore (Stepped step) = ⊥
IsStore Begin = ⊥
IsStore End = ⊥
IsStore (Read at width value) = ⊥
IsStore (Write at width value) = ⊥
IsStore (DmaRead at bytes) = ⊥
IsStore (DmaWrite at bytes) = Unit {0}

stores_alone : (accesses : List Event) → AreAccesses accesses → All IsStored (requests_of accesses) → All IsStore accesses
stores_alone [] are stored = All-nil IsStore
stores_alone (Stepped step ∷ accesses) are stored = absurd (let is = All-head IsAccess (Stepped step) accesses are in cc)
stores_alone (Begin ∷ accesses) are stored = absurd (let is = All-head IsAccess Begin accesses are in cc)
stores_alone (End ∷ accesses) are stored = absurd (let is = All-head IsAccess End accesses are in cc)
stores_alone (Read at width value ∷ accesses) are stored = absurd (All-head IsStored (Gets at width) (requests_of accesses) stored)
stores_alone (Write at width value ∷ accesses) are stored = absurd (All-head IsStored (Puts at width value) (requests_of accesses) stored)
stores_alone (DmaRead at bytes ∷ accesses) are stored = absurd (All-head IsStored (Fetches at (length bytes)) (requests_of accesses) stored)
stores_alone (DmaWrite at bytes ∷ accesses) are stored =
    All-cons IsStore (DmaWrite at bytes) accesses tt (stores_alone accesses (All-tail IsAccess (DmaWrite at bytes) accesses are) (All-tail IsStored (Stores at bytes) (requests_of accesses) stored))

-- ---- what is written

-- the registers that are set before RUN rises
abbrev pub sets : Geometry → (list : ℕ) → List Event
sets geometry list =
    Write RING_LENGTH Four (ring_bytes geometry.periods geometry.period) ∷ Write LAST_INDEX Two (geometry.periods - 1)
    ∷ Write FORMAT Two (format_word geometry.format) ∷ Write LIST_ADDRESS Four list ∷ Write CONTROL Four 0x0010001C ∷ Write INTCTL Four 0xC0000002 ∷ []

-- what comes before RUN rises in a first run, behind its first read of the clock
abbrev pub goes_first : (in_reset ready : ℕ) → List Event → Geometry → (list : ℕ) → List Event
goes_first in_reset ready stores geometry list =
    Write CONTROL One 1 ∷ Read CONTROL One in_reset ∷ Write CONTROL One 0 ∷ Read CONTROL One ready ∷ (stores ++ sets geometry list)

pub record SetsGoing (geometry : Geometry) (list : ℕ) (middle : List Event) : Type 0 where
  pub in_reset : ℕ
  pub ready : ℕ
  pub stores : List Event
  pub are : All IsStore stores
  pub is : middle ≡ goes_first in_reset ready stores geometry list ++ sets_going ∷ []

sets_as : (geometry : Geometry) (list : ℕ) (accesses : List Event) → AreAccesses accesses → requests_of accesses ≡ requests_of (run_accesses list geometry) → accesses ≡ sets geometry list ++ sets_going ∷ []
sets_as geometry list accesses are asks =
    let one = writes_first accesses RING_LENGTH Four (ring_bytes geometry.periods geometry.period) _ are asks in
    let two = writes_first one.later LAST_INDEX Two (geometry.periods - 1) _ one.are one.rest_is in
    let three = writes_first two.later FORMAT Two (format_word geometry.format) _ two.are two.rest_is in
    let four = writes_first three.later LIST_ADDRESS Four list _ three.are three.rest_is in
    let five = writes_first four.later CONTROL Four 0x0010001C _ four.are four.rest_is in
    let six = writes_first five.later INTCTL Four 0xC0000002 _ five.are five.rest_is in
    let seven = writes_first six.later CONTROL One 0x1E _ six.are six.rest_is in
    let none = none_asked seven.later seven.are seven.rest_is in
    let length_write = Write RING_LENGTH Four (ring_bytes geometry.periods geometry.period) in
    let last_write = Write LAST_INDEX Two (geometry.periods - 1) in
    let format_write = Write FORMAT Two (format_word geometry.format) in
    let list_write = Write LIST_ADDRESS Four list in
    let tag_write = Write CONTROL Four 0x0010001C in
    let interrupts = Write INTCTL Four 0xC0000002 in
    one.is
    ∙ ap (λ (rest : List Event). length_write ∷ rest) (two.is
    ∙ ap (λ (rest : List Event). last_write ∷ rest) (three.is
    ∙ ap (λ (rest : List Event). format_write ∷ rest) (four.is
    ∙ ap (λ (rest : List Event). list_write ∷ rest) (five.is
    ∙ ap (λ (rest : List Event). tag_write ∷ rest) (six.is
    ∙ ap (λ (rest : List Event). interrupts ∷ rest) (seven.is ∙ ap (λ (rest : List Event). Write CONTROL One 0x1E ∷ rest) none))))))

-- the writes of memory, by what is asked
entries_stored : (task : Task) → All IsStored (requests_of (entry_writes task.blocks.list task.blocks.periods (period_bytes task.geometry.period)))
entries_stored task = by (range_with_len 0 (length task.blocks.periods))
  where
    by : (indices : List ℕ) → All IsStored (requests_of (map (entry_write task.blocks.list task.blocks.periods (period_bytes task.geometry.period)) indices))
    by [] = All-nil IsStored
    by (index ∷ indices) = All-cons IsStored _ _ tt (by indices)

line_stored : (bytes : ℕ) (periods : List ℕ) (from to : ℕ) (written : List ℕ) → All IsStored (requests_of (line_writes bytes periods from to written))
line_stored bytes periods from to written = by (range_with_len (from / bytes) (touched bytes from to))
  where
    by : (indices : List ℕ) → All IsStored (requests_of (map (piece_write bytes periods from to written) indices))
    by [] = All-nil IsStored
    by (index ∷ indices) = All-cons IsStored _ _ tt (by indices)

both_stored : (front back : List Event) → All IsStored (requests_of front) → All IsStored (requests_of back) → All IsStored (requests_of (front ++ back))
both_stored front back first second = subst (All IsStored) (sym (flat_map-append requests_in front back)) (All-append IsStored (requests_of front) (requests_of back) first second)

writes_stored : (bytes : ℕ) (periods : List ℕ) (start sound reach reach' : ℕ) (pcm : List ℕ) → All IsStored (requests_of (writes_by bytes periods start sound reach reach' pcm))
writes_stored bytes periods start sound reach reach' pcm =
    let to = min reach (start + sound) in
    let over = to - start in
    both_stored (line_writes bytes periods start to (sound_and_silence over over pcm)) (line_writes bytes periods reach reach' (sound_and_silence (sound - over) (reach' - reach) (drop over pcm)))
    (line_stored bytes periods start to (sound_and_silence over over pcm)) (line_stored bytes periods reach reach' (sound_and_silence (sound - over) (reach' - reach) (drop over pcm)))

pub appends_stored : (task : Task) (state : State) (budget : ℕ) (seen : Seen) → All IsStored (appends task state budget seen)
appends_stored task state budget seen =
    let m = measures task.geometry in
    let facts = facts_seen task state budget seen in
    writes_stored (period_bytes task.geometry.period) task.blocks.periods (run_start m state.tally.course facts) (run_sound m state.tally.course facts) state.tally.course.reach (run_reach m state.tally.course facts)
    (drop state.tally.course.used task.pcm)

pub appends_store : (task : Task) (state : State) (budget : ℕ) (seen : Seen) (accesses : List Event) → AreAccesses accesses → requests_of accesses ≡ appends task state budget seen → All IsStore accesses
appends_store task state budget seen accesses are asks = stores_alone accesses are (subst (All IsStored) (sym asks) (appends_stored task state budget seen))

pub goes_as : (task : Task) (state : State) (budget : ℕ) (seen : Seen) (middle : List Event) → AreAccesses middle → requests_of middle ≡ going task state budget seen → SetsGoing task.geometry task.blocks.list middle
goes_as task state budget seen middle are asks =
    let entries = requests_of (entry_writes task.blocks.list task.blocks.periods (period_bytes task.geometry.period)) in
    let sound = appends task state budget seen in
    let set = requests_of (run_accesses task.blocks.list task.geometry) in
    let one = writes_first middle CONTROL One 1 (Gets CONTROL One ∷ Puts CONTROL One 0 ∷ Gets CONTROL One ∷ (entries ++ (sound ++ set))) are asks in
    let two = reads_first one.later CONTROL One (Puts CONTROL One 0 ∷ Gets CONTROL One ∷ (entries ++ (sound ++ set))) one.are one.rest_is in
    let three = writes_first two.later CONTROL One 0 (Gets CONTROL One ∷ (entries ++ (sound ++ set))) two.are two.rest_is in
    let four = reads_first three.later CONTROL One (entries ++ (sound ++ set)) three.are three.rest_is in
    let first = in_two entries (sound ++ set) four.later four.are four.rest_is in
    let second = in_two sound set first.back first.back_are first.back_asks in
    let last = sets_as task.geometry task.blocks.list second.back second.back_are second.back_asks in
    let stores = first.front ++ second.front in
    record {
      in_reset = two.value;
      ready = four.value;
      stores = stores;
      are = All-append IsStore first.front second.front (stores_alone first.front first.front_are (subst (All IsStored) (sym first.front_asks) (entries_stored task)))
          (appends_store task state budget seen second.front second.front_are second.front_asks);
      is = one.is ∙ ap (λ (rest : List Event). Write CONTROL One 1 ∷ rest) (two.is ∙ ap (λ (rest : List Event). Read CONTROL One two.value ∷ rest) (three.is ∙ ap (λ (rest : List Event). Write CONTROL One 0 ∷ rest)
          (four.is ∙ ap (λ (rest : List Event). Read CONTROL One four.value ∷ rest)
          (first.is ∙ ap (λ (rest : List Event). first.front ++ rest) (second.is ∙ ap (λ (rest : List Event). second.front ++ rest) last)
          ∙ sym (append_assoc first.front second.front (sets task.geometry task.blocks.list ++ sets_going ∷ []))
          ∙ sym (append_assoc stores (sets task.geometry task.blocks.list) (sets_going ∷ []))))));
    }

-- ---- the descriptor while it is set

-- the stream does not run, and its registers hold this length and this format
pub record RestsWith (size format : ℕ) (world : World) : Type 0 where
  pub out : is_out_of_reset world.registers.global ≡ true
  pub still : world.registers.output.run ≡ 0
  pub length_is : world.registers.output.buffer_length ≡ size
  pub format_is : world.registers.output.format ≡ format

not_running : (descriptor : Descriptor) → descriptor.run ≡ 0 → is_running descriptor ≡ false
not_running descriptor still = ap (λ (run : ℕ). run == 1) still

rests_step : (size format : ℕ) (one : Step) (world : World) → IsOfStreams one → RestsWith size format world → RestsWith size format (after_step one world)
rests_step size format one world is rests =
    let leaves : StepsLeave world (after_step one world) = steps_leave (one ∷ []) world in
    let same = leaves.registers.output.still (not_running world.registers.output rests.still) in record {
      out = step_out one world is rests.out;
      still = ap (λ (descriptor : Descriptor). descriptor.run) same ∙ rests.still;
      length_is = ap (λ (descriptor : Descriptor). descriptor.buffer_length) same ∙ rests.length_is;
      format_is = ap (λ (descriptor : Descriptor). descriptor.format) same ∙ rests.format_is;
    }

-- what a write leaves of the descriptor
pub record Holds (size format : ℕ) (f : Fields) : Type 0 where
  pub out : is_out_of_reset f.global ≡ true
  pub still : f.output.run ≡ 0
  pub length_is : f.output.buffer_length ≡ size
  pub format_is : f.output.format ≡ format

rests_write : (size format size' format' at value : ℕ) (width : Width) (world : World) → at / 4 ≢ 2 → ((f : Fields) → Holds size format f → Holds size' format' (written f at width value)) → RestsWith size format world
    → RestsWith size' format' (happens world (Write at width value))
rests_write size format size' format' at value width world apart writes rests =
    let now = writes world.registers (record { out = rests.out; still = rests.still; length_is = rests.length_is; format_is = rests.format_is }) in
    subst (RestsWith size' format') (sym (write_is world at value width apart)) (record { out = now.out; still = now.still; length_is = now.length_is; format_is = now.format_is })

after_reset : (f : Fields) → is_out_of_reset f.global ≡ true → Holds 0 0 (written f 0xA0 One 1)
unfolding written placed stream_written
after_reset f out = rw out (record { out = out; still = refl; length_is = refl; format_is = refl })

after_ready : (size format : ℕ) (f : Fields) → Holds size format f → Holds size format (written f 0xA0 One 0)
unfolding written placed stream_written
after_ready size format f holds = rw holds.out (record { out = holds.out; still = refl; length_is = holds.length_is; format_is = holds.format_is })

after_length : (size format value : ℕ) (f : Fields) → Holds size format f → Holds (value % 2 ^ 32) format (written f 0xA8 Four value)
after_length size format value f holds =
    subst (Holds (value % 2 ^ 32) format) (sym (write-output_length f value holds.out holds.still)) (record { out = holds.out; still = holds.still; length_is = refl; format_is = holds.format_is })

after_last : (size format value : ℕ) (f : Fields) → Holds size format f → Holds size format (written f 0xAC Two value)
unfolding written placed stream_written
after_last size format value f holds = rw (holds.out, holds.still) (record { out = holds.out; still = refl; length_is = holds.length_is; format_is = holds.format_is })

after_format : (size format value : ℕ) (f : Fields) → Holds size format f → Holds size (value % 2 ^ 16) (written f 0xB2 Two value)
unfolding written placed stream_written
after_format size format value f holds =
    let low : value % 65536 * 65536 / 65536 % 65536 ≡ value % 2 ^ 16 = omega arith in
    rw (holds.out, holds.still) (record { out = holds.out; still = refl; length_is = holds.length_is; format_is = low })

after_list : (size format value : ℕ) (f : Fields) → Holds size format f → Holds size format (written f 0xB8 Four value)
unfolding written placed stream_written
after_list size format value f holds = rw (holds.out, holds.still) (record { out = holds.out; still = refl; length_is = holds.length_is; format_is = holds.format_is })

after_tag : (size format : ℕ) (f : Fields) → Holds size format f → Holds size format (written f 0xA0 Four 0x0010001C)
unfolding written placed stream_written
after_tag size format f holds = rw holds.out (record { out = holds.out; still = refl; length_is = holds.length_is; format_is = holds.format_is })

abbrev IsOutNow : World → Type 0
IsOutNow world = is_out_of_reset world.registers.global ≡ true

out_step_now : (one : Step) (world : World) → IsOfStreams one → IsOutNow world → IsOutNow (after_step one world)
out_step_now one world is out = step_out one world is out

module _ (geometry : Geometry) (list : ℕ) where
  abbrev size : ℕ
  size = ring_bytes geometry.periods geometry.period % 2 ^ 32

  abbrev word : ℕ
  word = format_word geometry.format % 2 ^ 16

  one_write : (size format size' format' at value : ℕ) (width : Width) (rest : List Event) (old new : World) → at / 4 ≢ 2 → ((f : Fields) → Holds size format f → Holds size' format' (written f at width value))
      → CalmRow (Write at width value ∷ rest) old new → RestsWith size format old → (world : World) × RestsWith size' format' world × CalmRow rest world new
  one_write size format size' format' at value width rest old new apart writes row rests =
      let first = at_first (RestsWith size format) (rests_step size format) (Write at width value) rest old new row rests in
      (happens first.world (Write at width value), rests_write size format size' format' at value width first.world apart writes first.holds, first.row)

  interrupts_write : (rest : List Event) (old new : World) → CalmRow (Write 0x20 Four 0xC0000002 ∷ rest) old new → RestsWith size word old → (world : World) × RestsWith size word world × CalmRow rest world new
  interrupts_write rest old new row rests =
      let first = at_first (RestsWith size word) (rests_step size word) (Write 0x20 Four 0xC0000002) rest old new row rests in
      let apart : 0x20 / 4 ≢ 2 = omega arith in
      let beside : 0x20 < 0x80 = omega arith in
      let stays = beside_streams first.world 0x20 0xC0000002 Four apart (inl beside) in (
        happens first.world (Write 0x20 Four 0xC0000002),
        record {
          out = write_out first.world first.holds.out;
          still = ap (λ (descriptor : Descriptor). descriptor.run) stays.output_registers ∙ first.holds.still;
          length_is = ap (λ (descriptor : Descriptor). descriptor.buffer_length) stays.output_registers ∙ first.holds.length_is;
          format_is = ap (λ (descriptor : Descriptor). descriptor.format) stays.output_registers ∙ first.holds.format_is;
        },
        first.row,
      )
    where
      write_out : (world : World) → is_out_of_reset world.registers.global ≡ true → is_out_of_reset (happens world (Write 0x20 Four 0xC0000002)).registers.global ≡ true
      write_out world out = let apart : 0x20 / 4 ≢ 2 = omega arith in ap (λ (n : ℕ). n == 1) (event_time (Write 0x20 Four 0xC0000002) world apart tt out).reset ∙ out

  -- over the writes of memory
  stores_rest : (event : Event) (world : World) → IsStore event → IsHonest world event → RestsWith 0 0 world → RestsWith 0 0 (happens world event)
  stores_rest (Stepped step) world is honest rests = absurd is
  stores_rest Begin world is honest rests = absurd is
  stores_rest End world is honest rests = absurd is
  stores_rest (Read at width value) world is honest rests = absurd is
  stores_rest (Write at width value) world is honest rests = absurd is
  stores_rest (DmaRead at bytes) world is honest rests = absurd is
  stores_rest (DmaWrite at bytes) world is honest rests = record { out = rests.out; still = rests.still; length_is = rests.length_is; format_is = rests.format_is }

  rests_end : (old new : World) → CalmRow [] old new → RestsWith size word old → RestsWith size word new
  rests_end old new row rests = kept_row (RestsWith size word) (λ (event : Event). ⊥) (rests_step size word) (λ event world is honest rests. absurd is) [] old new (All-nil (λ (event : Event). ⊥)) row rests

  -- up to the rise of RUN
  pub set_up : (from in_reset ready : ℕ) (stores : List Event) (old new : World) → All IsStore stores → is_out_of_reset old.registers.global ≡ true → CalmRow (Read WALCLK Four from ∷ goes_first in_reset ready stores geometry list) old new
      → RestsWith size word new
  set_up from in_reset ready stores old new are out row =
      let control : 0xA0 / 4 ≢ 2 = omega arith in
      let clock = at_first IsOutNow out_step_now (Read WALCLK Four from) (goes_first in_reset ready stores geometry list) old new row out in
      let first = at_first IsOutNow out_step_now (Write CONTROL One 1) (Read CONTROL One in_reset ∷ Write CONTROL One 0 ∷ Read CONTROL One ready ∷ (stores ++ sets geometry list)) clock.world new clock.row clock.holds in
      let held = after_reset first.world.registers first.holds in
      let one : RestsWith 0 0 (happens first.world (Write CONTROL One 1)) =
      subst (RestsWith 0 0) (sym (write_is first.world 0xA0 1 One control)) (record { out = held.out; still = held.still; length_is = held.length_is; format_is = held.format_is }) in
      let two = at_first (RestsWith 0 0) (rests_step 0 0) (Read CONTROL One in_reset) (Write CONTROL One 0 ∷ Read CONTROL One ready ∷ (stores ++ sets geometry list)) (happens first.world (Write CONTROL One 1)) new first.row one in
      let three = one_write 0 0 0 0 0xA0 0 One (Read CONTROL One ready ∷ (stores ++ sets geometry list)) two.world new control (after_ready 0 0) two.row two.holds in
      let four = at_first (RestsWith 0 0) (rests_step 0 0) (Read CONTROL One ready) (stores ++ sets geometry list) three.0 new three.2 three.1 in
      let parts = row_split stores (sets geometry list) four.world new four.row in
      let stored = kept_row (RestsWith 0 0) IsStore (rests_step 0 0) stores_rest stores four.world parts.0 are parts.1 four.holds in
      let interrupts_left : List Event = Write INTCTL Four 0xC0000002 ∷ [] in
      let tag_left : List Event = Write CONTROL Four 0x0010001C ∷ interrupts_left in
      let list_left : List Event = Write LIST_ADDRESS Four list ∷ tag_left in
      let format_left : List Event = Write FORMAT Two (format_word geometry.format) ∷ list_left in
      let last_left : List Event = Write LAST_INDEX Two (geometry.periods - 1) ∷ format_left in
      let length_set = one_write 0 0 size 0 0xA8 (ring_bytes geometry.periods geometry.period) Four last_left parts.0 new (omega arith) (after_length 0 0 (ring_bytes geometry.periods geometry.period)) parts.2 stored in
      let last_set = one_write size 0 size 0 0xAC (geometry.periods - 1) Two format_left length_set.0 new (omega arith) (after_last size 0 (geometry.periods - 1)) length_set.2 length_set.1 in
      let format_set = one_write size 0 size word 0xB2 (format_word geometry.format) Two list_left last_set.0 new (omega arith) (after_format size 0 (format_word geometry.format)) last_set.2 last_set.1 in
      let list_set = one_write size word size word 0xB8 list Four tag_left format_set.0 new (omega arith) (after_list size word list) format_set.2 format_set.1 in
      let tag_set = one_write size word size word 0xA0 0x0010001C Four interrupts_left list_set.0 new control (after_tag size word) list_set.2 list_set.1 in
      let interrupts = interrupts_write [] tag_set.0 new tag_set.2 tag_set.1 in
      rests_end interrupts.0 new interrupts.2 interrupts.1

-- writes of memory stand beside the sound
pub store_beside : (events : List Event) → All IsStore events → All IsBesideSound events
store_beside [] are = All-nil IsBesideSound
store_beside (Stepped step ∷ events) are = absurd (All-head IsStore (Stepped step) events are)
store_beside (Begin ∷ events) are = absurd (All-head IsStore Begin events are)
store_beside (End ∷ events) are = absurd (All-head IsStore End events are)
store_beside (Read at width value ∷ events) are = absurd (All-head IsStore (Read at width value) events are)
store_beside (Write at width value ∷ events) are = absurd (All-head IsStore (Write at width value) events are)
store_beside (DmaRead at bytes ∷ events) are = absurd (All-head IsStore (DmaRead at bytes) events are)
store_beside (DmaWrite at bytes ∷ events) are = All-cons IsBesideSound (DmaWrite at bytes) events tt (store_beside events (All-tail IsStore (DmaWrite at bytes) events are))
