-- Which memory steps change while the input stream runs with its list apart.
use Rattle.std.proofs.Common.{◌≡◌, ◌<◌, ◌≤◌, ◌+◌, ◌*◌, ◌==◌, ◌&&◌, nat_lt, ℕ, zero, suc, Bool, true, false, List, [], ◌∷◌, length, slice_index, Option, None, Some, if◌then◌else◌, refl, sym, subst, ◌∙◌, inl, inr}
use Rattle.std.proofs.lemmas.Bool.{false≢true}
use Rattle.codec_graph.specs.declared.waiting.Waiting.{Waiting}
use Rattle.hda_registers.specs.declared.shapes.RingSize.{RingSize}
use Rattle.hda_registers.specs.Fields.{Fields, Global, entries_of, is_out_of_reset, is_running, list_address, rirb_address}
use Rattle.world_rings.specs.declared.response.Response.{Response}
use Rattle.world_rings.specs.declared.response.TheConstants.{MOST_WAITING}
use Rattle.world_rings.specs.Entries.{response_bytes, response_place, response_stored, responses_stored, after_response}
use Rattle.world_rings.specs.Engines.{next_word, batch}
use Rattle.world_rings.proofs.Callers.{stored_outside, responses_registers}
use Rattle.world_streams.specs.Streams.{Stream, broke}
use Rattle.world_streams.specs.Input.{Storage, store_move, store, memory_with, byte_stored, frame_took}
use Rattle.world_streams.proofs.Callers.{store-cases}
use Rattle.world_steps.specs.declared.Step.{Step}
use Rattle.world_steps.specs.declared.Step.TheVariants as step
use Rattle.hda_world.specs.Worlds.{World, codec_at, input_of}
use Rattle.hda_world.specs.Arriving.{arriving}
use Rattle.hda_world.specs.Steps.{address_of, is_busy, handed, handed_next, waiting_of, sent_first, lost, responded, passed, output_fetched, storage_of, input_stored, frame_step, times, after_step, after_steps}
use Rattle.hda_world.specs.Kept.{Kept, KeptByInput}
use Rattle.hda_world.specs.Leaving.{IsOutsideRirb}
use Rattle.hda_world.specs.Buffers.{list_size, IsOutsideBuffers, HasListApart, KeepsListApart, HasListOutsideRirb}
use Rattle.hda_world.proofs.Leaving.{outside_entry}
use Rattle.hda_world.proofs.Stepping.{kept_steps, frames_after}
use Rattle.hda_world.proofs.Passing.{passed_global}
use Rattle.hda_world.proofs.Buffers.{NamesNoMore, names_stay, names_took, names_stored, outside_still, place_before, apart_still, apart_stored, apart_took, byte_leaves}

-- ---- RIRB

-- responses are written in RIRB alone
responses_outside : (responses : List Response) (fields : Fields) (memory : List ℕ) (at : ℕ) → IsOutsideRirb fields at → slice_index (responses_stored fields memory responses) at ≡ slice_index memory at
responses_outside [] fields memory at apart = refl
responses_outside (response ∷ responses) fields memory at apart =
    responses_outside responses (after_response fields) (response_stored fields memory response) at apart
    ∙ (stored_outside (rirb_address fields + 8 * response_place fields) (response_bytes response) memory).1 at (outside_entry fields response at apart)

-- what lay outside RIRB's old place lies outside its place now
rirb_now : (old new : Fields) → new.global.rirb_base ≡ old.global.rirb_base → new.shape.rirb ≡ old.shape.rirb → (at : ℕ) → IsOutsideRirb old at → IsOutsideRirb new at
rirb_now old new base size at (inl below) = inl (subst (λ (base : ℕ). at < 128 * base) (sym base) below)
rirb_now old new base size at (inr above) =
    inr (subst (λ (base : ℕ). 128 * base + 8 * entries_of new.shape.rirb ≤ at) (sym base) (subst (λ (size : RingSize). 128 * old.global.rirb_base + 8 * entries_of size ≤ at) (sym size) above))

-- ---- what steps in turn keep

-- RIRB stands where it stood; the input stream's list, while it runs, lies apart from its buffers and from RIRB; what lay
-- outside RIRB and all buffers is as it was, and lies outside still
record StillBy (start : World) (base : ℕ) (size : RingSize) (memory : List ℕ) (input : Stream) : Type 0 where
  base_is : base ≡ start.registers.global.rirb_base
  size_is : size ≡ start.registers.shape.rirb
  same : (at : ℕ) → IsOutsideRirb start.registers at → IsOutsideBuffers start.memory (input_of start) at → slice_index memory at ≡ slice_index start.memory at
  apart : is_running input.descriptor ≡ true → HasListApart memory input
  beside : is_running input.descriptor ≡ true → (offset : ℕ) → offset < list_size input.descriptor → IsOutsideRirb start.registers (list_address input.descriptor + offset)
  outside : is_running input.descriptor ≡ true → (at : ℕ) → IsOutsideBuffers start.memory (input_of start) at → IsOutsideBuffers memory input at

abbrev Still : World → World → Type 0
Still start world = StillBy start world.registers.global.rirb_base world.registers.shape.rirb world.memory (input_of world)

module _ (start : World) where
  -- a change after which no buffer is named that was not
  moves_on : (base : ℕ) (size : RingSize) (old new : List ℕ) (before after : Stream) → is_running before.descriptor ≡ true → NamesNoMore old new before after → HasListApart new after
      → ((at : ℕ) → IsOutsideRirb start.registers at → IsOutsideBuffers old before at → slice_index new at ≡ slice_index old at) → StillBy start base size old before → StillBy start base size new after
  moves_on base size old new before after ran no_more has stays still = record {
    base_is = still.base_is;
    size_is = still.size_is;
    same = λ at rirb buffers. stays at rirb (still.outside ran at buffers) ∙ still.same at rirb buffers;
    apart = λ runs. has;
    beside = λ runs. place_before old new before after no_more (IsOutsideRirb start.registers) (still.beside ran);
    outside = λ runs at buffers. outside_still old new before after no_more at (still.outside ran at buffers);
  }

  stops : (base : ℕ) (size : RingSize) (memory : List ℕ) (input : Stream) → StillBy start base size memory input → StillBy start base size memory (broke input)
  stops base size memory input still = record {
    base_is = still.base_is;
    size_is = still.size_is;
    same = still.same;
    apart = λ runs. absurd (false≢true runs);
    beside = λ runs. absurd (false≢true runs);
    outside = λ runs. absurd (false≢true runs);
  }

  input_still : KeptByInput (Still start)
  input_still = record {
    stores = λ world still can some good.
        moves_on world.registers.global.rirb_base world.registers.shape.rirb world.memory (memory_with world.memory (list_address world.registers.input) world.input) (input_of world) (byte_stored world.memory (input_of world)) can.runs
        (names_stored world.memory (input_of world) (still.apart can.runs) good) (apart_stored world.memory (input_of world) (still.apart can.runs) good)
        (λ at rirb buffers. byte_leaves world.memory (input_of world) (still.apart can.runs) good at buffers) still;
    jams = λ world still can some bad. stops world.registers.global.rirb_base world.registers.shape.rirb world.memory (input_of world) still;
    takes = λ world still can.
        let blocks = arriving world in
        let fifo = world.registers.shape.fifo in
        moves_on world.registers.global.rirb_base world.registers.shape.rirb world.memory world.memory (input_of world) (frame_took fifo blocks (input_of world)) can.runs
        (names_took world.memory fifo blocks (input_of world)) (apart_took world.memory fifo blocks (input_of world) (still.apart can.runs)) (λ at rirb buffers. refl) still;
    refuses = λ world still must. stops world.registers.global.rirb_base world.registers.shape.rirb world.memory (input_of world) still;
  }

  -- responses are written where the list does not lie
  responds_still : (world : World) (response : Response) (rest : List Response) → Still start world → Still start (responded (response ∷ rest) world)
  responds_still world response rest still =
      let fields = world.registers in
      let responses : List Response = response ∷ rest in
      let new = responses_stored fields world.memory (response ∷ rest) in
      let kept = λ (at : ℕ) (apart : IsOutsideRirb start.registers at). responses_outside (response ∷ rest) fields world.memory at (rirb_now start.registers fields still.base_is still.size_is at apart) in
      let list = λ (runs : is_running fields.input ≡ true) (offset : ℕ) (small : offset < list_size fields.input). kept (list_address fields.input + offset) (still.beside runs offset small) in
      let now : StillBy start fields.global.rirb_base fields.shape.rirb (responses_stored fields world.memory (response ∷ rest)) (input_of world) = record {
        base_is = still.base_is;
        size_is = still.size_is;
        same = λ at rirb buffers. kept at rirb ∙ still.same at rirb buffers;
        apart = λ runs.
            let no_more = names_stay world.memory new (input_of world) (list runs) in
            apart_still world.memory new (input_of world) (input_of world) no_more (still.apart runs).in_use (still.apart runs).listed (still.apart runs);
        beside = still.beside;
        outside = λ runs at buffers. outside_still world.memory new (input_of world) (input_of world) (names_stay world.memory new (input_of world) (list runs)) at (still.outside runs at buffers);
      } in
      subst (λ (f : Fields). StillBy start f.global.rirb_base f.shape.rirb (responses_stored fields world.memory (response ∷ rest)) (record { descriptor = f.input; state = world.input })) (sym (responses_registers (response ∷ rest) fields)) now

  passed_still : (world : World) → Still start world → Still start (passed world)
  passed_still world still = subst (λ (g : Global). StillBy start g.rirb_base world.registers.shape.rirb world.memory (input_of world)) (sym (passed_global world)) still

  still_kept : Kept (Still start)
  still_kept = record {
    codecs = record {
      hands = λ world still can free. still;
      sends = λ world address item rest still out room are. still;
      loses = λ world address still out. still;
      plugs = λ world address nid present still. still;
    };
    responds = λ world response rest still can are. responds_still world response rest still;
    bytes = record {
      comes = λ world still can room good is. still;
      ends = λ world still can room good is. still;
      breaks = λ world still can room bad. still;
      refuses = λ world still must. still;
    };
    input = input_still;
    passes = λ world still out idle. passed_still world still;
    frames = frames_after (Still start) (λ world still out. passed_still world still) (record {
      gaps = λ world still can none. still;
      sends = λ world still can some enough. still;
      misses = λ world still can short. still;
      stops = λ world still must. still;
    });
  }

begins_still : (world : World) → KeepsListApart world → HasListOutsideRirb world → Still world world
begins_still world apart beside = record { base_is = refl; size_is = refl; same = λ at rirb buffers. refl; apart = apart; beside = beside; outside = λ runs at buffers. buffers }

still_after : (steps : List Step) (world : World) → KeepsListApart world → HasListOutsideRirb world → Still world (after_steps steps world)
still_after steps world apart beside = kept_steps (Still world) (still_kept world) steps world (begins_still world apart beside)

pub steps_write : (steps : List Step) (world : World) → KeepsListApart world → HasListOutsideRirb world → (at : ℕ) → IsOutsideRirb world.registers at → IsOutsideBuffers world.memory (input_of world) at
    → slice_index (after_steps steps world).memory at ≡ slice_index world.memory at
steps_write steps world apart beside at rirb buffers = (still_after steps world apart beside).same at rirb buffers

pub steps_keep_apart : (steps : List Step) (world : World) → KeepsListApart world → HasListOutsideRirb world → KeepsListApart (after_steps steps world) × HasListOutsideRirb (after_steps steps world)
steps_keep_apart steps world apart beside =
    let still = still_after steps world apart beside in
    (still.apart, λ runs offset small. rirb_now world.registers (after_steps steps world).registers still.base_is still.size_is _ (still.beside runs offset small))

-- ---- one step

-- a fetch of the input stream
record StoringBy (old : Storage) (now : Storage) : Type 0 where
  same : (at : ℕ) → IsOutsideBuffers old.memory old.stream at → slice_index now.memory at ≡ slice_index old.memory at
  apart : is_running now.stream.descriptor ≡ true → HasListApart now.memory now.stream
  outside : is_running now.stream.descriptor ≡ true → (at : ℕ) → IsOutsideBuffers old.memory old.stream at → IsOutsideBuffers now.memory now.stream at

breaks_off : (old now : Storage) → StoringBy old now → StoringBy old (record now { stream = broke now.stream })
breaks_off old now storing = record { same = storing.same; apart = λ runs. absurd (false≢true runs); outside = λ runs. absurd (false≢true runs) }

one_stored : (old now : Storage) → StoringBy old now → StoringBy old (store_move now)
one_stored old now storing =
    store-cases (StoringBy old) now storing (λ runs unusable. breaks_off old now storing) (λ runs usable some bad. breaks_off old now storing)
    (λ runs usable some good. (
    let has = storing.apart runs in
    record {
      same = λ at buffers. byte_leaves now.memory now.stream has good at (storing.outside runs at buffers) ∙ storing.same at buffers;
      apart = λ still. apart_stored now.memory now.stream has good;
      outside = λ still at buffers. outside_still now.memory (memory_with now.memory (list_address now.stream.descriptor) now.stream.state) now.stream (byte_stored now.memory now.stream) (names_stored now.memory now.stream has good) at (storing.outside runs at buffers);
    }))

all_stored : (n : ℕ) (old now : Storage) → StoringBy old now → StoringBy old (store n now)
all_stored zero old now storing = storing
all_stored (suc n) old now storing = all_stored n old (store_move now) (one_stored old now storing)

module _ (at : ℕ) where
  abbrev Same : World → World → Type 0
  Same old new = slice_index new.memory at ≡ slice_index old.memory at

  either : (test : Bool) (one other old : World) → Same old one → Same old other → Same old (if test then one else other)
  either true one other old first second = first
  either false one other old first second = second

  corb_same : (next : Option ℕ) (world : World) → Same world (handed_next next world)
  corb_same None world = refl
  corb_same (Some word) world = either (is_busy (codec_at (address_of word) world.codecs)) world (handed word world) world refl refl

  sent_same : (items : List Waiting) (address : ℕ) (world : World) → Same world (sent_first address items world)
  sent_same [] address world = refl
  sent_same (item ∷ items) address world = refl

  frames_same : (frames : ℕ) (world : World) → Same world (times frames frame_step world)
  frames_same zero world = refl
  frames_same (suc frames) world = frames_same frames (frame_step world) ∙ either (is_out_of_reset world.registers.global) _ world world refl refl

  pub step_writes : (one : Step) (world : World) → KeepsListApart world → IsOutsideRirb world.registers at → IsOutsideBuffers world.memory (input_of world) at → Same world (after_step one world)
  step_writes step.Corb world apart rirb buffers = corb_same (next_word world.registers world.memory) world
  step_writes (step.Answer codec) world apart rirb buffers =
      either (is_out_of_reset world.registers.global && nat_lt (length world.waiting) MOST_WAITING) _ world world (sent_same (waiting_of (codec_at codec world.codecs)) codec world) refl
  step_writes (step.Lose codec) world apart rirb buffers = either (is_out_of_reset world.registers.global) (lost codec world) world world refl refl
  step_writes step.Rirb world apart rirb buffers = responses_outside (batch world.registers world.waiting) world.registers world.memory at rirb
  step_writes (step.Fetch stream most) world apart rirb buffers =
      either (is_out_of_reset world.registers.global && stream == 1) (output_fetched most world) _ world refl
      (either (is_out_of_reset world.registers.global && stream == 0) (input_stored most world) world world
      ((all_stored most (storage_of world) (storage_of world) (record { same = λ at buffers. refl; apart = apart; outside = λ runs at buffers. buffers })).same at buffers) refl)
  step_writes (step.Link frames) world apart rirb buffers = frames_same frames world
  step_writes (step.Plug codec nid) world apart rirb buffers = refl
  step_writes (step.Unplug codec nid) world apart rirb buffers = refl
