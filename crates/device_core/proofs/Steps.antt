-- That the device goes where the world goes: the engines of the rings, and the bytes that streams fetch.
use Rattle.std.proofs.Common.{◌≡◌, ◌==◌, ◌&&◌, ℕ, min, Bool, true, false, List, [], ◌∷◌, length, drop, get_or, Option, Some, None, if◌then◌else◌, refl, sym, ap, subst, ◌∙◌}
use Rattle.std.specs.Prelude.{slice_get}
use Rattle.codec_graph.specs.CodecStates.{CodecState, taken, is_full}
use Rattle.hda_registers.specs.Fields.{Fields, Global, Descriptor, is_out_of_reset, is_running, stream_of}
use Rattle.hda_registers.specs.declared.shapes.Shape.{Shape}
use Rattle.world_rings.specs.declared.response.Response.{Response}
use Rattle.world_rings.specs.Engines.{can_fetch, next_word, after_corb, batch, after_batch, after_rirb}
use Rattle.world_rings.specs.Entries.{fetched, next_command, responses_stored}
use Rattle.world_streams.specs.Streams.{StreamState, Stream}
use Rattle.world_streams.specs.Output.{fetch}
use Rattle.world_streams.specs.Input.{Storage}
use Rattle.world_streams.proofs.Callers.{store-stopped}
use Rattle.stream_descriptor.specs.Running.{Counts, Playing, StandsFor, StandsForBy, RunsBy, LeadsTo, with_descriptor, fetched_at}
use Rattle.stream_descriptor.specs.Taking.{TakesFor}
use Rattle.stream_descriptor.proofs.Callers.{beside_output}
use Rattle.world_steps.specs.declared.Step.{Step}
use Rattle.world_steps.specs.declared.Step.TheVariants as step
use Rattle.hda_world.specs.Worlds.{World, output_of, codec_at, with_codec}
use Rattle.hda_world.specs.Steps.{after_step, address_of, is_busy, handed, handed_next, corb_step, rirb_step, fetch_step, output_fetched, input_stored, storage_of, with_storage}
use Rattle.hda_world.specs.Leaving.{NamesNoStream, StepsLeave}
use Rattle.hda_world.proofs.Callers.{steps_leave, step_leaves_streams}
use Rattle.device_core.specs.Codecs.{addresses_of, place_of, taken_by, taken_there, handed_by}
use Rattle.device_core.specs.Captures.{IsSourceOf, most_came}
use Rattle.device_core.specs.declared.capture.Source.{Source}
use Rattle.device_core.specs.Devices.{DeviceState, AreAlike, IsWorld, KeepsSound}
use Rattle.device_core.specs.Keeping.{IsDevice}
use Rattle.device_core.proofs.Places.{codec_there, codec_is}
use Rattle.device_core.proofs.Standing.{shown_world, device_from, held_on}

-- ---- every step

-- what holds of a device at all times holds after a step, and the output stream's tag and format stay
pub step_keeps : (taken : Step) (memory after : List ℕ) (old new : DeviceState) → IsDevice old → IsWorld after new (after_step taken (shown_world memory old))
    → (is_out_of_reset old.registers.global ≡ false → (after_step taken (shown_world memory old)).registers ≡ old.registers)
    → addresses_of new.codecs ≡ addresses_of old.codecs → IsSourceOf new.input.source new.codecs → new.input.playing.index ≡ old.input.playing.index → new.output.index ≡ old.output.index
    → IsDevice new
step_keeps taken memory after old new keeps is still addresses source input output =
    let world : World = after_step taken (shown_world memory old) in
    let left : StepsLeave (shown_world memory old) world = steps_leave (taken ∷ []) (shown_world memory old) in
    device_from after old new world keeps is
    (held_on old.registers new.registers keeps.held (λ off. sym is.registers_are ∙ still off)
    (ap (λ (f : Fields). f.global.controller_reset) (sym is.registers_are) ∙ ap (λ (g : Global). g.controller_reset) left.registers.global))
    addresses source input output

pub step_keeps_sound : (taken : Step) (memory after : List ℕ) (old new : DeviceState) → IsWorld after new (after_step taken (shown_world memory old))
    → KeepsSound old.registers new.registers
step_keeps_sound taken memory after old new is =
    let world : World = after_step taken (shown_world memory old) in
    let left : StepsLeave (shown_world memory old) world = steps_leave (taken ∷ []) (shown_world memory old) in
    record {
      tag = ap (λ (f : Fields). f.output.tag) (sym is.registers_are) ∙ ap (λ (d : Descriptor). d.tag) left.registers.output.only;
      format = ap (λ (f : Fields). f.output.format) (sym is.registers_are) ∙ ap (λ (d : Descriptor). d.format) left.registers.output.only;
    }

-- a stream stands for its state in registers of the same shape with the same descriptors
pub stands_on : {counts : Counts} (playing : Playing) (old new : Fields) (state : StreamState) → StandsForBy counts playing old state → new.shape ≡ old.shape → new.input ≡ old.input → new.output ≡ old.output
    → StandsForBy counts playing new state
stands_on {counts} playing old new state stands shape input output =
    let here : stream_of new playing.index ≡ stream_of old playing.index =
    ap (λ (d : Descriptor). if playing.index == 0 then d else new.output) input ∙ ap (λ (d : Descriptor). if playing.index == 0 then old.input else d) output in
    record {
      capacity = stands.capacity ∙ ap (λ (s : Shape). s.fifo) (sym shape);
      stopped = λ off. stands.stopped (ap is_running (sym here) ∙ off);
      running = λ on. subst (λ (d : Descriptor). RunsBy counts playing (record { descriptor = d; state = state })) (sym here) (stands.running (ap is_running (sym here) ∙ on));
    }

module _ (memory : List ℕ) (old : DeviceState) (world : World) (is : IsWorld memory old world) (taken : Step) (apart : NamesNoStream taken) (new : Fields) (same : (after_step taken world).registers ≡ new) where
  abbrev after : World
  after = after_step taken world

  left : StepsLeave world after
  left = steps_leave (taken ∷ []) world

  both : {counts : Counts} (playing : Playing) (state : StreamState) → StandsForBy counts playing old.registers state → StandsForBy counts playing new state
  both playing state stands =
      let stay = step_leaves_streams taken world apart in
      stands_on playing old.registers new state stands
      (ap (λ (f : Fields). f.shape) (sym same) ∙ (left.registers.shape ∙ ap (λ (f : Fields). f.shape) is.registers_are))
      (ap (λ (f : Fields). f.input) (sym same) ∙ (stay.input_registers ∙ ap (λ (f : Fields). f.input) is.registers_are))
      (ap (λ (f : Fields). f.output) (sym same) ∙ (stay.output_registers ∙ ap (λ (f : Fields). f.output) is.registers_are))

  pub input_on : TakesFor old.input.playing new after.input
  input_on = subst (λ (s : StreamState). TakesFor old.input.playing new s) (sym (step_leaves_streams taken world apart).input) (both old.input.playing world.input is.input_stands)

  pub output_on : StandsFor old.output new after.output
  output_on = subst (λ (s : StreamState). StandsFor old.output new s) (sym (step_leaves_streams taken world apart).output) (both old.output world.output is.output_stands)

-- ---- RIRB

pub rirb_moved : (memory later : List ℕ) (old : DeviceState) (world : World) (new : Fields) (waiting : List Response) (count : ℕ) → IsWorld memory old world
    → new ≡ after_rirb old.registers old.waiting → later ≡ responses_stored old.registers memory (batch old.registers old.waiting)
    → count ≡ length (batch old.registers old.waiting) → waiting ≡ drop count old.waiting
    → IsWorld later (record old { registers = new; waiting = waiting }) (rirb_step world)
rirb_moved memory later old world new waiting count is new_is later_is count_is waiting_is =
    let written : batch world.registers world.waiting ≡ batch old.registers old.waiting =
    ap (λ (f : Fields). batch f world.waiting) is.registers_are ∙ ap (λ (w : List Response). batch old.registers w) is.waiting_is in
    let registers : (rirb_step world).registers ≡ new =
    ap (after_batch world.registers) written ∙ (ap (λ (f : Fields). after_batch f (batch old.registers old.waiting)) is.registers_are ∙ sym new_is) in
    record {
      memory_is = ap (responses_stored world.registers world.memory) written
          ∙ (ap (λ (f : Fields). responses_stored f world.memory (batch old.registers old.waiting)) is.registers_are
          ∙ (ap (λ (m : List ℕ). responses_stored old.registers m (batch old.registers old.waiting)) is.memory_is ∙ sym later_is));
      registers_are = registers;
      codecs_are = is.codecs_are;
      waiting_is = ap (λ (b : List Response). drop (length b) world.waiting) written
          ∙ (ap (λ (n : ℕ). drop n world.waiting) (sym count_is) ∙ (ap (drop count) is.waiting_is ∙ sym waiting_is));
      frames_are = is.frames_are;
      captured = record { given_is = is.captured.given_is; came_is = is.captured.came_is };
      input_stands = input_on memory old world is step.Rirb tt new registers;
      output_stands = output_on memory old world is step.Rirb tt new registers;
    }

pub rirb_still : (world : World) → is_out_of_reset world.registers.global ≡ false → (rirb_step world).registers ≡ world.registers
rirb_still world off = rw off refl

-- ---- bytes of streams

module _ (memory : List ℕ) (old : DeviceState) (after : Playing) (new : Fields) (world : World) (most : ℕ) where
  abbrev r : Fields
  r = world.registers

  abbrev stream : Stream
  stream = output_of world

  fetch_on : IsWorld memory old world → old.input.playing.index ≡ 0 → after.index ≡ 1 → (out : Bool) → is_out_of_reset r.global ≡ out
      → LeadsTo after r new (if out then fetch most r.shape.fifo memory stream else stream)
      → IsWorld memory (record old { registers = new; output = after }) (if out then output_fetched most world else world)
  fetch_on is input_index index true out leads =
      let fetched : Stream = fetch most r.shape.fifo memory stream in
      let there : fetch most r.shape.fifo world.memory stream ≡ fetched = ap (λ (m : List ℕ). fetch most r.shape.fifo m stream) is.memory_is in
      let here : new ≡ record r { output = fetched.descriptor } = leads.registers ∙ ap (λ (i : ℕ). with_descriptor i fetched.descriptor r) index in
      record {
        memory_is = is.memory_is;
        registers_are = ap (λ (s : Stream). record r { output = s.descriptor }) there ∙ sym here;
        codecs_are = is.codecs_are;
        waiting_is = is.waiting_is;
        frames_are = is.frames_are;
        captured = record { given_is = is.captured.given_is; came_is = is.captured.came_is };
        input_stands = beside_output old.input.playing old.registers new world.input input_index is.input_stands
            (ap (λ (f : Fields). f.shape) here ∙ ap (λ (f : Fields). f.shape) is.registers_are)
            (ap (λ (f : Fields). f.input) here ∙ ap (λ (f : Fields). f.input) is.registers_are);
        output_stands = subst (λ (s : Stream). StandsFor after new s.state) (sym there) leads.stands;
      }
  fetch_on is input_index index false out leads =
      let same : new ≡ r = leads.registers ∙ ap (λ (i : ℕ). with_descriptor i r.output r) index in
      record {
        memory_is = is.memory_is;
        registers_are = sym same;
        codecs_are = is.codecs_are;
        waiting_is = is.waiting_is;
        frames_are = is.frames_are;
        captured = record { given_is = is.captured.given_is; came_is = is.captured.came_is };
        input_stands = subst (λ (f : Fields). TakesFor old.input.playing f world.input) (sym (same ∙ is.registers_are)) is.input_stands;
        output_stands = leads.stands;
      }

-- what the output stream does in a fetch, the world does
abbrev pub Fetches : (before after : Playing) (old new : Fields) (most : ℕ) (memory : List ℕ) → Type 0
Fetches before after old new most memory = (state : StreamState) → StandsFor before old state → LeadsTo after old new (fetched_at before.index most memory old state)

fetched_by : (out : Bool) (most : ℕ) (memory : List ℕ) (world : World) → is_out_of_reset world.registers.global ≡ out
    → fetched_at 1 most memory world.registers world.output ≡ (if out then fetch most world.registers.shape.fifo memory (output_of world) else output_of world)
fetched_by out most memory world is = ap (λ (t : Bool). if t then fetch most world.registers.shape.fifo memory (output_of world) else output_of world) is

step_by : (out : Bool) (most : ℕ) (world : World) → is_out_of_reset world.registers.global ≡ out → fetch_step 1 most world ≡ (if out then output_fetched most world else world)
step_by true most world is = rw is refl
step_by false most world is = rw is refl

pub fetch_moved : (memory : List ℕ) (old : DeviceState) (after : Playing) (new : Fields) (world : World) (most : ℕ) → IsWorld memory old world → old.input.playing.index ≡ 0 → old.output.index ≡ 1
    → after.index ≡ old.output.index → Fetches old.output after old.registers new most memory
    → IsWorld memory (record old { registers = new; output = after }) (fetch_step 1 most world)
fetch_moved memory old after new world most is input_index output_index same fetches =
    let stood = subst (λ (i : ℕ). LeadsTo after old.registers new (fetched_at i most memory old.registers world.output)) output_index (fetches world.output is.output_stands) in
    let here = subst (λ (f : Fields). LeadsTo after f new (fetched_at 1 most memory f world.output)) (sym is.registers_are) stood in
    let out : Bool = is_out_of_reset world.registers.global in
    subst (IsWorld memory (record old { registers = new; output = after })) (sym (step_by out most world refl))
    (fetch_on memory old after new world most is input_index (same ∙ output_index) out refl here)

pub fetch_still : (most : ℕ) (world : World) → is_out_of_reset world.registers.global ≡ false → (fetch_step 1 most world).registers ≡ world.registers
fetch_still most world off = rw off refl

-- the input stream stores, and in reset it does not run
pub fetch_stores : (most : ℕ) (world : World) → (is_out_of_reset world.registers.global ≡ false → is_running world.registers.input ≡ false) → fetch_step 0 most world ≡ input_stored most world
fetch_stores most world rests = by_out (is_out_of_reset world.registers.global) refl
  where
    by_out : (out : Bool) → is_out_of_reset world.registers.global ≡ out
        → (if out && 0 == 1 then output_fetched most world else (if out && 0 == 0 then input_stored most world else world)) ≡ input_stored most world
    by_out true is = refl
    by_out false is = sym (ap (λ (storage : Storage). with_storage storage world) (store-stopped most (storage_of world) (rests is)))

-- ---- CORB

next_same : (memory : List ℕ) (old : DeviceState) (world : World) → IsWorld memory old world → next_word world.registers world.memory ≡ next_word old.registers memory
next_same memory old world is = ap (λ (f : Fields). next_word f world.memory) is.registers_are ∙ ap (next_word old.registers) is.memory_is

pub corb_none : (memory : List ℕ) (old : DeviceState) (world : World) → IsWorld memory old world → next_word old.registers memory ≡ None → IsWorld memory old (corb_step world)
corb_none memory old world is none = subst (λ (next : Option ℕ). IsWorld memory old (handed_next next world)) (sym (next_same memory old world is ∙ none)) is

busy_same : (memory : List ℕ) (old : DeviceState) (world : World) (word : ℕ) → IsWorld memory old world → is_busy (codec_at (address_of word) world.codecs) ≡ is_busy (codec_at (address_of word) old.codecs)
busy_same memory old world word is = ap (λ (codecs : List CodecState). is_busy (codec_at (address_of word) codecs)) is.codecs_are

pub corb_busy : (memory : List ℕ) (old : DeviceState) (world : World) (word : ℕ) → IsWorld memory old world → next_word old.registers memory ≡ Some word
    → is_busy (codec_at (address_of word) old.codecs) ≡ true → IsWorld memory old (corb_step world)
corb_busy memory old world word is next busy =
    subst (λ (next : Option ℕ). IsWorld memory old (handed_next next world)) (sym (next_same memory old world is ∙ next))
    (subst (λ (t : Bool). IsWorld memory old (if t then world else handed word world)) (sym (busy_same memory old world word is ∙ busy)) is)

fetched_where : (test : Bool) (fields : Fields) (first word : ℕ) → (if test then Some first else None) ≡ Some word → (if test then fetched fields else fields) ≡ fetched fields
fetched_where true fields first word some = refl
fetched_where false fields first word some = (let never : None ≡ Some word = some in cc)

pub corb_fetched : (fields : Fields) (memory : List ℕ) (word : ℕ) → next_word fields memory ≡ Some word → after_corb fields ≡ fetched fields
corb_fetched fields memory word some = fetched_where (can_fetch fields) fields (next_command fields memory) word some

handed_is : (memory : List ℕ) (old : DeviceState) (world : World) (word : ℕ) → IsWorld memory old world → next_word old.registers memory ≡ Some word
    → is_busy (codec_at (address_of word) old.codecs) ≡ false → corb_step world ≡ handed word world
handed_is memory old world word is next free =
    ap (λ (next : Option ℕ). handed_next next world) (next_same memory old world is ∙ next)
    ∙ ap (λ (t : Bool). if t then world else handed word world) (busy_same memory old world word is ∙ free)

pub corb_handed : (memory : List ℕ) (old : DeviceState) (world : World) (word : ℕ) (new : Fields) (codecs : List CodecState) (source : Source) → IsWorld memory old world → next_word old.registers memory ≡ Some word
    → is_busy (codec_at (address_of word) old.codecs) ≡ false → new ≡ after_corb old.registers → codecs ≡ with_codec (address_of word) (λ codec. taken codec word) old.codecs
    → IsWorld memory (record old { registers = new; codecs = codecs; input = record old.input { source = source } }) (corb_step world)
corb_handed memory old world word new codecs source is next free new_is codecs_is =
    let went : corb_step world ≡ handed word world = handed_is memory old world word is next free in
    let registers : (corb_step world).registers ≡ new =
    ap (λ (w : World). w.registers) went ∙ (ap fetched is.registers_are ∙ (sym (corb_fetched old.registers memory word next) ∙ sym new_is)) in
    record {
      memory_is = ap (λ (w : World). w.memory) went ∙ is.memory_is;
      registers_are = registers;
      codecs_are = ap (λ (w : World). w.codecs) went ∙ (ap (with_codec (address_of word) (λ codec. taken codec word)) is.codecs_are ∙ sym codecs_is);
      waiting_is = ap (λ (w : World). w.waiting) went ∙ is.waiting_is;
      frames_are = subst (AreAlike old.frames) (sym (ap (λ (w : World). w.frames) went)) is.frames_are;
      captured = record {
        given_is = ap (λ (w : World). w.given) went ∙ is.captured.given_is;
        came_is = is.captured.came_is ∙ sym (ap (λ (w : World). min (length w.came) most_came) went);
      };
      input_stands = input_on memory old world is step.Corb tt new registers;
      output_stands = output_on memory old world is step.Corb tt new registers;
    }

pub corb_still : (world : World) → is_out_of_reset world.registers.global ≡ false → (corb_step world).registers ≡ world.registers
corb_still world off = rw off refl

-- what the device hands
pub busy_hands_none : (word : ℕ) (codecs : List CodecState) → is_busy (codec_at (address_of word) codecs) ≡ true → handed_by (Some word) codecs ≡ None
busy_hands_none word codecs busy = by_place (place_of (address_of word) codecs) refl
  where
    full_none : (codec : Option CodecState) (place : ℕ) → is_busy codec ≡ true → taken_by codec place word ≡ None
    full_none None place full = refl
    full_none (Some codec) place full = rw full refl

    by_place : (place : Option ℕ) → place_of (address_of word) codecs ≡ place → taken_there place codecs word ≡ None
    by_place None is = refl
    by_place (Some place) is = full_none (slice_get codecs place) place (ap is_busy (sym (codec_there (address_of word) codecs place is)) ∙ busy)

pub none_hands_none : (word : ℕ) (codecs : List CodecState) → place_of (address_of word) codecs ≡ None → handed_by (Some word) codecs ≡ None
none_hands_none word codecs none = ap (λ (place : Option ℕ). taken_there place codecs word) none

pub free_hands : (word : ℕ) (codecs : List CodecState) (place : ℕ) (default : CodecState) → place_of (address_of word) codecs ≡ Some place → is_busy (codec_at (address_of word) codecs) ≡ false
    → handed_by (Some word) codecs ≡ Some (record { place = place; word = word })
free_hands word codecs place default is free =
    let there : slice_get codecs place ≡ Some (get_or codecs place default) = sym (codec_there (address_of word) codecs place is) ∙ codec_is (address_of word) codecs place default is in
    let not_full : is_full (get_or codecs place default) ≡ false = ap is_busy (sym (codec_is (address_of word) codecs place default is)) ∙ free in
    ap (λ (o : Option ℕ). taken_there o codecs word) is
    ∙ (ap (λ (o : Option CodecState). taken_by o place word) there ∙ ap (λ (t : Bool). if t then None else Some (record { place = place; word = word })) not_full)
