-- That the device goes where the world goes over a write of a register.
use Rattle.std.proofs.Common.{◌≡◌, ◌||◌, ℕ, min, Bool, true, false, List, [], length, map, if◌then◌else◌, refl, sym, ap, subst, ◌∙◌, inl}
use Rattle.std.specs.Prelude.{Vec}
use Rattle.std.specs.Vec.{with_items}
use Rattle.std.proofs.lemmas.List.{length-map, with_items_is}
use Rattle.hda_registers.specs.declared.shapes.Width.{Width}
use Rattle.hda_registers.specs.declared.shapes.Effects.{Effects}
use Rattle.hda_registers.specs.Fields.{Fields}
use Rattle.hda_registers.specs.Access.{written, effects_of, rose}
use Rattle.codec_graph.specs.CodecStates.{CodecState, cleared}
use Rattle.world_rings.specs.declared.response.Response.{Response}
use Rattle.world_streams.specs.Streams.{StreamState, settled_state}
use Rattle.stream_descriptor.specs.Running.{Playing, StandsFor, taken_bytes}
use Rattle.stream_descriptor.specs.Taking.{TakesFor}
use Rattle.stream_descriptor.proofs.Callers.{SettledBy}
use Rattle.hda_world.specs.Worlds.{World}
use Rattle.hda_world.specs.Events.{reset_if, counted_anew_if, registers_written, streams_settled, settled_came, after_write}
use Rattle.hda_world.proofs.Callers.{write_memory, write_registers, write_states, map-cleared}
use Rattle.device_core.specs.Codecs.{KeepCodecs, addresses_of}
use Rattle.device_core.specs.Captures.{CaptureState, most_came}
use Rattle.device_core.specs.Devices.{DeviceState, AreAlike, IsWorld}

-- ---- what waits

-- what a reset and a fresh count leave of it
write_queues : (reset left : Bool) (world : World) → let after : World = counted_anew_if left (reset_if reset world) in
    (after.codecs ≡ (if reset then map cleared world.codecs else world.codecs)) × (after.waiting ≡ (if reset then [] else world.waiting))
    × (after.frames ≡ (if reset || left then 0 else world.frames))
write_queues true true world = (refl, refl, refl)
write_queues true false world = (refl, refl, refl)
write_queues false true world = (refl, refl, refl)
write_queues false false world = (refl, refl, refl)

-- they change no sound, and nothing of what came
write_sound : (reset left : Bool) (world : World) → let after : World = counted_anew_if left (reset_if reset world) in (after.given ≡ world.given) × (after.came ≡ world.came)
write_sound true true world = (refl, refl)
write_sound true false world = (refl, refl)
write_sound false true world = (refl, refl)
write_sound false false world = (refl, refl)

-- as many blocks came: none where RUN rose
came_anew : (rises : Bool) (count : ℕ) (came : List Bool) → count ≡ min (length came) most_came
    → (if rises then 0 else count) ≡ min (length (if rises then [] else came)) most_came
came_anew true count came is = refl
came_anew false count came is = is

anew_alike : (anew : Bool) (first second : ℕ) → AreAlike first second → AreAlike (if anew then 0 else first) (if anew then 0 else second)
anew_alike true first second alike = inl refl
anew_alike false first second alike = alike

parts_if : {A : Type 0} (part : CodecState → A) → ((codec : CodecState) → part (cleared codec) ≡ part codec) → (reset : Bool) (codecs : List CodecState)
    → map part (if reset then map cleared codecs else codecs) ≡ map part codecs
parts_if part same true codecs = map-cleared part same codecs
parts_if part same false codecs = refl

pub keeps_cleared : (reset : Bool) (codecs : List CodecState) → KeepCodecs codecs (if reset then map cleared codecs else codecs)
keeps_cleared reset codecs = record {
  graphs = parts_if (λ codec. codec.graph) (λ codec. refl) reset codecs;
  settings = parts_if (λ codec. codec.settings) (λ codec. refl) reset codecs;
}

pub addresses_cleared : (reset : Bool) (codecs : List CodecState) → addresses_of (if reset then map cleared codecs else codecs) ≡ addresses_of codecs
addresses_cleared reset codecs = parts_if (λ codec. codec.graph.address) (λ codec. refl) reset codecs

length-cleared : (reset : Bool) (codecs : List CodecState) → length (if reset then map cleared codecs else codecs) ≡ length codecs
length-cleared true codecs = length-map codecs cleared
length-cleared false codecs = refl

pub put_cleared : {Z : Type 0} (reset : Bool) (v : Vec CodecState Z) (codecs : List CodecState) → codecs ≡ (if reset then map cleared v.items else v.items)
    → (with_items v codecs).items ≡ (if reset then map cleared v.items else v.items)
put_cleared reset v codecs is = with_items_is v codecs (ap length is ∙ (length-cleared reset v.items ∙ sym v.ok.0)) ∙ is

-- ---- a write

module _ (memory : List ℕ) (before : DeviceState) (world : World) (is : IsWorld memory before world) (at : ℕ) (width : Width) (value : ℕ) (effects : Effects) (effects_are : effects ≡ effects_of before.registers at width value) where
  abbrev after : World
  after = after_write at width value world

  effects_same : effects_of world.registers at width value ≡ effects
  effects_same = ap (λ (f : Fields). effects_of f at width value) is.registers_are ∙ sym effects_are

  queues : (after.codecs ≡ (if effects.reset then map cleared before.codecs else before.codecs)) × (after.waiting ≡ (if effects.reset then [] else before.waiting))
      × (after.frames ≡ (if effects.reset || effects.left_reset then 0 else world.frames))
  queues =
      let here = write_queues (effects_of world.registers at width value).reset (effects_of world.registers at width value).left_reset (registers_written (written world.registers at width value) world) in (
        here.0 ∙ (ap (λ (e : Effects). if e.reset then map cleared world.codecs else world.codecs) effects_same ∙ ap (λ (codecs : List CodecState). if effects.reset then map cleared codecs else codecs) is.codecs_are),
        here.1 ∙ (ap (λ (e : Effects). if e.reset then [] else world.waiting) effects_same ∙ ap (λ (waiting : List Response). if effects.reset then [] else waiting) is.waiting_is),
        here.2 ∙ ap (λ (e : Effects). if e.reset || e.left_reset then 0 else world.frames) effects_same,
      )

  sound_left : (after.given ≡ before.input.given) × (after.came ≡ settled_came before.registers.input (written before.registers at width value).input world.came)
  sound_left =
      let here = write_sound (effects_of world.registers at width value).reset (effects_of world.registers at width value).left_reset (registers_written (written world.registers at width value) world) in (
        here.0 ∙ is.captured.given_is,
        here.1 ∙ ap (λ (f : Fields). settled_came f.input (written f at width value).input world.came) is.registers_are,
      )

  pub write_moved : (new second : Fields) (codecs : List CodecState) (waiting : List Response) (frames : ℕ) (input : CaptureState) (output : Playing) → new ≡ written before.registers at width value
      → SettledBy taken_bytes before.registers new second input.playing output world.input world.output
      → input.given ≡ before.input.given → input.came ≡ (if rose before.registers.input new.input then 0 else before.input.came)
      → codecs ≡ (if effects.reset then map cleared before.codecs else before.codecs) → waiting ≡ (if effects.reset then [] else before.waiting)
      → frames ≡ (if effects.reset || effects.left_reset then 0 else before.frames)
      → IsWorld memory (record { registers = second; codecs = codecs; waiting = waiting; frames = frames; input = input; output = output }) after
  write_moved new second codecs waiting frames input output new_is done given_is came_is codecs_is waiting_is frames_is =
      let states = write_states world at value width in
      record {
        memory_is = write_memory world at value width ∙ is.memory_is;
        registers_are = write_registers world at value width ∙ (ap (λ (f : Fields). streams_settled f (written f at width value)) is.registers_are ∙ (ap (streams_settled before.registers) (sym new_is) ∙ sym done.registers));
        codecs_are = queues.0 ∙ sym codecs_is;
        waiting_is = queues.1 ∙ sym waiting_is;
        frames_are = subst (λ (n : ℕ). AreAlike n after.frames) (sym frames_is)
            (subst (AreAlike (if effects.reset || effects.left_reset then 0 else before.frames)) (sym queues.2) (anew_alike (effects.reset || effects.left_reset) before.frames world.frames is.frames_are));
        captured = record {
          given_is = sound_left.0 ∙ sym given_is;
          came_is = came_is ∙ (came_anew (rose before.registers.input new.input) before.input.came world.came is.captured.came_is
              ∙ sym (ap (λ (came : List Bool). min (length came) most_came) (sound_left.1 ∙ ap (λ (f : Fields). settled_came before.registers.input f.input world.came) (sym new_is))));
        };
        input_stands = subst (λ (state : StreamState). TakesFor input.playing second state)
            (sym (states.0 ∙ (ap (λ (f : Fields). settled_state f.input (written f at width value).input world.input) is.registers_are ∙ ap (λ (f : Fields). settled_state before.registers.input f.input world.input) (sym new_is))))
            done.input_stands;
        output_stands = subst (λ (state : StreamState). StandsFor output second state)
            (sym (states.1 ∙ (ap (λ (f : Fields). settled_state f.output (written f at width value).output world.output) is.registers_are ∙ ap (λ (f : Fields). settled_state before.registers.output f.output world.output) (sym new_is))))
            done.output_stands;
      }
