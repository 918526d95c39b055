-- That the device goes where the world goes: what waits, and what is plugged in.
use Rattle.std.proofs.Common.{◌≡◌, ◌++◌, ℕ, Bool, true, false, List, [], ◌∷◌, if◌then◌else◌, Option, Some, None, sym, ap, subst, ◌∙◌}
use Rattle.std.specs.Prelude.{slice_get}
use Rattle.std.specs.Option.{option_map, unwrap_or}
use Rattle.codec_graph.specs.declared.waiting.Waiting.{Waiting}
use Rattle.codec_graph.specs.CodecStates.{CodecState, plugged, without_first, without_answer}
use Rattle.codec_nodes.specs.Queues.{marked}
use Rattle.hda_registers.specs.Fields.{Fields, is_out_of_reset}
use Rattle.world_rings.specs.declared.response.Response.{Response}
use Rattle.hda_world.specs.Worlds.{World, codec_at, with_codec}
use Rattle.hda_world.specs.Steps.{waiting_of, sent_first, answer_step, responses_of, lost, lose_step, plugged_at}
use Rattle.device_core.specs.Codecs.{KeepCodecs, addresses_of}
use Rattle.device_core.specs.Devices.{DeviceState, IsWorld, can_receive_now}
use Rattle.device_core.specs.Keeping.{IsDevice}
use Rattle.device_core.specs.Codecs.{AreAddresses}
use Rattle.device_core.proofs.Takers.{source-kept}

-- codecs and what waits became others, and nothing else
pub with_queues : (memory : List ℕ) (old : DeviceState) (world : World) (codecs there : List CodecState) (waiting queue : List Response) → IsWorld memory old world
    → there ≡ codecs → queue ≡ waiting
    → IsWorld memory (record old { codecs = codecs; waiting = waiting }) (record world { codecs = there; waiting = queue })
with_queues memory old world codecs there waiting queue is same_codecs same_waiting = record {
  memory_is = is.memory_is;
  registers_are = is.registers_are;
  codecs_are = same_codecs;
  waiting_is = same_waiting;
  frames_are = is.frames_are;
  captured = record { given_is = is.captured.given_is; came_is = is.captured.came_is };
  input_stands = is.input_stands;
  output_stands = is.output_stands;
}

pub keeps_queues : (old : DeviceState) (codecs : List CodecState) (waiting : List Response) → IsDevice old → addresses_of codecs ≡ addresses_of old.codecs → KeepCodecs old.codecs codecs
    → IsDevice (record old { codecs = codecs; waiting = waiting })
keeps_queues old codecs waiting keeps same parts = record {
  held = keeps.held;
  addresses = subst AreAddresses (sym same) keeps.addresses;
  input_index = keeps.input_index;
  output_index = keeps.output_index;
  came_fits = keeps.came_fits;
  source_is = source-kept old.input.source old.codecs codecs parts keeps.source_is;
  input_stands = keeps.input_stands;
  output_stands = keeps.output_stands;
}

module _ (memory : List ℕ) (old : DeviceState) (world : World) (is : IsWorld memory old world) where
  abbrev After : DeviceState → World → Type 0
  After device after = IsWorld memory device after

  out_same : is_out_of_reset world.registers.global ≡ is_out_of_reset old.registers.global
  out_same = ap (λ (f : Fields). is_out_of_reset f.global) is.registers_are

  receive_same : can_receive_now world.registers world.waiting ≡ can_receive_now old.registers old.waiting
  receive_same = ap (λ (f : Fields). can_receive_now f world.waiting) is.registers_are ∙ ap (λ (w : List Response). can_receive_now old.registers w) is.waiting_is

  -- ---- answer

  pub answer_refused : (address : ℕ) → can_receive_now old.registers old.waiting ≡ false → IsWorld memory old (answer_step address world)
  answer_refused address no_room = subst (λ (t : Bool). IsWorld memory old (if t then sent_first address (waiting_of (codec_at address world.codecs)) world else world)) (sym (receive_same ∙ no_room)) is

  first_same : (address : ℕ) → option_map marked (slice_get (waiting_of (codec_at address world.codecs)) 0) ≡ option_map marked (slice_get (waiting_of (codec_at address old.codecs)) 0)
  first_same address = ap (λ (codecs : List CodecState). option_map marked (slice_get (waiting_of (codec_at address codecs)) 0)) is.codecs_are

  nothing_sent : (address : ℕ) (items : List Waiting) → option_map marked (slice_get items 0) ≡ None → IsWorld memory old (sent_first address items world)
  nothing_sent address [] none = is
  nothing_sent address (item ∷ items) none = (let never : Some (marked item) ≡ None = none in cc)

  pub answer_none : (address : ℕ) → can_receive_now old.registers old.waiting ≡ true → option_map marked (slice_get (waiting_of (codec_at address old.codecs)) 0) ≡ None
      → IsWorld memory old (answer_step address world)
  answer_none address room none =
      subst (λ (t : Bool). IsWorld memory old (if t then sent_first address (waiting_of (codec_at address world.codecs)) world else world)) (sym (receive_same ∙ room))
      (nothing_sent address (waiting_of (codec_at address world.codecs)) (first_same address ∙ none))

  module _ (address : ℕ) (codecs : List CodecState) (waiting : List Response) (answer : ℕ) (unasked : Bool) (codecs_are : codecs ≡ with_codec address without_first old.codecs)
      (waiting_is : (item : Waiting) → marked item ≡ (answer, unasked) → waiting ≡ old.waiting ++ responses_of old.registers address item) where
    abbrev sender : DeviceState
    sender = record old { codecs = codecs; waiting = waiting }

    first_sent : (items : List Waiting) → option_map marked (slice_get items 0) ≡ Some (answer, unasked) → IsWorld memory sender (sent_first address items world)
    first_sent [] some = cc
    first_sent (item ∷ items) some =
        let first : marked item ≡ (answer, unasked) = ap (λ (o : Option (ℕ × Bool)). unwrap_or o (0, false)) some in
        with_queues memory old world codecs (with_codec address without_first world.codecs) waiting (world.waiting ++ responses_of world.registers address item) is
        (ap (with_codec address without_first) is.codecs_are ∙ sym codecs_are)
        (ap (λ (w : List Response). w ++ responses_of world.registers address item) is.waiting_is ∙ (ap (λ (f : Fields). old.waiting ++ responses_of f address item) is.registers_are ∙ sym (waiting_is item first)))

    pub answer_sent : can_receive_now old.registers old.waiting ≡ true → option_map marked (slice_get (waiting_of (codec_at address old.codecs)) 0) ≡ Some (answer, unasked)
        → IsWorld memory sender (answer_step address world)
    answer_sent room some =
        subst (λ (t : Bool). IsWorld memory sender (if t then sent_first address (waiting_of (codec_at address world.codecs)) world else world)) (sym (receive_same ∙ room))
        (first_sent (waiting_of (codec_at address world.codecs)) (first_same address ∙ some))

  -- ---- lose, plug

  pub lose_refused : (address : ℕ) → is_out_of_reset old.registers.global ≡ false → IsWorld memory old (lose_step address world)
  lose_refused address off = subst (λ (t : Bool). IsWorld memory old (if t then lost address world else world)) (sym (out_same ∙ off)) is

  pub lose_lost : (address : ℕ) (codecs : List CodecState) → is_out_of_reset old.registers.global ≡ true → codecs ≡ with_codec address without_answer old.codecs
      → IsWorld memory (record old { codecs = codecs }) (lose_step address world)
  lose_lost address codecs on codecs_are = subst (λ (t : Bool). IsWorld memory (record old { codecs = codecs }) (if t then lost address world else world)) (sym (out_same ∙ on))
      (with_queues memory old world codecs (with_codec address without_answer world.codecs) old.waiting world.waiting is (ap (with_codec address without_answer) is.codecs_are ∙ sym codecs_are) is.waiting_is)

  pub plug_plugged : (address nid : ℕ) (present : Bool) (codecs : List CodecState) → codecs ≡ with_codec address (λ codec. plugged codec nid present) old.codecs
      → IsWorld memory (record old { codecs = codecs }) (plugged_at address nid present world)
  plug_plugged address nid present codecs codecs_are =
      with_queues memory old world codecs (with_codec address (λ codec. plugged codec nid present) world.codecs) old.waiting world.waiting is (ap (with_codec address (λ codec. plugged codec nid present)) is.codecs_are ∙ sym codecs_are) is.waiting_is
