-- What accesses leave of the output stream, and what nothing changes.
use Rattle.std.proofs.Common.{◌≡◌, true, List, [], ◌∷◌, refl, ap, ◌∙◌}
use Rattle.std.specs.Prelude.{ℕ, All}
use Rattle.std.proofs.lemmas.List.Elements.{All-head, All-tail}
use Rattle.hda_registers.specs.declared.shapes.Width.{Width}
use Rattle.hda_registers.specs.Fields.{Fields}
use Rattle.hda_registers.specs.Access.{written}
use Rattle.hda_world.specs.Worlds.{World}
use Rattle.hda_world.specs.Steps.{after_step}
use Rattle.hda_world.specs.Events.{Event, Stepped, Begin, End, Read, Write, DmaRead, DmaWrite, happens, after}
use Rattle.hda_world.specs.Leaving.{StepsLeave, StreamsStay}
use Rattle.hda_world.proofs.Callers.{steps_leave, beside_streams, access_leaves, write_registers, after-append, streams_same, streams_both}
use Rattle.rig.specs.Stretches.{is_access, stretch}
use Rattle.rig.specs.Follows.{AreAccesses}
use Rattle.laws_serving.proofs.Callers.{IsAccess, RanRound, rest_events, world_after, alone_is, stretch_is, ends_there, within_call}
use Rattle.laws_serving.proofs.SoundCallers.{IsBesideSound, rest_splits, body_leads, round_body}

-- ---- the stream

access_stands : (event : Event) (world : World) → is_access event ≡ true → IsBesideSound event → StreamsStay world (happens world event)
access_stands (Stepped step) world is beside = cc
access_stands Begin world is beside = cc
access_stands End world is beside = cc
access_stands (Read at width value) world is beside = streams_same world
access_stands (Write at width value) world is beside = beside_streams world at value width beside.0.control beside.1
access_stands (DmaRead at bytes) world is beside = streams_same world
access_stands (DmaWrite at bytes) world is beside = record { input_registers = refl; output_registers = refl; input = refl; output = refl; carried = refl; came = refl }

-- accesses beside the sound leave it as it is
pub accesses_stand : (accesses : List Event) (world : World) → AreAccesses accesses → All IsBesideSound accesses → StreamsStay world (after accesses world)
accesses_stand [] world are beside = streams_same world
accesses_stand (event ∷ accesses) world are beside =
    streams_both world (happens world event) (after accesses (happens world event))
    (access_stands event world (All-head IsAccess event accesses are) (All-head IsBesideSound event accesses beside))
    (accesses_stand accesses (happens world event) (All-tail IsAccess event accesses are) (All-tail IsBesideSound event accesses beside))

-- ---- what was carried

access_carries : (event : Event) (world : World) → is_access event ≡ true → (happens world event).carried ≡ world.carried
access_carries (Stepped step) world is = cc
access_carries Begin world is = cc
access_carries End world is = cc
access_carries (Read at width value) world is = refl
access_carries (Write at width value) world is = (access_leaves world at value width).carried
access_carries (DmaRead at bytes) world is = refl
access_carries (DmaWrite at bytes) world is = refl

-- no access carries anything
pub accesses_carry : (accesses : List Event) (world : World) → AreAccesses accesses → (after accesses world).carried ≡ world.carried
accesses_carry [] world are = refl
accesses_carry (event ∷ accesses) world are = accesses_carry accesses (happens world event) (All-tail IsAccess event accesses are) ∙ access_carries event world (All-head IsAccess event accesses are)

-- and so does no last call
pub closing_carries : (closing : List Event) (world : World) → AreAccesses closing → (after (stretch [] closing) world).carried ≡ world.carried
closing_carries closing world are =
    ap (λ (events : List Event). (after events world).carried) (stretch_is [] closing)
    ∙ ap (λ (now : World). now.carried) (ends_there (within_call [] closing) world)
    ∙ ap (λ (events : List Event). (after events world).carried) (alone_is closing)
    ∙ accesses_carry closing world are

-- ---- the journal from a round on

pub rest_on : (one : RanRound) (ran : List RanRound) (closing : List Event) (world : World) → after (rest_events (one ∷ ran) closing) world ≡ after (rest_events ran closing) (world_after one world)
rest_on one ran closing world =
    ap (λ (events : List Event). after events world) (rest_splits one ran closing)
    ∙ after-append (round_body one) (rest_events ran closing) world
    ∙ ap (after (rest_events ran closing)) (body_leads one world)

-- ---- the shape

-- what a law says of writes
abbrev pub KeepShapes : Type 0
KeepShapes = (fields : Fields) (at : ℕ) (width : Width) (value : ℕ) → (written fields at width value).shape ≡ fields.shape

event_shape : (shapes : KeepShapes) (event : Event) (world : World) → (happens world event).registers.shape ≡ world.registers.shape
event_shape shapes (Stepped one) world = let leaves : StepsLeave world (after_step one world) = steps_leave (one ∷ []) world in leaves.registers.shape
event_shape shapes Begin world = refl
event_shape shapes End world = refl
event_shape shapes (Read at width value) world = refl
event_shape shapes (Write at width value) world = ap (λ (fields : Fields). fields.shape) (write_registers world at value width) ∙ shapes world.registers at width value
event_shape shapes (DmaRead at bytes) world = refl
event_shape shapes (DmaWrite at bytes) world = refl

-- no event changes it
pub events_shape : (shapes : KeepShapes) (events : List Event) (world : World) → (after events world).registers.shape ≡ world.registers.shape
events_shape shapes [] world = refl
events_shape shapes (event ∷ events) world = events_shape shapes events (happens world event) ∙ event_shape shapes event world
