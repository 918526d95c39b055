-- How far the driver has read is kept by every move of the device.
use Rattle.std.proofs.Common.{◌≡◌, ◌<◌, ◌+◌, ◌==◌, ℕ, Bool, true, false, List, [], ◌∷◌, ◌++◌, length, min, if◌then◌else◌, refl, sym, ap, subst, ◌∙◌, arith, lit<, length-append}
use Rattle.std.proofs.lemmas.List.{length-take}
use Rattle.codec_graph.specs.CodecStates.{CodecState}
use Rattle.hda_registers.specs.declared.shapes.RingSize.{RingSize}
use Rattle.hda_registers.specs.declared.shapes.RingSize.TheVariants.{Two, Sixteen, Full}
use Rattle.hda_registers.specs.declared.shapes.Raise.TheVariants as event
use Rattle.hda_registers.specs.Fields.{Fields, entries_of, is_out_of_reset}
use Rattle.hda_registers.specs.Moves.{framed, raised}
use Rattle.world_rings.specs.declared.response.Response.{Response}
use Rattle.world_rings.specs.Engines.{can_respond, batch_of, batch}
use Rattle.world_steps.specs.declared.Step.{Step}
use Rattle.world_rings.proofs.Callers.{shape_responded, flag_clear}
use Rattle.hda_world.specs.declared.step.TheConstants.{FRAMES_TO_DISCOVERY}
use Rattle.hda_world.specs.Worlds.{World}
use Rattle.hda_world.specs.Steps.{discovered, passed, after_steps}
use Rattle.hda_world.specs.Kept.{Kept}
use Rattle.hda_world.specs.Unread.{IsReadTo, HasReadTo}
use Rattle.hda_world.proofs.Inputs.{by_moves}
use Rattle.hda_world.proofs.Stepping.{batch_some, kept_steps, frames_after}

some_entries : (size : RingSize) → 1 < entries_of size
some_entries Two = lit< tt
some_entries Sixteen = lit< tt
some_entries Full = lit< tt

flag-discovered : (codecs : List CodecState) (fields : Fields) → (discovered codecs fields).global.response_flag ≡ fields.global.response_flag
flag-discovered [] fields = refl
flag-discovered (codec ∷ codecs) fields = flag-discovered codecs (raised fields (event.Codec codec.graph.address))

flag-frame : (now : Bool) (codecs : List CodecState) (fields : Fields) → (if now then discovered codecs fields else fields).global.response_flag ≡ fields.global.response_flag
flag-frame true codecs fields = flag-discovered codecs fields
flag-frame false codecs fields = refl

batch_small : (fields : Fields) (waiting responses : List Response) → can_respond fields ≡ true → batch fields waiting ≡ responses → length responses < entries_of fields.shape.rirb
batch_small fields waiting responses can are =
    let some = some_entries fields.shape.rirb in
    let long : length responses ≡ min (batch_of fields) (length waiting) = ap length (sym are ∙ batch_some fields waiting can) ∙ length-take (batch_of fields) waiting in
    omega (arith, long)

read_on : (read : ℕ) (world : World) (responses : List Response) → HasReadTo read world → (world.registers.global.response_flag == 1) ≡ false
    → length responses < entries_of world.registers.shape.rirb → IsReadTo read (length (world.written ++ responses)) 1 (entries_of world.registers.shape.rirb)
read_on read world responses holds clear small =
    let all = holds.all clear in
    let long = length-append world.written responses in
    record { all = λ set. cc; within = omega (arith, long); few = omega (arith, long) }

passed_reading : (read : ℕ) (world : World) → HasReadTo read world → is_out_of_reset world.registers.global ≡ true → HasReadTo read (passed world)
passed_reading read world holds out =
    let same = flag-frame (world.frames + 1 == FRAMES_TO_DISCOVERY) world.codecs (framed world.registers) in
    rw same holds

pub keeps_reading : (read : ℕ) → Kept (HasReadTo read)
keeps_reading read = record {
  codecs = record {
    hands = λ world holds can free. holds;
    sends = λ world address item rest holds out room are. holds;
    loses = λ world address holds out. holds;
    plugs = λ world address nid present holds. holds;
  };
  responds = λ world response rest holds can are. (
      let size = shape_responded (response ∷ rest) world.registers in
      subst (λ shape. IsReadTo read (length (world.written ++ response ∷ rest)) 1 (entries_of shape.rirb)) (sym size)
      (read_on read world (response ∷ rest) holds (flag_clear world.registers can) (batch_small world.registers world.waiting (response ∷ rest) can are)));
  bytes = record {
    comes = λ world holds can room good is. holds;
    ends = λ world holds can room good is. holds;
    breaks = λ world holds can room bad. holds;
    refuses = λ world holds must. holds;
  };
  input = by_moves (HasReadTo read) (λ world change holds moves. holds);
  passes = λ world holds out still. passed_reading read world holds out;
  frames = frames_after (HasReadTo read) (passed_reading read) (record {
    gaps = λ world holds can none. holds;
    sends = λ world holds can some enough. holds;
    misses = λ world holds can short. holds;
    stops = λ world holds must. holds;
  });
}

pub steps_keep_reading : (read : ℕ) (steps : List Step) (world : World) → HasReadTo read world → HasReadTo read (after_steps steps world)
steps_keep_reading read steps world holds = kept_steps (HasReadTo read) (keeps_reading read) steps world holds
