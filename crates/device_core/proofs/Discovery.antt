-- What the discovery of codecs leaves.
use Rattle.std.proofs.Common.{◌≡◌, List, [], ◌∷◌, refl}
use Rattle.codec_graph.specs.CodecStates.{CodecState}
use Rattle.hda_registers.specs.Fields.{Fields}
use Rattle.hda_registers.specs.Moves.{raised}
use Rattle.hda_registers.specs.declared.shapes.Raise.TheVariants as event
use Rattle.hda_world.specs.Steps.{discovered}

-- the bits of the state change status, and nothing else
pub discovered_leaves : (codecs : List CodecState) (fields : Fields)
    → discovered codecs fields ≡ record fields { global = record fields.global { state_status = (discovered codecs fields).global.state_status } }
discovered_leaves [] fields = refl
discovered_leaves (codec ∷ codecs) fields = discovered_leaves codecs (raised fields (event.Codec codec.graph.address))
