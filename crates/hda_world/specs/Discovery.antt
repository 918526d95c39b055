-- That the codecs are discovered: each codec's bit of STATESTS is 1. High Definition Audio 1.0a, 4.3 and 3.3.9; the
-- frame in which they are is this project's own.
use Rattle.std.specs.Prelude.{◌≡◌, ◌≤◌, ℕ, List, map, All}
use Rattle.std.specs.Int.{bit_at}
use Rattle.codec_graph.specs.CodecStates.{CodecState}
use Rattle.hda_world.specs.declared.step.TheConstants.{FRAMES_TO_DISCOVERY}
use Rattle.hda_world.specs.Worlds.{World}

abbrev pub addresses_of : List CodecState → List ℕ
addresses_of codecs = map (λ codec. codec.graph.address) codecs

-- these bits of the state change status are 1
abbrev pub AreSet : ℕ → List ℕ → Type 0
AreSet status addresses = All (λ address. bit_at status address ≡ 1) addresses

-- from the frame of the discovery on each codec's bit is 1, until a driver clears it
abbrev pub IsDiscovered : World → Type 0
IsDiscovered world = FRAMES_TO_DISCOVERY ≤ world.frames
    → AreSet world.registers.global.state_status (addresses_of world.codecs)
