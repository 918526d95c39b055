-- Nodes from which no connections through mixers and selectors alone lead into a cycle. This project's own.
use Rattle.std.specs.Prelude.{◌≡◌, ◌⊎◌, ℕ, Bool, List}
use Rattle.codec_graph.specs.declared.raw.RawCodec.{RawCodec}
use Rattle.codec_graph.specs.Cycles.{Reaches, IsOnCycle}
use Rattle.codec_graph.specs.Marks.{IsMarked}

-- neither the node nor any that it reaches is on a cycle
abbrev pub IsSafe : RawCodec → ℕ → Type 0
IsSafe codec nid = (to : ℕ) → (nid ≡ to) ⊎ Reaches codec nid to → IsOnCycle codec to → ⊥

abbrev pub AreSafe : RawCodec → List Bool → Type 0
AreSafe codec marks = (nid : ℕ) → IsMarked marks nid → IsSafe codec nid
