-- What a codec gives of an item that waits.
use Rattle.std.specs.Prelude.{ℕ, Bool, true, false}
use Rattle.codec_graph.specs.declared.waiting.Waiting.{Waiting}
use Rattle.codec_graph.specs.declared.waiting.Waiting.TheVariants.{Answer, Unsolicited}

-- an item with the mark of an unsolicited response
abbrev pub marked : Waiting → ℕ × Bool
marked (Answer word) = (word, false)
marked (Unsolicited word) = (word, true)
