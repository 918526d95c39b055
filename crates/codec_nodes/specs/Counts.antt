-- The queue of a codec beside its counts.
use Rattle.std.specs.Prelude.{◌≡◌, ◌≤◌, ◌+◌, ℕ}
use Rattle.codec_graph.specs.declared.waiting.Waiting.{Waiting}
use Rattle.codec_graph.specs.CodecStates as codecs
use Rattle.circular_buffer.specs.Buffer.{Buffer}

-- a ring with room for all that can wait has so many answers and so many unsolicited responses
pub record IsCounted (ring : Buffer Waiting) (answers unsolicited : ℕ) : Type 0 where
  pub room : ring.capacity ≡ codecs.most_answers + codecs.most_unsolicited
  pub answers_are : answers ≡ codecs.answers ring.items
  pub unsolicited_are : unsolicited ≡ codecs.unsolicited ring.items
  pub answers_fit : answers ≤ codecs.most_answers
  pub unsolicited_fit : unsolicited ≤ codecs.most_unsolicited
