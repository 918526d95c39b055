-- The words of the program as its code holds them, seen as what they say.
use Rattle.std.specs.Prelude.{ℕ, List}
use Rattle.std.specs.Option.{option_map}
use Rattle.std.specs.Borrow.{Bor}
use Rattle.codec_dump.specs.declared.words.Said.{Said as HeldSaid}
use Rattle.codec_dump.specs.declared.words.Asked.{Asked as HeldAsked}
use Rattle.codec_dump.specs.Words.{Said, Asked}

-- the text behind a reference
abbrev pub text_of : Bor (List ℕ) → List ℕ
text_of text = text.now

abbrev pub said_seen : HeldSaid → Said
said_seen said = record { name = option_map text_of said.name; mends = said.is_mended; is_open = said.is_open }

abbrev pub asked_seen : HeldAsked → Asked
asked_seen asked = record { name = asked.name.now; mends = asked.is_mended }
