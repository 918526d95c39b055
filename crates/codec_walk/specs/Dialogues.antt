-- Dialogues: somebody asks a codec commands, each of which may hang on the answers before it, and at last can tell the
-- codec's words. This project's own.
use Rattle.std.specs.Prelude.{ℕ, List, [], ◌∷◌, Option, Some, None}
use Rattle.codec_graph.specs.declared.raw.RawCodec.{RawCodec}
use Rattle.verb_codes.specs.declared.verbs.Command.{Command}

-- what is still to come of a dialogue
pub data Dialogue : Type 0 where
  -- a command is asked; how it goes on follows from the answer
  Ask : (command : Command) → (rest : ℕ → Dialogue) → Dialogue
  -- nothing is asked any more: the codec has these words
  Told : (codec : RawCodec) → Dialogue

-- the command that is asked next
abbrev pub question : Dialogue → Option Command
question (Ask command rest) = Some command
question (Told codec) = None

-- the words that were told, once nothing is asked any more
abbrev pub told : Dialogue → Option RawCodec
told (Ask command rest) = None
told (Told codec) = Some codec

-- how it goes on after an answer
abbrev pub answered : Dialogue → ℕ → Dialogue
answered (Ask command rest) answer = rest answer
answered (Told codec) answer = Told codec

-- and after some answers
abbrev pub after : Dialogue → List ℕ → Dialogue
after dialogue [] = dialogue
after dialogue (answer ∷ answers) = after (answered dialogue answer) answers

abbrev pub with_question : Option Command → List Command → List Command
with_question None commands = commands
with_question (Some command) commands = command ∷ commands

-- the commands to which these were the answers
abbrev pub asked : Dialogue → List ℕ → List Command
asked dialogue [] = []
asked dialogue (answer ∷ answers) = with_question (question dialogue) (asked (answered dialogue answer) answers)
