-- The table of what may follow each keyword. This project's own format.
use Rattle.std.specs.Prelude.{ℕ, List, [], ◌∷◌, Option, Some, None}
use Rattle.schedule_reader.specs.declared.keywords.Keyword.{Keyword}
use Rattle.schedule_reader.specs.declared.keywords.Keyword.TheVariants.{Corb, Answer, Lose, Rirb, Fetch, Link, Plug}
use Rattle.schedule_reader.specs.declared.keywords.Keyword.TheVariants.{Unplug, Run, Irq, Repeat, End}
use Rattle.schedule_reader.specs.Numbers.{◌>>=◌, number, nid_of}

-- what a word behind a keyword has to be
pub data Operand : Type 0 where
  -- a number of these bounds
  Number : (least : ℕ) (most : ℕ) → Operand
  -- a node identifier
  Nid : Operand

-- the address of a codec
abbrev pub codec : Operand
codec = Number 0 14

-- the greatest budget, that of 32 bits
abbrev pub most_budget : ℕ
most_budget = 4294967295

-- what follows each keyword on a line, up to the line's first bar
abbrev pub operands_of : Keyword → List Operand
operands_of Corb = []
operands_of Answer = codec ∷ []
operands_of Lose = codec ∷ []
operands_of Rirb = []
operands_of Fetch = Number 0 1 ∷ Number 1 65535 ∷ []
operands_of Link = Number 1 1000000 ∷ []
operands_of Plug = codec ∷ Nid ∷ []
operands_of Unplug = codec ∷ Nid ∷ []
operands_of Run = Number 0 most_budget ∷ []
operands_of Irq = Number 0 most_budget ∷ []
operands_of Repeat = Number 1 1000000 ∷ []
operands_of End = []

-- the value of a word, where it is what it has to be
abbrev pub value_of : Operand → List ℕ → Option ℕ
value_of (Number least most) word = number least most word
value_of Nid word = nid_of word

-- the values of the words, where they are as many as the operands and each is what it has to be
abbrev pub values_of : List Operand → List (List ℕ) → Option (List ℕ)
values_of [] [] = Some []
values_of (operand ∷ operands) (word ∷ texts) = do
  value ← value_of operand word
  values ← values_of operands texts
  Some (value ∷ values)
values_of [] (_ ∷ _) = None
values_of (_ ∷ _) [] = None
