-- The words of `hda_import DUMP [--mend]`. This project's own.
use Rattle.std.specs.Prelude.{ℕ, Bool, true, false, ◌&&◌, List, [], ◌∷◌, Option, Some, None, if◌then◌else◌}
use Rattle.std.specs.Prelude.{bytes_eq}
use Rattle.std.specs.Prelude.{codes, is_some}
use Rattle.dump_reader.specs.Cuts.{begins_with}
use Rattle.dump_reader.specs.Numbers.{◌>>=◌}

-- what the words said so far: the dump's name, whether it is mended, and whether `--` stood there
pub record Said : Type 0 where
  pub name : Option (List ℕ)
  pub mends : Bool
  pub is_open : Bool

abbrev pub nothing_said : Said
nothing_said = record { name = None; mends = false; is_open = true }

-- the one operand
abbrev pub with_operand : Said → List ℕ → Option Said
with_operand said word = if is_some said.name then None else Some (record said { name = Some word })

-- One word more. Before the first `--` a word that begins with a hyphen is an option: `--mend`, once.
unfoldable pub with_word : Said → List ℕ → Option Said
with_word said word =
    if said.is_open && bytes_eq word (codes "--") then Some (record said { is_open = false }) else (
    if said.is_open && bytes_eq word (codes "--mend")
    then (if said.mends then None else Some (record said { mends = true })) else (
    if said.is_open && begins_with (codes "-") word then None else with_operand said word))

abbrev pub said_by : Said → List (List ℕ) → Option Said
said_by said [] = Some said
said_by said (word ∷ words) = do
  more ← with_word said word
  said_by more words

-- what the words ask for: the dump of this name, mended or not
pub record Asked : Type 0 where
  pub name : List ℕ
  pub mends : Bool

abbrev pub asked_with : Bool → Option (List ℕ) → Option Asked
asked_with mends None = None
asked_with mends (Some name) = Some (record { name = name; mends = mends })

unfoldable pub asked_of : List (List ℕ) → Option Asked
asked_of words = do
  said ← said_by nothing_said words
  asked_with said.mends said.name
