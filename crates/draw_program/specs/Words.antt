-- The words of `hda_draw`. This project's own.
use Rattle.std.specs.Prelude.{ℕ, List, [], ◌∷◌, ◌++◌, Option, Some, None, codes, if◌then◌else◌}
use Rattle.std.specs.Str.{bytes_eq}

-- the command of `hda_play` with the same files: of `codec` and of `run`
abbrev pub command_of : List ℕ → Option (List ℕ)
command_of word =
    if bytes_eq word (codes "codec") then Some (codes "route")
    else (if bytes_eq word (codes "run") then Some (codes "play") else None)

-- words behind a command, where there is one
abbrev pub behind : Option (List ℕ) → List (List ℕ) → List (List ℕ)
behind None words = []
behind (Some command) words = command ∷ words

-- the words with which `hda_play` reads the same files, and none where the first is neither
abbrev pub played_words : List (List ℕ) → List (List ℕ)
played_words [] = []
played_words (word ∷ rest) = behind (command_of word) rest

-- the line for words that ask for no picture
abbrev pub usage_line : List ℕ
usage_line =
    codes "usage: hda_draw codec CODEC [--rate R] [--channels C]"
    ++ codes " | run CODEC WAV SCHEDULE [--periods K] [--period M]\n"
