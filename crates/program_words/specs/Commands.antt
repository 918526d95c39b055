-- The program's commands, with their operands and options: this project's own.
use Rattle.std.specs.Prelude.{ℕ, List, [], ◌∷◌, codes, map}
use Rattle.program_words.specs.Numbers.{Numbers, listed, between}
use Rattle.program_words.specs.declared.table.CommandName.{CommandName}
use Rattle.program_words.specs.declared.table.CommandName.TheVariants.{Route, Walk, Play, Make, Spdif, Capture}

-- an option `--name`, the numbers that it takes, and that which stands for it where it isn't given
pub record OptionGrammar : Type 0 where
  pub name : List ℕ
  pub numbers : Numbers
  pub default : ℕ

-- a command, its first word, how many operands it has, and its options
pub record CommandGrammar : Type 0 where
  pub command : CommandName
  pub name : List ℕ
  pub operands : ℕ
  pub options : List OptionGrammar

abbrev pub option_names : CommandGrammar → List (List ℕ)
option_names grammar = map (λ option. option.name) grammar.options

abbrev pub rate_option : OptionGrammar
rate_option = record {
  name = codes "rate";
  numbers = listed (8000 ∷ 16000 ∷ 44100 ∷ 48000 ∷ 96000 ∷ 192000 ∷ []);
  default = 48000;
}

abbrev pub channels_option : OptionGrammar
channels_option = record {
  name = codes "channels";
  numbers = listed (2 ∷ 4 ∷ 6 ∷ 8 ∷ []);
  default = 2;
}

-- the bits of a sample
abbrev pub bits_option : OptionGrammar
bits_option = record {
  name = codes "bits";
  numbers = listed (16 ∷ 24 ∷ 32 ∷ []);
  default = 16;
}

-- `route CODEC [--rate R] [--channels C] [--bits B]`
abbrev pub route_grammar : CommandGrammar
route_grammar = record {
  command = Route;
  name = codes "route";
  operands = 1;
  options = rate_option ∷ channels_option ∷ bits_option ∷ [];
}

-- `walk CODEC SCHEDULE`
abbrev pub walk_grammar : CommandGrammar
walk_grammar = record { command = Walk; name = codes "walk"; operands = 2; options = [] }

-- the periods of a ring of sound
abbrev pub periods_option : OptionGrammar
periods_option = record { name = codes "periods"; numbers = between 2 32; default = 4 }

-- the units of a period
abbrev pub period_option : OptionGrammar
period_option = record { name = codes "period"; numbers = between 1 128; default = 8 }

-- `play CODEC WAV SCHEDULE [--periods K] [--period M]`
abbrev pub play_grammar : CommandGrammar
play_grammar = record {
  command = Play;
  name = codes "play";
  operands = 3;
  options = periods_option ∷ period_option ∷ [];
}

-- `make N`
abbrev pub make_grammar : CommandGrammar
make_grammar = record { command = Make; name = codes "make"; operands = 1; options = [] }

-- `spdif CODEC WAV SCHEDULE [--periods K] [--period M]`
abbrev pub spdif_grammar : CommandGrammar
spdif_grammar = record {
  command = Spdif;
  name = codes "spdif";
  operands = 3;
  options = periods_option ∷ period_option ∷ [];
}

-- `capture CODEC WAV SCHEDULE [--periods K] [--period M]`
abbrev pub capture_grammar : CommandGrammar
capture_grammar = record {
  command = Capture;
  name = codes "capture";
  operands = 3;
  options = periods_option ∷ period_option ∷ [];
}

-- the numbers of which an input is made
abbrev pub made_numbers : Numbers
made_numbers = between 0 65535

-- all commands of the program
abbrev pub commands : List CommandGrammar
commands = route_grammar ∷ walk_grammar ∷ play_grammar ∷ make_grammar ∷ spdif_grammar ∷ capture_grammar ∷ []
