-- What the words ask of the program: this project's own.
use Rattle.std.specs.Prelude.{⊤, ℕ, ◌≤◌, List, [], ◌∷◌, Option, Some, None, find, option_map, option_and_then}
use Rattle.std.specs.Prelude.{slice_index, slice_get, unwrap_or}
use Rattle.std.specs.Str.{bytes_eq}
use Rattle.stream_format.specs.Cadence.{hertz}
use Rattle.stream_format.specs.declared.format.Bits.{Bits}
use Rattle.stream_format.specs.declared.format.Bits.TheVariants.{B16, B24, B32}
use Rattle.program_words.specs.Numbers.{number_in}
use Rattle.program_words.specs.Commands.{CommandGrammar, commands, made_numbers}
use Rattle.program_words.specs.Lines.{CommandLine, command_line_of}
use Rattle.program_words.specs.declared.table.CommandName.{CommandName}
use Rattle.program_words.specs.declared.table.CommandName.TheVariants.{Route, Walk, Play, Make, Spdif, Capture}
use Rattle.program_words.specs.declared.request.Request.{Request}
use Rattle.program_words.specs.declared.request.Request.TheVariants as request

-- a command with what its words say
pub data Asked : Type 0 where
  -- `route`: the name of the codec file, the blocks of a second, the bits of a sample, and the channels
  route : List ℕ → ℕ → ℕ → ℕ → Asked
  -- `walk`: the names of the codec file and of the schedule
  walk : List ℕ → List ℕ → Asked
  -- `play`: the names of the codec file, of the WAV file and of the schedule, the periods of the ring, and the units of
  -- a period
  play : List ℕ → List ℕ → List ℕ → ℕ → ℕ → Asked
  -- `make`: the number of which the input is made
  make : ℕ → Asked
  -- `spdif`: the same as `play`
  spdif : List ℕ → List ℕ → List ℕ → ℕ → ℕ → Asked
  -- `capture`: the same as `play`
  capture : List ℕ → List ℕ → List ℕ → ℕ → ℕ → Asked

-- the bits of a sample
abbrev pub bits_of : Bits → ℕ
bits_of B16 = 16
bits_of B24 = 24
bits_of B32 = 32

-- what a request of the program asks
abbrev pub asked_by : Request → Asked
asked_by (request.Route codec format) = route codec.now (hertz format.rate) (bits_of format.bits) format.channels
asked_by (request.Walk codec schedule) = walk codec.now schedule.now
asked_by (request.Play codec wav schedule periods period) = play codec.now wav.now schedule.now periods period
asked_by (request.Make number) = make number
asked_by (request.Spdif codec wav schedule periods period) = spdif codec.now wav.now schedule.now periods period
asked_by (request.Capture codec wav schedule periods period) = capture codec.now wav.now schedule.now periods period

-- the numbers of a ring as words can ask for them
pub record IsRingInRange (periods period : ℕ) : Type 0 where
  pub some_periods : 2 ≤ periods
  pub few_periods : periods ≤ 32
  pub some : 1 ≤ period
  pub few : period ≤ 128

-- the numbers of a request are as words can ask for them
abbrev pub IsInRange : Request → Type 0
IsInRange (request.Route codec format) = ⊤
IsInRange (request.Walk codec schedule) = ⊤
IsInRange (request.Play codec wav schedule periods period) = IsRingInRange periods period
IsInRange (request.Make number) = ⊤
IsInRange (request.Spdif codec wav schedule periods period) = IsRingInRange periods period
IsInRange (request.Capture codec wav schedule periods period) = IsRingInRange periods period

-- an operand of a line
abbrev pub operand_at : CommandLine → ℕ → List ℕ
operand_at line place = unwrap_or (slice_get line.operands place) []

-- what a command with this line asks: `route` has the rate, the channels and the bits of a sample, and the operand of
-- `make` is a number
abbrev pub asked_of : CommandName → CommandLine → Option Asked
asked_of Route line =
    Some (route (operand_at line 0) (slice_index line.numbers 0) (slice_index line.numbers 2)
    (slice_index line.numbers 1))
asked_of Walk line = Some (walk (operand_at line 0) (operand_at line 1))
asked_of Play line =
    Some (play (operand_at line 0) (operand_at line 1) (operand_at line 2) (slice_index line.numbers 0)
    (slice_index line.numbers 1))
asked_of Make line = option_map make (number_in made_numbers (operand_at line 0))
asked_of Spdif line =
    Some (spdif (operand_at line 0) (operand_at line 1) (operand_at line 2) (slice_index line.numbers 0)
    (slice_index line.numbers 1))
asked_of Capture line =
    Some (capture (operand_at line 0) (operand_at line 1) (operand_at line 2) (slice_index line.numbers 0)
    (slice_index line.numbers 1))

abbrev pub grammar_named : List ℕ → Option CommandGrammar
grammar_named name = find (λ grammar. bytes_eq grammar.name name) commands

abbrev pub asked_with : List (List ℕ) → CommandGrammar → Option Asked
asked_with rest grammar = option_and_then (asked_of grammar.command) (command_line_of grammar rest)

-- what the words after the program's name ask: the first is the name of a command, and those after it are a line of
-- that command
abbrev pub request_of : List (List ℕ) → Option Asked
request_of [] = None
request_of (name ∷ rest) = option_and_then (asked_with rest) (grammar_named name)
