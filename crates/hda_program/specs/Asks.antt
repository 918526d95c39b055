-- What the words ask for, and which files they name. This project's own.
use Rattle.std.specs.Prelude.{◌≡◌, ℕ, List, [], ◌∷◌, Option, Some, None, Contains, option_and_then}
use Rattle.stream_format.specs.declared.format.Format.{Format}
use Rattle.stream_format.specs.Cadence.{hertz}
use Rattle.codec_graph.specs.declared.pin_kind.PinKind.{PinKind}
use Rattle.codec_graph.specs.declared.pin_kind.PinKind.TheVariants.{Analog, Digital}
use Rattle.program_words.specs.Asked.{Asked, route, walk, play, make, spdif, capture, bits_of, request_of}

-- the words are those of no command
abbrev pub IsNoCommand : List (List ℕ) → Type 0
IsNoCommand words = request_of words ≡ None

-- the words ask for the routes of the codec file of this name, for this format
abbrev pub IsRouteOf : List (List ℕ) → List ℕ → Format → Type 0
IsRouteOf words name format =
    request_of words ≡ Some (route name (hertz format.rate) (bits_of format.bits) format.channels)

-- the words ask for a walk over the codecs of the first file, by the schedule of the second
abbrev pub IsWalkOf : List (List ℕ) → List ℕ → List ℕ → Type 0
IsWalkOf words codec schedule = request_of words ≡ Some (walk codec schedule)

-- the words ask for the sound of the second file, through the codecs of the first, by the schedule of the third, and a
-- ring of these numbers
abbrev pub IsPlayOf : List (List ℕ) → (codec wav schedule : List ℕ) → (periods period : ℕ) → Type 0
IsPlayOf words codec wav schedule periods period = request_of words ≡ Some (play codec wav schedule periods period)

-- the same of `spdif`
abbrev pub IsSpdifOf : List (List ℕ) → (codec wav schedule : List ℕ) → (periods period : ℕ) → Type 0
IsSpdifOf words codec wav schedule periods period = request_of words ≡ Some (spdif codec wav schedule periods period)

-- the words ask for a capture of the sound of the second file, through the input of the codecs of the first, by the
-- schedule of the third, and a ring of these numbers
abbrev pub IsCaptureOf : List (List ℕ) → (codec wav schedule : List ℕ) → (periods period : ℕ) → Type 0
IsCaptureOf words codec wav schedule periods period =
    request_of words ≡ Some (capture codec wav schedule periods period)

-- the command that plays through pins of a kind
abbrev pub sound_asked : PinKind → (codec wav schedule : List ℕ) → (periods period : ℕ) → Asked
sound_asked Analog codec wav schedule periods period = play codec wav schedule periods period
sound_asked Digital codec wav schedule periods period = spdif codec wav schedule periods period

-- the words ask for a sound through pins of the kind: with `play` through analog ones, and with `spdif` through digital
-- ones
abbrev pub IsSoundOf : PinKind → List (List ℕ) → (codec wav schedule : List ℕ) → (periods period : ℕ) → Type 0
IsSoundOf kind words codec wav schedule periods period =
    request_of words ≡ Some (sound_asked kind codec wav schedule periods period)

-- the names of the files that are asked for
abbrev pub files_of : Asked → List (List ℕ)
files_of (route codec rate bits channels) = codec ∷ []
files_of (walk codec schedule) = codec ∷ schedule ∷ []
files_of (play codec wav schedule periods period) = codec ∷ wav ∷ schedule ∷ []
files_of (make number) = []
files_of (spdif codec wav schedule periods period) = codec ∷ wav ∷ schedule ∷ []
files_of (capture codec wav schedule periods period) = codec ∷ wav ∷ schedule ∷ []

abbrev pub files_asked : Option Asked → List (List ℕ)
files_asked None = []
files_asked (Some asked) = files_of asked

-- the words name a file
abbrev pub Names : List (List ℕ) → List ℕ → Type 0
Names words name = Contains (files_asked (request_of words)) name

-- how often a shelf was asked under a name changes for the files that the words name alone
abbrev pub AsksForItsFiles : List (List ℕ) → (List ℕ → ℕ) → (List ℕ → ℕ) → Type 0
AsksForItsFiles words before after = (name : List ℕ) → (Names words name → ⊥) → after name ≡ before name

-- the name of the codec file, where they name one
abbrev pub codec_of : Asked → Option (List ℕ)
codec_of (route codec rate bits channels) = Some codec
codec_of (walk codec schedule) = Some codec
codec_of (play codec wav schedule periods period) = Some codec
codec_of (make number) = None
codec_of (spdif codec wav schedule periods period) = Some codec
codec_of (capture codec wav schedule periods period) = Some codec

-- the words name a codec file
abbrev pub NamesCodecFile : List (List ℕ) → List ℕ → Type 0
NamesCodecFile words name = option_and_then codec_of (request_of words) ≡ Some name
