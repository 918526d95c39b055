-- The codecs of a device: their addresses, and which one takes the next command. High Definition Audio 1.0a, 4.4.1 and
-- 7.3; the queue of a codec that may be full is this project's own.
use Rattle.std.specs.Prelude.{◌≡◌, ◌≤◌, ◌^◌, ◌==◌, ℕ, bit_or, List, [], All, map, fold, Option, Some, None, slice_get}
use Rattle.std.specs.Prelude.{if◌then◌else◌}
use Rattle.std.specs.List.{position}
use Rattle.std.specs.List.Sorted.{IsStrictlyIncreasing}
use Rattle.codec_graph.specs.declared.raw.RawCodec.{RawCodec}
use Rattle.codec_graph.specs.Settings.{Entries}
use Rattle.codec_graph.specs.CodecStates.{CodecState, is_full, taken}
use Rattle.hda_registers.specs.Fields.{Fields}
use Rattle.world_rings.specs.Engines.{next_word}
use Rattle.hda_world.specs.Worlds.{with_codec}
use Rattle.hda_world.specs.Steps.{address_of}
use Rattle.device_core.specs.declared.codecs.Handed.{Handed}

-- ---- addresses

abbrev pub addresses_of : List CodecState → List ℕ
addresses_of codecs = map (λ codec. codec.graph.address) codecs

-- addresses that ascend, so each is there once, and are those of codecs on a link
pub record AreAddresses (addresses : List ℕ) : Type 0 where
  pub ascend : IsStrictlyIncreasing addresses
  pub few : All (λ address. address ≤ 14) addresses

-- the bits of the codecs' addresses, as in STATESTS
abbrev pub codec_bits : List CodecState → ℕ
codec_bits codecs = fold (λ bits codec. bit_or bits (2 ^ codec.graph.address)) 0 codecs

-- the place of the codec of this address, if there is one
abbrev pub place_of : ℕ → List CodecState → Option ℕ
place_of address codecs = position (λ codec. codec.graph.address == address) codecs

-- nothing waits at any of them
abbrev pub AreIdle : List CodecState → Type 0
AreIdle codecs = All (λ codec. codec.waiting ≡ []) codecs

-- ---- parts

-- the graphs and the settings, codec by codec
abbrev pub graphs_of_all : List CodecState → List RawCodec
graphs_of_all codecs = map (λ codec. codec.graph) codecs

abbrev pub settings_of_all : List CodecState → List Entries
settings_of_all codecs = map (λ codec. codec.settings) codecs

-- what is plugged in does not count here
pub record KeepCodecs (old new : List CodecState) : Type 0 where
  pub graphs : graphs_of_all new ≡ graphs_of_all old
  pub settings : settings_of_all new ≡ settings_of_all old

-- ---- the next command

-- the codec of this place takes the word, unless it is full
abbrev pub taken_by : Option CodecState → ℕ → ℕ → Option Handed
taken_by None place word = None
taken_by (Some codec) place word = if is_full codec then None else Some (record { place = place; word = word })

abbrev pub taken_there : Option ℕ → List CodecState → ℕ → Option Handed
taken_there None codecs word = None
taken_there (Some place) codecs word = taken_by (slice_get codecs place) place word

-- the codec of the address that the word names takes it
abbrev pub handed_by : Option ℕ → List CodecState → Option Handed
handed_by None codecs = None
handed_by (Some word) codecs = taken_there (place_of (address_of word) codecs) codecs word

-- the place of the codec that takes the next command of CORB, and the command
abbrev pub handed_now : Fields → List ℕ → List CodecState → Option Handed
handed_now fields memory codecs = handed_by (next_word fields memory) codecs

-- the codecs after a command that was handed to one of them, or not
abbrev pub with_handed : Option Handed → List CodecState → List CodecState
with_handed None codecs = codecs
with_handed (Some handed) codecs = with_codec (address_of handed.word) (λ codec. taken codec handed.word) codecs
