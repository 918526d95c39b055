-- Which codec a command is handed to.
use Rattle.std.proofs.Common.{◌≡◌, ◌<◌, ◌==◌, ℕ, Bool, true, false, List, length, Option, Some, None, if◌then◌else◌, refl, sym, subst}
use Rattle.std.specs.Prelude.{slice_get, IfSome}
use Rattle.std.proofs.lemmas.List.{length-map}
use Rattle.std.proofs.lemmas.Option.{slice_get_within}
use Rattle.codec_graph.specs.CodecStates.{CodecState, is_full}
use Rattle.hda_world.specs.Worlds.{with_codec}
use Rattle.hda_world.specs.Steps.{address_of}
use Rattle.device_core.specs.declared.codecs.Handed.{Handed}
use Rattle.device_core.specs.Codecs.{place_of, taken_by, taken_there, handed_by}

-- the codec that takes a command stands at its place, which is that of the command's address
pub record IsThere (codecs : List CodecState) (handed : Handed) : Type 0 where
  pub place : place_of (address_of handed.word) codecs ≡ Some handed.place
  pub within : handed.place < length codecs

module _ (codecs : List CodecState) (word place : ℕ) (found : place_of (address_of word) codecs ≡ Some place) where
  free_there : (full : Bool) (within : place < length codecs) → IfSome (if full then None else Some (record { place = place; word = word })) (IsThere codecs)
  free_there true within = tt
  free_there false within = record { place = found; within = within }

  codec_there : (codec : Option CodecState) → slice_get codecs place ≡ codec → IfSome (taken_by codec place word) (IsThere codecs)
  codec_there None is = tt
  codec_there (Some codec) is = free_there (is_full codec) (slice_get_within codecs place codec is)

place_there : (codecs : List CodecState) (word : ℕ) (place : Option ℕ) → place_of (address_of word) codecs ≡ place → IfSome (taken_there place codecs word) (IsThere codecs)
place_there codecs word None is = tt
place_there codecs word (Some place) is = codec_there codecs word place is (slice_get codecs place) refl

-- whatever is handed, stands there
pub handed_there : (next : Option ℕ) (codecs : List CodecState) → IfSome (handed_by next codecs) (IsThere codecs)
handed_there None codecs = tt
handed_there (Some word) codecs = place_there codecs word (place_of (address_of word) codecs) refl

pub length-with_codec : (address : ℕ) (change : CodecState → CodecState) (codecs : List CodecState) → length (with_codec address change codecs) ≡ length codecs
length-with_codec address change codecs = length-map codecs (λ codec. if codec.graph.address == address then change codec else codec)

within_by : (o : Option Handed) (codecs : List CodecState) (size : ℕ) → IfSome o (IsThere codecs) → length codecs ≡ size → IfSome o (λ handed. handed.place < size)
within_by None codecs size there is = tt
within_by (Some handed) codecs size there is = subst (λ (n : ℕ). handed.place < n) is there.within

-- its place is inside the codecs, also after the command was handed
pub handed_within : (o : Option Handed) (word : ℕ) (codecs after : List CodecState) → o ≡ handed_by (Some word) codecs → length after ≡ length codecs → IfSome o (λ handed. handed.place < length after)
handed_within o word codecs after is size =
    within_by o codecs (length after) (subst (λ (o : Option Handed). IfSome o (IsThere codecs)) (sym is) (handed_there (Some word) codecs)) (sym size)
