-- What the chunk `fmt ` says of the sound. Which of its fields are checked, in which order, and for what is this
-- project's own.
use Rattle.std.specs.Prelude.{ℕ, ◌*◌, ◌==◌, ◌&&◌, ◌||◌, nat_eq, nat_le, Bool, true, false, List, [], ◌∷◌, length, drop}
use Rattle.std.specs.Prelude.{Result, Ok, Err, Option, if◌then◌else◌}
use Rattle.std.specs.Option.{ok_or}
use Rattle.std.specs.List.{find, starts_with}
use Rattle.byteorder.specs.Endian.{little_number}
use Rattle.stream_format.specs.declared.format.Rate.{Rate}
use Rattle.stream_format.specs.declared.format.Rate.TheVariants.{R8, R16, R44, R48, R96, R192}
use Rattle.stream_format.specs.declared.format.Bits.{Bits}
use Rattle.stream_format.specs.declared.format.Bits.TheVariants.{B16, B24, B32}
use Rattle.stream_format.specs.Cadence.{hertz}
use Rattle.wav_reader.specs.declared.fault.WavFault.{WavFault}
use Rattle.wav_reader.specs.declared.fault.WavFault.TheVariants.{NoFormat, Tag, Channels, Rate as OtherRate}
use Rattle.wav_reader.specs.declared.fault.WavFault.TheVariants.{Bits as OtherBits}
use Rattle.wav_reader.specs.declared.fault.WavFault.TheVariants.{BlockAlign}
use Rattle.wav_reader.specs.declared.formats.ChannelCount.{ChannelCount}
use Rattle.wav_reader.specs.declared.formats.ChannelCount.TheVariants.{One, Two, Four, Six, Eight}
use Rattle.wav_reader.specs.declared.formats.Sound.{Sound}
use Rattle.wav_reader.specs.declared.formats.Fields.{Fields}

infixl 10 ◌>>=◌
-- one step after another: the first fault counts
abbrev pub ◌>>=◌ : {A B : Type 0} → Result A WavFault → (A → Result B WavFault) → Result B WavFault
(Ok x) >>= next = next x
(Err fault) >>= next = Err fault

-- go on where the test holds, else the fault
abbrev pub checked : Bool → WavFault → Result Bool WavFault
checked true fault = Ok true
checked false fault = Err fault

-- the rate with so many frames a second
abbrev pub rate_with : ℕ → Option Rate
rate_with frames = find (λ rate. hertz rate == frames) (R8 ∷ R16 ∷ R44 ∷ R48 ∷ R96 ∷ R192 ∷ [])

-- how many channels a file can have
abbrev pub channels_in : ChannelCount → ℕ
channels_in One = 1
channels_in Two = 2
channels_in Four = 4
channels_in Six = 6
channels_in Eight = 8

-- the one of these that is so many
abbrev pub channels_with : ℕ → Option ChannelCount
channels_with number = find (λ channels. channels_in channels == number) (One ∷ Two ∷ Four ∷ Six ∷ Eight ∷ [])

-- the bytes of a sample in the file
abbrev pub sample_length : Bits → ℕ
sample_length B16 = 2
sample_length B24 = 3
sample_length B32 = 4

-- the sample size with so many bits
abbrev pub bits_with : ℕ → Option Bits
bits_with number = find (λ bits. 8 * sample_length bits == number) (B16 ∷ B24 ∷ B32 ∷ [])

-- the tag of samples that are whole numbers, and that of the extensible form, in which the subformat says what they are
abbrev pub pcm_tag : ℕ
pcm_tag = 1

abbrev pub extensible_tag : ℕ
extensible_tag = 0xFFFE

-- the subformat of samples that are whole numbers
abbrev pub pcm_subformat : List ℕ
pcm_subformat =
    0x01 ∷ 0x00 ∷ 0x00 ∷ 0x00 ∷ 0x00 ∷ 0x00 ∷ 0x10 ∷ 0x00 ∷ 0x80 ∷ 0x00 ∷ 0x00 ∷ 0xAA ∷ 0x00 ∷ 0x38 ∷ 0x9B ∷ 0x71 ∷ []

-- it stands in its place of a body
abbrev pub has_pcm_subformat : List ℕ → Bool
has_pcm_subformat body = starts_with nat_eq (drop 24 body) pcm_subformat

-- the fields of a body: their places in it. The bytes a second, at place 8, are not looked at, and of the extensible
-- form neither are the bytes from place 16 on to the subformat
abbrev pub fields_of : List ℕ → Fields
fields_of body = record {
  tag = little_number 2 body;
  channels = little_number 2 (drop 2 body);
  hertz = little_number 4 (drop 4 body);
  block = little_number 2 (drop 12 body);
  bits = little_number 2 (drop 14 body);
  has_pcm_subformat = has_pcm_subformat body;
}

-- the samples are whole numbers, by the tag or by the subformat
abbrev pub is_pcm : Fields → Bool
is_pcm fields = fields.tag == pcm_tag || (fields.tag == extensible_tag && fields.has_pcm_subformat)

-- the sound that the fields describe, or their first fault
abbrev pub sound_with : Fields → Result Sound WavFault
sound_with fields = do
  _ ← checked (is_pcm fields) (Tag fields.tag)
  channels ← ok_or (channels_with fields.channels) (Channels fields.channels)
  rate ← ok_or (rate_with fields.hertz) (OtherRate fields.hertz)
  bits ← ok_or (bits_with fields.bits) (OtherBits fields.bits)
  _ ← checked (fields.block == channels_in channels * sample_length bits) BlockAlign
  Ok (record { rate = rate; bits = bits; channels = channels })

-- how many bytes a body with this tag has at least
abbrev pub least_length : ℕ → ℕ
least_length tag = if tag == extensible_tag then 40 else 16

-- what a body says, or its first fault
unfoldable pub sound_of : List ℕ → Result Sound WavFault
sound_of body = do
  _ ← checked (nat_le (least_length (fields_of body).tag) (length body)) NoFormat
  sound_with (fields_of body)
