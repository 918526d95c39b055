-- Commands as 32-bit words. Format of a command: High Definition Audio 1.0a, 7.3; verbs: 7.3.3.
-- That codec 15 and node identifiers above 7Fh name nothing is this project's own.
use Rattle.std.specs.Prelude.{◌≤◌, ◌+◌, ◌*◌, ◌/◌, ◌%◌, ◌^◌, ℕ, Bool, true, ◌==◌, ◌&&◌, List, [], ◌∷◌, Option, None}
use Rattle.std.specs.Prelude.{if◌then◌else◌, IsTrue, nat_lt, nat_le, bit_and, find}
use Rattle.std.specs.Option.{option_map}
use Rattle.verb_codes.specs.declared.verbs.Command.{Command}
use Rattle.verb_codes.specs.declared.verbs.Verb.{Verb}
use Rattle.verb_codes.specs.declared.verbs.Verb.TheVariants.{GetParam, GetSelect, SetSelect, GetList, GetPower}
use Rattle.verb_codes.specs.declared.verbs.Verb.TheVariants.{SetPower, GetStream, SetStream, GetPin, SetPin, GetUnsol}
use Rattle.verb_codes.specs.declared.verbs.Verb.TheVariants.{SetUnsol, GetSense, GetEapd, SetEapd, GetDigital}
use Rattle.verb_codes.specs.declared.verbs.Verb.TheVariants.{SetDigital, GetDefault, SetDefault, GetFormat, SetFormat}
use Rattle.verb_codes.specs.declared.verbs.Verb.TheVariants.{GetAmp, SetAmp}

-- one row of the table of verbs: the code above `width` bits of payload
pub record Row : Type 0 where
  pub code : ℕ
  pub width : ℕ
  pub payload : ℕ

-- a 12-bit code with 8 bits of payload, and a 4-bit code with 16
abbrev pub short : ℕ → ℕ → Row
short code payload = record { code = code; width = 8; payload = payload }

abbrev pub long : ℕ → ℕ → Row
long code payload = record { code = code; width = 16; payload = payload }

-- the table of verbs; a get verb without an argument has payload 0
abbrev pub row_of : Verb → Row
-- Get Parameter (7.3.3.1)
row_of (GetParam number) = short 0xF00 number
-- Connection Select Control (7.3.3.2)
row_of GetSelect = short 0xF01 0
row_of (SetSelect place) = short 0x701 place
-- Connection List Entry Control (7.3.3.3)
row_of (GetList place) = short 0xF02 place
-- Power State (7.3.3.10)
row_of GetPower = short 0xF05 0
row_of (SetPower state) = short 0x705 state
-- Converter Stream, Channel (7.3.3.11)
row_of GetStream = short 0xF06 0
row_of (SetStream stream) = short 0x706 stream
-- Pin Widget Control (7.3.3.13)
row_of GetPin = short 0xF07 0
row_of (SetPin control) = short 0x707 control
-- Unsolicited Response (7.3.3.14)
row_of GetUnsol = short 0xF08 0
row_of (SetUnsol control) = short 0x708 control
-- Pin Sense (7.3.3.15)
row_of GetSense = short 0xF09 0
-- EAPD/BTL Enable (7.3.3.16)
row_of GetEapd = short 0xF0C 0
row_of (SetEapd control) = short 0x70C control
-- Digital Converter Control (7.3.3.9)
row_of GetDigital = short 0xF0D 0
row_of (SetDigital control) = short 0x70D control
-- Configuration Default (7.3.3.31)
row_of GetDefault = short 0xF1C 0
row_of (SetDefault place byte) = short (0x71C + place) byte
-- Converter Format (7.3.3.8)
row_of GetFormat = long 0xA 0
row_of (SetFormat format) = long 0x2 format
-- Amplifier Gain/Mute (7.3.3.7)
row_of (GetAmp side) = long 0xB side
row_of (SetAmp setting) = long 0x3 setting

-- bits 14 and 12:4, which are 0 in the payload of GetAmp (7.3.3.7)
abbrev pub get_amp_zeros : ℕ
get_amp_zeros = 0x5FF0

-- what a verb allows of its arguments beside their width: the configuration default has four bytes,
-- and GetAmp asks for one side of one amplifier
abbrev pub is_allowed : Verb → Bool
is_allowed (SetDefault place byte) = nat_lt place 4
is_allowed (GetAmp side) = bit_and side get_amp_zeros == 0
is_allowed _ = true

-- the payload fits its width, and the arguments are allowed
abbrev pub is_verb_in_range : Verb → Bool
is_verb_in_range verb = nat_lt (row_of verb).payload (2 ^ (row_of verb).width) && is_allowed verb

-- bits 19:0 of a command: the verb's code above its payload
abbrev pub verb_bits : Verb → ℕ
verb_bits verb = (row_of verb).code * 2 ^ (row_of verb).width + (row_of verb).payload

-- the codec is one of 0 to 14, the node identifier one of 0 to 7Fh, and the verb in its ranges
pub record IsInRange (command : Command) : Type 0 where
  pub codec : command.codec ≤ 14
  pub nid : command.nid ≤ 127
  pub verb : IsTrue (is_verb_in_range command.verb)

-- the word of a command: codec in bits 31:28, node identifier in 27:20, verb and payload in 19:0
abbrev pub word_of : Command → ℕ
word_of command = command.codec * 2 ^ 28 + command.nid * 2 ^ 20 + verb_bits command.verb

-- each verb of the table, where it takes an argument with this payload of 8 or of 16 bits
abbrev pub verbs_with : ℕ → ℕ → List Verb
verbs_with byte half =
    GetFormat ∷ SetFormat half ∷ GetAmp half ∷ SetAmp half
    ∷ GetParam byte ∷ GetSelect ∷ SetSelect byte ∷ GetList byte ∷ GetPower ∷ SetPower byte ∷ GetStream ∷ SetStream byte
    ∷ GetPin ∷ SetPin byte ∷ GetUnsol ∷ SetUnsol byte ∷ GetSense ∷ GetEapd ∷ SetEapd byte ∷ GetDigital ∷ SetDigital byte
    ∷ GetDefault ∷ SetDefault 0 byte ∷ SetDefault 1 byte ∷ SetDefault 2 byte ∷ SetDefault 3 byte ∷ []

-- whether bits with these codes and payloads, above 8 and above 16 bits of payload, are those of the verb
abbrev pub is_row_at : Row → ℕ → Bool
is_row_at row bits = row.code == bits / 2 ^ row.width && row.payload == bits % 2 ^ row.width

abbrev pub reads_as : ℕ → Verb → Bool
reads_as bits verb = is_row_at (row_of verb) bits && is_allowed verb

-- the verb that bits 19:0 of a command are the bits of
unfoldable pub verb_of_bits : ℕ → Option Verb
verb_of_bits bits = find (reads_as bits) (verbs_with (bits % 2 ^ 8) (bits % 2 ^ 16))

-- the command that the word is the word of
abbrev pub command_with : ℕ → ℕ → Option Verb → Option Command
command_with codec nid verb =
    if nat_le codec 14 && nat_le nid 127 then option_map (λ v. record { codec = codec; nid = nid; verb = v }) verb else
    None

unfoldable pub reading_of : ℕ → Option Command
reading_of word = command_with (word / 2 ^ 28) (word / 2 ^ 20 % 2 ^ 8) (verb_of_bits (word % 2 ^ 20))
