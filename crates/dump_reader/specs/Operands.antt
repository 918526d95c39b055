-- What stands on a line behind its label. Linux prints each in one form. This project's own; the words are those of
-- High Definition Audio 1.0a, 7.3.3 and 7.3.4.
use Rattle.std.specs.Prelude.{ℕ, ◌+◌, ◌*◌, ◌-◌, ◌%◌, ◌==◌, Bool, not, ◌&&◌, ◌||◌, List, [], ◌∷◌, length, drop, filter}
use Rattle.std.specs.Prelude.{nat_lt, Option, Some, None, if◌then◌else◌, option_and_then, bytes_eq, codes, slice_get}
use Rattle.dump_reader.specs.declared.facts.Gain.{Gain}
use Rattle.dump_reader.specs.declared.cuts.Mark.TheVariants.{Bracket, Star}
use Rattle.dump_reader.specs.Cuts.{pieces, words, begins_with}
use Rattle.dump_reader.specs.Numbers.{◌>>=◌, within, number_in, number_of, numbers, number_at, most_word, has_word}
use Rattle.dump_reader.specs.Numbers.{worth}

abbrev pub is_filled : List ℕ → Bool
is_filled word = not (length word == 0)

-- the word at a place of a text, from 0 on
unfoldable pub word_at : List ℕ → ℕ → Option (List ℕ)
word_at text place = slice_get (filter is_filled (words text)) place

-- the first number of a line, of 32 and of 8 bits
abbrev pub word_of : List ℕ → Option ℕ
word_of fields = number_at fields 0 0 most_word

abbrev pub byte_of : List ℕ → Option ℕ
byte_of fields = number_at fields 0 0 255

-- a node identifier
abbrev pub nid_of : List ℕ → Option ℕ
nid_of fields = number_at fields 0 1 127

-- amplifier capabilities (7.3.4.10) of these numbers: `ofs=0x40, nsteps=0x40, stepsize=0x03, mute=0`
abbrev pub amplifier_of : List ℕ → Option ℕ
amplifier_of fields = do
  offset ← number_at fields 0 0 127
  steps ← number_at fields 1 0 127
  size ← number_at fields 2 0 127
  mute ← number_at fields 3 0 1
  Some (mute * 2147483648 + size * 65536 + steps * 256 + offset)

-- the capabilities, where there are any: `N/A` is no number
abbrev pub amplifier_or_none : List ℕ → Option (Option ℕ)
amplifier_or_none [] = Some None
amplifier_or_none (field ∷ fields) = do
  word ← amplifier_of (field ∷ fields)
  Some (Some word)

-- mute and gain of one side or of both
abbrev pub gain_with : List ℕ → Option Gain
gain_with (one ∷ []) = do
  gain ← within 0 255 one
  Some (record { left = gain; right = gain })
gain_with (one ∷ other ∷ []) = do
  left ← within 0 255 one
  right ← within 0 255 other
  Some (record { left = left; right = right })
gain_with _ = None

-- whether a piece has numbers
abbrev pub has_numbers : List ℕ → Bool
has_numbers piece = not (length (numbers piece) == 0)

-- mute and gain in each of some pieces
abbrev pub gains_of : List (List ℕ) → Option (List Gain)
gains_of [] = Some []
gains_of (piece ∷ pieces) = do
  gain ← gain_with (numbers piece)
  gains ← gains_of pieces
  Some (gain ∷ gains)

-- mute and gain in each pair of brackets: `[0x3f 0x3f] [0x80 0x80]`
unfoldable pub gains_in : List ℕ → Option (List Gain)
gains_in text = gains_of (filter has_numbers (pieces Bracket text))

-- stream tag and channel (7.3.3.11): `stream=1, channel=0`
abbrev pub stream_of : List ℕ → Option ℕ
stream_of fields = do
  tag ← number_at fields 0 0 15
  channel ← number_at fields 1 0 15
  Some (tag * 16 + channel)

-- the control of unsolicited responses (7.3.3.14), whose tag is hexadecimal: `tag=04, enabled=1`
unfoldable pub unsolicited_in : List ℕ → Option ℕ
unsolicited_in text = do
  word ← word_at text 1
  number ← number_in 16 word
  tag ← within 0 63 number
  flag ← word_at text 3
  digit ← number_of flag
  enabled ← within 0 1 digit
  Some (enabled * 128 + tag)

-- bit 4 of it, which says that no copyright is claimed: old kernels name it Copyright
abbrev pub copyright_in : List ℕ → ℕ
copyright_in text = if has_word text (codes "Non-Copyright") || has_word text (codes "Copyright") then 16 else 0

-- the low byte of the digital converter control (7.3.3.9), whose bits have names
unfoldable pub digital_in : List ℕ → ℕ
digital_in text =
    worth text (codes "Enabled") 1 + worth text (codes "Validity") 2 + worth text (codes "ValidityCfg") 4
    + worth text (codes "Preemphasis") 8 + copyright_in text + worth text (codes "Non-Audio") 32
    + worth text (codes "Pro") 64 + worth text (codes "GenLevel") 128

-- supported power states (7.3.4.12), and what later revisions put in the same word
unfoldable pub power_states_in : List ℕ → ℕ
power_states_in text =
    worth text (codes "D0") 1 + worth text (codes "D1") 2 + worth text (codes "D2") 4 + worth text (codes "D3") 8
    + worth text (codes "D3cold") 16 + worth text (codes "S3D3cold") 536870912 + worth text (codes "CLKSTOP") 1073741824
    + worth text (codes "EPSS") 2147483648

-- the power state with this name
abbrev pub state_named : List ℕ → Option ℕ
state_named word =
    if bytes_eq word (codes "D0") then Some 0 else (if bytes_eq word (codes "D1") then Some 1 else (
    if bytes_eq word (codes "D2") then Some 2 else (if bytes_eq word (codes "D3") then Some 3 else None)))

-- the power state of an old kernel: the word that the codec gave, whose bits 3:0 are what was set (7.3.3.10)
abbrev pub state_numbered : Option ℕ → Option ℕ → Option ℕ
state_numbered (Some word) named = within 0 3 (word % 16)
state_numbered None named = named

-- the power state that was set, if it is one of D0 to D3: `setting=D0, actual=D0`, or of an old kernel `0x0`
unfoldable pub state_in : List ℕ → Option ℕ
state_in text = state_numbered (option_and_then number_of (word_at text 0))
    (option_and_then state_named (word_at text 1))

-- Old kernels print pin capabilities behind a further 08 and without zeros in front, so these words have other than
-- eight digits.
abbrev pub is_old_word : List ℕ → Bool
is_old_word word = begins_with (codes "0x08") word && (nat_lt 4 (length word) && not (length word == 10))

-- a word that begins as hexadecimal ones do
abbrev pub hexadecimal : Option (List ℕ) → Option (List ℕ)
hexadecimal None = None
hexadecimal (Some word) = if begins_with (codes "0x") word then Some word else None

-- the digits of pin capabilities
abbrev pub pin_digits : List ℕ → List ℕ
pin_digits word = if is_old_word word then drop 4 word else drop 2 word

-- pin capabilities (7.3.4.9), and whether an old kernel printed them
unfoldable pub pin_caps_in : List ℕ → Option (ℕ × Bool)
pin_caps_in text = do
  word ← hexadecimal (word_at text 0)
  caps ← number_in 16 (pin_digits word)
  Some (caps, is_old_word word)

-- the selected place of the connection list (7.3.3.2): that of the number before the star, if there is one
abbrev pub star_of : List (List ℕ) → Option ℕ
star_of (front ∷ _ ∷ _) = Some (length (numbers front) - 1)
star_of _ = None

unfoldable pub star_in : List ℕ → Option ℕ
star_in text = star_of (pieces Star text)

-- a connection list, of node identifiers
abbrev pub nids_of : List ℕ → Option (List ℕ)
nids_of [] = Some []
nids_of (number ∷ numbers) = do
  nid ← within 1 127 number
  nids ← nids_of numbers
  Some (nid ∷ nids)

-- the connections of a line that lists so many
abbrev pub list_of : ℕ → List ℕ → Option (List ℕ)
list_of count fields = if length fields == count then nids_of fields else None
