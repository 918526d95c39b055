-- Which commands may change settings of a codec. High Definition Audio 1.0a, 7.3.3.
use Rattle.std.specs.Prelude.{ℕ, Bool, true, false, List, map, Option, Some, None}
use Rattle.verb_codes.specs.declared.verbs.Command.{Command}
use Rattle.verb_codes.specs.declared.verbs.Verb.{Verb}
use Rattle.verb_codes.specs.declared.verbs.Verb.TheVariants.{GetParam, GetSelect, SetSelect, GetList, GetPower}
use Rattle.verb_codes.specs.declared.verbs.Verb.TheVariants.{SetPower, GetStream, SetStream, GetPin, SetPin, GetUnsol}
use Rattle.verb_codes.specs.declared.verbs.Verb.TheVariants.{SetUnsol, GetSense, GetEapd, SetEapd, GetDigital}
use Rattle.verb_codes.specs.declared.verbs.Verb.TheVariants.{SetDigital, GetDefault, SetDefault, GetFormat, SetFormat}
use Rattle.verb_codes.specs.declared.verbs.Verb.TheVariants.{GetAmp, SetAmp}
use Rattle.verb_codes.specs.Verbs.{reading_of}
use Rattle.verb_codes.specs.Words.{has_bit}
use Rattle.device_core.specs.declared.codecs.Handed.{Handed}
use Rattle.heard_frames.specs.Marks.{control_in}
use Rattle.heard_lists.specs.Listings.{Listing, with_mark}

-- a verb that sets a control
abbrev pub is_set_verb : Verb → Bool
is_set_verb (GetParam number) = false
is_set_verb GetSelect = false
is_set_verb (SetSelect place) = true
is_set_verb (GetList place) = false
is_set_verb GetPower = false
is_set_verb (SetPower state) = true
is_set_verb GetStream = false
is_set_verb (SetStream stream) = true
is_set_verb GetPin = false
is_set_verb (SetPin control) = true
is_set_verb GetUnsol = false
is_set_verb (SetUnsol control) = true
is_set_verb GetSense = false
is_set_verb GetEapd = false
is_set_verb (SetEapd control) = true
is_set_verb GetDigital = false
is_set_verb (SetDigital control) = true
is_set_verb GetDefault = false
is_set_verb (SetDefault place byte) = true
is_set_verb GetFormat = false
is_set_verb (SetFormat format) = true
is_set_verb (GetAmp side) = false
is_set_verb (SetAmp setting) = true

abbrev pub is_set_reading : Option Command → Bool
is_set_reading None = false
is_set_reading (Some command) = is_set_verb command.verb

-- the word of a command that sets a control: one without a reading is none
abbrev pub is_set_command : ℕ → Bool
is_set_command word = is_set_reading (reading_of word)

-- what private functions promise one another: the lists after a command that a codec took while the stream ran
abbrev pub marked_put : (codec pin : ℕ) → Option ℕ → List Listing → List Listing
marked_put codec pin None lists = lists
marked_put codec pin (Some control) lists = map (with_mark codec pin (has_bit control 6)) lists

abbrev pub marked_read : Option Command → List Listing → List Listing
marked_read None lists = lists
marked_read (Some command) lists = marked_put command.codec command.nid (control_in command.verb) lists

abbrev pub marked_handed : Option Handed → List Listing → List Listing
marked_handed None lists = lists
marked_handed (Some handed) lists = marked_read (reading_of handed.word) lists
