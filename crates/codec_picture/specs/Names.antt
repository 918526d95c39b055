-- The names of widgets and of what pins are: High Definition Audio 1.0a, 7.3.4.6 and 7.3.3.31, shortened where a box
-- has no room for them.
use Rattle.std.specs.Prelude.{ℕ, List, [], ◌∷◌, codes, slice_index_or}
use Rattle.codec_graph.specs.declared.raw.RawNode.{RawNode}
use Rattle.verb_codes.specs.Words.{bits_of}

-- the word at a place of a table
abbrev pub word_at : List (List ℕ) → (place : ℕ) → List ℕ
word_at words place = slice_index_or words place []

-- bits 23:20 of the audio widget capabilities
unfoldable pub widgets : List (List ℕ)
widgets =
    codes "Audio Output" ∷ codes "Audio Input" ∷ codes "Audio Mixer" ∷ codes "Audio Selector" ∷ codes "Pin Complex"
    ∷ codes "Power Widget" ∷ codes "Volume Knob" ∷ codes "Beep Generator" ∷ codes "Reserved" ∷ codes "Reserved"
    ∷ codes "Reserved" ∷ codes "Reserved" ∷ codes "Reserved" ∷ codes "Reserved" ∷ codes "Reserved"
    ∷ codes "Vendor Defined" ∷ []

-- the default device: bits 23:20 of the configuration default
unfoldable pub devices : List (List ℕ)
devices =
    codes "Line Out" ∷ codes "Speaker" ∷ codes "HP Out" ∷ codes "CD" ∷ codes "SPDIF Out" ∷ codes "Digital Other Out"
    ∷ codes "Modem Line Side" ∷ codes "Modem Handset Side" ∷ codes "Line In" ∷ codes "AUX" ∷ codes "Mic In"
    ∷ codes "Telephony" ∷ codes "SPDIF In" ∷ codes "Digital Other In" ∷ codes "Reserved" ∷ codes "Other" ∷ []

-- the gross location, bits 29:28: on the primary chassis outside, inside it, on a separate one, elsewhere
unfoldable pub chassis : List (List ℕ)
chassis = codes "External" ∷ codes "Internal" ∷ codes "Separate" ∷ codes "Other" ∷ []

-- the geometric location, bits 27:24
unfoldable pub locations : List (List ℕ)
locations =
    codes "N/A" ∷ codes "Rear" ∷ codes "Front" ∷ codes "Left" ∷ codes "Right" ∷ codes "Top" ∷ codes "Bottom"
    ∷ codes "Special" ∷ codes "Special" ∷ codes "Special" ∷ codes "Reserved" ∷ codes "Reserved" ∷ codes "Reserved"
    ∷ codes "Reserved" ∷ codes "Reserved" ∷ codes "Reserved" ∷ []

-- the colour, bits 15:12
unfoldable pub colours : List (List ℕ)
colours =
    codes "Unknown" ∷ codes "Black" ∷ codes "Grey" ∷ codes "Blue" ∷ codes "Green" ∷ codes "Red" ∷ codes "Orange"
    ∷ codes "Yellow" ∷ codes "Purple" ∷ codes "Pink" ∷ codes "Reserved" ∷ codes "Reserved" ∷ codes "Reserved"
    ∷ codes "Reserved" ∷ codes "White" ∷ codes "Other" ∷ []

abbrev pub widget_word : RawNode → List ℕ
widget_word node = word_at widgets (bits_of node.caps 20 4)

abbrev pub device_word : RawNode → List ℕ
device_word node = word_at devices (bits_of node.default 20 4)

abbrev pub chassis_word : RawNode → List ℕ
chassis_word node = word_at chassis (bits_of node.default 28 2)

abbrev pub location_word : RawNode → List ℕ
location_word node = word_at locations (bits_of node.default 24 4)

abbrev pub colour_word : RawNode → List ℕ
colour_word node = word_at colours (bits_of node.default 12 4)
