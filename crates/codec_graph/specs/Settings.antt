-- The settings of a codec: which controls its nodes have, and what each is set to. Controls and where they stand: High
-- Definition Audio 1.0a, 7.3.3. That a gain is kept beside its mute, and what a control is set to at the opening, is
-- this project's own.
use Rattle.std.specs.Prelude.{◌≡◌, ◌<◌, ◌^◌, ℕ, Bool, true, false, ◌==◌, ◌&&◌, not, List, [], ◌∷◌, ◌++◌, length, map}
use Rattle.std.specs.Prelude.{filter, fold, min, max, nat_lt, nat_le, if◌then◌else◌, Option, Some, None, unwrap_or, All}
use Rattle.std.specs.Prelude.{zero, suc}
use Rattle.std.specs.Map.{keys_of, lookup, set_value}
use Rattle.std.specs.List.{range_with_len}
use Rattle.std.specs.BTreeMap.{is_at}
use Rattle.std.specs.declared.cmp.Ordering.{Ordering}
use Rattle.codec_graph.specs.declared.raw.RawNode.{RawNode}
use Rattle.codec_graph.specs.declared.raw.RawCodec.{RawCodec}
use Rattle.codec_graph.specs.declared.controls.Control.{Control}
use Rattle.codec_graph.specs.declared.controls.Control.TheVariants.{Select, Power, Stream, Pin, Unsol, Eapd, Digital}
use Rattle.codec_graph.specs.declared.controls.Control.TheVariants.{Default, Format, OutLeft, OutRight, InLeft, InRight}
use Rattle.codec_graph.specs.declared.controls.ControlKey.{ControlKey}
use Rattle.codec_graph.specs.contracts.controls.ControlKeyOrd.TheImpl as key_order
use Rattle.verb_codes.specs.Words.{has_bit}
use Rattle.codec_graph.specs.Widget.{node_identifiers, most_amplified, node_at, is_mixer, is_pin, is_converter}
use Rattle.codec_graph.specs.Widget.{is_digital, has_power_control, has_input_amplifier, has_output_amplifier}
use Rattle.codec_graph.specs.Widget.{input_amplifier_word, output_amplifier_word, amplifier_offset, can_mute}

-- a finite map from controls of nodes to numbers, as its entries in the order of the keys
abbrev pub Entries : Type 0
Entries = List (ControlKey × ℕ)

abbrev pub key : ℕ → Control → ControlKey
key nid control = record { nid = nid; control = control }

-- the order of the keys: by node identifier and then by control; two keys that it calls equal are the same
unfoldable pub key_cmp : ControlKey → ControlKey → Ordering
key_cmp = key_order.ghosts.cmp

-- the setting of a node's control, if the map has it
abbrev pub setting_at : Entries → ℕ → Control → Option ℕ
setting_at settings nid control = lookup (is_at (key_cmp (key nid control))) settings

-- the setting of a node's control, and 0 where the map has none
abbrev pub setting_of : Entries → ℕ → Control → ℕ
setting_of settings nid control = unwrap_or (setting_at settings nid control) 0

-- another number at a key that the map has; nothing at any other key
abbrev pub put : Entries → ControlKey → ℕ → Entries
put settings at value = set_value (is_at (key_cmp at)) settings value

-- some numbers put in turn
abbrev pub put_all : Entries → Entries → Entries
put_all settings writes = fold (λ entries write. put entries write.0 write.1) settings writes

-- audio widget capabilities, bit 7 (7.3.4.6)
abbrev pub sends_unsolicited : RawNode → Bool
sends_unsolicited node = has_bit node.caps 7

-- pin capabilities (7.3.4.9)
abbrev pub detects_presence : RawNode → Bool
detects_presence node = is_pin node && has_bit node.pin_caps 2

abbrev pub has_eapd : RawNode → Bool
has_eapd node = is_pin node && has_bit node.pin_caps 16

-- how many inputs have one: one for each connection, and at least one
abbrev pub amplified_inputs : RawNode → ℕ
amplified_inputs node = min most_amplified (max 1 (length node.list))

-- which controls a widget has
abbrev pub widget_has : RawNode → Control → Bool
widget_has node Select = not (is_mixer node) && nat_le 2 (length node.list)
widget_has node Power = has_power_control node
widget_has node Stream = is_converter node
widget_has node Pin = is_pin node
widget_has node Unsol = sends_unsolicited node
widget_has node Eapd = has_eapd node
widget_has node Digital = is_converter node && is_digital node
widget_has node Default = is_pin node
widget_has node Format = is_converter node
widget_has node OutLeft = has_output_amplifier node
widget_has node OutRight = has_output_amplifier node
widget_has node (InLeft place) = has_input_amplifier node && nat_lt place (amplified_inputs node)
widget_has node (InRight place) = has_input_amplifier node && nat_lt place (amplified_inputs node)

-- which controls the function group has
abbrev pub group_has : Control → Bool
group_has Select = false
group_has Power = true
group_has Stream = false
group_has Pin = false
group_has Unsol = false
group_has Eapd = false
group_has Digital = false
group_has Default = false
group_has Format = false
group_has OutLeft = false
group_has OutRight = false
group_has (InLeft place) = false
group_has (InRight place) = false

abbrev pub node_has : Option RawNode → Control → Bool
node_has None control = false
node_has (Some node) control = widget_has node control

-- whether the node with this identifier has the control
abbrev pub has_control : RawCodec → ℕ → Control → Bool
has_control codec nid control = if nid == codec.group then group_has control else node_has (node_at codec nid) control

-- the mute of an amplifier's side, above its gain in 6:0 (7.3.3.7)
abbrev pub mute : ℕ
mute = 2 ^ 7

-- what an amplifier is set to at the opening: muted where it can mute, else its 0 dB step
abbrev pub amplifier_opening : ℕ → ℕ
amplifier_opening word = if can_mute word then mute else amplifier_offset word

abbrev pub widget_opening : RawCodec → RawNode → Control → ℕ
widget_opening codec node Select = 0
widget_opening codec node Power = 0
widget_opening codec node Stream = 0
widget_opening codec node Pin = 0
widget_opening codec node Unsol = 0
widget_opening codec node Eapd = 0
widget_opening codec node Digital = 0
widget_opening codec node Default = node.default
widget_opening codec node Format = 0
widget_opening codec node OutLeft = amplifier_opening (output_amplifier_word codec node)
widget_opening codec node OutRight = amplifier_opening (output_amplifier_word codec node)
widget_opening codec node (InLeft place) = amplifier_opening (input_amplifier_word codec node)
widget_opening codec node (InRight place) = amplifier_opening (input_amplifier_word codec node)

abbrev pub node_opening : RawCodec → Option RawNode → Control → ℕ
node_opening codec None control = 0
node_opening codec (Some node) control = widget_opening codec node control

-- what a control is set to at the opening: an amplifier as above, a pin's configuration default as its word, all else
-- to 0
abbrev pub opening_value : RawCodec → ℕ → Control → ℕ
opening_value codec nid control = node_opening codec (node_at codec nid) control

-- the controls that some node can have, in their order: the plain ones, then the left sides of the inputs' amplifiers
-- and then the right
unfoldable pub plain_controls : List Control
plain_controls =
    Select ∷ Power ∷ Stream ∷ Pin ∷ Unsol ∷ Eapd ∷ Digital ∷ Default ∷ Format ∷ OutLeft ∷ OutRight ∷ []

unfoldable pub controls : List Control
controls = plain_controls ++ (map InLeft (range_with_len 0 most_amplified) ++ map InRight
    (range_with_len 0 most_amplified))

-- the keys that the nodes below this one can have, in their order: by node and then by control
abbrev pub keys_below : ℕ → List ControlKey
keys_below zero = []
keys_below (suc nid) = keys_below nid ++ map (key nid) controls

-- those of some keys whose control the node has
abbrev pub owned_keys : RawCodec → List ControlKey → List ControlKey
owned_keys codec keys = filter (λ at. has_control codec at.nid at.control) keys

-- the keys of a codec's settings: exactly the controls that its function group and its widgets have, ascending
unfoldable pub controls_of : RawCodec → List ControlKey
controls_of codec = owned_keys codec (keys_below node_identifiers)

-- each of some keys with its opening value
abbrev pub opened : RawCodec → List ControlKey → Entries
opened codec keys = map (λ at. (at, opening_value codec at.nid at.control)) keys

-- the settings at the opening: each control of the codec has its opening value
unfoldable pub opening : RawCodec → Entries
opening codec = opened codec (controls_of codec)

-- what a setting of a control can be: a number of 32 bits, a power state below 4
pub record IsSetting (entry : ControlKey × ℕ) : Type 0 where
  pub narrow : entry.1 < 2 ^ 32
  pub state : entry.0.control ≡ Power → entry.1 < 4

-- settings of a codec: they have each of its controls and no other
pub record IsSettingsOf (codec : RawCodec) (settings : Entries) : Type 0 where
  pub keys : keys_of settings ≡ controls_of codec
  pub each : All IsSetting settings
