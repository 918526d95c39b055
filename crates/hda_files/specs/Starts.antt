-- What the settings keys of a codec file come to: each key that is given acts as its set verb, after the opening of the
-- codec. Verbs: High Definition Audio 1.0a, 7.3.3. The keys are this project's own.
use Rattle.std.specs.Prelude.{ℕ, Bool, true, false, not, ◌==◌, ◌&&◌, List, [], ◌∷◌, map, fold, slice_get, Option, None}
use Rattle.std.specs.Prelude.{Some}
use Rattle.std.specs.Option.{option_map}
use Rattle.std.specs.List.{list_any, range_with_len}
use Rattle.verb_codes.specs.declared.verbs.Verb.{Verb}
use Rattle.verb_codes.specs.declared.verbs.Verb.TheVariants.{SetSelect, SetPower, SetStream, SetPin, SetUnsol, SetEapd}
use Rattle.verb_codes.specs.declared.verbs.Verb.TheVariants.{SetDigital, SetFormat, SetAmp}
use Rattle.verb_codes.specs.declared.amplifiers.AmpSetting.{AmpSetting}
use Rattle.verb_codes.specs.Words.{has_bit, bits_of}
use Rattle.verb_codes.specs.Amplifiers.{setting_payload}
use Rattle.codec_graph.specs.declared.raw.RawCodec.{RawCodec}
use Rattle.codec_graph.specs.Widget.{node_identifiers, most_amplified}
use Rattle.codec_graph.specs.Settings.{Entries, opening}
use Rattle.codec_graph.specs.VerbMeaning.{after}
use Rattle.hda_files.specs.declared.opening.NodeOpening.{NodeOpening}
use Rattle.hda_files.specs.declared.node.NodeTable.{NodeTable}

-- mute, in bit 7, and gain of both sides: of the output amplifier or else of the input amplifier at a place (7.3.3.7)
abbrev pub both_sides : Bool → ℕ → ℕ → AmpSetting
both_sides output place gain = record {
  output = output;
  input = not output;
  left = true;
  right = true;
  place = place;
  mute = has_bit gain 7;
  gain = bits_of gain 0 7;
}

abbrev pub amplifier_verb : Bool → ℕ → ℕ → Verb
amplifier_verb output place gain = SetAmp (setting_payload (both_sides output place gain))

abbrev pub output_gain : ℕ → Verb
output_gain gain = amplifier_verb true 0 gain

abbrev pub input_gain : ℕ → ℕ → Verb
input_gain place gain = amplifier_verb false place gain

-- the set verbs of a table's keys, where they are given
abbrev pub control_verbs : NodeOpening → List (Option Verb)
control_verbs keys =
    option_map SetSelect keys.select ∷ option_map SetPower keys.power_state ∷ option_map SetStream keys.stream
    ∷ option_map SetPin keys.control ∷ option_map SetUnsol keys.unsol ∷ option_map SetEapd keys.eapd
    ∷ option_map SetDigital keys.digital ∷ option_map output_gain keys.gain_out ∷ option_map SetFormat keys.format ∷ []

-- those of its input gains, place by place
abbrev pub gain_verb : List ℕ → ℕ → Option Verb
gain_verb gains place = option_map (input_gain place) (slice_get gains place)

abbrev pub gain_verbs : List ℕ → List (Option Verb)
gain_verbs gains = map (gain_verb gains) (range_with_len 0 most_amplified)

-- the settings after a verb to this node, where there is one
abbrev pub set_given : RawCodec → ℕ → Entries → Option Verb → Entries
set_given codec nid settings None = settings
set_given codec nid settings (Some verb) = after codec settings
    (record { codec = codec.address; nid = nid; verb = verb })

-- the settings after some verbs to this node in turn
abbrev pub set_all : RawCodec → ℕ → Entries → List (Option Verb) → Entries
set_all codec nid settings verbs = fold (set_given codec nid) settings verbs

-- the settings after the keys of a widget's table
abbrev pub set_node : RawCodec → Entries → NodeTable → Entries
set_node codec settings node =
    set_all codec node.nid (set_all codec node.nid settings (control_verbs node.opening))
    (gain_verbs node.opening.gain_in)

-- the settings at the start: those of the opening, and then the function group's power state and the keys of the
-- widgets' tables
abbrev pub settings_of : RawCodec → ℕ → List NodeTable → Entries
settings_of codec group_power nodes =
    fold (set_node codec) (set_given codec codec.group (opening codec) (Some (SetPower group_power))) nodes

-- whether a table with this node identifier says that something is plugged in
abbrev pub is_plugged : List NodeTable → ℕ → Bool
is_plugged nodes nid = list_any (λ node. node.nid == nid && node.opening.present) nodes

-- whether something is plugged in at the start, by node identifier
abbrev pub presence_of : List NodeTable → List Bool
presence_of nodes = map (is_plugged nodes) (range_with_len 0 node_identifiers)
