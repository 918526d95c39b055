-- A codec of a file begins with its pins' configuration defaults.
use Rattle.std.proofs.Common.{◌≡◌, ◌≢◌, ◌&&◌, ◌++◌, ℕ, Bool, true, false, cond, List, [], ◌∷◌, map, Option, Some, None, refl, sym, ap, ◌∙◌}
use Rattle.std.specs.Prelude.{is_some, fold, slice_get}
use Rattle.std.specs.Option.{option_map}
use Rattle.std.specs.List.{range_with_len}
use Rattle.std.specs.BTreeMap.{is_at}
use Rattle.verb_codes.specs.declared.verbs.Verb.{Verb}
use Rattle.verb_codes.specs.declared.verbs.Verb.TheVariants.{SetSelect, SetPower, SetStream, SetPin, SetUnsol, SetEapd, SetDigital, SetFormat}
use Rattle.verb_codes.specs.declared.amplifiers.AmpSetting.{AmpSetting}
use Rattle.verb_codes.specs.Amplifiers.{setting_payload, setting_of as payload_setting}
use Rattle.codec_graph.specs.declared.raw.RawNode.{RawNode}
use Rattle.codec_graph.specs.declared.raw.RawCodec.{RawCodec}
use Rattle.codec_graph.specs.declared.controls.Control.{Control}
use Rattle.codec_graph.specs.declared.controls.Control.TheVariants.{Select, Power, Stream, Pin, Unsol, Eapd, Digital, Default, Format, OutLeft, OutRight, InLeft, InRight}
use Rattle.codec_graph.specs.declared.controls.ControlKey.{ControlKey}
use Rattle.codec_graph.specs.Widget.{most_amplified}
use Rattle.codec_graph.specs.Cycles.{IsWellFormed}
use Rattle.codec_graph.specs.Settings.{Entries, key, key_cmp, setting_at, put, put_all, has_control, node_opening, opening, IsSettingsOf}
use Rattle.codec_graph.specs.VerbMeaning.{written, written_side, amplifier_writes, verb_writes, writes_of, after}
use Rattle.codec_graph.proofs.Callers.{is_some-setting_at, same_key, lookup-put, found-opening, has_default, value_of}
use Rattle.codec_walk.specs.Replies.{HasDefaults}
use Rattle.hda_files.specs.Starts.{both_sides, amplifier_verb, output_gain, input_gain, control_verbs, gain_verb, gain_verbs, set_given, set_all, set_node, settings_of}

-- ---- writes of other controls

-- none of some writes is of a configuration default
abbrev AreOther : Entries → Type 0
AreOther [] = Unit {0}
AreOther (write ∷ writes) = (write.0.control ≢ Default) × AreOther writes

other-append : (one other : Entries) → AreOther one → AreOther other → AreOther (one ++ other)
other-append [] other here there = there
other-append (write ∷ one) other here there = (here.0, other-append one other here.1 there)

other-written : (codec : RawCodec) (nid : ℕ) (control : Control) (value : ℕ) → control ≢ Default → AreOther (written codec nid control value)
other-written codec nid control value apart = by (has_control codec nid control) where
  by : (has : Bool) → AreOther (cond has ((key nid control, value) ∷ []) [])
  by true = (apart, tt)
  by false = tt

other-if : (holds : Bool) (writes : Entries) → AreOther writes → AreOther (cond holds writes [])
other-if true writes other = other
other-if false writes other = tt

-- such a write leaves a configuration default
put-leaves : (settings : Entries) (at : ControlKey) (value nid : ℕ) → at.control ≢ Default → setting_at (put settings at value) nid Default ≡ setting_at settings nid Default
put-leaves settings at value nid apart =
    lookup-put (key nid Default) at value settings ∙ by (is_at (key_cmp (key nid Default)) at) refl
  where
    by : (here : Bool) → is_at (key_cmp (key nid Default)) at ≡ here
        → cond here (option_map (λ _. value) (setting_at settings nid Default)) (setting_at settings nid Default) ≡ setting_at settings nid Default
    by true is = absurd (apart (sym (ap (λ (one : ControlKey). one.control) (same_key (key nid Default) at is))))
    by false is = refl

puts-leave : (writes settings : Entries) (nid : ℕ) → AreOther writes → setting_at (put_all settings writes) nid Default ≡ setting_at settings nid Default
puts-leave [] settings nid other = refl
puts-leave (write ∷ writes) settings nid other =
    puts-leave writes (put settings write.0 write.1) nid other.1 ∙ put-leaves settings write.0 write.1 nid other.0

-- ---- the verbs of a file's keys

-- a verb sets no configuration default
abbrev Leaves : Verb → Type 0
Leaves verb = (codec : RawCodec) (settings : Entries) (nid : ℕ) → AreOther (verb_writes codec settings nid verb)

abbrev LeavesIf : Option Verb → Type 0
LeavesIf None = Unit {0}
LeavesIf (Some verb) = Leaves verb

abbrev AllLeave : List (Option Verb) → Type 0
AllLeave [] = Unit {0}
AllLeave (verb ∷ verbs) = LeavesIf verb × AllLeave verbs

leaves-map : (f : ℕ → Verb) → ((value : ℕ) → Leaves (f value)) → (given : Option ℕ) → LeavesIf (option_map f given)
leaves-map f leaves None = tt
leaves-map f leaves (Some value) = leaves value

leaves-select : (place : ℕ) → Leaves (SetSelect place)
leaves-select place codec settings nid = other-if _ _ (other-written codec nid Select place (λ same. cc))

leaves-power : (state : ℕ) → Leaves (SetPower state)
leaves-power state codec settings nid = other-written codec nid Power _ (λ same. cc)

leaves-stream : (stream : ℕ) → Leaves (SetStream stream)
leaves-stream stream codec settings nid = other-written codec nid Stream _ (λ same. cc)

leaves-pin : (control : ℕ) → Leaves (SetPin control)
leaves-pin control codec settings nid = other-written codec nid Pin _ (λ same. cc)

leaves-unsol : (control : ℕ) → Leaves (SetUnsol control)
leaves-unsol control codec settings nid = other-written codec nid Unsol _ (λ same. cc)

leaves-eapd : (control : ℕ) → Leaves (SetEapd control)
leaves-eapd control codec settings nid = other-written codec nid Eapd _ (λ same. cc)

leaves-digital : (control : ℕ) → Leaves (SetDigital control)
leaves-digital control codec settings nid = other-written codec nid Digital _ (λ same. cc)

leaves-format : (format : ℕ) → Leaves (SetFormat format)
leaves-format format codec settings nid = other-written codec nid Format _ (λ same. cc)

other-side : (codec : RawCodec) (nid : ℕ) (named : Bool) (control : Control) (value : ℕ) → control ≢ Default → AreOther (written_side codec nid named control value)
other-side codec nid named control value apart = other-if named (written codec nid control value) (other-written codec nid control value apart)

other-amplifier : (codec : RawCodec) (nid : ℕ) (setting : AmpSetting) → AreOther (amplifier_writes codec nid setting)
other-amplifier codec nid setting =
    other-append _ _ (other-side codec nid (setting.output && setting.left) OutLeft _ (λ same. cc))
    (other-append _ _ (other-side codec nid (setting.output && setting.right) OutRight _ (λ same. cc))
    (other-append _ _ (other-side codec nid (setting.input && setting.left) (InLeft setting.place) _ (λ same. cc))
    (other-side codec nid (setting.input && setting.right) (InRight setting.place) _ (λ same. cc))))

leaves-amplifier : (output : Bool) (place gain : ℕ) → Leaves (amplifier_verb output place gain)
leaves-amplifier output place gain codec settings nid = other-amplifier codec nid (payload_setting (setting_payload (both_sides output place gain)))

controls-leave : (keys : _) → AllLeave (control_verbs keys)
controls-leave keys = (
  leaves-map SetSelect leaves-select keys.select,
  (
    leaves-map SetPower leaves-power keys.power_state,
    (
      leaves-map SetStream leaves-stream keys.stream,
      (
        leaves-map SetPin leaves-pin keys.control,
        (
          leaves-map SetUnsol leaves-unsol keys.unsol,
          (
            leaves-map SetEapd leaves-eapd keys.eapd,
            (
              leaves-map SetDigital leaves-digital keys.digital,
              (
                leaves-map output_gain (leaves-amplifier true 0) keys.gain_out,
                (leaves-map SetFormat leaves-format keys.format, tt),
              ),
            ),
          ),
        ),
      ),
    ),
  ),
)

gains-leave : (gains places : List ℕ) → AllLeave (map (gain_verb gains) places)
gains-leave gains [] = tt
gains-leave gains (place ∷ places) = (leaves-map (input_gain place) (leaves-amplifier false place) (slice_get gains place), gains-leave gains places)

-- ---- the settings that come of them

given-leaves : (codec : RawCodec) (at : ℕ) (settings : Entries) (verb : Option Verb) (nid : ℕ) → LeavesIf verb → setting_at (set_given codec at settings verb) nid Default ≡ setting_at settings nid Default
unfolding after writes_of
given-leaves codec at settings None nid leaves = refl
given-leaves codec at settings (Some verb) nid leaves = puts-leave (verb_writes codec settings at verb) settings nid (leaves codec settings at)

all-leave : (codec : RawCodec) (at : ℕ) (verbs : List (Option Verb)) (settings : Entries) (nid : ℕ) → AllLeave verbs → setting_at (set_all codec at settings verbs) nid Default ≡ setting_at settings nid Default
all-leave codec at [] settings nid leave = refl
all-leave codec at (verb ∷ verbs) settings nid leave =
    all-leave codec at verbs (set_given codec at settings verb) nid leave.1 ∙ given-leaves codec at settings verb nid leave.0

node-leaves : (codec : RawCodec) (settings : Entries) (node : _) (nid : ℕ) → setting_at (set_node codec settings node) nid Default ≡ setting_at settings nid Default
node-leaves codec settings node nid =
    all-leave codec node.nid (gain_verbs node.opening.gain_in) (set_all codec node.nid settings (control_verbs node.opening)) nid (gains-leave node.opening.gain_in (range_with_len 0 most_amplified))
    ∙ all-leave codec node.nid (control_verbs node.opening) settings nid (controls-leave node.opening)

nodes-leave : (codec : RawCodec) (nodes : List _) (settings : Entries) (nid : ℕ) → setting_at (fold (set_node codec) settings nodes) nid Default ≡ setting_at settings nid Default
nodes-leave codec [] settings nid = refl
nodes-leave codec (node ∷ nodes) settings nid = nodes-leave codec nodes (set_node codec settings node) nid ∙ node-leaves codec settings node nid

file-leaves : (codec : RawCodec) (group_power : ℕ) (nodes : List _) (nid : ℕ) → setting_at (settings_of codec group_power nodes) nid Default ≡ setting_at (opening codec) nid Default
file-leaves codec group_power nodes nid =
    nodes-leave codec nodes (set_given codec codec.group (opening codec) (Some (SetPower group_power))) nid
    ∙ given-leaves codec codec.group (opening codec) (Some (SetPower group_power)) nid (leaves-power group_power)

-- ---- together

-- the settings at the start of a codec have its pins' defaults
pub start_has_defaults : (codec : RawCodec) (group_power : ℕ) (nodes : List _) → IsWellFormed codec → IsSettingsOf codec (settings_of codec group_power nodes) → HasDefaults codec (settings_of codec group_power nodes)
start_has_defaults codec group_power nodes well settings nid node there pin =
    let start = settings_of codec group_power nodes in
    let leaves = file-leaves codec group_power nodes nid in
    let has : is_some (setting_at start nid Default) ≡ true = is_some-setting_at codec start nid Default well settings.keys ∙ has_default codec nid node well there pin in
    value_of (setting_at start nid Default) node.default has
    (λ value found. found-opening codec nid Default value (sym leaves ∙ found) ∙ ap (λ (at : Option RawNode). node_opening codec at Default) there)
