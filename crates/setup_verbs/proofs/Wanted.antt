-- What each control is to be set to, and that each of the verbs sets it so.
use Rattle.std.proofs.Common.{◌≡◌, ◌<◌, ◌+◌, ◌*◌, ◌^◌, ◌==◌, ◌||◌, ℕ, Bool, true, false, cond, [], ◌∷◌, ◌++◌, Option, Some, None, append-nil, refl, sym, ap, subst, ◌∙◌, arith}
use Rattle.std.specs.Prelude.{bit_and}
use Rattle.std.specs.BTreeMap.{is_at}
use Rattle.std.proofs.lemmas.List.Elements.{All-nil, All-cons, All-append}
use Rattle.std.proofs.lemmas.List.Folds.{list_any-append}
use Rattle.std.proofs.lemmas.Bool.{or_right}
use Rattle.codec_graph.specs.declared.raw.RawNode.{RawNode}
use Rattle.codec_graph.specs.declared.raw.RawCodec.{RawCodec}
use Rattle.codec_graph.specs.declared.controls.Control.{Control}
use Rattle.codec_graph.specs.declared.controls.Control.TheVariants as control
use Rattle.codec_graph.specs.declared.controls.ControlKey.{ControlKey}
use Rattle.codec_graph.specs.Widget.{node_at, input_amplifier_word, output_amplifier_word, amplifier_offset}
use Rattle.codec_graph.specs.Settings.{Entries, key, key_cmp, has_control}
use Rattle.codec_graph.specs.VerbMeaning.{written, kept_amplifier, amplifier_writes, verb_writes, writes_of, node_input_word, node_output_word, pin_bits, eapd_bits, unsolicited_bits}
use Rattle.codec_graph.proofs.Callers.{here}
use Rattle.verb_codes.specs.declared.verbs.Verb.{Verb}
use Rattle.verb_codes.specs.declared.verbs.Verb.TheVariants.{SetAmp}
use Rattle.verb_codes.specs.declared.amplifiers.AmpSetting.{AmpSetting}
use Rattle.verb_codes.specs.Amplifiers as amplifiers
use Rattle.verb_codes.proofs.Callers.{setting_of-payload}
use Rattle.stream_format.specs.declared.format.Format.{Format}
use Rattle.stream_format.specs.Words.{format_word}
use Rattle.codec_graph.specs.declared.pin_kind.PinKind.{PinKind}
use Rattle.codec_graph.specs.declared.pin_kind.PinKind.TheVariants.{Analog, Digital}
use Rattle.route_planner.specs.declared.routes.Plan.{Plan}
use Rattle.setup_verbs.specs.declared.roles.Role.{Role}
use Rattle.setup_verbs.specs.declared.roles.Role.TheVariants.{Unused, Passed, Source}
use Rattle.setup_verbs.specs.Roles.{role_of}
use Rattle.setup_verbs.specs.VerbList.{command_to, input_setting, output_setting, drives_headphone, event_tag}
use Rattle.setup_verbs.proofs.Settling.{AllWanted, IsWanted, has_key, Sets}

-- ---- the numbers

abbrev pub select_wanted : Role → ℕ
select_wanted Unused = 0
select_wanted (Passed index) = index
select_wanted (Source pair) = 0

abbrev pub stream_wanted : ℕ → Role → ℕ
stream_wanted tag Unused = 0
stream_wanted tag (Passed index) = 0
stream_wanted tag (Source pair) = tag * 2 ^ 4 + 2 * pair

-- the control of a routed pin: an analog one's with the headphone drive where it drives a headphone
abbrev pub pin_control_by : PinKind → Bool → ℕ
pin_control_by Analog drives = cond drives 0xC0 0x40
pin_control_by Digital drives = 0x40

abbrev pub pin_control_as : PinKind → RawNode → ℕ
pin_control_as kind node = pin_control_by kind (drives_headphone node)

abbrev pub pin_wanted : PinKind → RawNode → Role → ℕ
pin_wanted kind node Unused = bit_and 0 pin_bits
pin_wanted kind node (Passed index) = bit_and (pin_control_as kind node) pin_bits
pin_wanted kind node (Source pair) = 0

-- the digital output of a converter for digital pins is enabled
abbrev pub digital_wanted : PinKind → ℕ
digital_wanted Analog = 0
digital_wanted Digital = 0x01

-- of an input: it passes at the index, and else is muted
abbrev pub input_wanted : RawCodec → RawNode → (index place : ℕ) → ℕ
input_wanted codec node index place =
    cond (place == index)
    (kept_amplifier (input_amplifier_word codec node) (input_setting place false (amplifier_offset (input_amplifier_word codec node))))
    (kept_amplifier (input_amplifier_word codec node) (input_setting place true 0))

abbrev pub output_wanted : RawCodec → RawNode → ℕ
output_wanted codec node = kept_amplifier (output_amplifier_word codec node) (output_setting (amplifier_offset (output_amplifier_word codec node)))

abbrev pub widget_wanted : PinKind → RawCodec → Plan → Format → (tag nid : ℕ) → RawNode → Role → Control → ℕ
widget_wanted kind codec plan format tag nid node role control.Select = select_wanted role
widget_wanted kind codec plan format tag nid node role control.Power = 0
widget_wanted kind codec plan format tag nid node role control.Stream = stream_wanted tag role
widget_wanted kind codec plan format tag nid node role control.Pin = pin_wanted kind node role
widget_wanted kind codec plan format tag nid node role control.Unsol = bit_and (0x80 + event_tag plan nid) unsolicited_bits
widget_wanted kind codec plan format tag nid node role control.Eapd = bit_and 0x02 eapd_bits
widget_wanted kind codec plan format tag nid node role control.Digital = digital_wanted kind
widget_wanted kind codec plan format tag nid node role control.Default = 0
widget_wanted kind codec plan format tag nid node role control.Format = format_word format
widget_wanted kind codec plan format tag nid node role control.OutLeft = output_wanted codec node
widget_wanted kind codec plan format tag nid node role control.OutRight = output_wanted codec node
widget_wanted kind codec plan format tag nid node role (control.InLeft place) = input_wanted codec node (select_wanted role) place
widget_wanted kind codec plan format tag nid node role (control.InRight place) = input_wanted codec node (select_wanted role) place

abbrev pub wanted_at : PinKind → RawCodec → Plan → Format → (tag nid : ℕ) → Option RawNode → Role → Control → ℕ
wanted_at kind codec plan format tag nid None role control = 0
wanted_at kind codec plan format tag nid (Some node) role control = widget_wanted kind codec plan format tag nid node role control

unfoldable pub wanted : PinKind → RawCodec → Plan → Format → ℕ → ControlKey → ℕ
wanted kind codec plan format tag at = wanted_at kind codec plan format tag at.nid (node_at codec at.nid) (role_of plan at.nid) at.control

-- at a widget
pub wanted-widget : (kind : PinKind) (codec : RawCodec) (plan : Plan) (format : Format) (tag nid : ℕ) (node : RawNode) (role : Role) (c : Control) → node_at codec nid ≡ Some node → role_of plan nid ≡ role
    → wanted kind codec plan format tag (key nid c) ≡ widget_wanted kind codec plan format tag nid node role c
unfolding wanted
wanted-widget kind codec plan format tag nid node role c there is =
    ap (λ (o : Option RawNode). wanted_at kind codec plan format tag nid o (role_of plan nid) c) there
    ∙ ap (λ (r : Role). widget_wanted kind codec plan format tag nid node r c) is

-- ---- one command

all_written : (W : ControlKey → ℕ) (codec : RawCodec) (nid : ℕ) (c : Control) (value : ℕ) → value ≡ W (key nid c) → AllWanted W (written codec nid c value)
all_written W codec nid c value is = by (has_control codec nid c)
  where
    by : (b : Bool) → AllWanted W (cond b ((key nid c, value) ∷ []) [])
    by true = All-cons (λ (w : ControlKey × ℕ). w.1 ≡ W w.0) (key nid c, value) [] is (All-nil (λ (w : ControlKey × ℕ). w.1 ≡ W w.0))
    by false = All-nil (λ (w : ControlKey × ℕ). w.1 ≡ W w.0)

-- a verb that writes one control
pub one_wanted : (W : ControlKey → ℕ) (codec : RawCodec) (nid : ℕ) (verb : Verb) (c : Control) (value : ℕ) → ((settings : Entries) → verb_writes codec settings nid verb ≡ written codec nid c value) → value ≡ W (key nid c)
    → IsWanted W codec (command_to codec nid verb)
unfolding writes_of
one_wanted W codec nid verb c value writes is = record { writes = λ settings. go settings }
  where
    go : (settings : Entries) → AllWanted W (writes_of codec settings (command_to codec nid verb))
    go settings = subst (λ (ws : Entries). AllWanted W ws) (sym (writes settings)) (all_written W codec nid c value is)

hit_written : (codec : RawCodec) (nid : ℕ) (c : Control) (value : ℕ) → has_control codec nid c ≡ true → has_key (key nid c) (written codec nid c value) ≡ true
hit_written codec nid c value has =
    ap (λ b. has_key (key nid c) (cond b ((key nid c, value) ∷ []) [])) has ∙ ap (λ b. b || false) (here (key nid c))

pub one_sets : (codec : RawCodec) (nid : ℕ) (verb : Verb) (c : Control) (value : ℕ) → ((settings : Entries) → verb_writes codec settings nid verb ≡ written codec nid c value) → has_control codec nid c ≡ true
    → Sets codec (command_to codec nid verb) nid c
unfolding writes_of
one_sets codec nid verb c value writes has = record { hit = λ settings. go settings }
  where
    go : (settings : Entries) → has_key (key nid c) (writes_of codec settings (command_to codec nid verb)) ≡ true
    go settings = ap (λ (ws : Entries). has_key (key nid c) ws) (writes settings) ∙ hit_written codec nid c value has

-- a verb that writes the two sides of an amplifier
abbrev pub two_written : RawCodec → ℕ → Control → Control → ℕ → Entries
two_written codec nid left right value = written codec nid left value ++ written codec nid right value

pub two_wanted : (W : ControlKey → ℕ) (codec : RawCodec) (nid : ℕ) (verb : Verb) (left right : Control) (value : ℕ) → ((settings : Entries) → verb_writes codec settings nid verb ≡ two_written codec nid left right value) → value ≡ W (key nid left) → value ≡ W (key nid right)
    → IsWanted W codec (command_to codec nid verb)
unfolding writes_of
two_wanted W codec nid verb left right value writes is is' = record { writes = λ settings. go settings }
  where
    go : (settings : Entries) → AllWanted W (writes_of codec settings (command_to codec nid verb))
    go settings =
        subst (λ (ws : Entries). AllWanted W ws) (sym (writes settings))
        (All-append (λ (w : ControlKey × ℕ). w.1 ≡ W w.0) (written codec nid left value) (written codec nid right value) (all_written W codec nid left value is) (all_written W codec nid right value is'))

or_left_true : (a b : Bool) → a ≡ true → (a || b) ≡ true
or_left_true true b e = refl
or_left_true false b e = cc

pub left_sets : (codec : RawCodec) (nid : ℕ) (verb : Verb) (left right : Control) (value : ℕ) → ((settings : Entries) → verb_writes codec settings nid verb ≡ two_written codec nid left right value) → has_control codec nid left ≡ true
    → Sets codec (command_to codec nid verb) nid left
unfolding writes_of
left_sets codec nid verb left right value writes has = record { hit = λ settings. go settings }
  where
    go : (settings : Entries) → has_key (key nid left) (writes_of codec settings (command_to codec nid verb)) ≡ true
    go settings =
        ap (λ (ws : Entries). has_key (key nid left) ws) (writes settings)
        ∙ list_any-append (λ (w : ControlKey × ℕ). is_at (key_cmp (key nid left)) w.0) (written codec nid left value) (written codec nid right value)
        ∙ or_left_true _ _ (hit_written codec nid left value has)

pub right_sets : (codec : RawCodec) (nid : ℕ) (verb : Verb) (left right : Control) (value : ℕ) → ((settings : Entries) → verb_writes codec settings nid verb ≡ two_written codec nid left right value) → has_control codec nid right ≡ true
    → Sets codec (command_to codec nid verb) nid right
unfolding writes_of
right_sets codec nid verb left right value writes has = record { hit = λ settings. go settings }
  where
    go : (settings : Entries) → has_key (key nid right) (writes_of codec settings (command_to codec nid verb)) ≡ true
    go settings =
        ap (λ (ws : Entries). has_key (key nid right) ws) (writes settings)
        ∙ list_any-append (λ (w : ControlKey × ℕ). is_at (key_cmp (key nid right)) w.0) (written codec nid left value) (written codec nid right value)
        ∙ or_right _ _ (hit_written codec nid right value has)

-- ---- amplifiers

pub input_writes : (codec : RawCodec) (nid : ℕ) (node : RawNode) (place gain : ℕ) (mute : Bool) → node_at codec nid ≡ Some node → place < 16 → gain < 128 → (settings : Entries)
    → verb_writes codec settings nid (SetAmp (amplifiers.setting_payload (input_setting place mute gain))) ≡ two_written codec nid (control.InLeft place) (control.InRight place) (kept_amplifier (input_amplifier_word codec node) (input_setting place mute gain))
input_writes codec nid node place gain mute there low small settings =
    ap (λ (s : AmpSetting). amplifier_writes codec nid s) (setting_of-payload (input_setting place mute gain) (record { place = low; gain = small }))
    ∙ ap (λ (o : Option RawNode). two_written codec nid (control.InLeft place) (control.InRight place) (kept_amplifier (node_input_word codec o) (input_setting place mute gain))) there

pub output_writes : (codec : RawCodec) (nid : ℕ) (node : RawNode) (gain : ℕ) → node_at codec nid ≡ Some node → gain < 128 → (settings : Entries)
    → verb_writes codec settings nid (SetAmp (amplifiers.setting_payload (output_setting gain))) ≡ two_written codec nid control.OutLeft control.OutRight (kept_amplifier (output_amplifier_word codec node) (output_setting gain))
output_writes codec nid node gain there small settings =
    ap (λ (s : AmpSetting). amplifier_writes codec nid s) (setting_of-payload (output_setting gain) (record { place = omega arith; gain = small }))
    ∙ ap (λ (ws : Entries). written codec nid control.OutLeft (kept_amplifier (node_output_word codec (node_at codec nid)) (output_setting gain)) ++ ws) (append-nil (written codec nid control.OutRight (kept_amplifier (node_output_word codec (node_at codec nid)) (output_setting gain))))
    ∙ ap (λ (o : Option RawNode). two_written codec nid control.OutLeft control.OutRight (kept_amplifier (node_output_word codec o) (output_setting gain))) there

-- a verb that writes one control where a test passes
pub if_wanted : (W : ControlKey → ℕ) (codec : RawCodec) (nid : ℕ) (verb : Verb) (c : Control) (value : ℕ) (test : Bool) → ((settings : Entries) → verb_writes codec settings nid verb ≡ cond test (written codec nid c value) []) → value ≡ W (key nid c)
    → IsWanted W codec (command_to codec nid verb)
unfolding writes_of
if_wanted W codec nid verb c value test writes is = record { writes = λ settings. subst (λ (ws : Entries). AllWanted W ws) (sym (writes settings)) (by test) }
  where
    by : (b : Bool) → AllWanted W (cond b (written codec nid c value) [])
    by true = all_written W codec nid c value is
    by false = All-nil (λ (w : ControlKey × ℕ). w.1 ≡ W w.0)

-- every widget is wanted fully on
pub wanted-power : (kind : PinKind) (codec : RawCodec) (plan : Plan) (format : Format) (tag nid : ℕ) → wanted kind codec plan format tag (key nid control.Power) ≡ 0
unfolding wanted
wanted-power kind codec plan format tag nid = by (node_at codec nid)
  where
    by : (o : Option RawNode) → wanted_at kind codec plan format tag nid o (role_of plan nid) control.Power ≡ 0
    by None = refl
    by (Some node) = refl
