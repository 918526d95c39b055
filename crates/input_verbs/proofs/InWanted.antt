-- What each control is to be set to by the verbs of an input.
use Rattle.std.proofs.Common.{◌≡◌, ◌*◌, ◌^◌, ℕ, Option, Some, None, refl, ap, ◌∙◌}
use Rattle.std.specs.Prelude.{bit_and}
use Rattle.codec_graph.specs.declared.raw.RawNode.{RawNode}
use Rattle.codec_graph.specs.declared.raw.RawCodec.{RawCodec}
use Rattle.codec_graph.specs.declared.controls.Control.{Control}
use Rattle.codec_graph.specs.declared.controls.Control.TheVariants as control
use Rattle.codec_graph.specs.declared.controls.ControlKey.{ControlKey}
use Rattle.codec_graph.specs.Widget.{node_at}
use Rattle.codec_graph.specs.Settings.{key}
use Rattle.codec_graph.specs.VerbMeaning.{pin_bits}
use Rattle.stream_format.specs.declared.format.Format.{Format}
use Rattle.stream_format.specs.Words.{format_word}
use Rattle.route_planner.specs.declared.routes.Plan.{Plan}
use Rattle.setup_verbs.specs.declared.roles.Role.{Role}
use Rattle.setup_verbs.specs.declared.roles.Role.TheVariants.{Unused, Passed, Source}
use Rattle.setup_verbs.proofs.Callers.{select_wanted, input_wanted, output_wanted}
use Rattle.input_verbs.specs.InputVerbs.{input_role_of, input_control}

abbrev pub in_stream_wanted : (tag : ℕ) → Role → ℕ
in_stream_wanted tag Unused = 0
in_stream_wanted tag (Passed index) = tag * 2 ^ 4
in_stream_wanted tag (Source pair) = 0

abbrev pub in_pin_wanted : Role → ℕ
in_pin_wanted Unused = bit_and 0 pin_bits
in_pin_wanted (Passed index) = 0
in_pin_wanted (Source pair) = bit_and input_control pin_bits

abbrev pub in_widget_wanted : RawCodec → Format → (tag : ℕ) → RawNode → Role → Control → ℕ
in_widget_wanted codec format tag node role control.Select = select_wanted role
in_widget_wanted codec format tag node role control.Power = 0
in_widget_wanted codec format tag node role control.Stream = in_stream_wanted tag role
in_widget_wanted codec format tag node role control.Pin = in_pin_wanted role
in_widget_wanted codec format tag node role control.Unsol = 0
in_widget_wanted codec format tag node role control.Eapd = 0
in_widget_wanted codec format tag node role control.Digital = 0
in_widget_wanted codec format tag node role control.Default = 0
in_widget_wanted codec format tag node role control.Format = format_word format
in_widget_wanted codec format tag node role control.OutLeft = output_wanted codec node
in_widget_wanted codec format tag node role control.OutRight = output_wanted codec node
in_widget_wanted codec format tag node role (control.InLeft place) = input_wanted codec node (select_wanted role) place
in_widget_wanted codec format tag node role (control.InRight place) = input_wanted codec node (select_wanted role) place

abbrev pub in_wanted_at : RawCodec → Format → (tag : ℕ) → Option RawNode → Role → Control → ℕ
in_wanted_at codec format tag None role control = 0
in_wanted_at codec format tag (Some node) role control = in_widget_wanted codec format tag node role control

unfoldable pub in_wanted : RawCodec → Plan → Format → (tag : ℕ) → ControlKey → ℕ
in_wanted codec plan format tag at = in_wanted_at codec format tag (node_at codec at.nid) (input_role_of plan at.nid) at.control

-- at a widget
pub in_wanted-widget : (codec : RawCodec) (plan : Plan) (format : Format) (tag nid : ℕ) (node : RawNode) (role : Role) (c : Control) → node_at codec nid ≡ Some node → input_role_of plan nid ≡ role
    → in_wanted codec plan format tag (key nid c) ≡ in_widget_wanted codec format tag node role c
unfolding in_wanted
in_wanted-widget codec plan format tag nid node role c there is =
    ap (λ (o : Option RawNode). in_wanted_at codec format tag o (input_role_of plan nid) c) there
    ∙ ap (λ (r : Role). in_widget_wanted codec format tag node r c) is

-- every widget is wanted fully on
pub in_wanted-power : (codec : RawCodec) (plan : Plan) (format : Format) (tag nid : ℕ) → in_wanted codec plan format tag (key nid control.Power) ≡ 0
unfolding in_wanted
in_wanted-power codec plan format tag nid = by (node_at codec nid)
  where
    by : (o : Option RawNode) → in_wanted_at codec format tag o (input_role_of plan nid) control.Power ≡ 0
    by None = refl
    by (Some node) = refl
