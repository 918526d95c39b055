-- The made machine is whole.
use Rattle.std.proofs.Common.{◌≡◌, true, [], Option, sym, ap, subst, ◌∙◌, lit≤}
use Rattle.std.specs.Prelude.{is_some}
use Rattle.std.proofs.lemmas.List.Elements.{All-nil, All-cons, All-head}
use Rattle.codec_graph.specs.declared.raw.RawNode.{RawNode}
use Rattle.codec_graph.specs.declared.controls.Control.TheVariants.{Default}
use Rattle.codec_graph.specs.Cycles.{IsWellFormed}
use Rattle.codec_graph.specs.Settings.{setting_at, node_opening, opening, IsSettingsOf}
use Rattle.codec_graph.proofs.Callers.{is_some-setting_at, found-opening, has_default, value_of}
use Rattle.codec_walk.specs.Replies.{HasDefaults}
use Rattle.laws_settings.specs.Readings.{KeepsDefaults}
use Rattle.hda_files.specs.declared.machine.Machine.{Machine}
use Rattle.hda_files.specs.Machines.{IsSound, IsSoundCodec}
use Rattle.hda_controller.specs.Openings.{codec_in}
use Rattle.laws_start.specs.Reading.{IsWhole}
use Rattle.made_inputs.specs.MadeMachine.{made_codec, made_file, made_machine}

has_defaults : IsWellFormed made_codec → IsSettingsOf made_codec (opening made_codec) → HasDefaults made_codec (opening made_codec)
has_defaults well settings nid node there pin =
    let has : is_some (setting_at (opening made_codec) nid Default) ≡ true =
    is_some-setting_at made_codec (opening made_codec) nid Default well settings.keys ∙ has_default made_codec nid node well there pin in
    value_of (setting_at (opening made_codec) nid Default) node.default has
    (λ value found. found-opening made_codec nid Default value found ∙ ap (λ (at : Option RawNode). node_opening made_codec at Default) there)

made_whole : IsWellFormed made_codec → IsSound made_machine → IsWhole made_machine
made_whole well sound =
    let settings = (All-head IsSoundCodec made_file [] sound.each).settings in
    record {
      well_formed = All-cons IsWellFormed made_codec [] well (All-nil IsWellFormed);
      few = lit≤ tt;
      defaults = All-cons KeepsDefaults (codec_in made_file) [] (record { settings = settings; defaults = has_defaults well settings }) (All-nil KeepsDefaults);
      some_fifo = lit≤ tt;
      small_fifo = lit≤ tt;
    }

pub whole : (machine : Machine) → machine ≡ made_machine → IsWellFormed made_codec → IsSound machine → IsWhole machine
whole machine is well sound = subst IsWhole (sym is) (made_whole well (subst IsSound is sound))
