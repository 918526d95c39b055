-- Kept signals that are worked out anew for the codecs of a device.
use Rattle.std.specs.Prelude.{ℕ, zero, suc, Bool, List, [], ◌∷◌, Option, Some, None, if◌then◌else◌}
use Rattle.codec_graph.specs.CodecStates.{CodecState}
use Rattle.codec_sound.specs.Keeping.{KeptSignals, renewed, counted_on}
use Rattle.codec_graph.specs.declared.pin_kind.PinKind.{PinKind}
use Rattle.device_core.specs.declared.codecs.Handed.{Handed}
use Rattle.device_core.specs.Devices.{DeviceState}
use Rattle.hda_controller.specs.Commands.{is_set_command}
use Rattle.hda_controller.specs.Keeping.{signal_set}

-- the signals of a codec's pins as they are now, which is counted
abbrev pub renewed_for : PinKind → ℕ → ℕ → CodecState → KeptSignals → KeptSignals
renewed_for kind tag word codec kept = record {
  pins = renewed (signal_set kind codec.graph codec.settings tag word) kept.pins;
  renewals = counted_on kept.renewals;
}

-- those of each codec
abbrev pub all_renewed : PinKind → ℕ → ℕ → List CodecState → List KeptSignals → List KeptSignals
all_renewed kind tag word [] kept = kept
all_renewed kind tag word (codec ∷ codecs) [] = []
all_renewed kind tag word (codec ∷ codecs) (one ∷ kept) = renewed_for kind tag word codec one ∷ all_renewed kind tag
    word codecs kept

-- those of the codec at a place
abbrev pub one_renewed : PinKind → ℕ → ℕ → List CodecState → ℕ → List KeptSignals → List KeptSignals
one_renewed kind tag word [] place kept = kept
one_renewed kind tag word (codec ∷ codecs) place [] = []
one_renewed kind tag word (codec ∷ codecs) zero (one ∷ kept) = renewed_for kind tag word codec one ∷ kept
one_renewed kind tag word (codec ∷ codecs) (suc place) (one ∷ kept) = one ∷ one_renewed kind tag word codecs place kept

-- with the tag and the format of a device's output stream
abbrev pub renewed_if : PinKind → Bool → DeviceState → List KeptSignals → List KeptSignals
renewed_if kind touched device kept =
    if touched then all_renewed kind device.registers.output.tag device.registers.output.format device.codecs kept else
    kept

abbrev pub renewed_after : PinKind → Option Handed → DeviceState → List KeptSignals → List KeptSignals
renewed_after kind None device kept = kept
renewed_after kind (Some handed) device kept =
    if is_set_command handed.word
    then one_renewed kind device.registers.output.tag device.registers.output.format device.codecs handed.place kept
    else
    kept
