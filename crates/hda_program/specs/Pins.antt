-- How many pins a sound can be played through. This project's own.
use Rattle.std.specs.Prelude.{◌≡◌, ◌≤◌, ◌<◌, ℕ, List, count_by, sum_by}
use Rattle.std.specs.List.{range_with_len}
use Rattle.codec_graph.specs.declared.raw.RawCodec.{RawCodec}
use Rattle.codec_graph.specs.Widget.{node_identifiers}
use Rattle.codec_graph.specs.declared.pin_kind.PinKind.{PinKind}
use Rattle.codec_graph.specs.declared.pin_kind.PinKind.TheVariants.{Analog, Digital}
use Rattle.codec_graph.specs.Kinds.{is_candidate_as}
use Rattle.hda_files.specs.declared.machine.CodecFile.{CodecFile}
use Rattle.hda_files.specs.declared.fault.FileFault.TheVariants.{TooManyPins}
use Rattle.hda_files.specs.FaultText.{file_fault_text}
use Rattle.sound_report.specs.declared.status.Status.TheVariants.{CodecRefused}
use Rattle.hda_program.specs.Meanings.{Meant, telling}
use Rattle.hda_program.specs.Text.{codec_refused_line}

-- how many of a codec's node identifiers are those of candidate pins of the kind
unfoldable pub pins_in : PinKind → RawCodec → ℕ
pins_in kind codec = count_by (is_candidate_as kind codec) (range_with_len 0 node_identifiers)

-- how many candidate pins of the kind some codecs have together
abbrev pub pins_among : PinKind → List CodecFile → ℕ
pins_among kind files = sum_by (λ (file : CodecFile). pins_in kind file.graph) files

-- how many a sound can be played through
abbrev pub most_pins : ℕ
most_pins = 16

-- the codecs of a file have more digital ones. Of analog ones no file that reads as a machine has more
abbrev pub AreTooManyPins : PinKind → List CodecFile → Type 0
AreTooManyPins Analog files = ⊥
AreTooManyPins Digital files = most_pins < pins_among Digital files

abbrev pub AreFewPins : PinKind → List CodecFile → Type 0
AreFewPins Analog files = Unit {0}
AreFewPins Digital files = pins_among Digital files ≤ most_pins

-- a command ends at the pins of its codec file: they are too many, and the text says so
abbrev pub PinsStop : PinKind → List CodecFile → Meant → Type 0
PinsStop kind files meant =
    AreTooManyPins kind files × (meant ≡ telling CodecRefused (codec_refused_line (file_fault_text TooManyPins)))
