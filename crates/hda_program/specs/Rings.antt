-- The ring of sound that words ask for, for a machine and a sound, or why it is no good. This project's own.
use Rattle.std.specs.Prelude.{◌≡◌, ℕ, Some}
use Rattle.hda_files.specs.declared.machine.Machine.{Machine}
use Rattle.period_writer.specs.declared.geometry.Geometry.{Geometry}
use Rattle.period_writer.specs.declared.geometry.GeometryFault.{GeometryFault}
use Rattle.period_writer.specs.Rings.{fault_of}
use Rattle.stream_format.specs.declared.format.Format.{Format}
use Rattle.wav_reader.specs.declared.opened.WavHead.{WavHead}
use Rattle.sound_report.specs.declared.status.Status.TheVariants.{GeometryRefused}
use Rattle.program_runs.specs.Shapes.{HasShape}
use Rattle.hda_program.specs.Meanings.{Meant, telling}
use Rattle.period_writer.specs.FaultText.{ring_fault_text}
use Rattle.hda_program.specs.Text.{geometry_refused_line}

-- the ring has the numbers of the words, and is for the machine's FIFO and a sound's format
abbrev pub IsRingIn : (periods period : ℕ) → Machine → Format → Geometry → Type 0
IsRingIn periods period machine format geometry = HasShape periods period machine.fifo format geometry

-- such a ring has this fault
abbrev pub IsBadRingIn : (periods period : ℕ) → Machine → Format → GeometryFault → Type 0
IsBadRingIn periods period machine format fault = fault_of periods period machine.fifo format ≡ Some fault

-- a command ends at its ring, whose fault the text names
abbrev pub RingStopsIn : (periods period : ℕ) → Machine → Format → Meant → Type 0
RingStopsIn periods period machine format meant =
    (fault : GeometryFault) × IsBadRingIn periods period machine format fault
    × (meant ≡ telling GeometryRefused (geometry_refused_line (ring_fault_text fault)))

-- so for the sound that a WAV file says
abbrev pub IsRingOf : (periods period : ℕ) → Machine → WavHead → Geometry → Type 0
IsRingOf periods period machine head geometry = IsRingIn periods period machine head.format geometry

abbrev pub IsBadRing : (periods period : ℕ) → Machine → WavHead → GeometryFault → Type 0
IsBadRing periods period machine head fault = IsBadRingIn periods period machine head.format fault

abbrev pub RingStops : (periods period : ℕ) → Machine → WavHead → Meant → Type 0
RingStops periods period machine head meant = RingStopsIn periods period machine head.format meant
