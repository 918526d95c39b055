-- The lines of runs, of silences, of jacks and of switches. This project's own.
use Rattle.std.specs.Prelude.{List, ℕ, Bool, ◌++◌, codes, decimal, if◌then◌else◌}
use Rattle.period_writer.specs.declared.course.Run.{Run}
use Rattle.period_writer.specs.declared.course.Span.{Span}
use Rattle.driver_progress.specs.declared.jack.Jack.{Jack}
use Rattle.sound_report.specs.declared.switch.Switch.{Switch}
use Rattle.sound_report.specs.PlanLines.{nid_text, newline}

-- a run: where the link stood, the clocks that it read first and last, how much it might write and how much it wrote
abbrev pub run_line : Run → List ℕ
run_line run =
    codes "run " ++ decimal run.at ++ codes " " ++ decimal run.from ++ codes " " ++ decimal run.to
    ++ codes " " ++ decimal run.budget
    ++ codes " " ++ decimal run.written ++ newline

-- a silence: the position of its first byte, and the position after its last
abbrev pub silence_line : Span → List ℕ
silence_line span = codes "silence " ++ decimal span.start ++ codes " " ++ decimal span.end ++ newline

-- a jack: the codec, the tag, and how often a response with it was read
abbrev pub jack_line : Jack → List ℕ
jack_line jack = codes "jack " ++ decimal jack.codec ++ codes " " ++ decimal jack.tag ++ codes " " ++ decimal
    jack.times ++ newline

-- whether a pin's output is enabled
abbrev pub on_text : Bool → List ℕ
on_text on = if on then codes "on" else codes "off"

-- a switch: the codec, the pin's node identifier, from which block on, and whether the pin was switched on
abbrev pub switch_line : Switch → List ℕ
switch_line switch = codes "switch " ++ decimal switch.codec ++ codes " " ++ nid_text switch.pin ++ codes " "
    ++ decimal switch.at ++ codes " " ++ on_text switch.on ++ newline
