-- The whole text of a run of the driver. This project's own.
use Rattle.std.specs.Prelude.{ℕ, Bool, List, ◌++◌, codes, decimal, string_bytes, Option, Some, None, if◌then◌else◌}
use Rattle.std.specs.List.{flat_map}
use Rattle.std.specs.Int.{to_be_bytes, w32}
use Rattle.hex.specs.Hex.{encode_lower}
use Rattle.sound_report.specs.declared.played.Played.{Played}
use Rattle.sound_report.specs.declared.played.PlayFault.{PlayFault}
use Rattle.sound_report.specs.declared.played.PlayFault.TheVariants.{Unanswered, Late, CommandsLeft, FramesLeft}
use Rattle.sound_report.specs.declared.played.CutLine.{CutLine}
use Rattle.sound_report.specs.declared.played.CutLine.TheVariants.{Failed, Short}
use Rattle.sound_report.specs.declared.switch.Switch.{Switch}
use Rattle.sound_report.specs.PlanLines.{plans_lines, newline}
use Rattle.sound_report.specs.RunLines.{run_line, silence_line, jack_line, switch_line}
use Rattle.sound_report.specs.PinParts.{pin_part}

-- a command's word: eight lower hexadecimal digits
abbrev pub command_text : ℕ → List ℕ
command_text command = encode_lower (to_be_bytes w32 command)

-- a codec left a command unanswered: the codec, the command, and the clocks when it was issued and found unanswered
abbrev pub unanswered_line : ℕ → ℕ → ℕ → ℕ → List ℕ
unanswered_line codec command issued noticed =
    codes "unanswered " ++ decimal codec ++ codes " " ++ command_text command ++ codes " " ++ decimal issued
    ++ codes " " ++ decimal noticed ++ newline

-- a run was late: the clocks between which it was, and how many link frames might have passed
abbrev pub late_line : ℕ → ℕ → ℕ → List ℕ
late_line from to limit = codes "late " ++ decimal from ++ codes " " ++ decimal to ++ codes " " ++ decimal
    limit ++ newline

-- commands were left: how many were sent, and of how many
abbrev pub commands_left_line : ℕ → ℕ → List ℕ
commands_left_line sent of = codes "schedule ended: commands " ++ decimal sent ++ codes " of " ++ decimal of ++ newline

-- frames were left: how many were written, how many heard, and of how many
abbrev pub frames_left_line : ℕ → ℕ → ℕ → List ℕ
frames_left_line written heard of =
    codes "schedule ended: frames " ++ decimal written ++ codes " written " ++ decimal heard
    ++ codes " heard of " ++ decimal of ++ newline

-- why a run ended before it was done
abbrev pub fault_line : PlayFault → List ℕ
fault_line (Unanswered codec command issued noticed) = unanswered_line codec command issued noticed
fault_line (Late from to limit) = late_line from to limit
fault_line (CommandsLeft sent of) = commands_left_line sent of
fault_line (FramesLeft written heard of) = frames_left_line written heard of

-- what was done: a walk set codecs up by so many commands, and else so many frames were played
abbrev pub done_line : Bool → ℕ → ℕ → List ℕ
done_line walk commands total =
    if walk then codes "set up " ++ decimal commands ++ newline else codes "played " ++ decimal total ++ newline

-- a file could not be read: its name
abbrev pub unreadable_line : List ℕ → List ℕ
unreadable_line name = codes "cannot read: " ++ name ++ newline

-- the WAV file got shorter while it was played: the place at which it had no byte more
abbrev pub shrank_line : ℕ → List ℕ
shrank_line place = codes "wav shrank: " ++ decimal place ++ newline

-- how the reading of the sound was cut
abbrev pub cut_line : CutLine → List ℕ
cut_line (Failed name) = unreadable_line (string_bytes name)
cut_line (Short place) = shrank_line place

-- how it ended: how the reading was cut, or else why it ended early, or else what was done
abbrev pub ending_line : Option CutLine → Option PlayFault → List ℕ → List ℕ
ending_line (Some cut) fault done = cut_line cut
ending_line None (Some fault) done = fault_line fault
ending_line None None done = done

-- the last line
abbrev pub last_line : Played → List ℕ
last_line played = ending_line played.cut played.fault (done_line played.walk played.commands played.total)

-- the lines between the plans and the last one: runs, silences, jacks and pins
abbrev pub middle_lines : Played → List ℕ
middle_lines played =
    flat_map run_line played.runs
    ++ flat_map silence_line played.silences
    ++ flat_map jack_line played.jacks
    ++ flat_map (pin_part played.format.bits) played.heard

-- the text: plans, runs, silences, jacks, pins, and how it ended
abbrev pub text_of : Played → List ℕ
text_of played =
    plans_lines played.machine.codecs played.plans
    ++ middle_lines played
    ++ last_line played

-- the lines between the plans and the last one where speakers were switched: the switches stand before the pins
abbrev pub switched_lines : Played → List Switch → List ℕ
switched_lines played switches =
    flat_map run_line played.runs
    ++ flat_map silence_line played.silences
    ++ flat_map jack_line played.jacks
    ++ flat_map switch_line switches
    ++ flat_map (pin_part played.format.bits) played.heard

-- the text of a run in which speakers were switched
abbrev pub switched_text : Played → List Switch → List ℕ
switched_text played switches =
    plans_lines played.machine.codecs played.plans
    ++ switched_lines played switches
    ++ last_line played
