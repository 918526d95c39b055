-- The line of an entry of a journal, and the text of a journal. This project's own.
use Rattle.std.specs.Prelude.{ℕ, List, [], ◌∷◌, ◌++◌, length, take, nat_le, codes, decimal}
use Rattle.std.specs.Prelude.{Option, Some, None, if◌then◌else◌}
use Rattle.std.specs.Int.{to_be_bytes, w64}
use Rattle.hex.specs.Hex.{encode_lower}
use Rattle.hda_registers.specs.declared.shapes.Width.{Width}
use Rattle.hda_world.specs.Events.{Event, Stepped, Begin, End, Read, Write, DmaRead, DmaWrite}
use Rattle.world_rings.specs.Memory.{word_at}
use Rattle.world_rings.specs.declared.response.Response.{Response}
use Rattle.world_streams.specs.declared.buffers.Buffer.{Buffer}
use Rattle.world_streams.specs.Lists.{buffer_of}
use Rattle.command_engine.specs.declared.answers.Outstanding.{Outstanding}
use Rattle.command_engine.specs.Entries.{response_in}
use Rattle.driver_progress.specs.declared.phase.Phase.{Phase}
use Rattle.driver_progress.specs.declared.phase.Phase.TheVariants as phase
use Rattle.sound_report.specs.declared.played.PlayFault.{PlayFault}
use Rattle.sound_report.specs.PlanLines.{newline}
use Rattle.trace_lines.specs.declared.purposes.Bases.{Bases}
use Rattle.trace_lines.specs.declared.purposes.Listed.{Listed}
use Rattle.trace_lines.specs.declared.purposes.Purpose.{Purpose}
use Rattle.trace_lines.specs.declared.purposes.Purpose.TheVariants as purpose
use Rattle.trace_lines.specs.declared.situations.Situation.{Situation}
use Rattle.trace_lines.specs.Registers.{access_text}
use Rattle.trace_lines.specs.Steps.{step_text}
use Rattle.trace_lines.specs.Verbs.{order_text, word_text}
use Rattle.trace_lines.specs.Purposes.{purpose_of}
use Rattle.trace_lines.specs.Situations.{phase_after, is_answer, after_entry, listed_in}

-- ---- calls

abbrev pub phase_word : Phase → List ℕ
phase_word phase.Reset = codes "Reset"
phase_word phase.Settling = codes "Settling"
phase_word phase.Walking = codes "Walking"
phase_word phase.SettingUp = codes "SettingUp"
phase_word phase.Ready = codes "Ready"
phase_word phase.Playing = codes "Playing"
phase_word phase.Drained = codes "Drained"
phase_word phase.NothingRouted = codes "NothingRouted"
phase_word (phase.Unanswered codec command issued noticed) = codes "Unanswered"
phase_word (phase.Late from to limit) = codes "Late"
phase_word (phase.Malformed codec wrong) = codes "Malformed"
phase_word phase.Failed = codes "Failed"

-- ---- pieces of memory

-- how many bytes of a piece are shown at most
abbrev pub most_shown : ℕ
most_shown = 16

-- so many bytes, the first of them, and two points where there are more
abbrev pub bytes_text : List ℕ → List ℕ
bytes_text bytes =
    decimal (length bytes) ++ codes " " ++ encode_lower (take most_shown bytes)
    ++ (if nat_le (length bytes) most_shown then [] else codes "..")

-- the command that a response answers
abbrev pub command_answered : Option Outstanding → List ℕ
command_answered None = []
command_answered (Some command) = codes " answers " ++ word_text command.word

-- what a response is: it came unasked, or answers the command that waits, or answers none that is known
abbrev pub response_kind : Situation → Response → List ℕ
response_kind situation response =
    if response.unsolicited then codes " unsolicited"
    else (if is_answer situation response then command_answered situation.waits else [])

-- a response and who sent it
abbrev pub answer_text : Response → List ℕ
answer_text response = word_text response.answer ++ codes " codec " ++ decimal response.codec

abbrev pub response_text : Situation → Response → List ℕ
response_text situation response = answer_text response ++ response_kind situation response

-- an entry of the list of buffers: the address, the bytes, and whether IOC is set (3.6.3)
abbrev pub buffer_text : Buffer → List ℕ
buffer_text buffer =
    encode_lower (to_be_bytes w64 buffer.address) ++ codes " " ++ decimal buffer.bytes
    ++ (if buffer.interrupts then codes " IOC" else [])

-- a number behind a word, and a space
abbrev pub numbered : List ℕ → ℕ → List ℕ
numbered word number = word ++ decimal number ++ codes " "

-- a place of a period
abbrev pub place_text : (number place : ℕ) → List ℕ
place_text number place = numbered (codes "period ") number ++ decimal place ++ codes " "

-- a piece by what it is
abbrev pub piece_text : Situation → Purpose → (at : ℕ) → (bytes : List ℕ) → List ℕ
piece_text situation (purpose.Command number) at bytes =
    numbered (codes "CORB ") number ++ order_text (word_at bytes 0)
piece_text situation (purpose.Response number) at bytes =
    numbered (codes "RIRB ") number ++ response_text situation (response_in bytes)
piece_text situation (purpose.Buffer number) at bytes =
    numbered (codes "BDL ") number ++ buffer_text (buffer_of bytes 0 0)
piece_text situation (purpose.Period number place) at bytes =
    place_text number place ++ bytes_text bytes
piece_text situation purpose.Other at bytes = word_text at ++ codes " " ++ bytes_text bytes

-- ---- an entry

-- an access to a register behind its letter
abbrev pub access_line : List ℕ → (at : ℕ) → Width → (value : ℕ) → List ℕ
access_line letter at width value = letter ++ access_text at width value ++ newline

-- a piece of memory behind its letters
abbrev pub memory_line : List ℕ → Bases → List Listed → Situation → (at : ℕ) → (bytes : List ℕ) → List ℕ
memory_line letters bases buffers situation at bytes =
    letters ++ piece_text situation (purpose_of bases buffers at (length bytes)) at bytes ++ newline

abbrev pub line_of : Bases → Option PlayFault → List Listed → Situation → Event → List ℕ
line_of bases end buffers situation (Stepped step) = step_text step ++ newline
line_of bases end buffers situation Begin = codes "begin\n"
line_of bases end buffers situation End = codes "end " ++ phase_word (phase_after end situation) ++ newline
line_of bases end buffers situation (Read at width value) = access_line (codes "R") at width value
line_of bases end buffers situation (Write at width value) = access_line (codes "W") at width value
line_of bases end buffers situation (DmaRead at bytes) = memory_line (codes "DR ") bases buffers situation at bytes
line_of bases end buffers situation (DmaWrite at bytes) = memory_line (codes "DW ") bases buffers situation at bytes

-- ---- a journal

-- the lines of entries, where these entries of the list of buffers were written before and the driver stands so
abbrev pub lines_from : Bases → Option PlayFault → List Listed → Situation → List Event → List ℕ
lines_from bases end buffers situation [] = []
lines_from bases end buffers situation (event ∷ events) =
    line_of bases end buffers situation event
    ++ lines_from bases end (buffers ++ listed_in bases buffers event)
    (after_entry bases end buffers situation event) events
