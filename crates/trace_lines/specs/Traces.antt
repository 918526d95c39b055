-- The trace of a run: its journal as a text. This project's own.
use Rattle.std.specs.Prelude.{ℕ, List, [], Option}
use Rattle.hda_world.specs.Events.{Event}
use Rattle.hda_world.specs.JournalEvents.{events_of}
use Rattle.sound_report.specs.declared.played.Played.{Played}
use Rattle.sound_report.specs.declared.played.PlayFault.{PlayFault}
use Rattle.trace_lines.specs.declared.whole.Form.{Form}
use Rattle.trace_lines.specs.declared.whole.Form.TheVariants as form
use Rattle.trace_lines.specs.Lines.{lines_from}
use Rattle.trace_lines.specs.Purposes.{bases_in}
use Rattle.trace_lines.specs.Raw.{raw_lines}
use Rattle.trace_lines.specs.Situations.{situation_opened}

-- the text of a journal, of a run that takes so many commands, so many of them for the walks, and ended for this fault
abbrev pub journal_lines : (commands walks : ℕ) → Option PlayFault → List Event → List ℕ
journal_lines commands walks end events = lines_from (bases_in events) end [] (situation_opened commands walks) events

abbrev pub text_by : Form → (commands walks : ℕ) → Option PlayFault → List Event → List ℕ
text_by form.Lines commands walks end events = journal_lines commands walks end events
text_by form.Raw commands walks end events = raw_lines events

-- the text of a run's journal in a form, where so many of its commands are those of the walks
abbrev pub trace_text : Form → (walks : ℕ) → Played → List ℕ
trace_text form walks played = text_by form played.commands walks played.fault (events_of played.journal)
