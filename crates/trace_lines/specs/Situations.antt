-- Where a driver stands between two entries of its journal, as the entries before show it: the phase that its calls led
-- to, the commands that it sent, and what it saw in the call that is open. This project's own, over the registers of
-- High Definition Audio 1.0a, 3.3, and the verbs of 7.3.3.
use Rattle.std.specs.Prelude.{ℕ, ◌+◌, ◌-◌, ◌==◌, ◌&&◌, ◌||◌, Bool, true, false, not, List, [], ◌∷◌, length, nat_le}
use Rattle.std.specs.Prelude.{Option, Some, None, unwrap_or, if◌then◌else◌}
use Rattle.std.specs.Option.{option_or}
use Rattle.verb_codes.specs.Words.{bits_of, has_bit}
use Rattle.hda_registers.specs.declared.places.TheConstants.{GCTL, WALCLK, CORBCTL}
use Rattle.hda_world.specs.Events.{Event, Stepped, Begin, End, Read, Write, DmaRead, DmaWrite}
use Rattle.world_rings.specs.Memory.{word_at}
use Rattle.world_rings.specs.declared.response.Response.{Response}
use Rattle.world_streams.specs.Lists.{buffer_of}
use Rattle.command_engine.specs.declared.answers.Outstanding.{Outstanding}
use Rattle.command_engine.specs.Entries.{answers_it, response_in}
use Rattle.command_engine.specs.Polling.{answer_limit, asked_of}
use Rattle.period_writer.specs.declared.registers.TheConstants.{CONTROL}
use Rattle.driver_progress.specs.declared.phase.Phase.{Phase}
use Rattle.driver_progress.specs.declared.phase.Phase.TheVariants as phase
use Rattle.sound_report.specs.declared.played.PlayFault.{PlayFault}
use Rattle.sound_report.specs.declared.played.PlayFault.TheVariants as fault
use Rattle.trace_lines.specs.declared.purposes.Bases.{Bases}
use Rattle.trace_lines.specs.declared.purposes.Listed.{Listed}
use Rattle.trace_lines.specs.declared.purposes.Purpose.{Purpose}
use Rattle.trace_lines.specs.declared.purposes.Purpose.TheVariants as purpose
use Rattle.trace_lines.specs.declared.situations.Call.{Call}
use Rattle.trace_lines.specs.declared.situations.Situation.{Situation}
use Rattle.trace_lines.specs.Purposes.{purpose_of}

-- ---- a call

-- nothing was seen yet
abbrev pub call_opened : Call
call_opened = record {
  clock = None;
  woken = false;
  started = false;
  asked = false;
  answered = false;
  ran = false;
  stopped = false;
}

-- a read of the wall clock, of which the first counts, and of CRST
abbrev pub after_get : (at value : ℕ) → Call → Call
after_get at value call = record call {
  clock = if at == WALCLK then option_or call.clock (Some value) else call.clock;
  woken = call.woken || (at == GCTL && has_bit value 0);
}

-- a write of CORBRUN, and of RUN of the output stream
abbrev pub after_put : (at value : ℕ) → Call → Call
after_put at value call = record call {
  started = call.started || (at == CORBCTL && has_bit value 1);
  ran = call.ran || (at == CONTROL && has_bit value 1);
  stopped = call.stopped || (at == CONTROL && not (has_bit value 1));
}

-- ---- commands

-- before the first entry of a run that takes so many commands, of which so many are those of the walks
abbrev pub situation_opened : (commands walks : ℕ) → Situation
situation_opened commands walks =
    record { phase = phase.Reset; left = commands; unwalked = walks; setting = false; waits = None; call = call_opened }

-- a command was written to CORB, at the clock that the call read first: one of the walks, or else one that sets up
abbrev pub sent : ℕ → Situation → Situation
sent word situation = record situation {
  left = situation.left - 1;
  unwalked = situation.unwalked - 1;
  setting = situation.unwalked == 0;
  waits = Some (record { codec = bits_of word 28 4; word = word; issued = unwrap_or situation.call.clock 0 });
  call = record situation.call { asked = true };
}

-- a response was read of RIRB: it answers the command that waits where it is of its codec and did not come unasked
abbrev pub is_answer : Situation → Response → Bool
is_answer situation response = answers_it (asked_of situation.waits) response

abbrev pub answered_if : Bool → Situation → Situation
answered_if true situation = record situation { waits = None; call = record situation.call { answered = true } }
answered_if false situation = situation

abbrev pub after_response : Response → Situation → Situation
after_response response situation = answered_if (is_answer situation response) situation

-- a piece that was written, and one that was read
abbrev pub after_store : Purpose → (bytes : List ℕ) → Situation → Situation
after_store (purpose.Command number) bytes situation = sent (word_at bytes 0) situation
after_store (purpose.Response number) bytes situation = situation
after_store (purpose.Buffer number) bytes situation = situation
after_store (purpose.Period number place) bytes situation = situation
after_store purpose.Other bytes situation = situation

abbrev pub after_load : Purpose → (bytes : List ℕ) → Situation → Situation
after_load (purpose.Command number) bytes situation = situation
after_load (purpose.Response number) bytes situation = after_response (response_in bytes) situation
after_load (purpose.Buffer number) bytes situation = situation
after_load (purpose.Period number place) bytes situation = situation
after_load purpose.Other bytes situation = situation

-- ---- the phase after a call

-- while commands are sent: the codecs are set up once all of the walks were answered
abbrev pub phase_asking : (walked : Bool) → Phase
phase_asking walked = if walked then phase.SettingUp else phase.Walking

-- after an answer: all is set up where no command is left
abbrev pub phase_answered : Situation → Phase
phase_answered situation =
    if situation.left == 0 then phase.Ready else phase_asking (situation.unwalked == 0)

-- a command that waits is given up 1,000 link frames after its clock
abbrev pub overdue : Option Outstanding → (clock : Option ℕ) → Phase → Phase
overdue None clock now = now
overdue (Some command) None now = now
overdue (Some command) (Some clock) now =
    if nat_le (command.issued + answer_limit) clock
    then phase.Unanswered command.codec command.word command.issued clock else now

abbrev pub after_asking : Situation → Phase
after_asking situation =
    if situation.call.asked then phase_asking situation.setting
    else (if situation.call.answered then phase_answered situation
    else overdue situation.waits situation.call.clock situation.phase)

-- where the stream is stopped, why the run ended says how: all was played, a run was late, or frames are left
abbrev pub phase_stopped : Option PlayFault → Phase
phase_stopped None = phase.Drained
phase_stopped (Some (fault.Late from to limit)) = phase.Late from to limit
phase_stopped (Some (fault.FramesLeft written heard of)) = phase.Playing
phase_stopped (Some (fault.CommandsLeft sent of)) = phase.Playing
phase_stopped (Some (fault.Unanswered codec command issued noticed)) = phase.Playing

abbrev pub phase_if : Bool → Phase → Phase → Phase
phase_if seen first other = if seen then first else other

-- the phase after a call that ends so, of a run that ended for this fault. One that is over stays
abbrev pub phase_in : Option PlayFault → Situation → Phase → Phase
phase_in end situation phase.Reset = phase_if situation.call.woken phase.Settling phase.Reset
phase_in end situation phase.Settling = phase_if situation.call.started phase.Walking phase.Settling
phase_in end situation phase.Walking = after_asking situation
phase_in end situation phase.SettingUp = after_asking situation
phase_in end situation phase.Ready = phase_if situation.call.ran phase.Playing phase.Ready
phase_in end situation phase.Playing = phase_if situation.call.stopped (phase_stopped end) phase.Playing
phase_in end situation phase.Drained = phase.Drained
phase_in end situation phase.NothingRouted = phase.NothingRouted
phase_in end situation (phase.Unanswered codec command issued noticed) =
    phase.Unanswered codec command issued noticed
phase_in end situation (phase.Late from to limit) = phase.Late from to limit
phase_in end situation (phase.Malformed codec wrong) = phase.Malformed codec wrong
phase_in end situation phase.Failed = phase.Failed

abbrev pub phase_after : Option PlayFault → Situation → Phase
phase_after end situation = phase_in end situation situation.phase

-- ---- the next entry

abbrev pub after_entry : Bases → Option PlayFault → List Listed → Situation → Event → Situation
after_entry bases end buffers situation (Stepped step) = situation
after_entry bases end buffers situation Begin = record situation { call = call_opened }
after_entry bases end buffers situation End = record situation { phase = phase_after end situation }
after_entry bases end buffers situation (Read at width value) =
    record situation { call = after_get at value situation.call }
after_entry bases end buffers situation (Write at width value) =
    record situation { call = after_put at value situation.call }
after_entry bases end buffers situation (DmaRead at bytes) =
    after_load (purpose_of bases buffers at (length bytes)) bytes situation
after_entry bases end buffers situation (DmaWrite at bytes) =
    after_store (purpose_of bases buffers at (length bytes)) bytes situation

-- an entry of the list that was written: its number, and the buffer that it gives
abbrev pub listed_by : Purpose → (bytes : List ℕ) → List Listed
listed_by (purpose.Buffer number) bytes = record { index = number; buffer = buffer_of bytes 0 0 } ∷ []
listed_by (purpose.Command number) bytes = []
listed_by (purpose.Response number) bytes = []
listed_by (purpose.Period number place) bytes = []
listed_by purpose.Other bytes = []

-- the entries of the list that an event writes
abbrev pub listed_in : Bases → List Listed → Event → List Listed
listed_in bases buffers (DmaWrite at bytes) = listed_by (purpose_of bases buffers at (length bytes)) bytes
listed_in bases buffers (Stepped step) = []
listed_in bases buffers Begin = []
listed_in bases buffers End = []
listed_in bases buffers (Read at width value) = []
listed_in bases buffers (Write at width value) = []
listed_in bases buffers (DmaRead at bytes) = []
