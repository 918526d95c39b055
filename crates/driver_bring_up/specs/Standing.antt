-- Where a driver stands, by what comes next on its agenda. This project's own.
use Rattle.std.specs.Prelude.{◌≡◌, ℕ, ◌-◌, Bool, true, false, slice_get, slice_index, length, Option, Some, None}
use Rattle.std.specs.Option.{is_some}
use Rattle.verb_codes.specs.declared.verbs.Command.{Command}
use Rattle.route_setup.specs.Means.{Means}
use Rattle.command_engine.specs.declared.answers.Outstanding.{Outstanding}
use Rattle.driver_progress.specs.declared.phase.Phase.{Phase}
use Rattle.driver_progress.specs.declared.phase.Phase.TheVariants.{Walking, SettingUp, Ready, NothingRouted, Malformed}
use Rattle.driver_progress.specs.Phases.{goes_on}
use Rattle.driver_progress.specs.Tasks.{Task, Order, order_of}
use Rattle.driver_progress.specs.Next.{phase_of_answers}
use Rattle.driver_agenda.specs.declared.agenda.Agenda.{Agenda}
use Rattle.driver_agenda.specs.Agendas.{next_of, LedBy, TellsFault, TellsNoRoute}

abbrev pub next_on : Agenda → Option Command
next_on agenda = next_of agenda.walk agenda.verbs.items agenda.answered

-- the phase where this command comes next, in a walk or not
abbrev pub phase_at : (asks walks : Bool) → Phase
phase_at false walks = Ready
phase_at true true = Walking
phase_at true false = SettingUp

abbrev pub phase_of : Agenda → Phase
phase_of agenda = phase_at (is_some (next_on agenda)) (is_some agenda.walk)

-- an answer led to this phase
pub record LeadsOn (means : Means) (answer : ℕ) (old new : Agenda) (phase : Phase) : Type 0 where
  pub led : goes_on phase ≡ true → LedBy means old.walk answer old new
  pub phase_is : goes_on phase ≡ true → phase ≡ phase_of new

-- where the answer that led to it does not lead on, it tells why
abbrev pub EndsBy : (means : Means) (answer : ℕ) (old new : Agenda) → Phase → Type 0
EndsBy means answer old new NothingRouted =
    TellsNoRoute means old.walk answer old.addresses.items old.graphs.items new
EndsBy means answer old new (Malformed codec fault) =
    (codec ≡ slice_index old.addresses.items (length old.graphs.items)) × TellsFault old.walk answer fault
    × (new.graphs ≡ old.graphs) × (new.plans ≡ old.plans)
EndsBy means answer old new phase = goes_on phase ≡ true

-- how many commands were answered, where so many were sent
abbrev pub answers_of : (sent : ℕ) → Option Outstanding → ℕ
answers_of sent None = sent
answers_of sent (Some command) = sent - 1

abbrev pub order_in : Option Command → Option Order
order_in None = None
order_in (Some command) = Some (order_of command)

-- the task's command after so many is the agenda's, and so is the phase
pub record Agrees (task : Task) (count : ℕ) (agenda : Agenda) : Type 0 where
  pub order : order_in (next_on agenda) ≡ slice_get task.orders count
  pub phase : phase_of agenda ≡ phase_of_answers task count
