-- What a call of a bring-up does, against what is to be done. This project's own.
use Rattle.std.specs.Prelude.{◌≡◌, ◌≤◌, ◌⊎◌, ℕ, ◌+◌, Bool, true, false, ◌&&◌, ◌||◌, not, List, Option, Some, None}
use Rattle.std.specs.Prelude.{slice_index, []}
use Rattle.std.specs.Option.{is_some}
use Rattle.route_setup.specs.Means.{Means}
use Rattle.hda_registers.specs.declared.places.TheConstants.{STATESTS}
use Rattle.hda_world.specs.Events.{Event}
use Rattle.hda_world.specs.Tellings.{Telling, Between, Makes}
use Rattle.command_engine.specs.declared.answers.Event as told
use Rattle.command_engine.specs.Starting.{codecs_in}
use Rattle.command_engine.specs.Polling.{PollReads, AreNew, poll_accesses, rings_polled}
use Rattle.driver_agenda.specs.declared.agenda.Agenda.{Agenda}
use Rattle.driver_agenda.specs.Agendas.{BeginsWalk}
use Rattle.driver_bring_up.specs.Counted.{IsCount}
use Rattle.period_writer.specs.Runs.{tally_opened}
use Rattle.driver_progress.specs.declared.phase.Phase.{Phase}
use Rattle.driver_progress.specs.declared.phase.Phase.TheVariants.{Reset, Settling, Walking, Ready}
use Rattle.driver_progress.specs.Phases.{is_asking, is_settling, goes_on, can_follow}
use Rattle.driver_progress.specs.Tasks.{Task}
use Rattle.driver_progress.specs.Seen.{values_of}
use Rattle.driver_progress.specs.States.{State}
use Rattle.driver_progress.specs.Expected.{shuts}
use Rattle.driver_progress.specs.Beginning.{LeavesUntaken}
use Rattle.driver_progress.specs.Unread.{AreUnread}
use Rattle.driver_bring_up.specs.Addresses.{addresses_in}
use Rattle.driver_bring_up.specs.Standing.{Agrees, answers_of, LeadsOn, EndsBy}
use Rattle.driver_bring_up.specs.Commanding.{IsStretch, IsLastLook, entries_in, answer_in, with_told}
use Rattle.driver_bring_up.specs.declared.bringing.BringUp.{BringUp}
use Rattle.driver_bring_up.specs.Told.{ResetsTo, SettlesTo, IsGivenUp, Stays, EndLooks}

-- how many commands were sent, where one more was or none
abbrev pub sent_if : (submits : Bool) → (sent : ℕ) → ℕ
sent_if true sent = sent + 1
sent_if false sent = sent

-- how far it has come
abbrev pub state_of : BringUp → State
state_of bring_up = record {
  phase = bring_up.phase;
  kept = bring_up.kept;
  sent = bring_up.sent;
  rings = bring_up.engine.rings;
  tally = tally_opened;
}

-- a task with its blocks
pub record IsTaskOf (bring_up : BringUp) (task : Task) : Type 0 where
  pub corb : task.blocks.corb ≡ bring_up.engine.corb.address
  pub rirb : task.blocks.rirb ≡ bring_up.engine.rirb.address

-- whether an answer ended what is to be done: the words that were answered describe no well-formed graph, or no pin has
-- a route
abbrev pub is_ended : (old : Phase) → (found : Bool) → (new : Phase) → Bool
is_ended old found new = is_asking old && (found && (can_follow new && not (goes_on new)))

-- after a call while commands are sent: where one may come next, the agenda's next command and its phase are the task's
abbrev pub AgreesAfter : (old new : BringUp) → Task → Type 0
AgreesAfter old new task = is_asking old.phase ≡ true → goes_on new.phase ≡ true
    → Agrees task (answers_of new.sent new.engine.rings.outstanding) new.agenda

-- whether a call may want memory in a phase: where codecs have announced themselves, or an answer has come
abbrev pub takes_memory : Phase → Bool
takes_memory phase = is_settling phase || is_asking phase

-- where a call leads that looks for no answer: the reset leads to the time in which codecs announce themselves, and
-- that to the walk; else the phase stays
abbrev pub CanMove : (old new : Phase) → Type 0
CanMove Reset new = (new ≡ Reset) ⊎ (new ≡ Settling)
CanMove Settling new = (new ≡ Settling) ⊎ (new ≡ Walking)
CanMove old new = new ≡ old

-- the walk over the first codec begins: of those that the state change status names
pub record Begins (status : ℕ) (agenda : Agenda) : Type 0 where
  pub addresses : agenda.addresses.items ≡ addresses_in (codecs_in status)
  pub begins : BeginsWalk (addresses_in (codecs_in status)) [] agenda

-- what a call read leads its agenda and its counts on
pub record ReadsOn (means : Means) (made : List Event) (old new : BringUp) : Type 0 where
  -- an answer leads the agenda
  pub taken : (word : ℕ) → answer_in old.engine.rings made ≡ Some word
      → LeadsOn means word old.agenda new.agenda new.phase × EndsBy means word old.agenda new.agenda new.phase
  -- and without one it stays, but where the first walk begins
  pub left : (is_asking old.phase ≡ true → answer_in old.engine.rings made ≡ None)
      → (old.phase ≡ Settling → new.phase ≡ Walking → ⊥) → new.agenda ≡ old.agenda
  -- nor does the phase change then while commands are sent, but where the outstanding command is given up
  pub waits : is_asking old.phase ≡ true → answer_in old.engine.rings made ≡ None
      → (new.phase ≡ old.phase) ⊎ ((clock : ℕ) × IsGivenUp old.engine.rings.outstanding clock new.phase)
  pub addresses : (old.phase ≡ Settling → new.phase ≡ Walking → ⊥) → new.agenda.addresses ≡ old.agenda.addresses
  -- of all that was told unasked until now
  pub counted : (events : List told.Event) → IsCount events old.jacks
      → IsCount (with_told events (entries_in made)) new.jacks

-- a call before the first command is sent, not for an interrupt: it looks for no answer
pub record LeadsUnread (old new : BringUp) (before after : Option Telling) : Type 0 where
  pub made : List Event
  pub by : Between (Makes made) before after
  pub is : (task : Task) (budget : ℕ) → IsTaskOf old task
      → IsStretch task (state_of old) (Some (record { irq = false; budget = budget })) made false (state_of new)
  pub still : goes_on old.phase ≡ false
  pub moves : CanMove old.phase new.phase
  pub unread : AreUnread made
  pub jacks : new.jacks ≡ old.jacks
  pub agenda : (old.phase ≡ Settling → new.phase ≡ Walking → ⊥) → new.agenda ≡ old.agenda
  pub begun : old.phase ≡ Settling → new.phase ≡ Walking → Begins (slice_index (values_of made STATESTS) 0) new.agenda
  pub resets : old.phase ≡ Reset → Between (ResetsTo false made new) before after
  pub untaken : old.phase ≡ Reset → Between LeavesUntaken before after
  pub settles : old.phase ≡ Settling → Between (SettlesTo false old new made) before after

-- a call, for an interrupt or not: it makes just the accesses that are to be made, and leads where it is to lead, for
-- every task with its blocks that plays nothing once all is set up, and agrees with the agenda after the call where
-- commands are sent
pub record Leads (means : Means) (irq : Bool) (old new : BringUp) (before after : Option Telling) : Type 0 where
  pub made : List Event
  pub by : Between (Makes made) before after
  pub is : (task : Task) (budget : ℕ) → IsTaskOf old task → (old.phase ≡ Ready → task.plays ≡ false)
      → is_ended old.phase (is_some (answer_in old.engine.rings made)) new.phase ≡ false → AgreesAfter old new task
      → IsStretch task (state_of old) (Some (record { irq = irq; budget = budget })) made
      (is_some (answer_in old.engine.rings made)) (state_of new)
  -- where an answer ends it, nothing comes after the look for it
  pub ended : (task : Task) → IsTaskOf old task → is_ended old.phase (is_some (answer_in old.engine.rings made))
      new.phase ≡ true
      → IsLastLook task (state_of old) irq [] made (state_of new)
  -- before commands are sent, and after them, no answer is looked for
  pub unread : is_asking old.phase ≡ false → AreUnread made
  pub moves : is_asking old.phase ≡ false → CanMove old.phase new.phase
  pub reads : ReadsOn means made old new
  pub begun : old.phase ≡ Settling → new.phase ≡ Walking → Begins (slice_index (values_of made STATESTS) 0) new.agenda
  -- and on a platform that tells: from a world that can be reset, to the rings that run, and on from there
  pub resets : old.phase ≡ Reset → Between (ResetsTo irq made new) before after
  pub untaken : old.phase ≡ Reset → Between LeavesUntaken before after
  pub settles : old.phase ≡ Settling → Between (SettlesTo irq old new made) before after
  pub stays : goes_on old.phase ≡ true → Between (Stays irq old new made) before after

-- what calls keep: the rings' blocks and the format; each looks for an answer once at most
pub record IsKept (old new : BringUp) : Type 0 where
  pub corb : new.engine.corb ≡ old.engine.corb
  pub rirb : new.engine.rirb ≡ old.engine.rirb
  pub format : new.format ≡ old.format
  pub looks : new.looks ≤ old.looks + 1

-- the last call, with or without one more look for an answer
pub record Ends (means : Means) (old new : BringUp) (before after : Option Telling) : Type 0 where
  pub made : List Event
  pub by : Between (Makes made) before after
  pub is : (task : Task) → IsTaskOf old task → is_ended old.phase (is_some (answer_in old.engine.rings made))
      new.phase ≡ false → AgreesAfter old new task
      → IsStretch task (state_of old) None made (is_some (answer_in old.engine.rings made)) (state_of new)
  pub ended : (task : Task) → IsTaskOf old task → is_ended old.phase (is_some (answer_in old.engine.rings made))
      new.phase ≡ true
      → IsLastLook task (state_of old) false shuts made (state_of new)
  pub unread : is_asking old.phase ≡ false → AreUnread made
  pub stays : is_asking old.phase ≡ false → new.phase ≡ old.phase
  pub reads : ReadsOn means made old new
  pub looks : is_asking old.phase ≡ true → Between (EndLooks old new made) before after

-- once all codecs are set up: what they told unasked since is read and counted, and all else stays
pub record Listens (old new : BringUp) (before after : Option Telling) : Type 0 where
  pub reads : PollReads
  pub new_ones : AreNew old.engine.rings reads
  pub made : Between (Makes (poll_accesses old.engine.rirb.address old.engine.rings reads)) before after
  pub rings : new.engine.rings ≡ rings_polled old.engine.rings reads
  -- of all that was told unasked until now
  pub counted : (events : List told.Event) → IsCount events old.jacks
      → IsCount (with_told events reads.entries) new.jacks
  pub phase : new.phase ≡ old.phase
  pub kept : new.kept ≡ old.kept
  pub sent : new.sent ≡ old.sent
  pub agenda : new.agenda ≡ old.agenda
