-- What is told of the calls of a bring-up. This project's own, over High Definition Audio 1.0a, 3.3.15, 4.3 and 4.4.
use Rattle.std.specs.Prelude.{◌≡◌, ◌≢◌, ◌⊎◌, ℕ, Bool, true, false, ◌&&◌, not, List, [], ◌++◌, length, slice_index}
use Rattle.std.specs.Prelude.{Option, None, Some}
use Rattle.verb_codes.specs.Words.{has_bit}
use Rattle.hda_registers.specs.declared.places.TheConstants.{STATESTS, INTSTS, WALCLK}
use Rattle.hda_world.specs.Worlds.{World, TakenCommand}
use Rattle.hda_world.specs.Events.{Event}
use Rattle.hda_world.specs.Tellings.{Telling, world_of, Between, Makes}
use Rattle.hda_world.specs.Discovery.{addresses_of}
use Rattle.command_engine.specs.declared.answers.Outstanding.{Outstanding}
use Rattle.command_engine.specs.Starting.{codecs_in}
use Rattle.command_engine.specs.Fetchings.{Stands}
use Rattle.command_engine.specs.Belonging.{Belongs, from_after}
use Rattle.command_engine.specs.Polling.{PollReads, AreNew, found_by, rings_polled}
use Rattle.command_engine.specs.Told.{found_since}
use Rattle.driver_progress.specs.declared.phase.Phase.TheVariants.{Reset, Settling, Walking, Unanswered}
use Rattle.driver_progress.specs.declared.phase.Phase.{Phase}
use Rattle.driver_progress.specs.Seen.{values_of, interrupts_at}
use Rattle.driver_progress.specs.Tasks.{Order}
use Rattle.driver_progress.specs.Expected.{has_settled}
use Rattle.driver_progress.specs.Noting.{ArePlain}
use Rattle.driver_progress.specs.Unread.{AreUnread}
use Rattle.driver_progress.specs.Beginning.{CanReset, IsSettling}
use Rattle.driver_progress.specs.Announcing.{AreCodecs, IsStarted}
use Rattle.driver_progress.specs.Commands.{ask_accesses}
use Rattle.driver_progress.specs.Interrupts.{interrupt_accesses}
use Rattle.driver_progress.specs.Shutting.{shut_accesses}
use Rattle.driver_bring_up.specs.Standing.{next_on}
use Rattle.driver_bring_up.specs.Commanding.{answer_in, submit_made, order_if, rings_with, sent_with}
use Rattle.driver_bring_up.specs.declared.bringing.BringUp.{BringUp}

-- ---- before the first command

-- whether a call was one for an interrupt, and read of INTSTS that there is none (3.3.15)
abbrev pub found_none : (irq : Bool) → (made : List Event) → Bool
found_none irq made = irq && not (has_bit (slice_index (values_of made INTSTS) 0) interrupts_at)

-- from a world that can be reset, the reset leads to one where the codecs announce themselves; a call for an interrupt
-- that found none leaves it so
abbrev pub ResetsTo : (irq : Bool) → (made : List Event) → (new : BringUp) → Telling → Telling → Type 0
ResetsTo irq made new before after =
    (corb rirb : ℕ) → CanReset corb rirb (world_of before)
    → (IsSettling corb rirb (world_of after) × (new.phase ≡ Settling))
    ⊎ ((found_none irq made ≡ true) × CanReset corb rirb (world_of after) × (new.phase ≡ Reset))

-- a look whether the codecs had their time, none where a call for an interrupt found none: too early nothing has
-- changed; once they had it, by the clock that was read, just the codecs on the link are found, which have these
-- addresses, and the engine stands to the world as a start leaves it. No codec takes a command meanwhile
pub record Settles (none : Bool) (clock status : ℕ) (addresses : List ℕ) (before : List TakenCommand)
    (old new : BringUp) (world : World) : Type 0 where
  pub stays : none ≡ true → new.phase ≡ Settling
  pub late : none ≡ false → has_settled old.kept clock ≡ true → new.phase ≡ Walking
  pub early : new.phase ≡ Settling → IsSettling old.engine.corb.address old.engine.rirb.address world
  pub untaken : new.phase ≡ Settling → world.commands ≡ before
  pub codecs : new.phase ≡ Walking → AreCodecs (codecs_in status) addresses
  pub started : new.phase ≡ Walking → IsStarted old.engine.corb.address old.engine.rirb.address new.engine.rings before
      world

abbrev pub SettlesTo : (irq : Bool) → (old new : BringUp) → (made : List Event) → Telling → Telling → Type 0
SettlesTo irq old new made before after =
    IsSettling old.engine.corb.address old.engine.rirb.address (world_of before)
    → addresses_of (world_of before).codecs ≢ []
    → Settles (found_none irq made) (slice_index (values_of made WALCLK) 0) (slice_index (values_of made STATESTS) 0)
    (addresses_of (world_of before).codecs) (world_of before).commands old new (world_of after)

-- ---- while commands are sent, and after them

-- a look for the answer to the outstanding command, with some accesses before it and after it
pub record Looked (old : BringUp) (made first : List Event) (clock : ℕ) (reads : PollReads) (rest : List Event)
    (from read : ℕ) (before after : Telling) : Type 0 where
  pub made_is : made ≡ first ++ (ask_accesses old.engine.rirb.address clock old.engine.rings reads ++ rest)
  pub new_ones : AreNew old.engine.rings reads
  pub plain : ArePlain first
  -- what is told when it begins, and when it ends
  pub begins : Telling
  pub ends : Telling
  pub first_made : Makes first before begins
  pub stood : Stands from read old.engine.corb.address old.engine.rirb.address old.engine.rings (world_of begins)
  pub look_made : Makes (ask_accesses old.engine.rirb.address clock old.engine.rings reads) begins ends
  pub rest_made : Makes rest ends after
  pub found_is : found_by old.engine.rings reads ≡ answer_in old.engine.rings made
  -- the answer is the one that was written to RIRB since all was read that was, and belongs to the command
  pub found : answer_in old.engine.rings made ≡ found_since read old.engine.rings (world_of ends)
  pub belongs : Belongs from old.engine.rings.outstanding (world_of ends).codecs (world_of ends).commands
      (answer_in old.engine.rings made)
  -- all is read then
  pub stands : Stands (from_after (answer_in old.engine.rings made) from (world_of ends).commands)
      (length (world_of ends).written) old.engine.corb.address old.engine.rirb.address
      (rings_polled old.engine.rings reads) (world_of ends)

-- before it, interrupts were looked for where the call is for one, and there was one
pub record IsInterrupted (first : List Event) : Type 0 where
  pub interrupts : ℕ
  pub stream : ℕ
  pub on : has_bit interrupts interrupts_at ≡ true
  pub is : first ≡ interrupt_accesses interrupts stream

abbrev pub IsBefore : (irq : Bool) → (first : List Event) → Type 0
IsBefore true first = IsInterrupted first
IsBefore false first = first ≡ []

-- the outstanding command was given up at this clock
pub record IsGivenUp (outstanding : Option Outstanding) (clock : ℕ) (phase : Phase) : Type 0 where
  pub command : Outstanding
  pub was : outstanding ≡ Some command
  pub is : phase ≡ Unanswered command.codec command.word command.issued clock

-- after it comes the next command of the agenda, where one may be submitted and is left, and the engine stands to the
-- world as before
pub record LooksOn (irq : Bool) (old new : BringUp) (made : List Event) (from read : ℕ) (before after : Telling)
    : Type 0 where
  pub first : List Event
  pub clock : ℕ
  pub reads : PollReads
  pub free : Bool
  pub order : Option Order
  pub is_before : IsBefore irq first
  -- without an answer the phase stays, or the command is given up
  pub waits : answer_in old.engine.rings made ≡ None → (new.phase ≡ old.phase)
      ⊎ IsGivenUp old.engine.rings.outstanding clock new.phase
  pub idle : free ≡ true → (rings_polled old.engine.rings reads).outstanding ≡ None
  pub order_is : order ≡ order_if free (next_on new.agenda)
  pub looked : Looked old made first clock reads
      (submit_made old.engine.corb.address (rings_polled old.engine.rings reads) order) from read before after
  pub rings : new.engine.rings ≡ rings_with order clock (rings_polled old.engine.rings reads)
  pub sent : new.sent ≡ sent_with order old.sent
  pub stands : Stands (from_after (answer_in old.engine.rings made) from (world_of looked.ends).commands)
      (length (world_of looked.ends).written) old.engine.corb.address old.engine.rirb.address
      new.engine.rings (world_of after)

-- or it looks for no answer, since there is no interrupt or no command is left: nothing changes, and the engine stands
-- to the world as it did
pub record IsStill (old new : BringUp) (made : List Event) (from read : ℕ) (after : Telling) : Type 0 where
  pub same : new ≡ old
  pub unread : AreUnread made
  pub plain : ArePlain made
  pub stands : Stands from read old.engine.corb.address old.engine.rirb.address old.engine.rings (world_of after)

-- a call leads from where the engine stands to the world to where it stands after it
abbrev pub Stays : (irq : Bool) → (old new : BringUp) → (made : List Event) → Telling → Telling → Type 0
Stays irq old new made before after =
    (from read : ℕ) → Stands from read old.engine.corb.address old.engine.rirb.address old.engine.rings
    (world_of before)
    → LooksOn irq old new made from read before after ⊎ IsStill old new made from read after

-- the last call looks once more, and then all is shut
pub record LooksLast (old new : BringUp) (made : List Event) (from read : ℕ) (before after : Telling) : Type 0 where
  pub clock : ℕ
  pub reads : PollReads
  pub looked : Looked old made [] clock reads shut_accesses from read before after
  pub rings : new.engine.rings ≡ rings_polled old.engine.rings reads
  pub sent : new.sent ≡ old.sent

abbrev pub EndLooks : (old new : BringUp) (made : List Event) → Telling → Telling → Type 0
EndLooks old new made before after =
    (from read : ℕ) → Stands from read old.engine.corb.address old.engine.rirb.address old.engine.rings
    (world_of before) → LooksLast old new made from read before after

-- the last accesses that are told are those of the end
pub record IsShut (after : Option Telling) : Type 0 where
  pub before : Option Telling
  pub made : Between (Makes shut_accesses) before after
