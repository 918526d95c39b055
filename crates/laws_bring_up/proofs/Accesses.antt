-- Rows of accesses, among which no stretch begins or ends.
use Rattle.std.proofs.Common.{◌+◌, ℕ, Bool, true, false, if◌then◌else◌, List, [], ◌∷◌, ◌++◌, Option, Some, None, sym, subst}
use Rattle.verb_codes.specs.Words.{has_bit}
use Rattle.hda_registers.specs.declared.places.TheConstants.{RIRBSTS}
use Rattle.hda_registers.specs.declared.shapes.Width.TheVariants.{One}
use Rattle.hda_registers.specs.Fields.{entries_of}
use Rattle.hda_world.specs.Events.{Event, Write}
use Rattle.hda_world.specs.Tellings.{Telling}
use Rattle.command_engine.specs.declared.ring_places.RingPlaces.{RingPlaces}
use Rattle.command_engine.specs.Polling.{PollReads, entry_reads, batch_accesses}
use Rattle.driver_progress.specs.Noting.{ArePlain}
use Rattle.driver_progress.specs.Tasks.{Order}
use Rattle.driver_progress.specs.Commands.{ask_accesses}
use Rattle.driver_progress.specs.Shutting.{shut_accesses}
use Rattle.driver_progress.specs.Unread.{AreAccesses, AreUnread}
use Rattle.driver_progress.proofs.Callers.{accesses_both, entry_accesses, unread_access, plain_access}
use Rattle.driver_bring_up.specs.Commanding.{submit_made}
use Rattle.driver_bring_up.specs.declared.bringing.BringUp.{BringUp}
use Rattle.driver_bring_up.specs.Told.{Looked}

pub unread_accesses : (events : List Event) → AreUnread events → AreAccesses events
unread_accesses [] unread = tt {0}
unread_accesses (event ∷ events) unread = (unread_access event unread.0, unread_accesses events unread.1)

plain_accesses : (events : List Event) → ArePlain events → AreAccesses events
plain_accesses [] plain = tt {0}
plain_accesses (event ∷ events) plain = (plain_access event plain.0, plain_accesses events plain.1)

-- ---- a look for an answer, and what comes after it

batch_are : (some : Bool) (rirb : ℕ) (rings : RingPlaces) (reads : PollReads) → AreAccesses (if some then batch_accesses rirb rings reads.pointer reads.entries else [])
batch_are true rirb rings reads =
    (tt {0}, accesses_both (entry_reads rirb (entries_of rings.rirb) (rings.read + 1) reads.entries) (Write RIRBSTS One 1 ∷ []) (entry_accesses rirb (entries_of rings.rirb) (rings.read + 1) reads.entries) (tt {0}, tt {0}))
batch_are false rirb rings reads = tt {0}

pub submit_are : (corb : ℕ) (rings : RingPlaces) (order : Option Order) → AreAccesses (submit_made corb rings order)
submit_are corb rings None = tt {0}
submit_are corb rings (Some order) = (tt {0}, (tt {0}, tt {0}))

pub shut_are : AreAccesses shut_accesses
shut_are = (tt {0}, (tt {0}, (tt {0}, tt {0})))

pub looked_accesses : (old : BringUp) (made first : List Event) (clock : ℕ) (reads : PollReads) (rest : List Event) (from read : ℕ) (before after : Telling) → Looked old made first clock reads rest from read before after → AreAccesses rest → AreAccesses made
looked_accesses old made first clock reads rest from read before after looked later =
    let rings = old.engine.rings in
    let rirb = old.engine.rirb.address in
    subst AreAccesses (sym looked.made_is) (accesses_both first (ask_accesses rirb clock rings reads ++ rest) (plain_accesses first looked.plain)
    (accesses_both (ask_accesses rirb clock rings reads) rest (tt {0}, (tt {0}, batch_are (has_bit reads.flag 0) rirb rings reads)) later))
