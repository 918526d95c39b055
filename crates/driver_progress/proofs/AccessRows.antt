-- Accesses, and rows of them.
use Rattle.std.proofs.Common.{◌+◌, ℕ, List, [], ◌∷◌, ◌++◌}
use Rattle.hda_world.specs.Events.{Event, Stepped, Begin, End, Read, Write, DmaRead, DmaWrite}
use Rattle.command_engine.specs.Polling.{entry_reads}
use Rattle.driver_progress.specs.Noting.{IsPlain}
use Rattle.driver_progress.specs.Unread.{IsAccess, AreAccesses, IsUnread}
use Rattle.driver_progress.specs.Tasks.{Task}
use Rattle.driver_progress.specs.Progress.{Trail, FitsAt}

-- an access that reads no answer is an access
pub unread_access : (event : Event) → IsUnread event → IsAccess event
unread_access (Stepped step) unread = unread
unread_access Begin unread = unread
unread_access End unread = unread
unread_access (Read at width value) unread = tt {0}
unread_access (Write at width value) unread = tt {0}
unread_access (DmaRead at bytes) unread = tt {0}
unread_access (DmaWrite at bytes) unread = tt {0}

-- and so is a plain one
pub plain_access : (event : Event) → IsPlain event → IsAccess event
plain_access (Stepped step) plain = plain
plain_access Begin plain = plain
plain_access End plain = plain
plain_access (Read at width value) plain = tt {0}
plain_access (Write at width value) plain = tt {0}
plain_access (DmaRead at bytes) plain = tt {0}
plain_access (DmaWrite at bytes) plain = tt {0}

-- an access fits what is expected, which is looked at when its stretch ends
pub access_fits : (task : Task) (trail : Trail) (event : Event) → IsAccess event → FitsAt task trail event
access_fits task trail (Stepped step) is = tt {0}
access_fits task trail Begin is = tt {0}
access_fits task trail End is = absurd is
access_fits task trail (Read at width value) is = tt {0}
access_fits task trail (Write at width value) is = tt {0}
access_fits task trail (DmaRead at bytes) is = tt {0}
access_fits task trail (DmaWrite at bytes) is = tt {0}

-- two rows of accesses are one
pub accesses_both : (front back : List Event) → AreAccesses front → AreAccesses back → AreAccesses (front ++ back)
accesses_both [] back first second = second
accesses_both (event ∷ front) back first second = (first.0, accesses_both front back first.1 second)

-- the reads of RIRB's entries are accesses
pub entry_accesses : (rirb size place : ℕ) (entries : List (List ℕ)) → AreAccesses (entry_reads rirb size place entries)
entry_accesses rirb size place [] = tt {0}
entry_accesses rirb size place (entry ∷ entries) = (tt {0}, entry_accesses rirb size (place + 1) entries)
