-- The stretches that look for no answer.
use Rattle.std.proofs.Common.{◌*◌, ℕ, Bool, true, false, if◌then◌else◌, List, [], ◌∷◌, ◌++◌, Option, Some, None, refl}
use Rattle.verb_codes.specs.Words.{has_bit, bits_of}
use Rattle.hda_registers.specs.declared.shapes.Width.TheVariants.{One, Four}
use Rattle.hda_registers.specs.declared.places.TheConstants.{INTSTS}
use Rattle.hda_world.specs.Events.{Event, Read, Write}
use Rattle.command_engine.specs.declared.ring_places.RingPlaces.{RingPlaces}
use Rattle.command_engine.specs.Starting.{StartReads, settings_if, rings_read}
use Rattle.driver_progress.specs.declared.registers.TheConstants.{STREAM_STATUS}
use Rattle.driver_progress.specs.Expected.{has_settled}
use Rattle.driver_progress.specs.Resetting.{reset_accesses}
use Rattle.driver_progress.specs.Settling.{start_if, settle_accesses}
use Rattle.driver_progress.specs.Interrupts.{interrupt_accesses}
use Rattle.driver_progress.specs.Unread.{AreUnread}

pub unread_both : (front back : List Event) → AreUnread front → AreUnread back → AreUnread (front ++ back)
unread_both [] back first second = second
unread_both (event ∷ front) back first second = (first.0, unread_both front back first.1 second)

pub reset_unread : (in_reset control clock : ℕ) → AreUnread (reset_accesses in_reset control clock)
reset_unread in_reset control clock = (tt {0}, (refl, (tt {0}, (refl, (refl, tt {0})))))

settings_unread : (found : Option RingPlaces) (corb rirb : ℕ) (reads : StartReads) → AreUnread (settings_if found corb rirb reads)
settings_unread None corb rirb reads = tt {0}
settings_unread (Some rings) corb rirb reads =
    (tt {0}, (tt {0}, (tt {0}, (tt {0}, (refl, (tt {0}, (refl, (tt {0}, (tt {0}, (tt {0}, (tt {0}, (tt {0}, (tt {0}, tt {0})))))))))))))

start_unread : (settled : Bool) (corb rirb : ℕ) (reads : StartReads) → AreUnread (start_if settled corb rirb reads)
start_unread true corb rirb reads = (refl, (refl, (refl, settings_unread (rings_read reads) corb rirb reads)))
start_unread false corb rirb reads = tt {0}

pub settle_unread : (kept clock corb rirb : ℕ) (reads : StartReads) → AreUnread (settle_accesses kept clock corb rirb reads)
settle_unread kept clock corb rirb reads = (refl, start_unread (has_settled kept clock) corb rirb reads)

looks_unread : (on clears : Bool) (interrupts stream : ℕ)
    → AreUnread (Read INTSTS Four interrupts ∷ (if on then (if clears then Read STREAM_STATUS One stream ∷ Write STREAM_STATUS One (4 * bits_of stream 2 3) ∷ [] else []) else []))
looks_unread true true interrupts stream = (refl, (refl, (tt {0}, tt {0})))
looks_unread true false interrupts stream = (refl, tt {0})
looks_unread false clears interrupts stream = (refl, tt {0})

pub interrupt_unread : (interrupts stream : ℕ) → AreUnread (interrupt_accesses interrupts stream)
interrupt_unread interrupts stream = looks_unread (has_bit interrupts 31) (has_bit interrupts 1) interrupts stream
