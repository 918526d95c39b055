-- The accesses of a submission, and of a stop.
use Rattle.std.proofs.Common.{ℕ, Option, Some, None}
use Rattle.command_engine.specs.declared.ring_places.RingPlaces.{RingPlaces}
use Rattle.driver_progress.specs.Tasks.{Order}
use Rattle.driver_progress.specs.Unread.{AreAccesses}
use Rattle.driver_bring_up.specs.Commanding.{submit_made}
pub use Rattle.jack_switch.proofs.Stretches.{stop_entries, submit_entries}

pub submit_are : (corb : ℕ) (rings : RingPlaces) (order : Option Order) → AreAccesses (submit_made corb rings order)
submit_are corb rings None = tt {0}
submit_are corb rings (Some order) = (tt {0}, (tt {0}, tt {0}))
