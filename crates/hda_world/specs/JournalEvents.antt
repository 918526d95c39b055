-- The events of a journal.
use Rattle.std.specs.Prelude.{List, map}
use Rattle.hda_world.specs.Events.{Event}
use Rattle.hda_world.specs.Journals.{JournalState, event_of}

abbrev pub events_of : JournalState → List Event
events_of journal = map (event_of journal.pieces journal.bytes) journal.entries
