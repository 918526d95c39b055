-- What codecs told unasked, of a journal. High Definition Audio 1.0a, 4.4.2 and 7.3.3.14.
use Rattle.std.specs.Prelude.{List}
use Rattle.hda_world.specs.Events.{Event}
use Rattle.command_engine.specs.declared.answers.Event as told
use Rattle.command_engine.specs.Entries.{responses_in, unasked_events_of}
use Rattle.driver_bring_up.specs.Commanding.{entries_in}

-- what the unsolicited responses tell among the entries of RIRB that were read
abbrev pub told_in : List Event → List told.Event
told_in events = unasked_events_of (responses_in (entries_in events))
