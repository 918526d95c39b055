-- How many link frames events let pass. This project's own, over High Definition Audio 1.0a, 3.3.16.
use Rattle.std.specs.Prelude.{ℕ, List, sum_by}
use Rattle.schedule_reader.specs.Counts.{step_frames}
use Rattle.hda_world.specs.Events.{Event, Stepped, Begin, End, Read, Write, DmaRead, DmaWrite}

-- those of a step, and none for an access or a mark
abbrev pub event_frames : Event → ℕ
event_frames (Stepped step) = step_frames step
event_frames Begin = 0
event_frames End = 0
event_frames (Read at width value) = 0
event_frames (Write at width value) = 0
event_frames (DmaRead at bytes) = 0
event_frames (DmaWrite at bytes) = 0

abbrev pub frames_in : List Event → ℕ
frames_in events = sum_by event_frames events
