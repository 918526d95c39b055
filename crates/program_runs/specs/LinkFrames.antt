-- A journal that is short. This project's own, over High Definition Audio 1.0a, 3.3.16.
use Rattle.std.specs.Prelude.{◌+◌, ◌≤◌}
use Rattle.schedule_reader.specs.Schedules.{most_frames}
use Rattle.hda_world.specs.Tellings.{Telling}
use Rattle.rig.specs.LinkFrames.{frames_in}

-- with the link frames that were counted at its start it has no more than a schedule may have, in which time WALCLK does
-- not wrap
abbrev pub IsShort : Telling → Type 0
IsShort telling = telling.start.frames + frames_in telling.journal ≤ most_frames
