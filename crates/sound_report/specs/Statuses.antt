-- The numbers of the exit statuses. This project's own.
use Rattle.std.specs.Prelude.{ℕ}
use Rattle.sound_report.specs.declared.status.Status.{Status}
use Rattle.sound_report.specs.declared.status.Status.TheVariants.{Done, WordsRefused, ShelfFailed, SinkFailed}
use Rattle.sound_report.specs.declared.status.Status.TheVariants.{CodecRefused, WavRefused, ScheduleRefused}
use Rattle.sound_report.specs.declared.status.Status.TheVariants.{NothingRouted, Unanswered, Late, ScheduleEnded}
use Rattle.sound_report.specs.declared.status.Status.TheVariants.{OutOfMemory, GeometryRefused, WavShrank}

abbrev pub number_of : Status → ℕ
number_of Done = 0
number_of WordsRefused = 2
number_of ShelfFailed = 3
number_of SinkFailed = 4
number_of CodecRefused = 5
number_of WavRefused = 6
number_of ScheduleRefused = 7
number_of NothingRouted = 8
number_of Unanswered = 9
number_of Late = 10
number_of ScheduleEnded = 11
number_of OutOfMemory = 12
number_of GeometryRefused = 13
number_of WavShrank = 14
