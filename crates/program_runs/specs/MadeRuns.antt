-- The run of the inputs that are made of a number. This project's own.
use Rattle.std.specs.Prelude.{◌≡◌, ℕ, true, List, None}
use Rattle.codec_graph.specs.declared.pin_kind.PinKind.TheVariants.{Analog}
use Rattle.route_planner.specs.declared.routes.Plan.{Plan}
use Rattle.schedule_reader.specs.declared.schedule.Schedule.{Schedule}
use Rattle.period_writer.specs.declared.geometry.Geometry.{Geometry}
use Rattle.sound_report.specs.declared.played.Played.{Played}
use Rattle.laws_start.specs.Tasks.{HavePlans}
use Rattle.driver_agenda.specs.Planned.{have_route}
use Rattle.made_inputs.specs.MadeSound.{frames_for, made_format, made_sound}
use Rattle.made_inputs.specs.MadeSchedule.{IsMadeSchedule}
use Rattle.made_inputs.specs.MadeMachine.{made_machine}
use Rattle.program_runs.specs.Shapes.{HasShape}
use Rattle.program_runs.specs.Plays.{IsPlayed}

-- the made sound is played through the made machine by the made schedule, and a ring of four periods of eight units
pub record IsMadeRun (number : ℕ) (played : Played) : Type 0 where
  pub plans : List Plan
  pub planned : HavePlans made_format made_machine.codecs plans
  pub routed : have_route plans ≡ true
  pub schedule : Schedule
  pub made : IsMadeSchedule number schedule
  pub geometry : Geometry
  pub ring : HasShape 4 8 made_machine.fifo made_format geometry
  pub run : IsPlayed Analog made_machine plans (made_sound number) geometry schedule played
  -- all of the sound was read
  pub uncut : played.cut ≡ None
  pub read : played.read ≡ frames_for number
