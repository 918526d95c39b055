-- A driver's run by a schedule, as it is told, and what is asked of its task and of the world. This project's own.
use Rattle.std.specs.Prelude.{◌≡◌, ◌≤◌, ◌<◌, ℕ, ◌+◌, ◌^◌, true, List, [], ◌++◌, All, Contains, length, map, sum_by}
use Rattle.std.specs.Option.{is_some}
use Rattle.schedule_reader.specs.declared.schedule.DriverLine as schedule
use Rattle.schedule_reader.specs.declared.schedule.Item.{Item}
use Rattle.schedule_reader.specs.Counts.{item_frames}
use Rattle.schedule_reader.specs.Schedules.{most_frames}
use Rattle.hda_world.specs.Worlds.{World, codec_at}
use Rattle.hda_world.specs.Steps.{address_of}
use Rattle.hda_world.specs.Events.{Event, AreHonest}
use Rattle.hda_world.specs.Tellings.{Telling}
use Rattle.command_engine.specs.Fetchings.{HasBlocks, AscendByAddress}
use Rattle.command_engine.specs.Quiet.{IsBlockAddress}
use Rattle.driver_progress.specs.Tasks.{Task, Order, DriverLine}
use Rattle.driver_progress.specs.Progress.{IsProgress}
use Rattle.laws_bring_up.specs.Stretches.{HasFound}
use Rattle.rig.specs.Stretches.{stretch}
use Rattle.rig.specs.Follows.{FollowItems, AreAccesses}
use Rattle.laws_serving.specs.Rounds.{Round, rounds_of}

-- ---- what is to be done

-- a command asks a codec with one of these addresses, by a word of 32 bits that names it
pub record IsOrderTo (codecs : List ℕ) (order : Order) : Type 0 where
  pub there : Contains codecs order.codec
  pub names : address_of order.word ≡ order.codec
  pub narrow : order.word < 2 ^ 32

-- all commands do, and both rings lie where their engines can find them
pub record IsTaskTo (codecs : List ℕ) (task : Task) : Type 0 where
  pub orders : All (IsOrderTo codecs) task.orders
  pub corb_block : IsBlockAddress task.blocks.corb
  pub rirb_block : IsBlockAddress task.blocks.rirb

-- ---- where it begins

-- both rings lie in the region, codecs stand by address, and those with these addresses are on the link
pub record IsStartFor (codecs : List ℕ) (task : Task) (world : World) : Type 0 where
  pub blocks : HasBlocks task.blocks.corb task.blocks.rirb (length world.memory)
  pub ascend : AscendByAddress world.codecs
  pub there : All (λ (codec : ℕ). is_some (codec_at codec world.codecs) ≡ true) codecs

-- ---- the run

-- how a driver is called by a line of a schedule
abbrev pub line_called : schedule.DriverLine → DriverLine
line_called line = record { irq = line.irq; budget = line.budget }

abbrev pub call_of : Round → DriverLine
call_of round = line_called round.line

-- the calls by some items
abbrev pub calls_of : List Item → List DriverLine
calls_of items = map call_of (rounds_of items).rounds

-- a journal from where it begins: it follows these items, and then the last call, each access says what the world
-- answered, and in each call just the accesses were made that progress expects, and found what they were to find. It is
-- short enough that WALCLK does not wrap
pub record IsRunOf (task : Task) (items : List Item) (telling : Telling) : Type 0 where
  pub followed : List Event
  pub closing : List Event
  pub follows : FollowItems items followed
  pub accesses : AreAccesses closing
  pub laid : telling.journal ≡ followed ++ stretch [] closing
  pub honest : AreHonest telling.journal telling.start
  pub progress : IsProgress task (calls_of items) telling
  pub finds : HasFound task (calls_of items) telling
  pub few : telling.start.frames + sum_by item_frames items ≤ most_frames
