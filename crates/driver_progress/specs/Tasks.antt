-- What a driver has to do. This project's own.
use Rattle.std.specs.Prelude.{◌≡◌, ℕ, Bool, List, ◌++◌, length, map}
use Rattle.std.specs.List.{flat_map}
use Rattle.verb_codes.specs.declared.verbs.Command.{Command}
use Rattle.verb_codes.specs.Verbs.{word_of}
use Rattle.codec_graph.specs.declared.raw.RawCodec.{RawCodec}
use Rattle.codec_walk.specs.Commands.{walk_commands}
use Rattle.period_writer.specs.declared.geometry.Geometry.{Geometry}

-- a command that is to be submitted: the codec that is asked, and the word
pub record Order : Type 0 where
  pub codec : ℕ
  pub word : ℕ

abbrev pub order_of : Command → Order
order_of command = record { codec = command.codec; word = word_of command }

-- where the driver's blocks lie: both rings, the list of buffers and its periods
pub record Blocks : Type 0 where
  pub corb : ℕ
  pub rirb : ℕ
  pub list : ℕ
  pub periods : List ℕ

pub record Task : Type 0 where
  -- all commands, those of the walks first
  pub orders : List Order
  -- how many of them are the walks'
  pub walks : ℕ
  -- the shape of the ring of periods, and the ring bytes of all sound
  pub geometry : Geometry
  pub pcm : List ℕ
  -- whether it plays the sound once the codecs are set up
  pub plays : Bool
  pub blocks : Blocks

-- a line by which a driver is called: whether it is called for an interrupt, and how many bytes of sound it may write.
-- The call that closes it is none
pub record DriverLine : Type 0 where
  pub irq : Bool
  pub budget : ℕ

-- ---- the commands of codecs

-- the walk over each codec, in order
abbrev pub walks_over : List RawCodec → List Command
walks_over graphs = flat_map walk_commands graphs

-- and then the verbs that set each of them up
abbrev pub commands_for : (verbs : RawCodec → List Command) → List RawCodec → List Command
commands_for verbs graphs = walks_over graphs ++ flat_map verbs graphs

-- the commands of a task are those of these codecs, in this order
pub record IsTaskFor (verbs : RawCodec → List Command) (graphs : List RawCodec) (task : Task) : Type 0 where
  pub orders : task.orders ≡ map order_of (commands_for verbs graphs)
  pub walks : task.walks ≡ length (walks_over graphs)
