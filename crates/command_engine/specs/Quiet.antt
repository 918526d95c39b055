-- What a start asks of the world, and what leads there: a reset, and nothing that sets a ring going. This project's
-- own, over High Definition Audio 1.0a, 4.3 and 4.4.
use Rattle.std.specs.Prelude.{◌≡◌, ◌≤◌, ◌<◌, ℕ, ◌%◌, ◌^◌, true, List, [], ◌∷◌, length}
use Rattle.hda_registers.specs.Fields.{is_out_of_reset}
use Rattle.hda_registers.specs.Laws.{IsBesideRings}
use Rattle.hda_world.specs.Worlds.{World}
use Rattle.hda_world.specs.Events.{Event, Stepped, Begin, End, Read, Write, DmaRead, DmaWrite, happens}
use Rattle.command_engine.specs.Apart.{InputIsApart, StaysApart}
use Rattle.command_engine.specs.Fetchings.{HasBlocks, AscendByAddress, IsOnItsWay}

-- neither ring runs, no answer to a command waits at a codec or in the controller, both blocks lie in the region, and
-- what the input stream stores lies apart from them. RINTFL is a bit, codecs stand by address, and what waits in the
-- controller names codecs up to 14
pub record IsQuiet (corb rirb : ℕ) (world : World) : Type 0 where
  pub corb_stopped : world.registers.global.corb_run ≡ 0
  pub rirb_stopped : world.registers.global.rirb_run ≡ 0
  pub flag : world.registers.global.response_flag ≤ 1
  pub blocks : HasBlocks corb rirb (length world.memory)
  pub ascend : AscendByAddress world.codecs
  pub nothing_comes : IsOnItsWay [] [] world.waiting world.codecs
  pub apart : InputIsApart corb rirb world

-- what a start asks of the world: it is quiet, and the controller is out of reset
pub record CanStart (corb rirb : ℕ) (world : World) : Type 0 where
  pub quiet : IsQuiet corb rirb world
  pub out : is_out_of_reset world.registers.global ≡ true

-- an event that is no write of GCTL or of a register of CORB or RIRB
abbrev pub LeavesRegisters : Event → Type 0
LeavesRegisters (Stepped step) = Unit {0}
LeavesRegisters Begin = Unit {0}
LeavesRegisters End = Unit {0}
LeavesRegisters (Read at width value) = Unit {0}
LeavesRegisters (Write at width value) = IsBesideRings at
LeavesRegisters (DmaRead at bytes) = Unit {0}
LeavesRegisters (DmaWrite at bytes) = Unit {0}

-- none of several is, and after each of them the input stream lies apart from both blocks
abbrev pub LeaveRegisters : (corb rirb : ℕ) → List Event → World → Type 0
LeaveRegisters corb rirb [] world = Unit {0}
LeaveRegisters corb rirb (event ∷ events) world = LeavesRegisters event × StaysApart corb rirb event world
    × LeaveRegisters corb rirb events (happens world event)

-- the address of a block: a multiple of 128 of 32 bits
pub record IsBlockAddress (address : ℕ) : Type 0 where
  pub aligned : address % 128 ≡ 0
  pub narrow : address < 2 ^ 32
