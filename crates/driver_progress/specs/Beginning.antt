-- What a driver asks of the world before its first access, and what its reset leads to. This project's own, over High
-- Definition Audio 1.0a, 4.3.
use Rattle.std.specs.Prelude.{◌≡◌, ℕ, ◌*◌, ◌%◌, ◌^◌, true, List, length, Contains, Option}
use Rattle.std.specs.Option.{is_some}
use Rattle.std.specs.Int.{bit_at}
use Rattle.hda_registers.specs.declared.places.TheConstants.{TICKS_PER_FRAME}
use Rattle.hda_world.specs.Worlds.{World, TakenCommand}
use Rattle.hda_world.specs.Tellings.{Telling, world_of}
use Rattle.hda_world.specs.Discovery.{addresses_of, IsDiscovered}
use Rattle.command_engine.specs.Fetchings.{HasBlocks, AscendByAddress}
use Rattle.command_engine.specs.Quiet.{CanStart}

-- each bit of the state change status that is 1 is that of a codec with one of these addresses
abbrev pub AreOnly : (status : ℕ) → (addresses : List ℕ) → Type 0
AreOnly status addresses = (bit : ℕ) → bit_at status bit ≡ 1 → Contains addresses bit

abbrev pub HasOnly : World → Type 0
HasOnly world = AreOnly world.registers.global.state_status (addresses_of world.codecs)

-- the wall clock goes by the link frames since CRST rose
abbrev pub KeepsTime : World → Type 0
KeepsTime world = world.registers.global.wall_clock ≡ TICKS_PER_FRAME * world.frames % 2 ^ 32

-- CORB's engine does not run, and just these commands were taken
pub record IsUntaken (commands : List TakenCommand) (world : World) : Type 0 where
  pub stopped : world.registers.global.corb_run ≡ 0
  pub commands_are : world.commands ≡ commands

-- where it does not run before, it does not after, and none was taken meanwhile
abbrev pub LeavesUntaken : Telling → Telling → Type 0
LeavesUntaken old new = (commands : List TakenCommand) → IsUntaken commands (world_of old)
    → IsUntaken commands (world_of new)

-- before the first access: both rings' blocks lie in the region, codecs stand by address, and none but these announced
-- itself
pub record CanReset (corb rirb : ℕ) (world : World) : Type 0 where
  pub blocks : HasBlocks corb rirb (length world.memory)
  pub ascend : AscendByAddress world.codecs
  pub only : HasOnly world

-- after the reset: the rings can be started, and the codecs announce themselves in their time
pub record IsSettling (corb rirb : ℕ) (world : World) : Type 0 where
  pub can_start : CanStart corb rirb world
  pub discovered : IsDiscovered world
  pub time : KeepsTime world
  pub only : HasOnly world

-- a reset that is told leads from where it can be made to where the codecs announce themselves, and answers a clock
abbrev pub LeadsToSettling : Option ℕ → Telling → Telling → Type 0
LeadsToSettling answer old new =
    (corb rirb : ℕ) → CanReset corb rirb (world_of old) → IsSettling corb rirb (world_of new) × (is_some answer ≡ true)
