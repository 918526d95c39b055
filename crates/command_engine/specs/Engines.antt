-- An engine as contracts see it. This project's own.
use Rattle.std.specs.Prelude.{◌≡◌, ◌<◌, List, true}
use Rattle.dma_pool.specs.declared.blocks.Lent.{Lent}
use Rattle.hda_registers.specs.Fields.{entries_of}
use Rattle.command_engine.specs.declared.answers.Event.{Event}
use Rattle.command_engine.specs.declared.ring_places.RingPlaces.{RingPlaces}
use Rattle.command_engine.specs.Blocks.{corb_bytes, rirb_bytes, are_apart}

-- its blocks, where both rings stand, and the events that are left, oldest first
pub record EngineState : Type 0 where
  pub corb : Lent
  pub rirb : Lent
  pub rings : RingPlaces
  pub events : List Event

-- what holds of every engine: its blocks have the sizes of CORB and RIRB and no byte in common, and the entry that was
-- read last lies in RIRB
pub record IsEngine (engine : EngineState) : Type 0 where
  pub corb_size : engine.corb.bytes ≡ corb_bytes
  pub rirb_size : engine.rirb.bytes ≡ rirb_bytes
  pub apart : are_apart engine.corb.address engine.rirb.address ≡ true
  pub read_within : engine.rings.read < entries_of engine.rings.rirb
