-- What a look whether the codecs had their time leads to. This project's own, over High Definition Audio 1.0a, 4.3.
use Rattle.std.specs.Prelude.{◌≡◌, ◌<◌, ℕ, List, [], length, Contains}
use Rattle.std.specs.Int.{bit_at}
use Rattle.hda_world.specs.Worlds.{World, TakenCommand}
use Rattle.hda_world.specs.Tellings.{Telling, world_of}
use Rattle.hda_world.specs.Discovery.{addresses_of, AreSet}
use Rattle.command_engine.specs.declared.ring_places.RingPlaces.{RingPlaces}
use Rattle.command_engine.specs.Fetchings.{Stands}
use Rattle.command_engine.specs.Quiet.{CanStart}
use Rattle.driver_progress.specs.declared.settling.Settled.{Settled}
use Rattle.driver_progress.specs.declared.settling.Settled.TheVariants.{TooEarly, NoCodec, Codecs}
use Rattle.driver_progress.specs.Beginning.{IsSettling}

-- of the bits 14:0 just those of these addresses are 1
pub record AreCodecs (bits : ℕ) (addresses : List ℕ) : Type 0 where
  pub set : AreSet bits addresses
  pub only : (bit : ℕ) → bit < 15 → bit_at bits bit ≡ 1 → Contains addresses bit

-- the engine stands to the world as a start leaves it, and all commands that codecs had taken were taken before these
pub record IsStarted (corb rirb : ℕ) (rings : RingPlaces) (before : List TakenCommand) (world : World) : Type 0 where
  pub read : ℕ
  pub stands : Stands (length before) read corb rirb rings world

-- where a start that found codecs leads
abbrev pub StartLeads : (corb rirb : ℕ) (rings : RingPlaces) → Settled → Telling → Telling → Type 0
StartLeads corb rirb rings answer old new =
    (bits : ℕ) → answer ≡ Codecs bits → CanStart corb rirb (world_of old)
    → IsStarted corb rirb rings (world_of old).commands (world_of new)

-- where the look leads by its answer: too early nothing has changed, and there is no codec where none is on the link
abbrev pub LedBy : (corb rirb : ℕ) (rings : RingPlaces) (addresses : List ℕ) (before : List TakenCommand) → Settled
    → World → Type 0
LedBy corb rirb rings addresses before TooEarly world = IsSettling corb rirb world × (world.commands ≡ before)
LedBy corb rirb rings addresses before NoCodec world = addresses ≡ []
LedBy corb rirb rings addresses before (Codecs bits) world = AreCodecs bits addresses
    × IsStarted corb rirb rings before world

abbrev pub LeadsToRings : (corb rirb : ℕ) (rings : RingPlaces) → Settled → Telling → Telling → Type 0
LeadsToRings corb rirb rings answer old new =
    IsSettling corb rirb (world_of old) → LedBy corb rirb rings (addresses_of (world_of old).codecs)
    (world_of old).commands answer (world_of new)
