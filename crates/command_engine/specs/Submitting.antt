-- How the driver submits a command. High Definition Audio 1.0a, 4.4.1.
use Rattle.std.specs.Prelude.{ℕ, ◌+◌, ◌*◌, List, [], ◌∷◌, Some}
use Rattle.byteorder.specs.Endian.{little_bytes}
use Rattle.hda_registers.specs.declared.shapes.Width.TheVariants.{Two}
use Rattle.hda_registers.specs.declared.places.TheConstants.{CORBWP}
use Rattle.hda_registers.specs.Fields.{entries_of}
use Rattle.world_rings.specs.declared.entries.TheConstants.{COMMAND_BYTES}
use Rattle.world_rings.specs.Entries.{next_place}
use Rattle.hda_world.specs.Events.{Event, Write, DmaWrite}
use Rattle.command_engine.specs.declared.ring_places.RingPlaces.{RingPlaces}
use Rattle.command_engine.specs.declared.answers.Outstanding.{Outstanding}

-- the entry of CORB after the last one that has a command
abbrev pub command_place : RingPlaces → ℕ
command_place rings = next_place rings.submitted (entries_of rings.corb)

-- the word goes to that entry, and CORB's write pointer moves there
abbrev pub submit_accesses : ℕ → RingPlaces → ℕ → List Event
submit_accesses corb rings word =
    DmaWrite (corb + COMMAND_BYTES * command_place rings) (little_bytes 4 word) ∷ Write CORBWP Two (command_place rings)
    ∷ []

-- the command is outstanding, and that entry has the last command
abbrev pub rings_submitted : RingPlaces → Outstanding → RingPlaces
rings_submitted rings command = record rings { submitted = command_place rings; outstanding = Some command }
