-- A ring that stands by one extent of a line stands by another.
use Rattle.std.proofs.Common.{◌≤◌}
use Rattle.hda_world.specs.Worlds.{World}
use Rattle.period_writer.specs.Standing.{Ring, Extent, StandsInRing, IsFetched, Stands}

-- where the ring holds it, and what was fetched is of it
pub with_extent : (ring : Ring) (extent extent' : Extent) (world : World) → extent'.from ≤ world.output.left → extent'.sure ≤ extent'.upto → StandsInRing ring extent' world.memory
    → IsFetched extent' world.output.entered → Stands ring extent world → Stands ring extent' world
with_extent ring extent extent' world behind ordered standing fetched stands = record {
  set = stands.set;
  ring_is = stands.ring_is;
  clock_is = stands.clock_is;
  position = stands.position;
  beside = stands.beside;
  list_stands = stands.list_stands;
  fifo = stands.fifo;
  place = stands.place;
  behind = behind;
  ordered = ordered;
  standing = standing;
  fetched = fetched;
}
