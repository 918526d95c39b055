-- Where a first run may begin.
use Rattle.std.proofs.Common.{◌≡◌, inl, inr, ◌≤◌, ◌*◌, ℕ, arith}
use Rattle.std.specs.Prelude.{slice_index}
use Rattle.hda_registers.specs.declared.shapes.RingSize.{RingSize}
use Rattle.hda_registers.specs.declared.shapes.RingSize.TheVariants.{Two, Sixteen, Full}
use Rattle.hda_registers.specs.declared.shapes.Shape.{Shape}
use Rattle.hda_registers.specs.Fields.{entries_of}
use Rattle.hda_world.specs.Worlds.{World}
use Rattle.command_engine.specs.declared.ring_places.RingPlaces.{RingPlaces}
use Rattle.command_engine.specs.Fetchings.{Stands}
use Rattle.period_writer.specs.Rings.{list_bytes}
use Rattle.period_writer.specs.Standing.{Ring, IsBesideRirb, bytes_in}
use Rattle.period_writer.specs.Outcomes.{CanBegin}
use Rattle.laws_stream.specs.Resting.{Rests, IsApartFrom, AreApartFrom}

-- all entries of RIRB lie in its block
within : (size : RingSize) → 8 * entries_of size ≤ 2048
within Two = omega arith
within Sixteen = omega arith
within Full = omega arith

beside : (base rirb address bytes : ℕ) (shape : Shape) → 128 * base ≡ rirb → IsApartFrom rirb address bytes → IsBesideRirb base shape address bytes
beside base rirb address bytes shape at (inl below) = inl (omega (arith, at, below))
beside base rirb address bytes shape at (inr above) = let few = within shape.rirb in inr (omega (arith, at, above, few))

pub can_begin : (ring : Ring) (from read corb rirb : ℕ) (rings : RingPlaces) (world : World) → Rests ring.geometry.fifo world → Stands from read corb rirb rings world → AreApartFrom ring rirb → CanBegin ring world
can_begin ring from read corb rirb rings world rests stands apart = record {
  out = stands.has_rings.out;
  input_stopped = rests.input_stopped;
  clock = rests.clock_is;
  fifo = rests.fifo_is;
  beside = record {
    list = beside world.registers.global.rirb_base rirb ring.list (list_bytes ring.geometry.periods) world.registers.shape stands.has_rings.rirb_at apart.list;
    periods = λ index less. beside world.registers.global.rirb_base rirb (slice_index ring.periods index) (bytes_in ring) world.registers.shape stands.has_rings.rirb_at (apart.periods index less);
  };
}
