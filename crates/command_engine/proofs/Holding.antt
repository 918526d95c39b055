-- What the device's moves keep beside how the engine stands: a fact of RINTFL, the memory and the responses that were written.
use Rattle.std.proofs.Common.{◌≡◌, ℕ, List, [], ◌∷◌, sym, ap, subst, true}
use Rattle.world_rings.specs.declared.response.Response.{Response}
use Rattle.world_rings.specs.Engines.{can_respond, batch}
use Rattle.hda_registers.specs.Fields.{list_address}
use Rattle.world_rings.specs.Memory.{stored}
use Rattle.world_streams.specs.Input.{byte_place, oldest_byte}
use Rattle.hda_world.specs.Worlds.{World, input_of}
use Rattle.hda_world.specs.Steps.{responded, passed}
use Rattle.hda_world.specs.Kept.{Kept, goes_well, byte_went}
use Rattle.command_engine.specs.declared.ring_places.RingPlaces.{RingPlaces}
use Rattle.command_engine.specs.Apart.{IsInputApart}
use Rattle.command_engine.specs.Fetchings.{RingPart, IsBesideBlock, Stands}
use Rattle.command_engine.proofs.Apart.{byte_beside}
use Rattle.command_engine.proofs.Batches.{EachStands}
use Rattle.command_engine.proofs.Keeping.{keeps_standing, part-passed}

module _ (from read corb rirb : ℕ) (rings : RingPlaces) (stands : EachStands) (Fact : ℕ → List ℕ → List Response → Type 0) where
  abbrev pub Holding : World → Type 0
  Holding world = Stands from read corb rirb rings world × Fact world.registers.global.response_flag world.memory world.written

  passing : (world : World) → Fact world.registers.global.response_flag world.memory world.written → Fact (passed world).registers.global.response_flag world.memory world.written
  passing world fact = subst (λ (flag : ℕ). Fact flag world.memory world.written) (sym (ap (λ (part : RingPart). part.response_flag) (part-passed world))) fact

  -- a byte that the input stream stores lies beside both blocks
  byte_held : ((world : World) (at byte : ℕ) → Holding world → IsBesideBlock corb 1024 at 1 → IsBesideBlock rirb 2048 at 1 → Fact world.registers.global.response_flag (stored world.memory at (byte ∷ [])) world.written)
      → (world : World) → Holding world → IsInputApart corb rirb world.memory (input_of world) → goes_well world ≡ true
      → Fact world.registers.global.response_flag (byte_went world).memory world.written
  byte_held stores world holds is good =
      stores world (byte_place world.memory (list_address world.registers.input) world.input) (oldest_byte world.input) holds
      (byte_beside corb 1024 world.memory (input_of world) is.list good is.beside_corb) (byte_beside rirb 2048 world.memory (input_of world) is.list good is.beside_rirb)

  pub keeps_holding : ((world : World) (response : Response) (rest : List Response) → Holding world → can_respond world.registers ≡ true → batch world.registers world.waiting ≡ response ∷ rest
      → Fact 1 (responded (response ∷ rest) world).memory (responded (response ∷ rest) world).written)
      → ((world : World) (at byte : ℕ) → Holding world → IsBesideBlock corb 1024 at 1 → IsBesideBlock rirb 2048 at 1 → Fact world.registers.global.response_flag (stored world.memory at (byte ∷ [])) world.written)
      → Kept Holding
  keeps_holding writes stores =
      let kept = keeps_standing from read corb rirb rings stands in
      record {
        codecs = record {
          hands = λ world holds can free. (kept.codecs.hands world holds.0 can free, holds.1);
          sends = λ world address item rest holds out room are. (kept.codecs.sends world address item rest holds.0 out room are, holds.1);
          loses = λ world address holds out. (kept.codecs.loses world address holds.0 out, holds.1);
          plugs = λ world address nid present holds. (kept.codecs.plugs world address nid present holds.0, holds.1);
        };
        responds = λ world response rest holds can are. (kept.responds world response rest holds.0 can are, writes world response rest holds can are);
        bytes = record {
          comes = λ world holds can room good is. holds;
          ends = λ world holds can room good is. holds;
          breaks = λ world holds can room bad. holds;
          refuses = λ world holds must. holds;
        };
        input = record {
          stores = λ world holds can some good. (kept.input.stores world holds.0 can some good, byte_held stores world holds (holds.0.apart can.runs) good);
          jams = λ world holds can some bad. (kept.input.jams world holds.0 can some bad, holds.1);
          takes = λ world holds can. (kept.input.takes world holds.0 can, holds.1);
          refuses = λ world holds must. (kept.input.refuses world holds.0 must, holds.1);
        };
        passes = λ world holds out still. (kept.passes world holds.0 out still, passing world holds.1);
        frames = record {
          gaps = λ world holds can none. (kept.frames.gaps world holds.0 can none, passing world holds.1);
          sends = λ world holds can some enough. (kept.frames.sends world holds.0 can some enough, passing world holds.1);
          misses = λ world holds can short. (kept.frames.misses world holds.0 can short, passing world holds.1);
          stops = λ world holds must. (kept.frames.stops world holds.0 must, passing world holds.1);
        };
      }
