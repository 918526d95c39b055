-- What link frames pass by, and relations that are kept together.
use Rattle.std.proofs.Common.{◌≡◌, ◌+◌, ◌==◌, ℕ, Bool, true, false, List, [], ◌∷◌, refl, if◌then◌else◌}
use Rattle.codec_graph.specs.CodecStates.{CodecState}
use Rattle.hda_registers.specs.Fields.{Fields}
use Rattle.hda_registers.specs.Moves.{framed, raised}
use Rattle.hda_registers.specs.declared.shapes.Raise.TheVariants as event
use Rattle.hda_world.specs.declared.step.TheConstants.{FRAMES_TO_DISCOVERY}
use Rattle.hda_world.specs.Worlds.{World, TakenCommand}
use Rattle.hda_world.specs.Steps.{discovered, passed}
use Rattle.hda_world.specs.Kept.{KeptByCodecs, Kept}
use Rattle.hda_world.proofs.Inputs.{by_moves}

-- the discovery changes the state change status alone
discovered_global : (codecs : List CodecState) (fields : Fields) → (discovered codecs fields).global ≡ record fields.global { state_status = (discovered codecs fields).global.state_status }
discovered_global [] fields = refl
discovered_global (codec ∷ codecs) fields = discovered_global codecs (raised fields (event.Codec codec.graph.address))

discovered_if : (now : Bool) (codecs : List CodecState) (fields : Fields) → (if now then discovered codecs fields else fields).global
    ≡ record fields.global { state_status = (if now then discovered codecs fields else fields).global.state_status }
discovered_if true codecs fields = discovered_global codecs fields
discovered_if false codecs fields = refl

-- a link frame moves the wall clock and the state change status of the controller's part alone
pub passed_global : (world : World) → (passed world).registers.global
    ≡ record world.registers.global { wall_clock = (framed world.registers).global.wall_clock; state_status = (passed world).registers.global.state_status }
passed_global world = discovered_if (world.frames + 1 == FRAMES_TO_DISCOVERY) world.codecs (framed world.registers)

-- two relations that every move keeps, it keeps together
pub kept_both : (One Other : World → Type 0) → Kept One → Kept Other → Kept (λ (world : World). One world × Other world)
kept_both One Other one other = record {
  codecs = record {
    hands = λ world holds can free. (one.codecs.hands world holds.0 can free, other.codecs.hands world holds.1 can free);
    sends = λ world address item rest holds out room are. (one.codecs.sends world address item rest holds.0 out room are, other.codecs.sends world address item rest holds.1 out room are);
    loses = λ world address holds out. (one.codecs.loses world address holds.0 out, other.codecs.loses world address holds.1 out);
    plugs = λ world address nid present holds. (one.codecs.plugs world address nid present holds.0, other.codecs.plugs world address nid present holds.1);
  };
  responds = λ world response rest holds can are. (one.responds world response rest holds.0 can are, other.responds world response rest holds.1 can are);
  bytes = record {
    comes = λ world holds can room good is. (one.bytes.comes world holds.0 can room good is, other.bytes.comes world holds.1 can room good is);
    ends = λ world holds can room good is. (one.bytes.ends world holds.0 can room good is, other.bytes.ends world holds.1 can room good is);
    breaks = λ world holds can room bad. (one.bytes.breaks world holds.0 can room bad, other.bytes.breaks world holds.1 can room bad);
    refuses = λ world holds must. (one.bytes.refuses world holds.0 must, other.bytes.refuses world holds.1 must);
  };
  input = record {
    stores = λ world holds can some good. (one.input.stores world holds.0 can some good, other.input.stores world holds.1 can some good);
    jams = λ world holds can some bad. (one.input.jams world holds.0 can some bad, other.input.jams world holds.1 can some bad);
    takes = λ world holds can. (one.input.takes world holds.0 can, other.input.takes world holds.1 can);
    refuses = λ world holds must. (one.input.refuses world holds.0 must, other.input.refuses world holds.1 must);
  };
  passes = λ world holds out still. (one.passes world holds.0 out still, other.passes world holds.1 out still);
  frames = record {
    gaps = λ world holds can none. (one.frames.gaps world holds.0 can none, other.frames.gaps world holds.1 can none);
    sends = λ world holds can some enough. (one.frames.sends world holds.0 can some enough, other.frames.sends world holds.1 can some enough);
    misses = λ world holds can short. (one.frames.misses world holds.0 can short, other.frames.misses world holds.1 can short);
    stops = λ world holds must. (one.frames.stops world holds.0 must, other.frames.stops world holds.1 must);
  };
}

-- ---- relations of a part of the world

-- what link frames alone change is kept where it holds one link frame later
pub kept_frames : (Holds : ℕ → Type 0) → ((frames : ℕ) → Holds frames → Holds (frames + 1)) → Kept (λ (world : World). Holds world.frames)
kept_frames Holds next = record {
  codecs = record {
    hands = λ world holds can free. holds;
    sends = λ world address item rest holds out room are. holds;
    loses = λ world address holds out. holds;
    plugs = λ world address nid present holds. holds;
  };
  responds = λ world response rest holds can are. holds;
  bytes = record {
    comes = λ world holds can room good is. holds;
    ends = λ world holds can room good is. holds;
    breaks = λ world holds can room bad. holds;
    refuses = λ world holds must. holds;
  };
  input = by_moves _ (λ world change holds moves. holds);
  passes = λ world holds out still. next world.frames holds;
  frames = record {
    gaps = λ world holds can none. next world.frames holds;
    sends = λ world holds can some enough. next world.frames holds;
    misses = λ world holds can short. next world.frames holds;
    stops = λ world holds must. next world.frames holds;
  };
}

-- what the codecs' moves alone change is kept where they keep it
pub kept_codecs : (Holds : List CodecState → List TakenCommand → Type 0) → KeptByCodecs (λ (world : World). Holds world.codecs world.commands) → Kept (λ (world : World). Holds world.codecs world.commands)
kept_codecs Holds codecs = record {
  codecs = codecs;
  responds = λ world response rest holds can are. holds;
  bytes = record {
    comes = λ world holds can room good is. holds;
    ends = λ world holds can room good is. holds;
    breaks = λ world holds can room bad. holds;
    refuses = λ world holds must. holds;
  };
  input = by_moves _ (λ world change holds moves. holds);
  passes = λ world holds out still. holds;
  frames = record {
    gaps = λ world holds can none. holds;
    sends = λ world holds can some enough. holds;
    misses = λ world holds can short. holds;
    stops = λ world holds must. holds;
  };
}
