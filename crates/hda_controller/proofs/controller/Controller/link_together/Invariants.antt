use Rattle.std.proofs.Common.{◌≡◌, ◌≤◌, ◌+◌, ◌-◌, ◌*◌, ℕ, List, vec_len, vec_capacity}
use Rattle.hda_world.specs.Worlds.{World}
use Rattle.heard_lists.specs.Listings.{HasRoom}
use Rattle.hda_controller.specs.Controllers.{StandsFor}
use Rattle.hda_controller.specs.Hearing.{AreHeardAs, CameAs, FramesHeardAs}
use Rattle.hda_controller.specs.Unheard.{AreWhole, block_count, heard_now, layout_now}
use Rattle.hda_world.specs.Steps.{times, frame_step}
use Rattle.hda_controller.proofs.controller.Controller.link_together.Given as goal

-- so many link frames passed, of which some blocks are not heard yet
abbrev pub invariant-loop-passed : goal.invariant-loop-passed
invariant-loop-passed l = record {
  stands : (memory : List ℕ) (world : World) → StandsFor memory l.initial.self world → StandsFor memory l.self (times l._passed frame_step world);
  heard : (memory : List ℕ) (world : World) → StandsFor memory l.initial.self world
      → FramesHeardAs l.initial.self.kind world (times l._passed frame_step world) l.initial.heard (heard_now l.self.kind l.self.device l.unheard.items l.heard);
  whole : AreWhole (layout_now l.self.device) l.unheard.items;
  room : (more : ℕ) → HasRoom (4 * l.frames + more) l.initial.heard
      → HasRoom (block_count (layout_now l.self.device) l.unheard.items + (4 * (l.frames - l._passed) + more)) l.heard;
  lists : AreHeardAs l.self.kind l.self.device.codecs l.heard;
  kept : l.self.kept ≡ l.initial.self.kept;
  kind : l.self.kind ≡ l.initial.self.kind;
  came : (memory : List ℕ) (world : World) → StandsFor memory l.initial.self world
      → CameAs world (times l._passed frame_step world) l.initial.came.items l.came.items;
  space : (more : ℕ) → vec_len l.initial.came + (4 * l.frames + more) ≤ vec_capacity l.initial.came
      → vec_len l.came + (4 * (l.frames - l._passed) + more) ≤ vec_capacity l.came;
}
