-- While CORB has no command that was not fetched, codecs keep their graphs and settings.
use Rattle.std.proofs.Common.{◌≡◌, ◌==◌, not, ℕ, List, [], ◌∷◌, refl, sym, ap, subst, ◌∙◌}
use Rattle.std.specs.Prelude.{All}
use Rattle.std.proofs.lemmas.List.Elements.{All-head, All-tail}
use Rattle.codec_graph.specs.CodecStates.{CodecState, plugged, without_first, without_answer}
use Rattle.hda_registers.specs.Fields.{Fields, Global, is_out_of_reset}
use Rattle.hda_registers.proofs.Callers.{keeps-reset, keeps-left, written_pointers}
use Rattle.hda_registers.specs.declared.shapes.Width.{Width}
use Rattle.codec_graph.proofs.Callers.{graph-plugged, settings-plugged}
use Rattle.world_rings.proofs.Callers.{batch_registers, none_fetched}
use Rattle.hda_world.specs.Worlds.{World, TakenCommand}
use Rattle.hda_world.specs.Steps.{passed}
use Rattle.hda_world.specs.Events.{Event, Stepped, Begin, End, Read, Write, DmaRead, DmaWrite, happens, after, after_write}
use Rattle.hda_world.specs.Kept.{Kept}
use Rattle.hda_world.proofs.Callers.{kept_step, frames_after, passed_global, plain_write, by_moves, access_leaves}
use Rattle.laws_hearing.specs.Steady.{settings_of, AreIdleBy, AreIdle, LeavesCommands}
use Rattle.laws_hearing.proofs.Steadying.{settings_with}
use Rattle.laws_hearing.proofs.SteadyEvents.{not_pointers}

module _ (codecs : List CodecState) where
  abbrev Idle : World → Type 0
  Idle = AreIdle codecs

  same_settings : (world : World) (now : List CodecState) → settings_of now ≡ settings_of world.codecs → Idle world
      → AreIdleBy codecs now world.registers.global.corb_read_pointer world.registers.global.corb_write_pointer
  same_settings world now same idle = record { settings = same ∙ idle.settings; idle = idle.idle }

  passed_idle : (world : World) → Idle world → Idle (passed world)
  passed_idle world idle =
      subst (λ (global : Global). AreIdleBy codecs world.codecs global.corb_read_pointer global.corb_write_pointer) (sym (passed_global world)) idle

  idle_kept : Kept Idle
  idle_kept = record {
    codecs = record {
      hands = λ world idle can free.
          none_fetched (is_out_of_reset world.registers.global) (world.registers.global.corb_run == 1) (not (world.registers.global.corb_pointer_reset == 1)) world.registers.global.corb_read_pointer world.registers.global.corb_write_pointer idle.idle can;
      sends = λ world address item rest idle out room are. same_settings world _ (settings_with address without_first (λ codec. refl) (λ codec. refl) world.codecs) idle;
      loses = λ world address idle out. same_settings world _ (settings_with address without_answer (λ codec. refl) (λ codec. refl) world.codecs) idle;
      plugs = λ world address nid present idle.
          same_settings world _ (settings_with address (λ codec. plugged codec nid present) (graph-plugged nid present) (settings-plugged nid present) world.codecs) idle;
    };
    responds = λ world response rest idle can are.
        subst (λ (fields : Fields). AreIdleBy codecs world.codecs fields.global.corb_read_pointer fields.global.corb_write_pointer) (sym (batch_registers response rest world.registers)) idle;
    bytes = record {
      comes = λ world idle can room good is. idle;
      ends = λ world idle can room good is. idle;
      breaks = λ world idle can room bad. idle;
      refuses = λ world idle must. idle;
    };
    input = by_moves Idle (λ world change idle moves. idle);
    passes = λ world idle out still. passed_idle world idle;
    frames = frames_after Idle (λ world idle out. passed_idle world idle) (record {
      gaps = λ world idle can none. idle;
      sends = λ world idle can some enough. idle;
      misses = λ world idle can short. idle;
      stops = λ world idle must. idle;
    });
  }

  write_idle : (world : World) (at value : ℕ) (width : Width) → LeavesCommands (Write at width value) → Idle world → Idle (after_write at width value world)
  write_idle world at value width beside idle =
      let plain = plain_write world at value width (keeps-reset world.registers at width value beside.control) (keeps-left world.registers at width value beside.control) in
      let pointers = written_pointers world.registers at width value beside.control (not_pointers at beside.corb) (is_out_of_reset world.registers.global) refl in
      record {
        settings = ap (λ (w : World). settings_of w.codecs) plain ∙ idle.settings;
        idle = ap (λ (w : World). w.registers.global.corb_read_pointer) plain ∙ pointers.read ∙ idle.idle ∙ sym (ap (λ (w : World). w.registers.global.corb_write_pointer) plain ∙ pointers.write);
      }

  event_idle : (event : Event) (world : World) → LeavesCommands event → Idle world → Idle (happens world event)
  event_idle (Stepped step) world leaves idle = kept_step Idle idle_kept step world idle
  event_idle Begin world leaves idle = idle
  event_idle End world leaves idle = idle
  event_idle (Read at width value) world leaves idle = idle
  event_idle (Write at width value) world leaves idle = write_idle world at value width leaves idle
  event_idle (DmaRead at bytes) world leaves idle = idle
  event_idle (DmaWrite at bytes) world leaves idle = idle

  pub events_idle : (events : List Event) (world : World) → All LeavesCommands events → Idle world → Idle (after events world)
  events_idle [] world all idle = idle
  events_idle (event ∷ events) world all idle =
      events_idle events (happens world event) (All-tail LeavesCommands event events all) (event_idle event world (All-head LeavesCommands event events all) idle)

-- ---- and they take no command

module _ (codecs : List CodecState) (commands : List TakenCommand) where
  abbrev Quiet : World → Type 0
  Quiet world = AreIdle codecs world × (world.commands ≡ commands)

  quiet_kept : Kept Quiet
  quiet_kept =
      let keeps = idle_kept codecs in
      record {
        codecs = record {
          hands = λ world quiet can free.
              none_fetched (is_out_of_reset world.registers.global) (world.registers.global.corb_run == 1) (not (world.registers.global.corb_pointer_reset == 1)) world.registers.global.corb_read_pointer world.registers.global.corb_write_pointer quiet.0.idle can;
          sends = λ world address item rest quiet out room are. (keeps.codecs.sends world address item rest quiet.0 out room are, quiet.1);
          loses = λ world address quiet out. (keeps.codecs.loses world address quiet.0 out, quiet.1);
          plugs = λ world address nid present quiet. (keeps.codecs.plugs world address nid present quiet.0, quiet.1);
        };
        responds = λ world response rest quiet can are. (keeps.responds world response rest quiet.0 can are, quiet.1);
        bytes = record {
          comes = λ world quiet can room good is. quiet;
          ends = λ world quiet can room good is. quiet;
          breaks = λ world quiet can room bad. quiet;
          refuses = λ world quiet must. quiet;
        };
        input = by_moves Quiet (λ world change quiet moves. quiet);
        passes = λ world quiet out still. (keeps.passes world quiet.0 out still, quiet.1);
        frames = record {
          gaps = λ world quiet can none. (keeps.frames.gaps world quiet.0 can none, quiet.1);
          sends = λ world quiet can some enough. (keeps.frames.sends world quiet.0 can some enough, quiet.1);
          misses = λ world quiet can short. (keeps.frames.misses world quiet.0 can short, quiet.1);
          stops = λ world quiet must. (keeps.frames.stops world quiet.0 must, quiet.1);
        };
      }

  event_quiet : (event : Event) (world : World) → LeavesCommands event → Quiet world → Quiet (happens world event)
  event_quiet (Stepped step) world leaves quiet = kept_step Quiet quiet_kept step world quiet
  event_quiet Begin world leaves quiet = quiet
  event_quiet End world leaves quiet = quiet
  event_quiet (Read at width value) world leaves quiet = quiet
  event_quiet (Write at width value) world leaves quiet = (event_idle codecs (Write at width value) world leaves quiet.0, (access_leaves world at value width).commands ∙ quiet.1)
  event_quiet (DmaRead at bytes) world leaves quiet = quiet
  event_quiet (DmaWrite at bytes) world leaves quiet = quiet

  events_quiet : (events : List Event) (world : World) → All LeavesCommands events → Quiet world → Quiet (after events world)
  events_quiet [] world all quiet = quiet
  events_quiet (event ∷ events) world all quiet =
      events_quiet events (happens world event) (All-tail LeavesCommands event events all) (event_quiet event world (All-head LeavesCommands event events all) quiet)

pub nothing_taken : (codecs : List CodecState) (events : List Event) (world : World) → All LeavesCommands events → AreIdle codecs world → (after events world).commands ≡ world.commands
nothing_taken codecs events world all idle = (events_quiet codecs world.commands events world all (idle, refl)).1
