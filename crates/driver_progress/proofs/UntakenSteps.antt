-- While CORB's engine does not run, no codec takes a command.
use Rattle.std.proofs.Common.{◌≡◌, ◌==◌, ◌&&◌, ℕ, Bool, true, false, not, List, [], ◌∷◌, refl, sym, ap, ◌∙◌}
use Rattle.hda_registers.specs.Fields.{Fields, Global, is_out_of_reset}
use Rattle.world_rings.specs.declared.response.Response.{Response}
use Rattle.world_rings.specs.Entries.{after_response, after_responses}
use Rattle.world_steps.specs.declared.Step.{Step}
use Rattle.hda_world.specs.Worlds.{World, TakenCommand}
use Rattle.hda_world.specs.Steps.{passed, after_steps}
use Rattle.hda_world.specs.Kept.{Kept}
use Rattle.hda_world.proofs.Callers.{frames_after, passed_global, kept_steps, by_moves}
use Rattle.driver_progress.specs.Beginning.{IsUntaken}

run_after : (responses : List Response) (fields : Fields) → (after_responses fields responses).global.corb_run ≡ fields.global.corb_run
run_after [] fields = refl
run_after (response ∷ responses) fields = run_after responses (after_response fields)

run_passed : (world : World) → (passed world).registers.global.corb_run ≡ world.registers.global.corb_run
run_passed world = ap (λ (global : Global). global.corb_run) (passed_global world)

not_fetched : (fields : Fields) (out : Bool) → fields.global.corb_run ≡ 0
    → (out && fields.global.corb_run == 1 && not (fields.global.corb_pointer_reset == 1) && not (fields.global.corb_read_pointer == fields.global.corb_write_pointer)) ≡ true → ⊥
not_fetched fields true stopped can =
    let still : (false && not (fields.global.corb_pointer_reset == 1) && not (fields.global.corb_read_pointer == fields.global.corb_write_pointer)) ≡ true =
    sym (ap (λ (run : ℕ). run == 1 && not (fields.global.corb_pointer_reset == 1) && not (fields.global.corb_read_pointer == fields.global.corb_write_pointer)) stopped) ∙ can in cc
not_fetched fields false stopped can = cc

pub keeps_untaken : (commands : List TakenCommand) → Kept (IsUntaken commands)
keeps_untaken commands = record {
  codecs = record {
    hands = λ world holds can free. absurd (not_fetched world.registers (is_out_of_reset world.registers.global) holds.stopped can);
    sends = λ world address item rest holds out room are. record { stopped = holds.stopped; commands_are = holds.commands_are };
    loses = λ world address holds out. record { stopped = holds.stopped; commands_are = holds.commands_are };
    plugs = λ world address nid present holds. record { stopped = holds.stopped; commands_are = holds.commands_are };
  };
  responds = λ world response rest holds can are. record { stopped = run_after (response ∷ rest) world.registers ∙ holds.stopped; commands_are = holds.commands_are };
  bytes = record {
    comes = λ world holds can room good is. record { stopped = holds.stopped; commands_are = holds.commands_are };
    ends = λ world holds can room good is. record { stopped = holds.stopped; commands_are = holds.commands_are };
    breaks = λ world holds can room bad. record { stopped = holds.stopped; commands_are = holds.commands_are };
    refuses = λ world holds must. record { stopped = holds.stopped; commands_are = holds.commands_are };
  };
  input = by_moves (IsUntaken commands) (λ world change holds moves. record { stopped = holds.stopped; commands_are = holds.commands_are });
  passes = λ world holds out still. record { stopped = run_passed world ∙ holds.stopped; commands_are = holds.commands_are };
  frames = frames_after (IsUntaken commands) (λ world holds out. record { stopped = run_passed world ∙ holds.stopped; commands_are = holds.commands_are }) (record {
    gaps = λ world holds can none. record { stopped = holds.stopped; commands_are = holds.commands_are };
    sends = λ world holds can some enough. record { stopped = holds.stopped; commands_are = holds.commands_are };
    misses = λ world holds can short. record { stopped = holds.stopped; commands_are = holds.commands_are };
    stops = λ world holds must. record { stopped = holds.stopped; commands_are = holds.commands_are };
  });
}

pub untaken_steps : (commands : List TakenCommand) (steps : List Step) (world : World) → IsUntaken commands world → IsUntaken commands (after_steps steps world)
untaken_steps commands steps world is = kept_steps (IsUntaken commands) (keeps_untaken commands) steps world is
