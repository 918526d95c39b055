-- While CORB has no command that was not fetched, no codec takes one: over steps of the device and over accesses that submit none.
use Rattle.std.proofs.Common.{◌≡◌, ◌≢◌, ◌⊎◌, inl, inr, ◌/◌, ◌==◌, ℕ, false, not, List, [], ◌∷◌, refl, sym, ap, ◌∙◌, rules, tests}
use Rattle.hda_registers.specs.declared.shapes.Width.{Width}
use Rattle.hda_registers.specs.declared.shapes.Width.TheVariants.{Four}
use Rattle.hda_registers.specs.Fields.{Fields, Global, is_out_of_reset}
use Rattle.hda_registers.specs.Access.{written}
use Rattle.hda_registers.proofs.Callers.{written_pointers}
use Rattle.world_rings.specs.declared.response.Response.{Response}
use Rattle.world_rings.specs.Entries.{after_response, after_responses}
use Rattle.world_steps.specs.declared.Step.{Step}
use Rattle.world_rings.proofs.Callers.{none_fetched}
use Rattle.hda_world.specs.Worlds.{World, TakenCommand}
use Rattle.hda_world.specs.Steps.{passed, after_steps}
use Rattle.hda_world.specs.Events.{after_write}
use Rattle.hda_world.specs.Kept.{Kept}
use Rattle.hda_world.proofs.Callers.{frames_after, passed_global, kept_steps, write_registers, by_moves}
use Rattle.command_engine.proofs.Callers.{reset_registers}
use Rattle.laws_bring_up.specs.SettingUp.{IsIdle}

-- ---- steps of the device

-- it has none, and just these commands were taken
pub record IsIdleSince (commands : List TakenCommand) (world : World) : Type 0 where
  pub idle : IsIdle world
  pub commands_are : world.commands ≡ commands

pointers_after : (responses : List Response) (fields : Fields) → fields.global.corb_read_pointer ≡ fields.global.corb_write_pointer
    → (after_responses fields responses).global.corb_read_pointer ≡ (after_responses fields responses).global.corb_write_pointer
pointers_after [] fields idle = idle
pointers_after (response ∷ responses) fields idle = pointers_after responses (after_response fields) idle

passed_idle : (world : World) → IsIdle world → IsIdle (passed world)
passed_idle world idle =
    ap (λ (global : Global). global.corb_read_pointer) (passed_global world) ∙ idle ∙ sym (ap (λ (global : Global). global.corb_write_pointer) (passed_global world))

keeps_idle : (commands : List TakenCommand) → Kept (IsIdleSince commands)
keeps_idle commands = record {
  codecs = record {
    hands = λ world holds can free. none_fetched (is_out_of_reset world.registers.global) (world.registers.global.corb_run == 1) (not (world.registers.global.corb_pointer_reset == 1)) world.registers.global.corb_read_pointer world.registers.global.corb_write_pointer holds.idle can;
    sends = λ world address item rest holds out room are. record { idle = holds.idle; commands_are = holds.commands_are };
    loses = λ world address holds out. record { idle = holds.idle; commands_are = holds.commands_are };
    plugs = λ world address nid present holds. record { idle = holds.idle; commands_are = holds.commands_are };
  };
  responds = λ world response rest holds can are. record { idle = pointers_after (response ∷ rest) world.registers holds.idle; commands_are = holds.commands_are };
  bytes = record {
    comes = λ world holds can room good is. record { idle = holds.idle; commands_are = holds.commands_are };
    ends = λ world holds can room good is. record { idle = holds.idle; commands_are = holds.commands_are };
    breaks = λ world holds can room bad. record { idle = holds.idle; commands_are = holds.commands_are };
    refuses = λ world holds must. record { idle = holds.idle; commands_are = holds.commands_are };
  };
  input = by_moves (IsIdleSince commands) (λ world change holds moves. record { idle = holds.idle; commands_are = holds.commands_are });
  passes = λ world holds out still. record { idle = passed_idle world holds.idle; commands_are = holds.commands_are };
  frames = frames_after (IsIdleSince commands) (λ world holds out. record { idle = passed_idle world holds.idle; commands_are = holds.commands_are }) (record {
    gaps = λ world holds can none. record { idle = holds.idle; commands_are = holds.commands_are };
    sends = λ world holds can some enough. record { idle = holds.idle; commands_are = holds.commands_are };
    misses = λ world holds can short. record { idle = holds.idle; commands_are = holds.commands_are };
    stops = λ world holds must. record { idle = holds.idle; commands_are = holds.commands_are };
  });
}

pub idle_steps : (steps : List Step) (world : World) → IsIdle world → IsIdleSince world.commands (after_steps steps world)
idle_steps steps world idle = kept_steps (IsIdleSince world.commands) (keeps_idle world.commands) steps world (record { idle = idle; commands_are = refl })

-- ---- accesses

-- a write beside GCTL and CORB's pointers
pub record IsBesidePointers (at : ℕ) : Type 0 where
  pub control : (at / 4 == 2) ≡ false
  pub pointers : (at / 4 == 18) ≡ false

-- or of the reset
pub record IsReset (at : ℕ) (width : Width) (value : ℕ) : Type 0 where
  pub at_is : at ≡ 0x08
  pub width_is : width ≡ Four
  pub value_is : value ≡ 0

abbrev pub SubmitsNone : (at : ℕ) → Width → (value : ℕ) → Type 0
SubmitsNone at width value = IsBesidePointers at ⊎ IsReset at width value

differs : (a b : ℕ) → (a == b) ≡ false → a ≢ b
differs a b is = search (rules, tests)

same_width : (world : World) (width : Width) (at value : ℕ) → IsReset at width value → (written world.registers at width value).global.corb_read_pointer ≡ (written world.registers at width value).global.corb_write_pointer
same_width world width at value reset =
    let is : written world.registers at width value ≡ written world.registers 0x08 Four 0 =
    ap (λ (at : ℕ). written world.registers at width value) reset.at_is ∙ ap (λ (width : Width). written world.registers 0x08 width value) reset.width_is ∙ ap (λ (value : ℕ). written world.registers 0x08 Four value) reset.value_is in
    let fields = is ∙ reset_registers world.registers 0 refl in
    ap (λ (fields : Fields). fields.global.corb_read_pointer) fields ∙ sym (ap (λ (fields : Fields). fields.global.corb_write_pointer) fields)

written_idle : (world : World) (at : ℕ) (width : Width) (value : ℕ) → SubmitsNone at width value → IsIdle world → (written world.registers at width value).global.corb_read_pointer ≡ (written world.registers at width value).global.corb_write_pointer
written_idle world at width value (inl beside) idle =
    let keeps = written_pointers world.registers at width value (differs (at / 4) 2 beside.control) (differs (at / 4) 18 beside.pointers) (is_out_of_reset world.registers.global) refl in
    keeps.read ∙ idle ∙ sym keeps.write
written_idle world at width value (inr reset) idle = same_width world width at value reset

pub write_idle : (world : World) (at : ℕ) (width : Width) (value : ℕ) → SubmitsNone at width value → IsIdle world → IsIdle (after_write at width value world)
write_idle world at width value none idle =
    let left = write_registers world at value width in
    ap (λ (fields : Fields). fields.global.corb_read_pointer) left ∙ written_idle world at width value none idle ∙ sym (ap (λ (fields : Fields). fields.global.corb_write_pointer) left)
