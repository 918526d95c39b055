-- Steps of the device leave streams at rest.
use Rattle.std.proofs.Common.{◌≡◌, ◌==◌, ℕ, true, false, List, [], ◌∷◌, refl, sym, ap, ◌∙◌}
use Rattle.std.proofs.lemmas.Bool.{false≢true}
use Rattle.hda_registers.specs.Fields.{Fields, Descriptor, Global, is_running}
use Rattle.world_rings.specs.declared.response.Response.{Response}
use Rattle.world_rings.specs.Entries.{after_response, after_responses}
use Rattle.hda_world.specs.Worlds.{World}
use Rattle.hda_world.specs.Steps.{passed}
use Rattle.hda_world.specs.Kept.{Kept}
use Rattle.hda_world.proofs.Callers.{passed_global, by_stopped}
use Rattle.driver_progress.proofs.Callers.{keeps_time}
use Rattle.laws_stream.specs.Resting.{Rests}

-- what responses leave
record Same (old new : Fields) : Type 0 where
  fifo : new.shape.fifo ≡ old.shape.fifo
  clock : new.global.wall_clock ≡ old.global.wall_clock
  reset : new.global.controller_reset ≡ old.global.controller_reset
  input : new.input ≡ old.input
  output : new.output ≡ old.output

same_after : (responses : List Response) (fields : Fields) → Same fields (after_responses fields responses)
same_after [] fields = record { fifo = refl; clock = refl; reset = refl; input = refl; output = refl }
same_after (response ∷ responses) fields =
    let rest = same_after responses (after_response fields) in record {
      fifo = rest.fifo;
      clock = rest.clock;
      reset = rest.reset;
      input = rest.input;
      output = rest.output;
    }

runs_not : (output : Descriptor) → is_running output ≡ false → is_running output ≡ true → ⊥
runs_not output stopped runs = false≢true (sym stopped ∙ runs)

passed_reset : (world : World) → (passed world).registers.global.controller_reset ≡ world.registers.global.controller_reset
passed_reset world = ap (λ (global : Global). global.controller_reset) (passed_global world)

pub rests_kept : (fifo : ℕ) → Kept (Rests fifo)
rests_kept fifo = record {
  codecs = record {
    hands = λ world rests can free. rests;
    sends = λ world address item rest rests out room are. rests;
    loses = λ world address rests out. rests;
    plugs = λ world address nid present rests. rests;
  };
  responds = λ world response rest rests can are.
      let same = same_after (response ∷ rest) world.registers in record {
        fifo_is = same.fifo ∙ rests.fifo_is;
        input_stopped = ap is_running same.input ∙ rests.input_stopped;
        output_stopped = ap is_running same.output ∙ rests.output_stopped;
        no_error = ap (λ (output : Descriptor). output.descriptor_error) same.output ∙ rests.no_error;
        clock_is = same.clock ∙ rests.clock_is;
        held = λ held. let was = rests.held (ap (λ (reset : ℕ). reset == 1) (sym same.reset) ∙ held) in (same.clock ∙ was.0, was.1);
        none_carried = rests.none_carried;
      };
  bytes = record {
    comes = λ world rests can room good is. absurd (runs_not world.registers.output rests.output_stopped can.runs);
    ends = λ world rests can room good is. absurd (runs_not world.registers.output rests.output_stopped can.runs);
    breaks = λ world rests can room bad. absurd (runs_not world.registers.output rests.output_stopped can.runs);
    refuses = λ world rests must. absurd (runs_not world.registers.output rests.output_stopped must.runs);
  };
  input = by_stopped (Rests fifo) (λ world rests. rests.input_stopped);
  passes = λ world rests out still. record {
    fifo_is = rests.fifo_is;
    input_stopped = rests.input_stopped;
    output_stopped = rests.output_stopped;
    no_error = rests.no_error;
    clock_is = keeps_time.passes world rests.clock_is out still;
    held = λ held. absurd (false≢true (sym held ∙ ap (λ (reset : ℕ). reset == 1) (passed_reset world) ∙ out));
    none_carried = rests.none_carried;
  };
  frames = record {
    gaps = λ world rests can none. absurd (runs_not world.registers.output rests.output_stopped can.runs);
    sends = λ world rests can some enough. absurd (runs_not world.registers.output rests.output_stopped can.runs);
    misses = λ world rests can short. absurd (runs_not world.registers.output rests.output_stopped can.runs);
    stops = λ world rests must. absurd (runs_not world.registers.output rests.output_stopped must.runs);
  };
}
