use Rattle.std.proofs.Common.{◌≡◌, ◌-◌, ◌≤◌, max, take, length}
use Rattle.hda_outside.specs.Sink.{taken_with}
use Rattle.hda_outside.proofs.writing.write_all.Given as goal

-- The sink has taken the first `done` bytes.
abbrev pub invariant-loop-done : goal.invariant-loop-done
invariant-loop-done g l =
    record {
      within : l.done ≤ length l.bytes;
      taken : g.K.Sink.taken l.out ≡ taken_with (g.K.Sink.taken l.fn.out) (take l.done l.bytes);
      pieces : g.K.Sink.longest l.out ≤ max (g.K.Sink.longest l.fn.out) 4096;
      later : g.K.Sink.faults l.fn.out ≤ g.K.Sink.faults l.out;
    }

abbrev pub decreases-loop-done : goal.decreases-loop-done
decreases-loop-done g l = length l.bytes - l.done
