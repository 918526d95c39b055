use Rattle.std.proofs.Common.{◌≡◌, drop, fold}
use Rattle.run_picture.specs.Meters.{meter_opened}
use Rattle.run_picture.specs.Moments.{meter_from, moments_from}
use Rattle.run_picture.proofs.moments.note_moments.Given as goal

-- what the entries that are left come to
abbrev pub invariant-loop-entry : goal.invariant-loop-entry
invariant-loop-entry g l =
    record {
      meter : meter_from l.format l.fifo (drop l.entry-index l.entries) l.meter
          ≡ meter_from l.format l.fifo l.entries meter_opened;
      notes : fold g.N.Notes.noted l.notes (moments_from l.format l.fifo (drop l.entry-index l.entries) l.meter)
          ≡ fold g.N.Notes.noted l.initial.notes (moments_from l.format l.fifo l.entries meter_opened);
    }
