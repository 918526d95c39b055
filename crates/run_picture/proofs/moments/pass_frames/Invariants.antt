use Rattle.std.proofs.Common.{◌≡◌, ◌-◌, fold}
use Rattle.run_picture.specs.Moments.{frame_moments, frames_passed}
use Rattle.run_picture.proofs.moments.pass_frames.Given as goal

-- what the frames that are left come to
abbrev pub invariant-loop-frame : goal.invariant-loop-frame
invariant-loop-frame g l =
    record {
      meter : frames_passed l.format (l.frames - l._frame) l.meter ≡ frames_passed l.format l.frames l.initial.meter;
      notes : fold g.N.Notes.noted l.notes (frame_moments l.format (l.frames - l._frame) l.meter)
          ≡ fold g.N.Notes.noted l.initial.notes (frame_moments l.format l.frames l.initial.meter);
    }
