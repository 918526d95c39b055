use Rattle.std.proofs.Common.{◌≡◌, ◌≤◌, take}
use Rattle.codec_dump.specs.Programs.{with_further}
use Rattle.codec_dump.proofs.program.write_further.Given as goal

-- the files so far are written
abbrev pub invariant-loop-place : goal.invariant-loop-place
invariant-loop-place g l = record {
  files : g.O.Outlet.written l.outlet ≡ with_further (g.O.Outlet.written l.fn.outlet) l.name 2 (take l.place l.texts);
  later : g.O.Outlet.faults l.fn.outlet ≤ g.O.Outlet.faults l.outlet;
}
