use Rattle.std.proofs.Common.{◌≡◌, ◌≤◌, ◌*◌, take}
use Rattle.std.specs.Prelude.{sum_by}
use Rattle.program_runs.specs.WalkTotals.{walk_size}
use Rattle.program_runs.proofs.commands.walk_total.Given as goal

-- the walks over the codecs so far were counted
abbrev pub invariant-loop-codec : goal.invariant-loop-codec
invariant-loop-codec l = record {
  value : l.count ≡ sum_by walk_size (take l.codec-index l.codecs);
  few : l.count ≤ 10000 * l.codec-index;
}
