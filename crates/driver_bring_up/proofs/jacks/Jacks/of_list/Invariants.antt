use Rattle.std.proofs.Common.{◌≡◌, ◌≤◌, ℕ, take}
use Rattle.std.specs.Prelude.{All}
use Rattle.driver_bring_up.specs.Jacks.{counter_of}
use Rattle.driver_bring_up.proofs.ListTimes.{sum_all, sum_at, IsLow}
use Rattle.driver_bring_up.proofs.jacks.Jacks.of_list.Given as goal

abbrev pub invariant-loop-jack : goal.invariant-loop-jack
invariant-loop-jack l = All IsLow l.list → sum_all l.list ≤ 4294967295
    → (l.jacks.taken ≡ sum_all (take l.jack-index l.list))
    × ((codec tag : ℕ) → counter_of l.jacks.times codec tag ≡ sum_at codec tag (take l.jack-index l.list))
