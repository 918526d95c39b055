use Rattle.std.proofs.Common.{◌≡◌, ◌≤◌, ◌*◌, vec_len, vec_capacity}
use Rattle.driver_bring_up.specs.Listed.{all_jacks}
use Rattle.driver_bring_up.proofs.jacks.Jacks.into_list.Given as goal

abbrev pub invariant-loop-codec : goal.invariant-loop-codec
invariant-loop-codec l =
    (l.listed.items ≡ all_jacks l.row-items l.codec) × (vec_len l.listed ≤ 64 * l.codec) × (1024 ≤ vec_capacity l.listed)
