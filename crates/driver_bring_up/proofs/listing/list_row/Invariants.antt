use Rattle.std.proofs.Common.{◌≡◌, ◌≤◌, ◌+◌, ◌++◌, vec_len, vec_capacity}
use Rattle.driver_bring_up.specs.Listed.{row_jacks}
use Rattle.driver_bring_up.proofs.listing.list_row.Given as goal

abbrev pub invariant-loop-tag : goal.invariant-loop-tag
invariant-loop-tag l =
    (l.listed.items ≡ l.initial.listed.items ++ row_jacks l.codec l.row l.tag)
    × (vec_len l.listed ≤ vec_len l.initial.listed + l.tag)
    × (vec_capacity l.initial.listed ≤ vec_capacity l.listed)
