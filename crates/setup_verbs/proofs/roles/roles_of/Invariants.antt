use Rattle.std.proofs.Common.{◌≡◌, ◌<◌, ℕ, take, length}
use Rattle.setup_verbs.specs.Roles.{role_among, uses_of}
use Rattle.setup_verbs.specs.Roles.{role_in}
use Rattle.setup_verbs.proofs.roles.roles_of.Given as goal

abbrev pub invariant-loop-entry : goal.invariant-loop-entry
invariant-loop-entry l = record {
  whole : length l.roles ≡ 256;
  added : (nid : ℕ) → nid < 256 → role_in l.roles nid ≡ role_among (uses_of (take l.entry-index l.pins)) nid;
}
