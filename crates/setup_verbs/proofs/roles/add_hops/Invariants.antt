use Rattle.std.proofs.Common.{◌≡◌, ◌<◌, ℕ, take, length}
use Rattle.setup_verbs.specs.Roles.{role_among, hop_uses, first_role}
use Rattle.setup_verbs.specs.Roles.{role_in}
use Rattle.setup_verbs.proofs.roles.add_hops.Given as goal

abbrev pub invariant-loop-hop : goal.invariant-loop-hop
invariant-loop-hop l = record {
  whole : length l.roles ≡ 256;
  added : (nid : ℕ) → nid < 256 → role_in l.roles nid ≡ first_role (role_in l.initial.roles nid) (role_among (hop_uses (take l.hop-index l.hops)) nid);
}
