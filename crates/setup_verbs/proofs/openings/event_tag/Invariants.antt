use Rattle.std.proofs.Common.{◌≡◌, ◌+◌, drop}
use Rattle.setup_verbs.specs.Roles.{place_among}
use Rattle.setup_verbs.proofs.openings.event_tag.Given as goal

abbrev pub invariant-loop-entry : goal.invariant-loop-entry
invariant-loop-entry l = record {
  counted : l.tag ≡ l.entry-index + 1;
  passed : place_among l.pins l.pin ≡ l.entry-index + place_among (drop l.entry-index l.pins) l.pin;
}
