use Rattle.std.proofs.Common.{rules, refl}
use Rattle.setup_verbs.proofs.Callers.{entry_more, unused_at}
use Rattle.input_verbs.specs.InputVerbs.{input_entry_uses}
use Rattle.input_verbs.proofs.roles.roles_of.Goals as goal

pub loop-entry-init : goal.loop-entry-init
loop-entry-init c = record { whole = refl; added = λ nid below. unused_at 256 nid below }

pub loop-entry-preserved : goal.loop-entry-preserved
loop-entry-preserved c = record {
  whole = search rules;
  added = λ nid below. entry_more input_entry_uses c.args.pins.now c.loop-entry.entry-index c.entry-item.result nid _ _ c.loop-entry-test.true c.entry-item.is (c.loop-entry.invariant.added nid below) (c.add_entry.ensures nid below);
}
