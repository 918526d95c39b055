use Rattle.hda_registers.proofs.Placing.{covered-whole, written-whole, written-inside}
use Rattle.hda_registers.proofs.accesses.Access.of.Goals as goal

pub returns-clause-value : goal.returns-clause-value
returns-clause-value c =
    rw (c.mask.ensures, c.mask-2.ensures, covered-whole c.args.width c.args.at c.requires, written-whole c.args.width c.args.at c.args.value c.requires)

pub returns-clause-inside : goal.returns-clause-inside
returns-clause-inside c =
    rw (c.mask.ensures, c.mask-2.ensures, covered-whole c.args.width c.args.at c.requires, written-whole c.args.width c.args.at c.args.value c.requires)
    (written-inside c.args.width c.args.at c.args.value)
