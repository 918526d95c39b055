use Rattle.std.proofs.Common.{sym, ◌∙◌, arith, false}
use Rattle.std.proofs.lemmas.List.{ext_get_or}
use Rattle.codec_dump.proofs.same.same_presence.Goals as goal

pub returns-clause-same : goal.returns-clause-same
returns-clause-same c = λ _. ext_get_or false c.args.one.now c.args.other.now (c.has.ensures.size ∙ sym c.has-2.ensures.size) (λ i inside. c.loop-nid.invariant i (omega (arith, c.has.ensures.size)))
