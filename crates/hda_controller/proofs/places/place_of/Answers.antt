use Rattle.std.proofs.Common.{sym, ◌∙◌}
use Rattle.hda_controller.proofs.Start.{found_is, none_has}
use Rattle.hda_controller.proofs.places.place_of.Goals as goal

pub returns-then-address-wanted-clause-place : goal.returns-then-address-wanted-clause-place
returns-then-address-wanted-clause-place c =
    found_is c.args.wanted c.args.codecs.now c.loop-place.place c.index-codecs-place.result c.loop-place-test.true c.loop-place.invariant c.index-codecs-place.is
    (sym c.address.ensures ∙ c.if-address-wanted.true)

pub unreachable-requires : goal.unreachable-requires
unreachable-requires c = none_has c.args.wanted c.args.codecs.now c.loop-place.place c.loop-place-test.false c.loop-place.invariant c.requires
