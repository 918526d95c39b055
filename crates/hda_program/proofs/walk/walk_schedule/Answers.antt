use Rattle.std.proofs.Common.{◌≡◌, true, false, rules, inl, inr, refl}
use Rattle.program_runs.specs.Walks.{walk_format}
use Rattle.codec_graph.specs.declared.pin_kind.PinKind.TheVariants.{Analog}
use Rattle.program_runs.specs.Outputs.{HavePlansOf}
use Rattle.driver_agenda.specs.Planned.{have_route}
use Rattle.hda_program.proofs.walk.walk_schedule.Goals as goal

pub returns-in_ok-walk : goal.returns-in_ok-walk
returns-in_ok-walk c =
    let planned : HavePlansOf Analog walk_format c.args.machine.codecs c.in_ok-plans.plans.items = search rules in
    let routed : have_route c.in_ok-plans.plans.items ≡ true = search rules in
    (c.in_ok-plans.plans.items, planned, inr (c.in_ok-walk.field-0, routed, c.in_ok-walk.ensures, refl))

pub walk-requires-clause-plans : goal.walk-requires-clause-plans
walk-requires-clause-plans c = let planned : HavePlansOf Analog walk_format c.args.machine.codecs c.in_ok-plans.plans.items = search rules in planned

pub returns-in_ok-message : goal.returns-in_ok-message
returns-in_ok-message c =
    let planned : HavePlansOf Analog walk_format c.args.machine.codecs c.in_ok-plans.plans.items = search rules in
    let none : have_route c.in_ok-plans.plans.items ≡ false = search rules in
    (c.in_ok-plans.plans.items, planned, inl (none, search rules))
