use Rattle.std.proofs.Common.{◌≡◌, true, rules, inr, refl}
use Rattle.program_runs.specs.Outputs.{HavePlansOf}
use Rattle.driver_agenda.specs.Planned.{have_route}
use Rattle.hda_program.proofs.play.play_ring.Goals as goal

pub returns-in_ok-played-clause-answers : goal.returns-in_ok-played-clause-answers
returns-in_ok-played-clause-answers g c =
    let planned : HavePlansOf c.args.kind c.args.head.format c.args.machine.codecs c.in_ok-plans.plans.items = search rules in
    let routed : have_route c.in_ok-plans.plans.items ≡ true = search rules in
    (c.in_ok-plans.plans.items, planned, inr (c.in_ok-played.played, routed, c.in_ok-played.ensures.played, refl, c.in_ok-played.ensures.cut, c.in_ok-played.ensures.given, c.in_ok-played.ensures.frames))
