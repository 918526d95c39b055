use Rattle.std.proofs.Common.{rules}
use Rattle.made_inputs.specs.MadeSchedule.{IsMadeSchedule}
use Rattle.made_inputs.proofs.Limits.{made_is_limited}
use Rattle.made_inputs.proofs.schedule.made_schedule.Goals as goal

pub returns-clause-limited : goal.returns-clause-limited
returns-clause-limited c =
    let made : IsMadeSchedule c.args.number (record { parts = c.push-3.new.self }) = search rules in
    made_is_limited c.args.number (record { parts = c.push-3.new.self }) made
