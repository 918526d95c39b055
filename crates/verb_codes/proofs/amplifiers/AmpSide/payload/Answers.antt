use Rattle.std.proofs.Common.{◌≡◌, ◌+◌}
use Rattle.verb_codes.specs.Amplifiers.{worth}
use Rattle.verb_codes.proofs.Payloads.{side-allowed}
use Rattle.verb_codes.proofs.amplifiers.AmpSide.payload.Goals as goal

pub returns-clause-allowed : goal.returns-clause-allowed
returns-clause-allowed c =
    let side = c.args.self.now in
    let sum : c.worth.result + c.worth-2.result + c.from.result ≡ worth side.output 15 + worth side.left 13 + side.place = cc in
    rw sum (side-allowed side.output side.left side.place c.requires)
