use Rattle.std.proofs.Common.{◌≡◌, ◌+◌, ◌*◌, ◌%◌, arith, ap, ◌∙◌}
use Rattle.verb_codes.specs.Amplifiers.{setting_of, setting_payload}
use Rattle.verb_codes.proofs.Payloads.{setting_of-payload}
use Rattle.verb_codes.proofs.amplifiers.AmpSetting.payload.Goals as goal

pub returns-clause-read_back : goal.returns-clause-read_back
returns-clause-read_back c =
    let value : c.worth.result + c.worth-2.result + c.worth-3.result + c.worth-4.result + c.from.result * 256 % 65536 + c.worth-5.result + c.from-2.result ≡ setting_payload c.args.self.now = omega arith in
    ap setting_of value ∙ setting_of-payload c.args.self.now c.requires
