use Rattle.std.proofs.Common.{◌≡◌, ◌+◌, arith, ◌∙◌}
use Rattle.verb_codes.specs.Amplifiers.{worth, side_of, side_payload}
use Rattle.verb_codes.proofs.Payloads.{side_payload-of}
use Rattle.verb_codes.proofs.amplifiers.AmpSide.of_payload.Goals as goal

pub returns-clause-same : goal.returns-clause-same
returns-clause-same c = λ none.
    let read : worth c.has_bit.result 15 + worth c.has_bit-2.result 13 + c.bits_of.result ≡ side_payload (side_of c.args.payload) = cc in
    read ∙ side_payload-of c.args.payload (omega arith) none
