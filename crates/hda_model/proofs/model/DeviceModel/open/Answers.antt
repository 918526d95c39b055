use Rattle.std.proofs.Common.{arith}
use Rattle.std.proofs.lemmas.Bool.Decides.{nat_tests}
use Rattle.hda_model.proofs.model.DeviceModel.open.Goals as goal

pub returns-clause-opened : goal.returns-clause-opened
returns-clause-opened c =
    let long = c.if-text-gt-MOST_TEXT_BYTES.false in
    record {
      short = grind (arith, nat_tests, long);
      machine = c.in_ok-machine.machine;
      reads = c.in_ok-machine.ensures.reading;
      opened = c.in_ok-model.ensures;
    }
