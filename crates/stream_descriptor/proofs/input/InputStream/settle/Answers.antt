use Rattle.std.proofs.Common.{refl, subst}
use Rattle.stream_descriptor.specs.Running.{Playing, taken_bytes}
use Rattle.stream_descriptor.proofs.Written.{SettlesBy}
use Rattle.stream_descriptor.proofs.input.InputStream.settle.Goals as goal

pub returns-clause-leads : goal.returns-clause-leads
returns-clause-leads c =
    subst (λ (before : Playing). SettlesBy taken_bytes before c.settle.new.self c.args.regs.now c.settle.new.regs c.args.started c.args.stopped) c.self.view_is
    (λ old state. c.settle.ensures.counted taken_bytes old state refl)
