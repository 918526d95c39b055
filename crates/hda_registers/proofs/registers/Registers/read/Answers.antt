use Rattle.std.proofs.Common.{◌≡◌, ◌≢◌, ◌%◌, ◌∙◌, ap, sym}
use Rattle.hda_registers.specs.Access.{bytes_of}
use Rattle.hda_registers.proofs.Dispatch.{value-aligned, value-apart}
use Rattle.hda_registers.proofs.registers.Registers.read.Goals as goal

pub returns-then-at-bytes-eq0 : goal.returns-then-at-bytes-eq0
returns-then-at-bytes-eq0 c =
    let aligned : c.args.at % bytes_of c.args.width ≡ 0 = sym (ap (λ n. c.args.at % n) c.bytes.ensures) ∙ c.if-at-bytes-eq0.true in
    rw c.shown.ensures (value-aligned c.args.self.now c.args.at c.args.width aligned)

pub returns-else-at-bytes-eq0 : goal.returns-else-at-bytes-eq0
returns-else-at-bytes-eq0 c =
    let apart : c.args.at % bytes_of c.args.width ≢ 0 = λ e. c.if-at-bytes-eq0.false (ap (λ n. c.args.at % n) c.bytes.ensures ∙ e) in
    value-apart c.args.self.now c.args.at c.args.width apart
