use Rattle.std.proofs.Common.{◌<◌, ℕ, length, sym, ap, ◌∙◌, arith}
use Rattle.hda_model.specs.declared.places.PinName.{PinName}
use Rattle.hda_model.proofs.Finding.{nowhere, handed_name}
use Rattle.hda_model.proofs.places.pin_at.Goals as goal

abbrev named : ℕ × ℕ → PinName
named names = record { codec = names.0; nid = names.1 }

pub returns-clause-name : goal.returns-clause-name
returns-clause-name c pin =
    let size = c.len.ensures in
    let within : c.args.place < length c.args.lists.now = omega (arith, size) in
    ap named (c.head-codec.ensures nowhere) ∙ sym (handed_name c.args.lists.now c.args.place pin within)
