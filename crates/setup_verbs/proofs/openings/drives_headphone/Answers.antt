use Rattle.std.proofs.Common.{◌∙◌, ◌&&◌, sym, ap, Bool}
use Rattle.verb_codes.specs.Words.{has_bit}
use Rattle.verb_codes.proofs.Callers.{contains_bit}
use Rattle.setup_verbs.proofs.openings.drives_headphone.Goals as goal

pub returns-then-is_headphone : goal.returns-then-is_headphone
returns-then-is_headphone c =
    c.contains.ensures tt ∙ contains_bit c.args.node.now.pin_caps 3
    ∙ ap (λ (b : Bool). b && has_bit c.args.node.now.pin_caps 3) (sym c.if-is_headphone.true ∙ c.is_headphone.ensures)
