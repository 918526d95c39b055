use Rattle.std.proofs.Common.{◌≡◌, Some, refl, sym, subst, rules}
use Rattle.hda_outside.specs.declared.pieces.Cut.TheVariants.{Failed}
use Rattle.sound_report.specs.declared.played.CutLine.TheVariants as lines
use Rattle.program_runs.specs.Reading.{IsLineOf}
use Rattle.program_runs.proofs.playing.cut_line.Goals as goal

pub returns-in_ok-name-in-Some-Failed : goal.returns-in_ok-name-in-Some-Failed
returns-in_ok-name-in-Some-Failed c =
    let name = c.in_ok-name-in-Some-Failed.name in
    let same : c.args.cut ≡ Some Failed = search rules in
    subst (λ cut. IsLineOf c.args.name.now cut (Some (lines.Failed name))) (sym same) (name, refl, c.in_ok-name-in-Some-Failed.ensures.ok)
