use Rattle.std.proofs.Common.{◌≡◌, false, rules}
use Rattle.codec_graph.specs.Settings.{has_control}
use Rattle.codec_dump.proofs.SameLemmas.{unowned_same}
use Rattle.codec_dump.proofs.same.same_setting.Goals as goal

pub returns-then-not-has_control-clause-same : goal.returns-then-not-has_control-clause-same
returns-then-not-has_control-clause-same c =
    let lacks : has_control c.args.graph.now c.args.nid c.args.control ≡ false = search rules in
    λ _. unowned_same c.args.graph.now c.args.one.now c.args.other.now c.args.nid c.args.control c.raw.ensures.well_formed c.requires.one c.requires.other lacks
