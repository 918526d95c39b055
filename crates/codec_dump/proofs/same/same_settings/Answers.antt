use Rattle.std.proofs.Common.{◌≡◌, ℕ, map, true, subst, arith, rules, add-one}
use Rattle.std.specs.Prelude.{All}
use Rattle.std.proofs.lemmas.List.Elements.{All-append}
use Rattle.codec_graph.specs.Settings.{key, keys_below, controls}
use Rattle.codec_dump.specs.Left.{IsSameAt}
use Rattle.codec_dump.proofs.SameLemmas.{same_settings as same}
use Rattle.codec_dump.proofs.same.same_settings.Goals as goal

pub loop-nid-preserved : goal.loop-nid-preserved
loop-nid-preserved c =
    let nid = c.loop-nid.nid in
    let is : c.same_node_settings.result ≡ true = search rules in
    rw add-one (All-append (IsSameAt c.args.one.now c.args.other.now) (keys_below nid) (map (key nid) controls) c.loop-nid.invariant (c.same_node_settings.ensures.same is))

pub returns-clause-same : goal.returns-clause-same
returns-clause-same c = λ _.
    let all : c.loop-nid.nid ≡ 128 = omega arith in
    same c.args.graph.now c.args.one.now c.args.other.now c.requires.one c.requires.other (c.controls_ascend.ensures.settings c.args.graph.now c.args.one.now c.requires.one) (subst (λ (n : ℕ). All (IsSameAt c.args.one.now c.args.other.now) (keys_below n)) all c.loop-nid.invariant)
