use Rattle.std.proofs.Common.{◌≡◌, ℕ, true, get_or, arith, rules, below_more}
use Rattle.codec_graph.specs.declared.controls.Control.TheVariants.{Select}
use Rattle.codec_graph.specs.Settings.{key, plain_controls}
use Rattle.codec_dump.specs.Left.{IsSameAt}
use Rattle.codec_dump.proofs.SameLemmas.{all_controls}
use Rattle.codec_dump.proofs.same.same_node_settings.Goals as goal

pub loop-control-preserved : goal.loop-control-preserved
unfolding plain_controls
loop-control-preserved c =
    let is : c.same_setting.result ≡ true = search rules in
    let P : ℕ → Type 0 = λ k. IsSameAt c.args.one.now c.args.other.now (key c.args.nid (get_or plain_controls k Select)) in
    below_more P c.loop-control.control-index c.loop-control.invariant (c.same_setting.ensures.same is)

pub returns-clause-same : goal.returns-clause-same
returns-clause-same c = λ _. all_controls (IsSameAt c.args.one.now c.args.other.now) c.args.nid c.loop-place-2.invariant.plain c.loop-place-2.invariant.left (λ k inside. c.loop-place-2.invariant.right k (omega arith))
