use Rattle.std.proofs.Common.{inl, inr, sym, subst, refl, ◌∙◌}
use Rattle.codec_graph.specs.SafeNodes.{IsSafe}
use Rattle.codec_graph.proofs.Reaching.{marked-set}
use Rattle.codec_graph.proofs.Safety.{safe_by_list}
use Rattle.codec_graph.proofs.safe_nodes.look_at.Goals as goal

pub returns : goal.returns
returns c were node marked =
    let listed = c.if-not-lists_marked.ensures refl in
    elim (marked-set c.args.safe.now c.from-place.result node marked) as (λ _. IsSafe c.args.codec.now node) [
      | inl here ↦ subst (IsSafe c.args.codec.now) (sym (here ∙ c.from-place.ensures))
          (safe_by_list c.args.codec.now c.args.nid (λ next there. were next (listed next (rw c.inner_list.ensures there))))
      | inr old ↦ were node old
    ]
