use Rattle.std.proofs.Common.{◌≡◌, ◌<◌, length, get_or, take, List, sym, ap, subst, ◌∙◌, arith}
use Rattle.std.specs.Prelude.{All}
use Rattle.std.proofs.lemmas.Grind.{common_steps}
use Rattle.std.proofs.lemmas.List.Edits.{map_over_more}
use Rattle.std.proofs.lemmas.List.Elements.{All-get_or}
use Rattle.codec_graph.specs.declared.raw.RawNode.{RawNode}
use Rattle.codec_graph.specs.Widget.{normal_node}
use Rattle.codec_graph.specs.Listed.{HasReadableList}
use Rattle.codec_graph.specs.Widths.{HasNodeWords}
use Rattle.codec_graph.proofs.Maps.{all_set_more, get_or-changed}
use Rattle.codec_graph.proofs.graph.normalised.Goals as goal

pub normalise-requires : goal.normalise-requires
normalise-requires c =
    let raw = c.deref_mut-node-items.result.now in
    let at = c.loop-node.node-index in
    let within : at < length raw = omega arith in
    let source : raw ≡ c.args.raw.nodes = c.deref_mut-node-items.ensures.value ∙ c.into_vec-nodes.ensures in
    let same : get_or c.loop-node.node-items at c.node-item.result ≡ get_or raw at c.node-item.result =
    ap (λ (nodes : List RawNode). get_or nodes at c.node-item.result) c.loop-node.invariant.value
    ∙ get_or-changed normal_node raw at c.node-item.result within in
    subst HasReadableList (sym same) (All-get_or HasReadableList raw at c.node-item.result within (subst (All HasReadableList) (sym source) c.requires))

pub loop-node-preserved : goal.loop-node-preserved
loop-node-preserved c =
    let turn = map_over_more normal_node c.deref_mut-node-items.result.now c.loop-node.node-items c.loop-node.node-index c.node-item.result (omega arith) c.loop-node.invariant.value c.node-item.is in
    record {
      value = rw (c.normalise.ensures.value, ← c.node-item.is) turn;
      words = all_set_more HasNodeWords c.loop-node.node-items c.loop-node.node-index _ (omega arith) c.loop-node.invariant.words c.normalise.ensures.words;
    }

pub returns-clause-words : goal.returns-clause-words
returns-clause-words c = record {
  address = omega arith;
  vendor = omega arith;
  revision = omega arith;
  group = omega arith;
  group_type = omega arith;
  group_words = record { pcm = omega arith; formats = omega arith; amp_in = omega arith; amp_out = omega arith; power = omega arith };
  first = omega arith;
  count = omega arith;
  nodes =
      let e : c.from_vec.result ≡ c.loop-node.node-items = grind (arith, common_steps) in
      let all : take c.loop-node.node-index c.loop-node.node-items ≡ c.loop-node.node-items = grind (arith, common_steps) in
      subst (All HasNodeWords) (sym e) (subst (All HasNodeWords) all c.loop-node.invariant.words);
}
