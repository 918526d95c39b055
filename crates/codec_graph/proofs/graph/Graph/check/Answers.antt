use Rattle.std.proofs.Common.{sym, subst}
use Rattle.std.specs.Prelude.{All}
use Rattle.codec_graph.specs.declared.raw.RawCodec.{RawCodec}
use Rattle.codec_graph.specs.Listed.{HasReadableList}
use Rattle.codec_graph.proofs.Tables.{normal-normal}
use Rattle.codec_graph.proofs.ReadableLists.{readable_nodes}
use Rattle.codec_graph.proofs.graph.Graph.check.Goals as goal

pub check_normal-requires : goal.check_normal-requires
check_normal-requires c = record {
  is_normal = rw c.normalised-raw.ensures.value (normal-normal c.args.raw);
  lists = subst (λ (codec : RawCodec). All HasReadableList codec.nodes) (sym c.normalised-raw.ensures.value) (readable_nodes c.args.raw.nodes c.requires);
  words = c.normalised-raw.ensures.words;
}
