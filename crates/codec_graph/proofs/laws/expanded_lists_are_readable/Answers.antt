use Rattle.codec_graph.proofs.ReadableLists.{readable_listed, readable_codec}
use Rattle.codec_graph.proofs.laws.expanded_lists_are_readable.Goals as goal

pub returns : goal.returns
returns c = record { node = readable_listed; codec = readable_codec }
