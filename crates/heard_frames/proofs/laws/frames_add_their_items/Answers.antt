use Rattle.codec_graph.specs.declared.pin_kind.PinKind.TheVariants.{Analog}
use Rattle.heard_frames.proofs.HeardLists.{items-missed, items-empty, length-items, item-of-block}
use Rattle.heard_frames.proofs.laws.frames_add_their_items.Goals as goal

pub returns : goal.returns
returns c = record {
  missed = items-missed Analog;
  empty = items-empty Analog;
  each = length-items;
  item = item-of-block;
}
