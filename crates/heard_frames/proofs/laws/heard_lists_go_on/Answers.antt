use Rattle.codec_graph.specs.declared.pin_kind.PinKind.TheVariants.{Analog}
use Rattle.heard_frames.proofs.HeardLists.{heard-append, heard-push}
use Rattle.heard_frames.proofs.laws.heard_lists_go_on.Goals as goal

pub returns : goal.returns
returns c = record {
  history = heard-append Analog;
  frame = heard-push Analog;
}
