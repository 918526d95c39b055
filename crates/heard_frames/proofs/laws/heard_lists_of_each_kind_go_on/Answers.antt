use Rattle.heard_frames.proofs.HeardLists.{heard-append, heard-push}
use Rattle.heard_frames.proofs.laws.heard_lists_of_each_kind_go_on.Goals as goal

pub returns : goal.returns
returns c = record {
  history = heard-append;
  frame = heard-push;
}
