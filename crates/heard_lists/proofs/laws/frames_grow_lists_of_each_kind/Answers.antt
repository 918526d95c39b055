use Rattle.heard_lists.proofs.Growing.{blocks-grow, hole-grows, gap-grows}
use Rattle.heard_lists.proofs.laws.frames_grow_lists_of_each_kind.Goals as goal

pub returns : goal.returns
returns c = record {
  blocks = blocks-grow;
  missed = hole-grows;
  none = gap-grows;
}
