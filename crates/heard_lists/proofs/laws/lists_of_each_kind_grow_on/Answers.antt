use Rattle.heard_lists.proofs.Growing.{grown-append, grown-none}
use Rattle.heard_lists.proofs.laws.lists_of_each_kind_grow_on.Goals as goal

pub returns : goal.returns
returns c = record { both = grown-append; none = grown-none }
