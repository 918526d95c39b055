use Rattle.std.proofs.Common.{refl}
use Rattle.test_readers.proofs.verbs.tell_decoded.Goals as goal

-- what a word is read as can be written
pub encode-back-requires : goal.encode-back-requires
encode-back-requires c = ((c.in-Some.ensures.exact c.in-Some.command).0 refl).0
