use Rattle.stream_descriptor.proofs.Accepting.{due-few}
use Rattle.stream_descriptor.proofs.stream.Stream.due.Goals as goal

pub returns-in-Some-clause-few : goal.returns-in-Some-clause-few
returns-in-Some-clause-few c = rw c.blocks-in-Some.ensures (due-few c.in-Some.format _)
