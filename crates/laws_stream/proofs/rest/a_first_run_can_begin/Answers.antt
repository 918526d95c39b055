use Rattle.laws_stream.proofs.Beginning.{can_begin}
use Rattle.laws_stream.proofs.rest.a_first_run_can_begin.Goals as goal

pub returns : goal.returns
returns c = can_begin
