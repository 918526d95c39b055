use Rattle.trace_lines.proofs.purposes.bases_in.Goals as goal

pub returns : goal.returns
returns c = λ pieces bytes.
    rw (c.first_put.ensures pieces bytes, c.first_put-2.ensures pieces bytes, c.first_put-3.ensures pieces bytes, c.first_put-4.ensures pieces bytes)
