use Rattle.std.proofs.Common.{◌≡◌, sym, ◌∙◌}
use Rattle.std.proofs.lemmas.Result.{err_from_is_err_and}
use Rattle.wav_reader.specs.Chunks.{end_of}
use Rattle.wav_reader.specs.Heads.{head_in}
use Rattle.wav_reader.proofs.HeadLemmas.{head_after, at_cut, at_data, at_known, at_fault, at_end}
use Rattle.wav_reader.proofs.heads.find_sound.Goals as goal

pub returns-in_default-clause-head : goal.returns-in_default-clause-head
returns-in_default-clause-head c =
    let cut = at_cut c.args.bytes.now c.loop-at.at c.loop-at.found c.loop-at-test.true (sym c.chunk_at.ensures.chunk ∙ c.in_default.is) in cc

pub returns-then-is_data-clause-head : goal.returns-then-is_data-clause-head
returns-then-is_data-clause-head c =
    let here = at_data c.args.bytes.now c.loop-at.at c.loop-at.found c.in-Some.chunk (sym c.chunk_at.ensures.chunk ∙ c.in-Some.is)
    (sym c.is_data.ensures ∙ c.if-is_data.true) in
    cc

pub returns-in_err-found-clause-head : goal.returns-in_err-found-clause-head
returns-in_err-found-clause-head c =
    let p = err_from_is_err_and c.from_residual.result c.from_residual.ensures.1 in
    let ended = at_fault c.args.bytes.now c.loop-at.at c.loop-at.found c.in_err-found.field-0.0 c.in-Some.chunk
    (sym c.chunk_at.ensures.chunk ∙ c.in-Some.is) (sym c.is_data.ensures ∙ c.if-is_data.false) (sym c.known_after.ensures ∙ c.in_err-found.was) in
    rw (p.1, p.2) cc

pub loop-at-preserved : goal.loop-at-preserved
loop-at-preserved c =
    let on = at_known c.args.bytes.now c.loop-at.at c.loop-at.found c.in_ok-found.found c.in-Some.chunk
    (sym c.chunk_at.ensures.chunk ∙ c.in-Some.is) (sym c.is_data.ensures ∙ c.if-is_data.false) (sym c.known_after.ensures ∙ c.in_ok-found.was) in
    let next : head_after c.args.bytes.now c.in_ok-found.found (end_of c.in-Some.chunk) ≡ head_in c.args.bytes.now = cc in
    rw c.end-at.ensures next

pub returns-clause-head : goal.returns-clause-head
returns-clause-head c =
    let ended = at_end c.args.bytes.now c.loop-at.at c.loop-at.found c.loop-at-test.false in cc
