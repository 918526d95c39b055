use Rattle.std.proofs.Common.{◌≡◌, ◌≤◌, sym, ◌∙◌, true, false, length, Err, arith}
use Rattle.std.proofs.lemmas.Result.{err_from_is_err_and}
use Rattle.wav_reader.specs.Chunks.{is_riff}
use Rattle.wav_reader.specs.Heads.{head_in}
use Rattle.wav_reader.specs.Readers.{head_seen}
use Rattle.wav_reader.proofs.HeadLemmas.{head_of-other, head_of-riff}
use Rattle.wav_reader.proofs.OpeningLemmas.{still_tells, opened_measured, opened_unmeasured, opened_fault}
use Rattle.wav_reader.proofs.opening.open_wav.Goals as goal

pub returns-in_err-length-clause-exact : goal.returns-in_err-length-clause-exact
returns-in_err-length-clause-exact g c =
    let p = err_from_is_err_and c.from_residual.result c.from_residual.ensures.1 in
    rw (p.1, p.2)
    (opened_unmeasured (g.S.Shelf.told c.args.shelf.now) c.args.name.now c.file_length.result c.in_err-length.field-0.0 c.in_err-length.was
    c.file_length.ensures.too_long)

pub returns-then-not-branch-clause-exact : goal.returns-then-not-branch-clause-exact
returns-then-not-branch-clause-exact g c =
    opened_measured (g.S.Shelf.told c.args.shelf.now) c.args.name.now c.in_ok-length.length _ c.in_ok-length.ensures.exact (λ file tells same.
    let now = still_tells (g.S.Shelf.told c.args.shelf.now) (g.S.Shelf.told c.file_length.new.shelf) c.args.name.now file c.in_ok-length.ensures.told tells in
    let riff = c.in_ok-begins_as_wav.ensures.exact file now same in
    let short : length file ≤ 67108864 = (let within = c.in_ok-length.ensures.within in omega (arith, within, same)) in
    let other : is_riff file ≡ false = cc (riff, c.if-not-branch.true) in
    (short, head_of-other file other))

pub returns-in_err-head-clause-exact : goal.returns-in_err-head-clause-exact
returns-in_err-head-clause-exact g c =
    let p = err_from_is_err_and c.from_residual-in_err-head.result c.from_residual-in_err-head.ensures.1 in
    rw (p.1, p.2)
    (opened_measured (g.S.Shelf.told c.args.shelf.now) c.args.name.now c.in_ok-length.length (Err c.in_err-head.field-0.0) c.in_ok-length.ensures.exact (λ file tells same.
    let now = still_tells (g.S.Shelf.told c.args.shelf.now) (g.S.Shelf.told c.file_length.new.shelf) c.args.name.now file c.in_ok-length.ensures.told tells in
    let then = still_tells (g.S.Shelf.told c.file_length.new.shelf) (g.S.Shelf.told c.begins_as_wav.new.shelf) c.args.name.now file c.in_ok-begins_as_wav.ensures.told now in
    let riff = c.in_ok-begins_as_wav.ensures.exact file now same in
    let short : length file ≤ 67108864 = (let within = c.in_ok-length.ensures.within in omega (arith, within, same)) in
    let is : is_riff file ≡ true = cc (riff, c.if-not-branch.false) in
    opened_fault head_seen file (head_in file) c.in_err-head.field-0.0 short (λ fault said. head_of-riff file is ∙ said) (c.in_err-head.ensures.exact file then same)))

pub returns-clause-exact : goal.returns-clause-exact
returns-clause-exact g c =
    opened_measured (g.S.Shelf.told c.args.shelf.now) c.args.name.now c.in_ok-length.length _ c.in_ok-length.ensures.exact (λ file tells same.
    let now = still_tells (g.S.Shelf.told c.args.shelf.now) (g.S.Shelf.told c.file_length.new.shelf) c.args.name.now file c.in_ok-length.ensures.told tells in
    let then = still_tells (g.S.Shelf.told c.file_length.new.shelf) (g.S.Shelf.told c.begins_as_wav.new.shelf) c.args.name.now file c.in_ok-begins_as_wav.ensures.told now in
    let riff = c.in_ok-begins_as_wav.ensures.exact file now same in
    let short : length file ≤ 67108864 = (let within = c.in_ok-length.ensures.within in omega (arith, within, same)) in
    let is : is_riff file ≡ true = cc (riff, c.if-not-branch.false) in
    (sym same, short, head_of-riff file is ∙ c.in_ok-head.ensures.exact file then same))
