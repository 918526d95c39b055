use Rattle.std.proofs.Common.{◌≡◌, ◌+◌, ◌≤◌, ◌<◌, sym, ◌∙◌, ap, length, Option, arith, rules}
use Rattle.std.proofs.lemmas.Result.{err_from_is_err_and}
use Rattle.wav_reader.specs.declared.formats.Sound.{Sound}
use Rattle.wav_reader.specs.declared.chunks.Chunk.{Chunk}
use Rattle.wav_reader.specs.Chunks.{end_of}
use Rattle.wav_reader.specs.Heads.{head_in}
use Rattle.wav_reader.specs.Readers.{chunk_or_cut, known_after, head_seen, seen}
use Rattle.wav_reader.proofs.HeadLemmas.{head_after, at_data, at_known, at_fault, at_end}
use Rattle.wav_reader.proofs.OpeningLemmas.{still_tells, chunk_found, chunk_cut, answer_fault, answer_part}
use Rattle.wav_reader.proofs.opening.seek_sound.Goals as goal

pub returns-in_err-chunk-clause-exact : goal.returns-in_err-chunk-clause-exact
returns-in_err-chunk-clause-exact g c = λ file tells same.
    let p = err_from_is_err_and c.from_residual.result c.from_residual.ensures.1 in
    let now = still_tells (g.S.Shelf.told c.args.shelf.now) (g.S.Shelf.told c.loop-at.shelf) c.args.name.now file c.loop-at.invariant.told tells in
    let here : c.loop-at.at < length file = omega arith in
    rw (p.1, p.2)
    (answer_part {A = Chunk} (λ chunk. chunk) head_seen (chunk_or_cut file c.loop-at.at) (head_in file) c.in_err-chunk.field-0.0
    (λ fault cut. sym (c.loop-at.invariant.exact file tells same) ∙ chunk_cut file c.loop-at.found c.loop-at.at fault here cut)
    (c.in_err-chunk.ensures.exact file now same))

pub returns-in_err-head-clause-exact : goal.returns-in_err-head-clause-exact
returns-in_err-head-clause-exact g c = λ file tells same.
    let p = err_from_is_err_and c.from_residual-in_err-head.result c.from_residual-in_err-head.ensures.1 in
    let now = still_tells (g.S.Shelf.told c.args.shelf.now) (g.S.Shelf.told c.loop-at.shelf) c.args.name.now file c.loop-at.invariant.told tells in
    let chunk = chunk_found file c.loop-at.at c.in_ok-chunk.chunk (c.in_ok-chunk.ensures.exact file now same) in
    let here = at_data file c.loop-at.at c.loop-at.found c.in_ok-chunk.chunk chunk (sym c.is_data.ensures ∙ c.if-is_data.true) in
    let before = c.loop-at.invariant.exact file tells same in
    rw (p.1, p.2) (answer_fault head_seen (head_in file) c.in_err-head.field-0.0 (sym before ∙ here ∙ sym c.sound_in.ensures.head ∙ ap seen c.in_err-head.was))

pub returns-then-is_data-clause-exact : goal.returns-then-is_data-clause-exact
returns-then-is_data-clause-exact g c = λ file tells same.
    let now = still_tells (g.S.Shelf.told c.args.shelf.now) (g.S.Shelf.told c.loop-at.shelf) c.args.name.now file c.loop-at.invariant.told tells in
    let chunk = chunk_found file c.loop-at.at c.in_ok-chunk.chunk (c.in_ok-chunk.ensures.exact file now same) in
    let here = at_data file c.loop-at.at c.loop-at.found c.in_ok-chunk.chunk chunk (sym c.is_data.ensures ∙ c.if-is_data.true) in
    let before = c.loop-at.invariant.exact file tells same in
    sym before ∙ here ∙ sym c.sound_in.ensures.head ∙ ap seen c.in_ok-head.was

pub returns-in_err-found-clause-exact : goal.returns-in_err-found-clause-exact
returns-in_err-found-clause-exact g c = λ file tells same.
    let p = err_from_is_err_and c.from_residual-in_err-found.result c.from_residual-in_err-found.ensures.1 in
    let now = still_tells (g.S.Shelf.told c.args.shelf.now) (g.S.Shelf.told c.loop-at.shelf) c.args.name.now file c.loop-at.invariant.told tells in
    let then = still_tells (g.S.Shelf.told c.loop-at.shelf) (g.S.Shelf.told c.read_chunk.new.shelf) c.args.name.now file c.in_ok-chunk.ensures.told now in
    let chunk = chunk_found file c.loop-at.at c.in_ok-chunk.chunk (c.in_ok-chunk.ensures.exact file now same) in
    let before = c.loop-at.invariant.exact file tells same in
    let inside : c.in_ok-chunk.chunk.from + c.in_ok-chunk.chunk.len ≤ length file = (let inside = c.in_ok-chunk.ensures.inside.1 in omega (arith, inside, same)) in
    rw (p.1, p.2)
    (answer_part {A = Option Sound} (λ known. known) head_seen (known_after file c.loop-at.found c.in_ok-chunk.chunk) (head_in file) c.in_err-found.field-0.0
    (λ fault after. sym before ∙ at_fault file c.loop-at.at c.loop-at.found fault c.in_ok-chunk.chunk chunk (sym c.is_data.ensures ∙ c.if-is_data.false) after)
    (c.in_err-found.ensures.exact file then inside))

pub loop-at-preserved : goal.loop-at-preserved
loop-at-preserved g c =
    record {
      told = search rules;
      exact = λ file tells same.
          let now = still_tells (g.S.Shelf.told c.args.shelf.now) (g.S.Shelf.told c.loop-at.shelf) c.args.name.now file c.loop-at.invariant.told tells in
          let then = still_tells (g.S.Shelf.told c.loop-at.shelf) (g.S.Shelf.told c.read_chunk.new.shelf) c.args.name.now file c.in_ok-chunk.ensures.told now in
          let chunk = chunk_found file c.loop-at.at c.in_ok-chunk.chunk (c.in_ok-chunk.ensures.exact file now same) in
          let before = c.loop-at.invariant.exact file tells same in
          let inside : c.in_ok-chunk.chunk.from + c.in_ok-chunk.chunk.len ≤ length file = (let inside = c.in_ok-chunk.ensures.inside.1 in omega (arith, inside, same)) in
          let on = at_known file c.loop-at.at c.loop-at.found c.in_ok-found.found c.in_ok-chunk.chunk chunk (sym c.is_data.ensures ∙ c.if-is_data.false) (c.in_ok-found.ensures.exact file then inside) in
          let next : head_after file c.in_ok-found.found (end_of c.in_ok-chunk.chunk) ≡ head_in file = sym on ∙ before in
          rw c.end-at.ensures next;
      given = search rules;
      given_rises = search rules;
      asked = search rules;
      later = search rules;
      empties_later = search rules;
    }

pub returns-clause-exact : goal.returns-clause-exact
returns-clause-exact g c = λ file tells same.
    let past : length file ≤ c.loop-at.at = (let end = c.loop-at-test.false in omega (arith, end, same)) in
    sym (c.loop-at.invariant.exact file tells same) ∙ at_end file c.loop-at.at c.loop-at.found past
