use Rattle.std.proofs.Common.{◌≡◌, ◌≤◌, ◌<◌, ◌+◌, ◌-◌, ◌/◌, ◌∙◌, ℕ, ap, sym, subst, arith, length}
use Rattle.period_writer.specs.Blocks.{addresses_of}
use Rattle.period_writer.specs.Places.{piece_start, piece_end, place_in, touched}
use Rattle.period_writer.proofs.Callers.{is_step, done, done_next, done_last}
use Rattle.hda_capture.specs.Reading.{piece_size, ReadsPiece}
use Rattle.hda_capture.proofs.ReadSteps.{read_more}
use Rattle.hda_capture.proofs.pieces.read_line.Goals as goal

pub loop-step-preserved : goal.loop-step-preserved
loop-step-preserved g c =
    let now = c.loop-step.invariant in
    let few : c.loop-step.step < touched (length c.args.buffer.now) c.args.stretch.from c.args.stretch.to = omega (arith, c.loop-step-test.true, c.touched-step-end.ensures) in
    let step = is_step (length c.args.buffer.now) c.args.stretch.from c.args.stretch.to c.loop-step.step c.requires.some few in
    let next = done_next (length c.args.buffer.now) c.args.stretch.from c.args.stretch.to c.loop-step.step step in
    let len : c.piece_of-piece.result.to - c.piece_of-piece.result.from ≡ piece_size (length c.args.buffer.now) c.args.stretch.from c.args.stretch.to (c.args.stretch.from / length c.args.buffer.now + c.loop-step.step) =
    ap (λ (n : ℕ). n - c.piece_of-piece.result.from) c.piece_of-piece.ensures.to ∙ ap (λ (n : ℕ). piece_end (length c.args.buffer.now) c.args.stretch.to (c.args.stretch.from / length c.args.buffer.now + c.loop-step.step) - n) c.piece_of-piece.ensures.from in
    let on : done (length c.args.buffer.now) c.args.stretch.from c.args.stretch.to (c.loop-step.step + 1) ≡ done (length c.args.buffer.now) c.args.stretch.from c.args.stretch.to c.loop-step.step + (c.piece_of-piece.result.to - c.piece_of-piece.result.from) =
    next ∙ ap (λ (n : ℕ). done (length c.args.buffer.now) c.args.stretch.from c.args.stretch.to c.loop-step.step + n) (sym len) in
    let Once : ℕ → ℕ → ℕ → ℕ → Type 0 = λ bytes period from size. ReadsPiece (place_in bytes (addresses_of c.args.periods.now) period from) size c.loop-step.recorded.items c.read_step.new.recorded.items
    (g.P.Platform.told c.loop-step.platform) (g.P.Platform.told c.read_step.new.platform) in
    let once = subst (Once (length c.args.buffer.now) (c.args.stretch.from / length c.args.buffer.now + c.loop-step.step) (piece_start (length c.args.buffer.now) c.args.stretch.from (c.args.stretch.from / length c.args.buffer.now + c.loop-step.step))) len
    (subst (λ (n : ℕ). Once (length c.args.buffer.now) (c.args.stretch.from / length c.args.buffer.now + c.loop-step.step) n (c.piece_of-piece.result.to - c.piece_of-piece.result.from)) c.piece_of-piece.ensures.from
    (subst (λ (n : ℕ). Once (length c.args.buffer.now) n c.piece_of-piece.result.from (c.piece_of-piece.result.to - c.piece_of-piece.result.from)) c.piece_of-piece.ensures.period
    (subst (λ (n : ℕ). Once n c.piece_of-piece.result.period c.piece_of-piece.result.from (c.piece_of-piece.result.to - c.piece_of-piece.result.from)) c.loop-step.auto.buffer c.read_step.ensures.reads))) in
    record {
      reads = read_more _ _ _ _ _ _ _ _ _ _ _ now.reads once;
      length_is = omega (arith, on, now.length_is, len);
      capacity = omega (arith, now.capacity, c.read_step.ensures.capacity);
      bytes_is = now.bytes_is;
      first = now.first;
      fixed = c.read_step.ensures.fixed ∙ now.fixed;
      accesses = omega arith;
      spare = omega (arith, on, now.spare, c.read_step.ensures.bytes);
    }

-- all of the stretch was read
all_done : (bytes from to step : ℕ) → 1 ≤ bytes → from ≤ to → step ≡ touched bytes from to → done bytes from to step ≡ to - from
all_done bytes from to step some ascends end = ap (done bytes from to) end ∙ done_last bytes from to some ascends

pub returns-clause-length : goal.returns-clause-length
returns-clause-length g c =
    let end : c.loop-step.step ≡ touched (length c.args.buffer.now) c.args.stretch.from c.args.stretch.to = omega (arith, c.loop-step-test.false, c.touched-step-end.ensures, c.loop-step.auto.step-end) in
    let all = all_done (length c.args.buffer.now) c.args.stretch.from c.args.stretch.to c.loop-step.step c.requires.some c.requires.ascends end in
    let long = c.loop-step.invariant.length_is in
    omega (arith, all, long)

pub returns-clause-bytes : goal.returns-clause-bytes
returns-clause-bytes g c =
    let end : c.loop-step.step ≡ touched (length c.args.buffer.now) c.args.stretch.from c.args.stretch.to = omega (arith, c.loop-step-test.false, c.touched-step-end.ensures, c.loop-step.auto.step-end) in
    let all = all_done (length c.args.buffer.now) c.args.stretch.from c.args.stretch.to c.loop-step.step c.requires.some c.requires.ascends end in
    let spare = c.loop-step.invariant.spare in
    omega (arith, all, spare)
