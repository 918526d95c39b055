use Rattle.std.proofs.Common.{ℕ, ◌+◌, ◌≤◌, List, inr}
use Rattle.std.proofs.lemmas.Result.{IfOk-weaker}
use Rattle.hda_outside.specs.Counts.{Rose}
use Rattle.hda_program.specs.Playing.{RingPlays, SchedulePlays}
use Rattle.hda_program.specs.Meanings.{answer_meant}
use Rattle.hda_program.specs.Rings.{IsRingOf}
use Rattle.hda_program.proofs.play.play_schedule.Goals as goal

-- the ring is good, and has what it was asked for
pub returns-in-Ok-clause-answers : goal.returns-in-Ok-clause-answers
returns-in-Ok-clause-answers g c =
    let told = g.S.Shelf.told c.args.shelf.now in
    let failed : List ℕ → Type 0 = λ name. Rose (g.S.Shelf.faults c.args.shelf.now name) (g.S.Shelf.faults c.play_ring.new.shelf name) in
    let emptied : List ℕ → Type 0 = λ name. Rose (g.S.Shelf.empties c.args.shelf.now name) (g.S.Shelf.empties c.play_ring.new.shelf name) in
    let gave : ℕ → Type 0 = λ n. g.S.Shelf.given c.play_ring.new.shelf ≤ g.S.Shelf.given c.args.shelf.now + n in
    let ring : IsRingOf c.args.periods c.args.period c.args.machine c.args.head c.in-Ok.geometry = record {
      periods_are = c.in-Ok.ensures.periods;
      period_is = c.in-Ok.ensures.period;
      fifo_is = c.in-Ok.ensures.fifo;
      format_is = c.in-Ok.ensures.format;
    } in
    IfOk-weaker c.play_ring.result
    (λ answer. RingPlays c.args.kind told failed emptied gave c.args.wav.now c.args.machine c.args.head c.in-Ok.geometry c.args.schedule.now (answer_meant answer))
    (λ answer. SchedulePlays c.args.kind told failed emptied gave c.args.periods c.args.period c.args.wav.now c.args.machine c.args.head c.args.schedule.now (answer_meant answer))
    (λ answer h. inr (c.in-Ok.geometry, ring, h)) c.play_ring.ensures.answers
