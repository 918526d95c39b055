use Rattle.std.proofs.Common.{◌≡◌, ◌+◌, ◌-◌, ◌∙◌, min, ℕ, List, ap, sym, subst, arith}
use Rattle.wav_reader.specs.Supplies.{without}
use Rattle.period_writer.proofs.LineSteps.{without_both}
use Rattle.dma_pool.specs.declared.blocks.Lent.{Lent}
use Rattle.period_writer.specs.Inside.{state_inside}
use Rattle.period_writer.specs.Writers.{IsWriter}
use Rattle.period_writer.proofs.writer.Writer.write_turn.Goals as goal

pub invariant_of-self : goal.invariant_of-self
invariant_of-self g c = (
  subst (λ (lents : List Lent). IsWriter (record (state_inside c.self.inside) { periods = lents })) (sym c.write_parts.ensures.periods) c.self.invariant.0,
  record {
    buffer_size = c.write_parts.ensures.buffer ∙ c.self.invariant.1.buffer_size;
    runs_room = c.self.invariant.1.runs_room;
    silences_room = c.self.invariant.1.silences_room;
  },
)

pub returns-clause-supply : goal.returns-clause-supply
returns-clause-supply g c =
    let over = c.min-to.result - c.args.turn.start in
    c.write_parts.ensures.supply ∙ without_both over (c.args.turn.sound - over) c.args.supply.now
    ∙ ap (λ (count : ℕ). without count c.args.supply.now) (all c.min-to.result c.args.turn.start c.args.turn.sound c.self.inside.course.reach c.min-to.ensures) where
      all : (to start sound reach : ℕ) → to ≡ min reach (start + sound) → (to - start) + (sound - (to - start)) ≡ sound
      all to start sound reach is = grind (arith, is)
