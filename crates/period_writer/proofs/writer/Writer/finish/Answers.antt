use Rattle.std.proofs.Common.{List, ℕ, length, refl, sym, subst}
use Rattle.wav_reader.specs.Supplies.{Supplied, MayGive, EndsWith}
use Rattle.period_writer.specs.Playing.{Finishes}
use Rattle.period_writer.specs.Rings.{ring_bytes}
use Rattle.period_writer.specs.Writers.{tally_of, periods_of, ring_of}
use Rattle.period_writer.proofs.RunClause.{finish_tells_of}
use Rattle.period_writer.proofs.Runnings.{finishes_so}
use Rattle.wav_reader.proofs.Callers.{same_before}
use Rattle.period_writer.proofs.SupplyRuns.{suffices_none}
use Rattle.period_writer.proofs.writer.Writer.finish.Goals as goal

pub take_turn-ran-requires-clause-enough : goal.take_turn-ran-requires-clause-enough
take_turn-ran-requires-clause-enough g c = suffices_none (ring_bytes c.args.self.now.geometry.periods c.args.self.now.geometry.period) c.args.supply.now

pub returns-clause-finishes : goal.returns-clause-finishes
returns-clause-finishes g c sound may ends =
    let same = c.take_turn-ran.ensures.none refl in
    let is = same_before c.args.supply.now c.take_turn-ran.new.supply sound same in
    subst (λ (sound : List ℕ). Finishes c.args.self.now.geometry (periods_of c.args.self.now) sound (tally_of c.args.self.now) c.take_turn-ran.result (tally_of c.take_turn-ran.new.self) (g.P.Platform.told c.args.platform.now) (g.P.Platform.told c.write.new.self)) is
    (finishes_so (c.take_turn-ran.ensures.turn sound (subst (λ (supply : Supplied). MayGive supply sound) (sym same) may) (subst (EndsWith c.args.supply.now) (sym is) ends)) c.write.ensures.told)

pub returns-clause-tells : goal.returns-clause-tells
returns-clause-tells g c sound may ends pcm lent =
    finish_tells_of (ring_of c.args.self.now) pcm (length c.args.self.now.runs) (tally_of c.args.self.now) (tally_of c.take_turn-ran.new.self) c.take_turn-ran.result sound
    (g.P.Platform.told c.args.platform.now) (g.P.Platform.told c.write.new.self) c.take_turn-ran.ensures.writer.course_is lent (returns-clause-finishes g c sound may ends)

pub returns-clause-supply : goal.returns-clause-supply
returns-clause-supply g c = c.take_turn-ran.ensures.none refl
