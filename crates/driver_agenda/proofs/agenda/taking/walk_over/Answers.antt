use Rattle.std.proofs.Common.{◌≡◌, sym, subst}
use Rattle.std.specs.Prelude.{IsSome}
use Rattle.std.proofs.lemmas.Result.{IfOk-weaker}
use Rattle.codec_walk.specs.Dialogues.{Dialogue, question}
use Rattle.codec_walk.specs.declared.walk.Walk.{Walk}
use Rattle.codec_walk.specs.Remaining.{remaining}
use Rattle.codec_walk.specs.Walks.{walk}
use Rattle.driver_agenda.specs.Sound.{TellsOf}
use Rattle.driver_agenda.proofs.Telling.{asks_first, walk_tells}
use Rattle.driver_agenda.proofs.agenda.taking.walk_over.Goals as goal

pub returns-clause-asks : goal.returns-clause-asks
returns-clause-asks c =
    IfOk-weaker c.new.result _ _ (λ (w : Walk) (begins : remaining w ≡ walk c.args.address).
    subst (λ (dialogue : Dialogue). IsSome (question dialogue)) (sym begins) (asks_first c.args.address)) c.new.ensures

pub returns-clause-tells : goal.returns-clause-tells
returns-clause-tells c =
    IfOk-weaker c.new.result _ _ (λ (w : Walk) (begins : remaining w ≡ walk c.args.address).
    subst (TellsOf c.args.address) (sym begins) (walk_tells c.asks_what_is_told.ensures c.args.address)) c.new.ensures
