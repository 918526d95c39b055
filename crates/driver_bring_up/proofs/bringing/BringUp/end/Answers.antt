use Rattle.std.proofs.Common.{[], refl, sym, ◌∙◌}
use Rattle.std.proofs.lemmas.Bool.{false≢true}
use Rattle.std.specs.Option.{is_some}
use Rattle.command_engine.proofs.Callers.{made_none}
use Rattle.driver_progress.specs.Shutting.{shut_accesses}
use Rattle.driver_bring_up.specs.Commanding.{answer_in}
use Rattle.driver_bring_up.specs.Calls.{state_of}
use Rattle.driver_bring_up.proofs.Still.{none_stretch, shut_stretch}
use Rattle.driver_bring_up.proofs.Asks.{is_over}
use Rattle.driver_bring_up.proofs.Leading.{reads_none}
use Rattle.driver_bring_up.proofs.bringing.BringUp.end.Goals as goal

pub returns-then-is_reset-clause-ends : goal.returns-then-is_reset-clause-ends
returns-then-is_reset-clause-ends g c =
    let old = c.args.self.now in
    let asks = sym c.is_asking.ensures ∙ c.if-is_asking.false in record {
      made = [];
      by = made_none (g.P.Platform.told c.args.platform.now);
      is = λ task of ended agrees. none_stretch task (state_of old) (sym c.is_reset.ensures ∙ c.if-is_reset.true);
      ended = λ task of ended. absurd (false≢true (sym asks ∙ (is_over old.phase (is_some (answer_in old.engine.rings [])) old.phase ended).0));
      unread = λ not. tt {0};
      stays = λ asking. refl;
      reads = reads_none _ [] old old refl (λ still. refl) refl (λ asking. refl);
      looks = λ asking. absurd (false≢true (sym asks ∙ asking));
    }

pub returns-clause-ends : goal.returns-clause-ends
returns-clause-ends g c =
    let old = c.args.self.now in
    let asks = sym c.is_asking.ensures ∙ c.if-is_asking.false in record {
      made = shut_accesses;
      by = c.shut.ensures.made;
      is = λ task of ended agrees. shut_stretch task (state_of old) asks (sym c.is_reset.ensures ∙ c.if-is_reset.false) old.early;
      ended = λ task of ended. absurd (false≢true (sym asks ∙ (is_over old.phase (is_some (answer_in old.engine.rings shut_accesses)) old.phase ended).0));
      unread = λ not. (tt {0}, (tt {0}, (tt {0}, tt {0})));
      stays = λ asking. refl;
      reads = reads_none _ shut_accesses old old refl (λ still. refl) refl (λ asking. refl);
      looks = λ asking. absurd (false≢true (sym asks ∙ asking));
    }
