use Rattle.std.proofs.Common.{[], refl, sym, subst}
use Rattle.driver_progress.specs.declared.phase.Phase.{Phase}
use Rattle.driver_bring_up.specs.declared.answers.TheConstants.{TAG}
use Rattle.driver_bring_up.specs.AnsweredWords.{WereAnsweredIn}
use Rattle.driver_bring_up.proofs.AnsweredWords.{call_answered, end_answered, fails_answered, ready_answered}
use Rattle.driver_bring_up.proofs.command_laws.bring_ups_are_answered.Goals as goal

pub returns-clause-begins : goal.returns-clause-begins
returns-clause-begins g c = λ setter format bring_up phase graphs plans. record {
  is = subst (λ (phase : Phase). WereAnsweredIn (g.T.Setter.means setter format TAG) [] bring_up.agenda phase) (sym phase)
      (record { words_are = refl; graphs = graphs; plans = plans });
}

pub returns-clause-leads : goal.returns-clause-leads
returns-clause-leads g c = λ setter format irq words old new before after leads stands.
    call_answered (g.T.Setter.means setter format TAG) irq words old new before after leads stands

pub returns-clause-ends : goal.returns-clause-ends
returns-clause-ends g c = λ setter format words old new before after ends stands.
    end_answered (g.T.Setter.means setter format TAG) words old new before after ends stands

pub returns-clause-fails : goal.returns-clause-fails
returns-clause-fails g c = λ setter format irq words old new before after fails failed stands.
    fails_answered (g.T.Setter.means setter format TAG) irq words old new before after fails failed stands

pub returns-clause-routed : goal.returns-clause-routed
returns-clause-routed g c = λ setter format words bring_up ready stands.
    ready_answered (g.T.Setter.means setter format TAG) words bring_up ready stands
