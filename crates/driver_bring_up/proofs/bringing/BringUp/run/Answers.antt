use Rattle.std.proofs.Common.{false, [], inl, refl, sym, ◌∙◌}
use Rattle.std.proofs.lemmas.Bool.{false≢true}
use Rattle.std.proofs.lemmas.Result.{on_ok_weaker, on_err_weaker}
use Rattle.command_engine.proofs.Callers.{made_none}
use Rattle.driver_bring_up.specs.Calls.{state_of}
use Rattle.driver_bring_up.proofs.Still.{still_stretch, not_reset, not_settling}
use Rattle.driver_bring_up.proofs.Leading.{reads_none}
use Rattle.driver_bring_up.proofs.Asks.{is_over}
use Rattle.driver_bring_up.proofs.Unread.{can_stay, leads_unread}
use Rattle.driver_bring_up.proofs.Staying.{nothing_stays}
use Rattle.hda_world.proofs.Callers.{told_map}
use Rattle.driver_bring_up.specs.Commanding.{answer_in}
use Rattle.std.specs.Option.{is_some}
use Rattle.driver_bring_up.proofs.bringing.BringUp.run.Goals as goal

pub returns-in_default-clause-leads : goal.returns-in_default-clause-leads
returns-in_default-clause-leads g c =
    let old = c.args.self.now in
    let asks = sym c.is_asking.ensures ∙ c.if-is_asking.false in record {
      made = [];
      by = made_none (g.P.Platform.told c.args.platform.now);
      is = λ task budget of silent ended agrees. still_stretch task (state_of old) budget asks (not_reset old.phase c.in_default.not-Reset) (not_settling old.phase c.in_default.not-Settling) old.early silent;
      ended = λ task of ended. absurd (false≢true (sym asks ∙ (is_over old.phase (is_some (answer_in old.engine.rings [])) old.phase ended).0));
      unread = λ not. tt {0};
      moves = λ asking. can_stay old.phase;
      reads = reads_none _ [] old old refl (λ still. refl) refl (λ asking. refl);
      begun = λ was is. absurd (c.in_default.not-Settling was);
      resets = λ was. absurd (c.in_default.not-Reset was);
      untaken = λ was. absurd (c.in_default.not-Reset was);
      settles = λ was. absurd (c.in_default.not-Settling was);
      stays = λ goes. told_map (λ before after makes. nothing_stays false old before after makes) (made_none (g.P.Platform.told c.args.platform.now));
    }

pub returns-in-Settling-clause-leads : goal.returns-in-Settling-clause-leads
returns-in-Settling-clause-leads g c = on_ok_weaker c.settle.result (leads_unread (sym c.is_asking.ensures ∙ c.if-is_asking.false)) c.settle.ensures.leads

pub returns-in-Reset-clause-leads : goal.returns-in-Reset-clause-leads
returns-in-Reset-clause-leads g c = leads_unread (sym c.is_asking.ensures ∙ c.if-is_asking.false) c.reset.ensures.leads

pub returns-in-Settling-clause-wanting : goal.returns-in-Settling-clause-wanting
returns-in-Settling-clause-wanting g c = on_err_weaker c.settle.result (λ fails. record {
  first = [];
  is_before = refl;
  made = fails.made;
  by = fails.by;
  is = inl fails.is;
  sent = fails.sent;
}) c.settle.ensures.wanting
