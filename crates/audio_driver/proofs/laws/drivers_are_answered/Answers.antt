use Rattle.std.proofs.Common.{◌≡◌, ℕ, List, Bool, true, false, refl, sym, ap, subst}
use Rattle.codec_graph.specs.declared.raw.RawCodec.{RawCodec}
use Rattle.route_planner.specs.declared.routes.Plan.{Plan}
use Rattle.route_setup.specs.Means.{Means}
use Rattle.period_writer.specs.declared.course.Ran.{Ran}
use Rattle.period_writer.specs.declared.course.Ran.TheVariants as ran
use Rattle.driver_progress.specs.declared.phase.Phase.{Phase}
use Rattle.driver_progress.specs.Phases.{is_ready}
use Rattle.driver_progress.proofs.Callers.{ready_is}
use Rattle.driver_agenda.specs.declared.agenda.Agenda.{Agenda}
use Rattle.driver_agenda.specs.AnswerWords.{WasAnswered, AreRouted}
use Rattle.driver_bring_up.specs.declared.bringing.BringUp.{BringUp}
use Rattle.driver_bring_up.specs.declared.answers.TheConstants.{TAG}
use Rattle.driver_bring_up.specs.AnsweredWords.{WereAnsweredIn, WereAnswered}
use Rattle.audio_driver.specs.States.{played_as, phase_if, phase_of}
use Rattle.audio_driver.proofs.Kept.{plays_ready}
use Rattle.audio_driver.proofs.laws.drivers_are_answered.Goals as goal

-- the phase and the agenda stay
stay : (means : Means) (words : List ℕ) (old new : BringUp) → new.phase ≡ old.phase → new.agenda ≡ old.agenda → WereAnswered means words old → WereAnswered means words new
stay means words old new phase agenda stands = record {
  is = subst (λ there. WereAnsweredIn means words there new.phase) (sym agenda)
      (subst (WereAnsweredIn means words old.agenda) (sym phase) stands.is);
}

-- the words that led to the phase `Ready` lead on while it plays, and once it is over
sounding : (means : Means) (words : List ℕ) (agenda : Agenda) (last : Ran) → WasAnswered means words agenda → WereAnsweredIn means words agenda (played_as last)
sounding means words agenda ran.Playing is = is
sounding means words agenda ran.Drained is = is
sounding means words agenda (ran.Late from to limit) is = is

played_in : (means : Means) (words : List ℕ) (agenda : Agenda) (phase : Phase) (started : Bool) (last : Ran) → (started ≡ true → is_ready phase ≡ true) → WereAnsweredIn means words agenda phase
    → WereAnsweredIn means words agenda (phase_if started phase last)
played_in means words agenda phase false last ready is = is
played_in means words agenda phase true last ready is = sounding means words agenda last (subst (WereAnsweredIn means words agenda) (ready_is phase (ready refl)) is)

pub returns-clause-opened : goal.returns-clause-opened
returns-clause-opened g c = λ setter geometry most bring_up writer opened.
    c.bring_ups_are_answered.ensures.begins setter bring_up.agenda.format bring_up opened.phase opened.graphs opened.plans

pub returns-clause-leads : goal.returns-clause-leads
returns-clause-leads g c = λ irq words old new before after leads stands.
    c.bring_ups_are_answered.ensures.leads old.setter old.bring_up.agenda.format irq words old.bring_up new.bring_up before after leads stands

pub returns-clause-fails : goal.returns-clause-fails
returns-clause-fails g c = λ irq words old new before after fails failed stands.
    c.bring_ups_are_answered.ensures.fails old.setter old.bring_up.agenda.format irq words old.bring_up new.bring_up before after fails failed stands

pub returns-clause-plays : goal.returns-clause-plays
returns-clause-plays g c = λ setter words old new writer writer' stays stands.
    stay (g.T.Setter.means setter old.agenda.format TAG) words old new stays.phase stays.agenda stands

pub returns-clause-closes : goal.returns-clause-closes
returns-clause-closes g c = λ setter words supply play bring_up writer closed before after closes quiet stands.
    c.bring_ups_are_answered.ensures.ends setter bring_up.agenda.format words bring_up closes.ended before after (closes.ends quiet) stands

pub returns-clause-closes_sound : goal.returns-clause-closes_sound
returns-clause-closes_sound g c = λ setter words supply play bring_up writer closed before after closes plays stands.
    let ends = closes.sounds plays in
    stay (g.T.Setter.means setter bring_up.agenda.format TAG) words bring_up closes.ended ends.phase ends.agenda stands

pub returns-clause-closed : goal.returns-clause-closed
returns-clause-closed g c = λ setter words supply play bring_up writer closed before after closes stands.
    let means = g.T.Setter.means setter bring_up.agenda.format TAG in (
      closes.graphs,
      closes.plans,
      subst (WereAnsweredIn means words closes.ended.agenda) (sym closes.phase)
          (played_in means words closes.ended.agenda closes.ended.phase closes.tally.course.started closes.tally.course.ran closes.ready stands.is),
    )

pub returns-clause-phase : goal.returns-clause-phase
returns-clause-phase g c = λ words driver is stands.
    played_in (g.T.Setter.means driver.setter driver.bring_up.agenda.format TAG) words driver.bring_up.agenda driver.bring_up.phase driver.writer.course.started driver.writer.course.ran
    (λ started. plays_ready driver.play driver.bring_up (is.begun started)) stands.is

pub returns-clause-faulty : goal.returns-clause-faulty
returns-clause-faulty g c = λ words driver graphs codec fault is stands faulty.
    c.ends_are_exact.ensures.faulty driver.setter driver.bring_up.agenda.format words driver.bring_up.agenda (phase_of driver.bring_up driver.writer) graphs codec fault
    (returns-clause-phase g c words driver is stands) faulty

pub returns-clause-unrouted : goal.returns-clause-unrouted
returns-clause-unrouted g c = λ words driver graphs plans is stands unrouted.
    c.ends_are_exact.ensures.unrouted driver.setter driver.bring_up.agenda.format words driver.bring_up.agenda (phase_of driver.bring_up driver.writer) graphs plans
    (returns-clause-phase g c words driver is stands) unrouted

pub returns-clause-closed_faulty : goal.returns-clause-closed_faulty
returns-clause-closed_faulty g c = λ setter words supply play bring_up writer closed before after closes graphs codec fault stands faulty.
    let (kept_graphs, kept_plans, answered) = returns-clause-closed g c setter words supply play bring_up writer closed before after closes stands in
    c.ends_are_exact.ensures.faulty setter bring_up.agenda.format words closes.ended.agenda closed.phase graphs codec fault answered faulty

pub returns-clause-closed_unrouted : goal.returns-clause-closed_unrouted
returns-clause-closed_unrouted g c = λ setter words supply play bring_up writer closed before after closes graphs plans stands unrouted.
    let (kept_graphs, kept_plans, answered) = returns-clause-closed g c setter words supply play bring_up writer closed before after closes stands in
    c.ends_are_exact.ensures.unrouted setter bring_up.agenda.format words closes.ended.agenda closed.phase graphs plans answered unrouted

pub returns-clause-closed_played : goal.returns-clause-closed_played
returns-clause-closed_played g c = λ setter words supply play bring_up writer closed before after closes stands started.
    let means = g.T.Setter.means setter bring_up.agenda.format TAG in
    let ended = closes.ended.agenda in
    let is = c.bring_ups_are_answered.ensures.routed setter bring_up.agenda.format words closes.ended (closes.ready started) stands in
    subst (λ (graphs : List RawCodec). AreRouted means ended.addresses.items words graphs closed.plans.items ended.answered) (sym (ap (λ all. all.items) closes.graphs))
    (subst (λ (plans : List Plan). AreRouted means ended.addresses.items words ended.graphs.items plans ended.answered) (sym (ap (λ all. all.items) closes.plans)) is)
