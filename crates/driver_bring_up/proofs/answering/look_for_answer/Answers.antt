use Rattle.std.proofs.Common.{◌≡◌, ◌+◌, ℕ, Bool, true, false, nat_le, if◌then◌else◌, List, length, Option, None, Some, arith, rules, refl, sym, ap, subst, ◌∙◌}
use Rattle.std.specs.Option.{is_some}
use Rattle.command_engine.specs.declared.answers.Outstanding.{Outstanding}
use Rattle.command_engine.specs.declared.answers.Poll.{Poll}
use Rattle.command_engine.specs.declared.answers.Poll.TheVariants as polls
use Rattle.command_engine.specs.Polling.{answer_limit, found_by, poll_of}
use Rattle.driver_progress.specs.Commands.{ask_accesses}
use Rattle.route_setup.specs.Means.{Means}
use Rattle.driver_agenda.specs.declared.agenda.Agenda.{Agenda}
use Rattle.driver_agenda.specs.AnswerWords.{WasLeft}
use Rattle.driver_bring_up.specs.declared.answers.TheConstants.{TAG}
use Rattle.driver_bring_up.specs.Commanding.{is_answer, LeavesOf}
use Rattle.command_engine.specs.declared.answers.Event.{Event}
use Rattle.driver_bring_up.proofs.Events.{few_events}
use Rattle.driver_bring_up.proofs.answering.look_for_answer.Goals as goal
use Rattle.driver_bring_up.proofs.FailingLooks.{on_err}

pub take_events-requires-clause-few : goal.take_events-requires-clause-few
take_events-requires-clause-few g c =
    let asks = c.ask-clock.ensures.asks in
    let few = few_events c.args.engine.now.rings asks.reads asks.new_ones in
    let same = ap (λ (events : List Event). length events) asks.events_are in
    let room = c.requires.few in
    omega arith

pub returns-in_err-phase-clause-taken : goal.returns-in_err-phase-clause-taken
returns-in_err-phase-clause-taken g c =
    let asks = c.ask-clock.ensures.asks in
    let few = few_events c.args.engine.now.rings asks.reads asks.new_ones in
    let same = ap (λ (events : List Event). length events) asks.events_are in
    let taken = c.take_events.ensures.taken in
    omega arith

by_limit : (over : Bool) (issued clock : ℕ) (found : Bool) → is_answer (if over then polls.Unanswered issued clock else polls.Waiting) ≡ true → found ≡ true
by_limit true issued clock found is = cc
by_limit false issued clock found is = cc

answer_found : (outstanding : Option Outstanding) (found : Option ℕ) (clock : ℕ) → is_answer (poll_of outstanding found clock) ≡ true → is_some found ≡ true
answer_found None found clock is = cc
answer_found (Some command) (Some word) clock is = refl
answer_found (Some command) None clock is = by_limit (nat_le (command.issued + answer_limit) clock) command.issued clock _ is

no_word : (word : ℕ) → None ≡ Some word → ⊥
no_word word is = cc

left_found : (means : Means) (outstanding : Option Outstanding) (found : Option ℕ) (clock : ℕ) (old new : Agenda) (word : ℕ) → LeavesOf means (poll_of outstanding found clock) old new → found ≡ Some word
    → WasLeft means old.walk word old new
left_found means None found clock old new word leaves is = absurd leaves
left_found means (Some command) None clock old new word leaves is = absurd (no_word word is)
left_found means (Some command) (Some value) clock old new word leaves is =
    subst (λ (value : ℕ). WasLeft means old.walk value old new) (let same : value ≡ word = cc in same) leaves

pub returns-in_err-phase-clause-wanting : goal.returns-in_err-phase-clause-wanting
returns-in_err-phase-clause-wanting g c =
    let asks = c.ask-clock.ensures.asks in
    let rings = c.args.engine.now.rings in
    let means = g.T.Setter.means c.args.setter.now c.args.agenda.now.format TAG in
    let left = c.phase_after.new.agenda in
    on_err c.from_residual.result (record {
      made = ask_accesses c.args.engine.now.rirb.address c.ask-clock.result.clock rings asks.reads;
      by = asks.made;
      is = record {
        clock = c.ask-clock.result.clock;
        reads = asks.reads;
        made_is = refl;
        new_ones = asks.new_ones;
        found = answer_found rings.outstanding (found_by rings asks.reads) c.ask-clock.result.clock (ap (λ (poll : Poll). is_answer poll) (sym asks.answer_is) ∙ c.in_err-phase.ensures.wanting);
        rings_are = search rules;
        counted = λ events count. search rules;
        left = λ word is. left_found means rings.outstanding (found_by rings asks.reads) c.ask-clock.result.clock c.args.agenda.now left word
            (subst (λ (poll : Poll). LeavesOf means poll c.args.agenda.now left) asks.answer_is c.in_err-phase.ensures.left) is;
        addresses = c.in_err-phase.ensures.addresses;
      };
    })

pub returns-clause-taken : goal.returns-clause-taken
returns-clause-taken g c =
    let asks = c.ask-clock.ensures.asks in
    let few = few_events c.args.engine.now.rings asks.reads asks.new_ones in
    let same = ap (λ (events : List Event). length events) asks.events_are in
    let taken = c.take_events.ensures.taken in
    omega arith
