use Rattle.std.proofs.Common.{List, length, arith, ap, refl, sym, subst, ◌++◌, ◌∙◌}
use Rattle.std.proofs.lemmas.Bool.{false≢true}
use Rattle.command_engine.specs.declared.answers.Event.{Event}
use Rattle.driver_bring_up.specs.Counted.{IsCount}
use Rattle.driver_progress.specs.Phases.{is_asking}
use Rattle.driver_bring_up.proofs.bringing.BringUp.listen.Goals as goal
use Rattle.driver_bring_up.proofs.Events.{few_events}
use Rattle.driver_bring_up.proofs.Entries.{told_same}

pub take_events-requires-clause-few : goal.take_events-requires-clause-few
take_events-requires-clause-few g c =
    let polls = c.poll-nothing_asked.ensures.polls in
    let few = few_events c.args.self.now.engine.rings polls.reads polls.new_ones in
    let same = ap (λ (events : List Event). length events) polls.events_are in
    let before = c.args.self.now.few_jacks in
    let looks = c.requires.few in
    omega arith

pub returns-clause-listens : goal.returns-clause-listens
returns-clause-listens g c =
    let old = c.args.self.now in
    let polls = c.poll-nothing_asked.ensures.polls in record {
      reads = polls.reads;
      new_ones = polls.new_ones;
      made = polls.made;
      rings = c.take_events.ensures.rings ∙ polls.rings_are;
      counted = λ events counts.
          subst (λ (events : List Event). IsCount events c.take_events.new.self) (ap (λ (told : List Event). events ++ told) polls.events_are ∙ told_same events polls.reads.entries) (c.take_events.ensures.counts events counts);
      phase = refl;
      kept = refl;
      sent = refl;
      agenda = refl;
    }

pub invariant_of-self-clause-few_jacks : goal.invariant_of-self-clause-few_jacks
invariant_of-self-clause-few_jacks g c =
    let polls = c.poll-nothing_asked.ensures.polls in
    let few = few_events c.args.self.now.engine.rings polls.reads polls.new_ones in
    let same = ap (λ (events : List Event). length events) polls.events_are in
    let before = c.args.self.now.few_jacks in
    let taken = c.take_events.ensures.taken in
    omega arith

pub invariant_of-self-clause-started : goal.invariant_of-self-clause-started
invariant_of-self-clause-started g c = λ asking. absurd (false≢true (sym (ap is_asking c.requires.ready) ∙ asking))
