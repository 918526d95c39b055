use Rattle.std.proofs.Common.{◌≡◌, ◌++◌, List, sym, ap, subst, ◌∙◌, length, ◌≤◌}
use Rattle.hda_world.specs.Tellings.{Between}
use Rattle.command_engine.specs.declared.answers.Event.{Event}
use Rattle.command_engine.specs.declared.answers.Poll.{Poll}
use Rattle.command_engine.specs.declared.ring_places.RingPlaces.{RingPlaces}
use Rattle.command_engine.specs.Entries.{responses_in, unasked_events_of}
use Rattle.command_engine.specs.Polling.{found_by, rings_polled}
use Rattle.command_engine.specs.Told.{PollTellsOf}
use Rattle.driver_bring_up.specs.Counted.{IsCount}
use Rattle.jack_rules.specs.Switching.{SwitchingState, told_events, told_found}
use Rattle.jack_switch.specs.Found.{told_poll, is_unanswered}
use Rattle.jack_switch.specs.SwitchRules.{is_overdue}
use Rattle.jack_switch.proofs.Looked.{none_found, told_is, overdue_is}
use Rattle.jack_switch.proofs.Kept.{asked_looked}
use Rattle.jack_switch.proofs.looking.look.Goals as goal

pub returns-clause-looks : goal.returns-clause-looks
returns-clause-looks g c =
    let old = c.args.engine.now in
    let rings = old.rings in
    let clock = c.args.clock in
    let polls = c.poll-poll.ensures.polls in
    let reads = polls.reads in
    let found = found_by rings reads in
    let events : List Event = unasked_events_of (responses_in reads.entries) in
    let before = g.P.Platform.told c.args.platform.now in
    let after = g.P.Platform.told c.poll-poll.new.platform in
    let told = c.take_events.new.switching in
    let rings_are : c.take_events.new.engine.rings ≡ rings_polled rings reads = c.take_events.ensures.rings ∙ polls.rings_are in
    record {
      reads = reads;
      looks = record {
        new_ones = polls.new_ones;
        made = polls.made;
        tells = subst (λ (poll : Poll). Between (PollTellsOf clock old.corb.address old.rirb.address rings poll (rings_polled rings reads) events) before after) polls.answer_is
            (subst (λ (rings' : RingPlaces). Between (PollTellsOf clock old.corb.address old.rirb.address rings c.poll-poll.result rings' events) before after) polls.rings_are
            (subst (λ (events : List Event). Between (PollTellsOf clock old.corb.address old.rirb.address rings c.poll-poll.result c.poll-poll.new.self.rings events) before after) polls.events_are c.poll-poll.ensures.tells));
        rings = rings_are;
        corb = c.take_events.ensures.corb ∙ c.poll-poll.ensures.corb;
        rirb = c.take_events.ensures.rirb ∙ c.poll-poll.ensures.rirb;
        told = c.take_answer.ensures ∙ ap (λ (poll : Poll). told_poll told poll) polls.answer_is ∙ told_is told rings.outstanding found clock (none_found rings reads)
            ∙ ap (λ (switching : SwitchingState). told_found switching found)
            (c.take_events.ensures.told ∙ ap (λ (events : List Event). told_events c.args.switching.now events) polls.events_are);
        overdue_is = c.is_unanswered.ensures ∙ ap (λ (poll : Poll). is_unanswered poll) polls.answer_is ∙ overdue_is rings.outstanding found clock
            ∙ ap (λ (rings : RingPlaces). is_overdue rings.outstanding clock) (sym rings_are);
      };
      counted = subst (λ (all : List Event). (events : List Event) → IsCount events c.args.jacks.now → length (events ++ all) ≤ 4294967295 → IsCount (events ++ all) c.take_events.new.jacks) polls.events_are
          c.take_events.ensures.counted;
    }

pub returns-clause-asked : goal.returns-clause-asked
returns-clause-asked g c = λ asked.
    let looks = returns-clause-looks g c in
    asked_looked c.args.engine.now c.take_events.new.engine c.args.clock c.args.switching.now c.take_answer.new.switching c.is_unanswered.result looks.reads
    (g.P.Platform.told c.args.platform.now) (g.P.Platform.told c.poll-poll.new.platform) looks.looks asked
