use Rattle.std.proofs.Common.{◌≡◌, refl, sym, subst, ◌∙◌}
use Rattle.std.specs.Prelude.{Option, true, slice_index, length, IsSome}
use Rattle.std.specs.Option.{is_some}
use Rattle.verb_codes.specs.declared.verbs.Command.{Command}
use Rattle.codec_walk.specs.Dialogues.{Dialogue, question, answered}
use Rattle.codec_walk.specs.Remaining.{remaining}
use Rattle.driver_agenda.specs.Sound.{WalkGoesOn, TellsOf}
use Rattle.driver_agenda.proofs.Telling.{of_some, tells_on}
use Rattle.driver_agenda.proofs.Leading.{walks_on}
use Rattle.driver_agenda.proofs.agenda.Agenda.take_word.Goals as goal

pub invariant_of-self-clause-under_way : goal.invariant_of-self-clause-under_way
invariant_of-self-clause-under_way g c =
    let some : is_some c.next.result ≡ true = sym c.is_some.ensures ∙ c.if-is_some.true in
    let place = length c.args.self.now.graphs.items in
    of_some (WalkGoesOn c.args.self.now.addresses.items place) c.take.new.self (record {
      there = c.requires.under_way.there;
      asks = subst (λ (asked : Option Command). IsSome asked) c.next.ensures.value some;
      tells = subst (λ (dialogue : Dialogue). TellsOf (slice_index c.args.self.now.addresses.items place) dialogue) (sym c.in_ok-take.ensures.ok)
          (tells_on (slice_index c.args.self.now.addresses.items place) c.args.answer (remaining c.args.walk) c.requires.under_way.tells);
    })

pub returns-then-is_some-clause-leads : goal.returns-then-is_some-clause-leads
returns-then-is_some-clause-leads g c =
    let some : is_some c.next.result ≡ true = sym c.is_some.ensures ∙ c.if-is_some.true in
    let asks : IsSome (question (remaining c.take.new.self)) = subst (λ (asked : Option Command). IsSome asked) c.next.ensures.value some in
    walks_on _ (answered (remaining c.args.walk) c.args.answer) c.args.self.now.addresses.items c.args.self.now.graphs.items _
    (subst (λ (dialogue : Dialogue). IsSome (question dialogue)) c.in_ok-take.ensures.ok asks)
    (record { under_way = c.take.new.self; is = refl; goes_on = c.in_ok-take.ensures.ok; graphs_are = refl })

pub end_walk-requires-clause-tells : goal.end_walk-requires-clause-tells
end_walk-requires-clause-tells g c =
    subst (λ (dialogue : Dialogue). TellsOf (slice_index c.args.self.now.addresses.items (length c.args.self.now.graphs.items)) dialogue) (sym c.in_ok-take.ensures.ok)
    (tells_on _ c.args.answer (remaining c.args.walk) c.requires.under_way.tells)
