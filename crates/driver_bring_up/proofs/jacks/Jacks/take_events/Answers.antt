use Rattle.std.proofs.Common.{◌≡◌, ◌<◌, ◌++◌, ◌∷◌, [], List, length, sym, ap, subst, ◌∙◌, append_assoc, arith}
use Rattle.std.proofs.lemmas.List.Elements.{All-rest}
use Rattle.command_engine.specs.declared.answers.Event.{Event}
use Rattle.driver_bring_up.specs.Jacks.{IsOfPin}
use Rattle.driver_bring_up.specs.Counted.{IsCount}
use Rattle.driver_bring_up.proofs.Counting.{first_is, done_more}
use Rattle.driver_bring_up.proofs.jacks.Jacks.take_events.Goals as goal

pub loop-event-preserved : goal.loop-event-preserved
loop-event-preserved c =
    let rest : List Event = c.loop-event.engine.events in
    let rest' : List Event = c.next_event.new.self.events in
    let done : List Event = c.loop-event.invariant.0.0 in
    let is : rest ≡ c.in-Some.event ∷ rest' =
    first_is rest c.in-Some.event (sym c.in-Some.ensures.oldest) ∙ ap (λ (xs : List Event). c.in-Some.event ∷ xs) (sym c.next_event.ensures.events) in
    let long = ap length is in
    let fits : c.loop-event.self.taken < 4294967295 = omega (arith, long, c.loop-event.invariant.3) in (
      (
        done ++ c.in-Some.event ∷ [],
        (λ events counts. subst (λ (all : List Event). IsCount all c.note.new.self) (append_assoc events done (c.in-Some.event ∷ []))
            (c.note.ensures.counts fits (events ++ done) (c.loop-event.invariant.0.1 events counts))),
        done_more done rest rest' c.args.engine.now.events c.in-Some.event is c.loop-event.invariant.0.2,
      ),
      All-rest IsOfPin c.in-Some.event rest' rest is c.loop-event.invariant.1,
      omega (arith, long, fits, c.note.ensures.taken, c.loop-event.invariant.2),
      omega (arith, long, fits, c.note.ensures.taken, c.loop-event.invariant.3),
      c.next_event.ensures.rings ∙ c.loop-event.invariant.4,
      c.next_event.ensures.corb ∙ c.loop-event.invariant.5,
      c.next_event.ensures.rirb ∙ c.loop-event.invariant.6,
    )
