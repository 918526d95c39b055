use Rattle.std.proofs.Common.{◌≡◌, ◌++◌, ◌∷◌, [], List, length, refl, sym, ap, subst, ◌∙◌, append_assoc, append-nil, length-append, arith}
use Rattle.std.proofs.lemmas.List.Elements.{All-rest}
use Rattle.command_engine.specs.declared.answers.Event.{Event}
use Rattle.jack_rules.specs.Switching.{SwitchingState, told_event}
use Rattle.driver_bring_up.specs.Jacks.{IsOfPin}
use Rattle.driver_bring_up.specs.Counted.{IsCount}
use Rattle.jack_switch.proofs.Looked.{told_more, first_is, done_more}
use Rattle.jack_switch.proofs.looking.take_events.Goals as goal

pub loop-event-init : goal.loop-event-init
loop-event-init c = (
  ([], refl, refl, λ events counts few. subst (λ (all : List Event). IsCount all c.args.jacks.now) (sym (append-nil events)) counts),
  c.requires.of_pins,
  refl,
  refl,
  refl,
)

pub loop-event-preserved : goal.loop-event-preserved
loop-event-preserved c =
    let rest : List Event = c.loop-event.engine.events in
    let rest' : List Event = c.next_event.new.self.events in
    let done : List Event = c.loop-event.invariant.0.0 in
    let event : Event = c.in-Some.event in
    let is : rest ≡ event ∷ rest' =
    first_is rest event (sym c.in-Some.ensures.oldest) ∙ ap (λ (xs : List Event). event ∷ xs) (sym c.next_event.ensures.events) in (
      (
        done ++ event ∷ [],
        done_more done rest rest' c.args.engine.now.events event is c.loop-event.invariant.0.1,
        c.note-in-Some.ensures ∙ ap (λ (switching : SwitchingState). told_event switching event) c.loop-event.invariant.0.2 ∙ sym (told_more c.args.switching.now done event),
        (λ events counts few.
            let long = ap length (append_assoc events done (event ∷ [])) in
            let one = length-append (events ++ done) (event ∷ []) in
            let before = c.loop-event.invariant.0.3 events counts (omega (arith, few, long, one)) in
            let taken = before.taken in
            subst (λ (all : List Event). IsCount all c.note.new.self) (append_assoc events done (event ∷ []))
            (c.note.ensures.counts (omega (arith, few, long, one, taken)) (events ++ done) before)),
      ),
      All-rest IsOfPin event rest' rest is c.loop-event.invariant.1,
      c.next_event.ensures.rings ∙ c.loop-event.invariant.2,
      c.next_event.ensures.corb ∙ c.loop-event.invariant.3,
      c.next_event.ensures.rirb ∙ c.loop-event.invariant.4,
    )
