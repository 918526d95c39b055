-- What a journal says of jacks over a poll, as the switch rules are told it.
use Rattle.std.proofs.Common.{◌≡◌, ◌≤◌, ◌<◌, ◌==◌, ◌&&◌, ◌+◌, ◌*◌, ◌%◌, ◌++◌, ℕ, Bool, true, false, if◌then◌else◌, List, [], ◌∷◌, map, length, Option, None, Some, refl, sym, ap, subst, ◌∙◌, arith, rules, tests}
use Rattle.std.proofs.lemmas.Bool.{false≢true}
use Rattle.std.specs.Prelude.{All, nat_le}
use Rattle.std.specs.List.{find}
use Rattle.std.specs.Option.{option_map}
use Rattle.std.proofs.lemmas.List.Elements.{All-head, All-tail}
use Rattle.verb_codes.specs.Words.{has_bit}
use Rattle.hda_registers.specs.declared.shapes.Width.TheVariants.{One}
use Rattle.hda_registers.specs.declared.shapes.RingSize.{RingSize}
use Rattle.hda_registers.specs.declared.shapes.RingSize.TheVariants as size
use Rattle.hda_registers.specs.declared.places.TheConstants.{RIRBSTS}
use Rattle.hda_registers.specs.Fields.{entries_of}
use Rattle.world_rings.specs.declared.response.Response.{Response}
use Rattle.world_rings.specs.declared.entries.TheConstants.{RESPONSE_BYTES}
use Rattle.hda_world.specs.Events.{Event, Stepped, Begin, End, Read, Write, DmaRead, DmaWrite}
use Rattle.command_engine.specs.Blocks.{rirb_bytes}
use Rattle.command_engine.specs.declared.answers.Event as told
use Rattle.command_engine.specs.declared.ring_places.RingPlaces.{RingPlaces}
use Rattle.command_engine.specs.Entries.{response_in, responses_in, unasked_events_of, answers_it, answer_among}
use Rattle.command_engine.specs.Polling.{PollReads, AreNew, entry_reads, batch_accesses, poll_accesses, new_entries, asked_of}
use Rattle.jack_rules.specs.declared.pins.JackPin.{JackPin}
use Rattle.jack_rules.specs.declared.pins.JackState.{JackState}
use Rattle.jack_rules.specs.declared.pins.SpeakerPin.{SpeakerPin}
use Rattle.jack_rules.specs.Switching.{SwitchingState, told_jack, told_event, told_events, told_found, told_all, told_by, sensed, presence_at}
use Rattle.laws_switching.specs.Senses.{Senses, KnowsJacks, presence_of, place_of, is_answer_of, answered_if, is_in, senses_noted, senses_after, AreDecided, IsDecidedAt, IsBesideSenses}

-- ---- what the rules are told

-- events change nothing but which jacks are to be asked
event_jacks : (event : told.Event) (jacks : List JackState) → map presence_of (map (told_jack event) jacks) ≡ map presence_of jacks
event_jacks event [] = refl
event_jacks event (jack ∷ jacks) = ap (λ (rest : List JackState). presence_of jack ∷ rest) (event_jacks event jacks)

events_jacks : (events : List told.Event) (switching : SwitchingState) → map presence_of (told_events switching events).jacks ≡ map presence_of switching.jacks
events_jacks [] switching = refl
events_jacks (event ∷ events) switching = events_jacks events (told_event switching event) ∙ event_jacks event switching.jacks

events_asking : (events : List told.Event) (switching : SwitchingState) → (told_events switching events).asking ≡ switching.asking
events_asking [] switching = refl
events_asking (event ∷ events) switching = events_asking events (told_event switching event)

-- an answer tells the presence of the jack of one place
sensed_jacks : (jack other : JackPin) (present : Bool) → place_of jack ≡ place_of other → (jacks : List JackState) → map presence_of (map (sensed jack present) jacks) ≡ map (sensed other present) (map presence_of jacks)
sensed_jacks jack other present same [] = refl
sensed_jacks jack other present same (state ∷ jacks) =
    let one : JackState → ℕ × ℕ → JackState = λ state place. record { jack = state.jack; to_ask = true; present = if state.jack.codec == place.0 && state.jack.pin == place.1 then present else state.present } in
    ap (λ (place : ℕ × ℕ). one state place ∷ map presence_of (map (sensed jack present) jacks)) same
    ∙ ap (λ (rest : List JackState). sensed other present (presence_of state) ∷ rest) (sensed_jacks jack other present same jacks)

-- ---- what the journal says

abbrev heard_all : Senses → (entries : List (List ℕ)) → Senses
heard_all senses [] = senses
heard_all senses (entry ∷ entries) = heard_all (answered_if senses senses.asked (response_in entry)) entries

heard_none : (entries : List (List ℕ)) (senses : Senses) → senses.asked ≡ None → heard_all senses entries ≡ senses
heard_none [] senses none = refl
heard_none (entry ∷ entries) senses none =
    ap (λ (asked : Option JackPin). heard_all (answered_if senses asked (response_in entry)) entries) none ∙ heard_none entries senses none

abbrev told_if : Senses → JackPin → Option ℕ → Senses
told_if senses jack None = senses
told_if senses jack (Some word) = record { jacks = map (sensed jack (has_bit word presence_at)) senses.jacks; asked = None }

heard_some : (entries : List (List ℕ)) (senses : Senses) (jack : JackPin) → senses.asked ≡ Some jack → heard_all senses entries ≡ told_if senses jack (answer_among (Some jack.codec) (responses_in entries))
heard_some [] senses jack asks = refl
heard_some (entry ∷ entries) senses jack asks =
    ap (λ (asked : Option JackPin). heard_all (answered_if senses asked (response_in entry)) entries) asks
    ∙ by (is_answer_of jack (response_in entry)) (heard_some entries senses jack asks)
  where
    response : Response
    response = response_in entry

    after : Senses
    after = record { jacks = map (sensed jack (has_bit response.answer presence_at)) senses.jacks; asked = None }

    by : (answers : Bool) → heard_all senses entries ≡ told_if senses jack (answer_among (Some jack.codec) (responses_in entries))
        → heard_all (if answers then after else senses) entries
        ≡ told_if senses jack (option_map (λ (response : Response). response.answer) (if answers then Some response else find (answers_it (Some jack.codec)) (responses_in entries)))
    by true later = heard_none entries after refl
    by false later = later

-- ---- the accesses of a poll

pub le_true : (a b : ℕ) → a ≤ b → nat_le a b ≡ true
le_true a b low = search (rules, tests)

pub both_true : (first second : Bool) → first ≡ true → second ≡ true → (first && second) ≡ true
both_true true second one other = other
both_true false second one other = one

pub size_some : (size : RingSize) → 0 < entries_of size
size_some size.Two = omega arith
size_some size.Sixteen = omega arith
size_some size.Full = omega arith

pub size_few : (size : RingSize) → entries_of size ≤ 256
size_few size.Two = omega arith
size_few size.Sixteen = omega arith
size_few size.Full = omega arith

module _ (corb rirb : ℕ) where
  after_both : (front back : List Event) (senses : Senses) → senses_after corb rirb (front ++ back) senses ≡ senses_after corb rirb back (senses_after corb rirb front senses)
  after_both [] back senses = refl
  after_both (event ∷ front) back senses = after_both front back (senses_noted corb rirb senses event)

  entry_inside : (size place : ℕ) → 0 < size → size ≤ 256 → is_in rirb rirb_bytes (rirb + RESPONSE_BYTES * (place % size)) ≡ true
  entry_inside size place some few =
      let below : place % size < size = search (arith, some) in
      both_true (nat_le rirb (rirb + RESPONSE_BYTES * (place % size))) (nat_le (rirb + RESPONSE_BYTES * (place % size) + 1) (rirb + rirb_bytes))
      (le_true rirb (rirb + RESPONSE_BYTES * (place % size)) (omega arith))
      (le_true (rirb + RESPONSE_BYTES * (place % size) + 1) (rirb + rirb_bytes) (omega (arith, below, few)))

  reads_heard : (size place : ℕ) (entries : List (List ℕ)) (senses : Senses) → 0 < size → size ≤ 256 → senses_after corb rirb (entry_reads rirb size place entries) senses ≡ heard_all senses entries
  reads_heard size place [] senses some few = refl
  reads_heard size place (entry ∷ entries) senses some few =
      reads_heard size (place + 1) entries (senses_noted corb rirb senses (DmaRead (rirb + RESPONSE_BYTES * (place % size)) entry)) some few
      ∙ ap (λ (inside : Bool). heard_all (if inside then answered_if senses senses.asked (response_in entry) else senses) entries) (entry_inside size place some few)

  none_new : (entries : List (List ℕ)) (senses : Senses) → length entries ≡ 0 → senses ≡ heard_all senses entries
  none_new [] senses none = refl
  none_new (entry ∷ entries) senses none = absurd (omega (arith, none))

  poll_heard : (rings : RingPlaces) (reads : PollReads) (senses : Senses) → AreNew rings reads → senses_after corb rirb (poll_accesses rirb rings reads) senses ≡ heard_all senses reads.entries
  poll_heard rings reads senses new_ones = by (has_bit reads.flag 0) new_ones.number
    where
      by : (flagged : Bool) → length reads.entries ≡ (if flagged then new_entries rings reads.pointer else 0)
          → senses_after corb rirb (if flagged then batch_accesses rirb rings reads.pointer reads.entries else []) senses ≡ heard_all senses reads.entries
      by true number =
          after_both (entry_reads rirb (entries_of rings.rirb) (rings.read + 1) reads.entries) (Write RIRBSTS One 1 ∷ []) senses
          ∙ reads_heard (entries_of rings.rirb) (rings.read + 1) reads.entries senses (size_some rings.rirb) (size_few rings.rirb)
      by false number = none_new reads.entries senses number

  -- ---- a poll writes no command

  decided_reads : (speakers : List SpeakerPin) (size place : ℕ) (entries : List (List ℕ)) (senses : Senses) → AreDecided corb rirb speakers (entry_reads rirb size place entries ++ Write RIRBSTS One 1 ∷ []) senses
  decided_reads speakers size place [] senses = (tt, tt)
  decided_reads speakers size place (entry ∷ entries) senses =
      (tt, decided_reads speakers size (place + 1) entries (senses_noted corb rirb senses (DmaRead (rirb + RESPONSE_BYTES * (place % size)) entry)))

  poll_decided : (speakers : List SpeakerPin) (rings : RingPlaces) (reads : PollReads) (senses : Senses) → AreDecided corb rirb speakers (poll_accesses rirb rings reads) senses
  poll_decided speakers rings reads senses = (tt, by (has_bit reads.flag 0))
    where
      by : (flagged : Bool) → AreDecided corb rirb speakers (if flagged then batch_accesses rirb rings reads.pointer reads.entries else []) senses
      by true = (tt, decided_reads speakers (entries_of rings.rirb) (rings.read + 1) reads.entries senses)
      by false = tt

  -- ---- both know the same

  knows_on : (senses : Senses) (switching : SwitchingState) (events : List told.Event) → KnowsJacks senses switching → KnowsJacks senses (told_events switching events)
  knows_on senses switching events knows = record {
    jacks = events_jacks events switching ∙ knows.jacks;
    asked = ap (λ (asking : Option JackPin). option_map place_of asking) (events_asking events switching) ∙ knows.asked;
  }

  -- where no jack is asked an answer says nothing
  unasked : (switching : SwitchingState) (answer : Option ℕ) → switching.asking ≡ None → told_found switching answer ≡ switching
  unasked switching None none = refl
  unasked switching (Some word) none = ap (λ (asking : Option JackPin). told_by asking switching word) none

  none_asked : (asked : Option JackPin) → None ≡ option_map place_of asked → asked ≡ None
  none_asked None same = refl
  none_asked (Some jack) same = cc

  one_asked : (place : ℕ × ℕ) (asked : Option JackPin) → Some place ≡ option_map place_of asked → (jack : JackPin) × (asked ≡ Some jack) × (place ≡ place_of jack)
  one_asked place None same = cc
  one_asked place (Some jack) same = (jack, refl, cc)

  answer_told : (senses : Senses) (switching : SwitchingState) (jack other : JackPin) → switching.asking ≡ Some jack → place_of jack ≡ place_of other → KnowsJacks senses switching → (answer : Option ℕ)
      → KnowsJacks (told_if senses other answer) (told_found switching answer)
  answer_told senses switching jack other asks same knows None = knows
  answer_told senses switching jack other asks same knows (Some word) =
      subst (λ (asking : Option JackPin). KnowsJacks (told_if senses other (Some word)) (told_by asking switching word)) (sym asks) (record {
        jacks = sensed_jacks jack other (has_bit word presence_at) same switching.jacks ∙ ap (λ (jacks : List JackState). map (sensed other (has_bit word presence_at)) jacks) knows.jacks;
        asked = refl;
      })

  poll_known : (rings : RingPlaces) (reads : PollReads) (senses : Senses) (switching : SwitchingState) → KnowsJacks senses switching
      → ((jack : JackPin) → switching.asking ≡ Some jack → asked_of rings.outstanding ≡ Some jack.codec)
      → KnowsJacks (heard_all senses reads.entries) (told_all switching (unasked_events_of (responses_in reads.entries)) (answer_among (asked_of rings.outstanding) (responses_in reads.entries)))
  poll_known rings reads senses switching knows asks = by switching.asking refl
    where
      events : List told.Event
      events = unasked_events_of (responses_in reads.entries)

      there : SwitchingState
      there = told_events switching events

      Known : Senses → (answer : Option ℕ) → Type 0
      Known senses answer = KnowsJacks senses (told_found there answer)

      on : KnowsJacks senses there
      on = knows_on senses switching events knows

      by : (asking : Option JackPin) → switching.asking ≡ asking → KnowsJacks (heard_all senses reads.entries) (told_found there (answer_among (asked_of rings.outstanding) (responses_in reads.entries)))
      by None none =
          let senses_none : senses.asked ≡ None = none_asked senses.asked (ap (λ (asking : Option JackPin). option_map place_of asking) (sym none) ∙ knows.asked) in
          subst (λ (senses : Senses). KnowsJacks senses (told_found there (answer_among (asked_of rings.outstanding) (responses_in reads.entries)))) (sym (heard_none reads.entries senses senses_none))
          (subst (λ (switching : SwitchingState). KnowsJacks senses switching)
          (sym (unasked there (answer_among (asked_of rings.outstanding) (responses_in reads.entries)) (events_asking events switching ∙ none))) on)
      by (Some jack) is =
          let one = one_asked (place_of jack) senses.asked (ap (λ (asking : Option JackPin). option_map place_of asking) (sym is) ∙ knows.asked) in
          let other : JackPin = one.0 in
          let same : place_of jack ≡ place_of other = one.2 in
          let codec : Some other.codec ≡ asked_of rings.outstanding = ap (λ (place : ℕ × ℕ). Some place.0) (sym same) ∙ sym (asks jack is) in
          let heard : heard_all senses reads.entries ≡ told_if senses other (answer_among (asked_of rings.outstanding) (responses_in reads.entries)) =
          heard_some reads.entries senses other one.1 ∙ ap (λ (asked : Option ℕ). told_if senses other (answer_among asked (responses_in reads.entries))) codec in
          subst (λ (senses : Senses). KnowsJacks senses (told_found there (answer_among (asked_of rings.outstanding) (responses_in reads.entries)))) (sym heard)
          (answer_told senses there jack other (events_asking events switching ∙ is) same on (answer_among (asked_of rings.outstanding) (responses_in reads.entries)))

  pub poll_tells : (speakers : List SpeakerPin) (senses : Senses) (switching : SwitchingState) (rings : RingPlaces) (reads : PollReads) → AreNew rings reads → KnowsJacks senses switching
      → ((jack : JackPin) → switching.asking ≡ Some jack → asked_of rings.outstanding ≡ Some jack.codec)
      → KnowsJacks (senses_after corb rirb (poll_accesses rirb rings reads) senses)
      (told_all switching (unasked_events_of (responses_in reads.entries)) (answer_among (asked_of rings.outstanding) (responses_in reads.entries)))
      × AreDecided corb rirb speakers (poll_accesses rirb rings reads) senses
  poll_tells speakers senses switching rings reads new_ones knows asks = (
    subst (λ (senses : Senses). KnowsJacks senses (told_all switching (unasked_events_of (responses_in reads.entries)) (answer_among (asked_of rings.outstanding) (responses_in reads.entries))))
        (sym (poll_heard rings reads senses new_ones)) (poll_known rings reads senses switching knows asks),
    poll_decided speakers rings reads senses,
  )

  -- ---- events beside both rings

  event_beside : (event : Event) (senses : Senses) → IsBesideSenses corb rirb event → senses_noted corb rirb senses event ≡ senses
  event_beside (DmaWrite at bytes) senses beside = cc
  event_beside (DmaRead at bytes) senses beside = cc
  event_beside (Stepped step) senses beside = refl
  event_beside Begin senses beside = refl
  event_beside End senses beside = refl
  event_beside (Read at width value) senses beside = refl
  event_beside (Write at width value) senses beside = refl

  event_decided : (speakers : List SpeakerPin) (event : Event) (senses : Senses) → IsBesideSenses corb rirb event → IsDecidedAt corb rirb speakers senses event
  event_decided speakers (DmaWrite at bytes) senses beside = λ inside. absurd (false≢true (sym beside ∙ inside))
  event_decided speakers (DmaRead at bytes) senses beside = tt
  event_decided speakers (Stepped step) senses beside = tt
  event_decided speakers Begin senses beside = tt
  event_decided speakers End senses beside = tt
  event_decided speakers (Read at width value) senses beside = tt
  event_decided speakers (Write at width value) senses beside = tt

  pub beside_tells : (speakers : List SpeakerPin) (senses : Senses) (events : List Event) → All (IsBesideSenses corb rirb) events → (senses_after corb rirb events senses ≡ senses) × AreDecided corb rirb speakers events senses
  beside_tells speakers senses [] all = (refl, tt)
  beside_tells speakers senses (event ∷ events) all =
      let here = All-head (IsBesideSenses corb rirb) event events all in
      let same : senses_noted corb rirb senses event ≡ senses = event_beside event senses here in
      let rest = beside_tells speakers senses events (All-tail (IsBesideSenses corb rirb) event events all) in (
        ap (λ (senses : Senses). senses_after corb rirb events senses) same ∙ rest.0,
        (event_decided speakers event senses here, subst (λ (senses : Senses). AreDecided corb rirb speakers events senses) (sym same) rest.1),
      )
