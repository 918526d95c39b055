-- What is told of a call, from where the engine stood to the world.
use Rattle.std.proofs.Common.{◌≡◌, ◌*◌, ℕ, List, [], ◌∷◌, ◌++◌, Bool, true, false, if◌then◌else◌, Option, Some, None, refl, sym, ap, subst, ◌∙◌, arith, inl, inr, length, ◌⊎◌}
use Rattle.std.specs.Prelude.{nat_le, ◌+◌, map, drop, All}
use Rattle.std.proofs.lemmas.List.Elements.{All-nil, All-cons, All-head, All-tail}
use Rattle.verb_codes.specs.Words.{has_bit, bits_of}
use Rattle.hda_registers.specs.declared.shapes.Width.TheVariants.{One, Four}
use Rattle.hda_registers.specs.declared.places.TheConstants.{INTSTS}
use Rattle.hda_world.specs.Worlds.{World}
use Rattle.hda_world.specs.Events.{Event, Read, Write}
use Rattle.hda_world.specs.Tellings.{Between, Telling, world_of, MakesBy, Makes}
use Rattle.hda_world.proofs.Callers.{accessed_then}
use Rattle.command_engine.specs.declared.answers.Event as told
use Rattle.command_engine.specs.declared.answers.Outstanding.{Outstanding}
use Rattle.command_engine.specs.declared.answers.Poll.TheVariants as polls
use Rattle.command_engine.specs.declared.ring_places.RingPlaces.{RingPlaces}
use Rattle.command_engine.specs.Belonging.{Belongs, as_held, from_after}
use Rattle.command_engine.specs.Apart.{IsBesideBoth}
use Rattle.command_engine.specs.Fetchings.{Stands}
use Rattle.command_engine.specs.Entries.{answer_among}
use Rattle.command_engine.specs.Polling.{PollReads, AreNew, asked_of, poll_of, found_by, answer_limit, rings_polled}
use Rattle.command_engine.specs.Told.{PollTellsOf, found_since}
use Rattle.command_engine.specs.Told as submitted
use Rattle.command_engine.proofs.Callers.{responses_apart, keeps_standing, event_beside_input_keeps}
use Rattle.driver_progress.specs.declared.registers.TheConstants.{STREAM_STATUS}
use Rattle.driver_progress.specs.Tasks.{Order}
use Rattle.driver_progress.specs.Noting.{ArePlain}
use Rattle.driver_progress.specs.Interrupts.{interrupt_accesses}
use Rattle.driver_progress.specs.Commands.{ask_accesses}
use Rattle.driver_progress.specs.Shutting.{shut_accesses}
use Rattle.driver_progress.proofs.Callers.{unread_both, interrupt_unread}
use Rattle.driver_bring_up.specs.Commanding.{poll_by, entries_in, submit_made, order_if, rings_with, sent_with}
use Rattle.driver_bring_up.specs.Standing.{next_on}
use Rattle.driver_bring_up.specs.declared.bringing.BringUp.{BringUp}
use Rattle.driver_bring_up.specs.Told.{IsGivenUp, Looked, LooksOn, IsStill, Stays, EndLooks}
use Rattle.driver_bring_up.proofs.Leading.{none_asked, outstanding_none, found_in, submits_none, same_answer, interrupt_entries}

-- ---- the look

poll_same_by : (command : Outstanding) (clock value : ℕ) (late : Bool) → polls.Answered value ≡ (if late then polls.Unanswered command.issued clock else polls.Waiting) → ⊥
poll_same_by command clock value true is = cc
poll_same_by command clock value false is = cc

poll_same : (outstanding : Option Outstanding) (found other : Option ℕ) (clock : ℕ) → (outstanding ≡ None → found ≡ other) → poll_of outstanding found clock ≡ poll_of outstanding other clock → found ≡ other
poll_same None found other clock none is = none refl
poll_same (Some command) None None clock none is = refl
poll_same (Some command) (Some value) None clock none is = absurd (poll_same_by command clock value (nat_le (command.issued + answer_limit) clock) is)
poll_same (Some command) None (Some value) clock none is = absurd (poll_same_by command clock value (nat_le (command.issued + answer_limit) clock) (sym is))
poll_same (Some command) (Some value) (Some other) clock none is = let same : value ≡ other = cc in ap (λ (value : ℕ). Some value) same

since_none : (read : ℕ) (rings : RingPlaces) (world : World) → rings.outstanding ≡ None → found_since read rings world ≡ None
since_none read rings world none = ap (λ (outstanding : Option Outstanding). answer_among (asked_of outstanding) (map as_held (drop read world.written))) none ∙ none_asked (map as_held (drop read world.written))

-- a look that is told, with some accesses after it that read no entry
pub looked_told : (old : BringUp) (clock : ℕ) (reads : PollReads) (rest : List Event) (polled : RingPlaces) (events : List told.Event) (before middle after : Telling) (from read : ℕ)
    → AreNew old.engine.rings reads → entries_in rest ≡ [] → polled ≡ rings_polled old.engine.rings reads
    → Makes (ask_accesses old.engine.rirb.address clock old.engine.rings reads) before middle
    → PollTellsOf clock old.engine.corb.address old.engine.rirb.address old.engine.rings (poll_by old.engine.rings reads clock) polled events before middle
    → Makes rest middle after → Stands from read old.engine.corb.address old.engine.rirb.address old.engine.rings (world_of before)
    → Looked old (ask_accesses old.engine.rirb.address clock old.engine.rings reads ++ rest) [] clock reads rest from read before after
looked_told old clock reads rest polled events before middle after from read fresh none polled_is asks tells rests stands =
    let rings = old.engine.rings in
    let corb = old.engine.corb.address in
    let rirb = old.engine.rirb.address in
    let polls = tells from read stands in
    let found = sym (found_in rirb clock rings reads rest fresh none) ∙ poll_same rings.outstanding (found_by rings reads) (found_since read rings (world_of middle)) clock
    (λ none. outstanding_none rings reads none ∙ sym (since_none read rings (world_of middle) none)) polls.answer_is in record {
      made_is = refl;
      new_ones = fresh;
      plain = tt {0};
      begins = before;
      ends = middle;
      first_made = record { by = refl };
      stood = stands;
      look_made = asks;
      rest_made = rests;
      found_is = found_in rirb clock rings reads rest fresh none;
      found = found;
      belongs = subst (λ (found : Option ℕ). Belongs from rings.outstanding (world_of middle).codecs (world_of middle).commands found) (sym found) polls.belongs;
      stands = subst (λ (found : Option ℕ). Stands (from_after found from (world_of middle).commands) (length (world_of middle).written) corb rirb (rings_polled rings reads) (world_of middle)) (sym found)
          (subst (λ (polled : RingPlaces). Stands (from_after (found_since read rings (world_of middle)) from (world_of middle).commands) (length (world_of middle).written) corb rirb polled (world_of middle)) polled_is polls.stands);
    }

pub command_stays : (old new : BringUp) (clock : ℕ) (reads : PollReads) (free : Bool) (order : Option Order) (polled : RingPlaces) (events : List told.Event) (before middle after : Telling)
    → AreNew old.engine.rings reads → polled ≡ rings_polled old.engine.rings reads → new.engine.rings ≡ rings_with order clock (rings_polled old.engine.rings reads)
    → (found_by old.engine.rings reads ≡ None → (new.phase ≡ old.phase) ⊎ IsGivenUp old.engine.rings.outstanding clock new.phase)
    → (free ≡ true → (rings_polled old.engine.rings reads).outstanding ≡ None) → order ≡ order_if free (next_on new.agenda) → new.sent ≡ sent_with order old.sent
    → Makes (ask_accesses old.engine.rirb.address clock old.engine.rings reads) before middle
    → PollTellsOf clock old.engine.corb.address old.engine.rirb.address old.engine.rings (poll_by old.engine.rings reads clock) polled events before middle
    → Makes (submit_made old.engine.corb.address (rings_polled old.engine.rings reads) order) middle after
    → submitted.LeadsOn old.engine.corb.address old.engine.rirb.address (rings_polled old.engine.rings reads) new.engine.rings middle after
    → Stays false old new (ask_accesses old.engine.rirb.address clock old.engine.rings reads ++ submit_made old.engine.corb.address (rings_polled old.engine.rings reads) order) before after
unfolding looked_told
command_stays old new clock reads free order polled events before middle after fresh polled_is rings_are waits idle order_is sent asks tells submits leads from read stands =
    let rest = submit_made old.engine.corb.address (rings_polled old.engine.rings reads) order in
    let looked = looked_told old clock reads rest polled events before middle after from read fresh (submits_none old.engine.corb.address (rings_polled old.engine.rings reads) order) polled_is asks tells submits stands in
    inl (record {
      first = [];
      clock = clock;
      reads = reads;
      free = free;
      order = order;
      is_before = refl;
      waits = λ none. waits (looked.found_is ∙ none);
      idle = idle;
      order_is = order_is;
      looked = looked;
      rings = rings_are;
      sent = sent;
      stands = leads _ _ looked.stands;
    })

pub end_looks : (old new : BringUp) (clock : ℕ) (reads : PollReads) (polled : RingPlaces) (events : List told.Event) (before middle after : Telling)
    → AreNew old.engine.rings reads → polled ≡ rings_polled old.engine.rings reads → new.engine.rings ≡ polled → new.sent ≡ old.sent
    → Makes (ask_accesses old.engine.rirb.address clock old.engine.rings reads) before middle
    → PollTellsOf clock old.engine.corb.address old.engine.rirb.address old.engine.rings (poll_by old.engine.rings reads clock) polled events before middle
    → Makes shut_accesses middle after
    → EndLooks old new (ask_accesses old.engine.rirb.address clock old.engine.rings reads ++ shut_accesses) before after
end_looks old new clock reads polled events before middle after fresh polled_is rings_are sent asks tells shut from read stands = record {
  clock = clock;
  reads = reads;
  looked = looked_told old clock reads shut_accesses polled events before middle after from read fresh refl polled_is asks tells shut stands;
  rings = rings_are ∙ polled_is;
  sent = sent;
}

-- ---- interrupts

-- a row of accesses that leave memory and the input stream keeps it
row_stands : (from read corb rirb : ℕ) (rings : RingPlaces) (made : List Event) (old new : Telling) → All IsBesideBoth made → MakesBy made old new → Stands from read corb rirb rings (world_of old) → Stands from read corb rirb rings (world_of new)
row_stands from read corb rirb rings [] old new beside none stands = subst (λ (new : Telling). Stands from read corb rirb rings (world_of new)) (sym none) stands
row_stands from read corb rirb rings (event ∷ made) old new beside makes stands =
    row_stands from read corb rirb rings made makes.0 new (All-tail IsBesideBoth event made beside) makes.2
    (accessed_then (Stands from read corb rirb rings) (Stands from read corb rirb rings) event (keeps_standing from read corb rirb rings responses_apart)
    (λ world there honest. event_beside_input_keeps from read corb rirb rings responses_apart event world (All-head IsBesideBoth event made beside) there) old makes.0 makes.1 stands)

interrupts_beside : (on clears : Bool) (interrupts stream : ℕ)
    → All IsBesideBoth (Read INTSTS Four interrupts ∷ (if on then (if clears then Read STREAM_STATUS One stream ∷ Write STREAM_STATUS One (4 * bits_of stream 2 3) ∷ [] else []) else []))
interrupts_beside true true interrupts stream =
    let beside : IsBesideBoth (Write STREAM_STATUS One (4 * bits_of stream 2 3)) = (record { control = inr (omega arith); rings = inr (omega arith) }, record { control = omega arith; descriptor = inr (omega arith) }) in
    All-cons IsBesideBoth (Read INTSTS Four interrupts) (Read STREAM_STATUS One stream ∷ Write STREAM_STATUS One (4 * bits_of stream 2 3) ∷ []) (tt {0})
    (All-cons IsBesideBoth (Read STREAM_STATUS One stream) (Write STREAM_STATUS One (4 * bits_of stream 2 3) ∷ []) (tt {0})
    (All-cons IsBesideBoth (Write STREAM_STATUS One (4 * bits_of stream 2 3)) [] beside (All-nil IsBesideBoth)))
interrupts_beside true false interrupts stream = All-cons IsBesideBoth (Read INTSTS Four interrupts) [] (tt {0}) (All-nil IsBesideBoth)
interrupts_beside false clears interrupts stream = All-cons IsBesideBoth (Read INTSTS Four interrupts) [] (tt {0}) (All-nil IsBesideBoth)

interrupts_stand : (from read corb rirb : ℕ) (rings : RingPlaces) (interrupts stream : ℕ) (old new : Telling) → Makes (interrupt_accesses interrupts stream) old new → Stands from read corb rirb rings (world_of old) → Stands from read corb rirb rings (world_of new)
interrupts_stand from read corb rirb rings interrupts stream old new makes stands =
    row_stands from read corb rirb rings (interrupt_accesses interrupts stream) old new (interrupts_beside (has_bit interrupts 31) (has_bit interrupts 1) interrupts stream) makes.by stands

interrupts_plain : (on clears : Bool) (interrupts stream : ℕ)
    → ArePlain (Read INTSTS Four interrupts ∷ (if on then (if clears then Read STREAM_STATUS One stream ∷ Write STREAM_STATUS One (4 * bits_of stream 2 3) ∷ [] else []) else []))
interrupts_plain true true interrupts stream = (refl, (refl, (refl, tt {0})))
interrupts_plain true false interrupts stream = (refl, tt {0})
interrupts_plain false clears interrupts stream = (refl, tt {0})

plain_both : (front back : List Event) → ArePlain front → ArePlain back → ArePlain (front ++ back)
plain_both [] back first second = second
plain_both (event ∷ front) back first second = (first.0, plain_both front back first.1 second)

-- a look for interrupts that finds none
pub interrupts_stay : (old : BringUp) (interrupts stream : ℕ) (before after : Telling) → Makes (interrupt_accesses interrupts stream) before after → Stays true old old (interrupt_accesses interrupts stream) before after
interrupts_stay old interrupts stream before after makes from read stands = inr (record {
  unread = interrupt_unread interrupts stream;
  plain = interrupts_plain (has_bit interrupts 31) (has_bit interrupts 1) interrupts stream;
  same = refl;
  stands = interrupts_stand from read old.engine.corb.address old.engine.rirb.address old.engine.rings interrupts stream before after makes stands;
})

-- a call that makes no access
pub nothing_stays : (irq : Bool) (old : BringUp) (before after : Telling) → Makes [] before after → Stays irq old old [] before after
nothing_stays irq old before after makes from read stands = inr (record {
  unread = tt {0};
  plain = tt {0};
  same = refl;
  stands = subst (λ (telling : Telling). Stands from read old.engine.corb.address old.engine.rirb.address old.engine.rings (world_of telling)) (sym makes.by) stands;
})

-- and one before a call
none_first : (first made : List Event) (before middle begins : Telling) → first ≡ [] → Makes first middle begins → Makes made before middle → Makes made before begins
none_first first made before middle begins none firsts makes =
    let same : begins ≡ middle = (subst (λ (first : List Event). Makes first middle begins) none firsts).by in
    subst (λ (telling : Telling). Makes made before telling) (sym same) makes

interrupted_looks : (old new : BringUp) (interrupts stream : ℕ) (made : List Event) (from read : ℕ) (before middle after : Telling) → has_bit interrupts 31 ≡ true → Makes (interrupt_accesses interrupts stream) before middle
    → LooksOn false old new made from read middle after ⊎ IsStill old new made from read after
    → LooksOn true old new (interrupt_accesses interrupts stream ++ made) from read before after ⊎ IsStill old new (interrupt_accesses interrupts stream ++ made) from read after
interrupted_looks old new interrupts stream made from read before middle after on makes (inr still) = inr (record {
  unread = unread_both (interrupt_accesses interrupts stream) made (interrupt_unread interrupts stream) still.unread;
  plain = plain_both (interrupt_accesses interrupts stream) made (interrupts_plain (has_bit interrupts 31) (has_bit interrupts 1) interrupts stream) still.plain;
  same = still.same;
  stands = still.stands;
})
interrupted_looks old new interrupts stream made from read before middle after on makes (inl on_it) =
    let looked = on_it.looked in
    let look = ask_accesses old.engine.rirb.address on_it.clock old.engine.rings on_it.reads ++ submit_made old.engine.corb.address (rings_polled old.engine.rings on_it.reads) on_it.order in
    let same = sym (same_answer old.engine.rings made (interrupt_accesses interrupts stream ++ made) (interrupt_entries interrupts stream made)) in
    let codecs = (world_of looked.ends).codecs in
    let commands = (world_of looked.ends).commands in
    let read' = length (world_of looked.ends).written in
    let corb = old.engine.corb.address in
    let rirb = old.engine.rirb.address in
    inl (record {
      first = interrupt_accesses interrupts stream;
      clock = on_it.clock;
      reads = on_it.reads;
      free = on_it.free;
      order = on_it.order;
      waits = λ none. on_it.waits (same ∙ none);
      idle = on_it.idle;
      order_is = on_it.order_is;
      is_before = record { interrupts = interrupts; stream = stream; on = on; is = refl };
      looked = record {
        made_is = ap (λ (made : List Event). interrupt_accesses interrupts stream ++ made) (looked.made_is ∙ ap (λ (first : List Event). first ++ look) on_it.is_before);
        new_ones = looked.new_ones;
        plain = interrupts_plain (has_bit interrupts 31) (has_bit interrupts 1) interrupts stream;
        begins = looked.begins;
        ends = looked.ends;
        first_made = none_first on_it.first (interrupt_accesses interrupts stream) before middle looked.begins on_it.is_before looked.first_made makes;
        stood = looked.stood;
        look_made = looked.look_made;
        rest_made = looked.rest_made;
        found_is = looked.found_is ∙ same;
        found = sym same ∙ looked.found;
        belongs = subst (λ (found : Option ℕ). Belongs from old.engine.rings.outstanding codecs commands found) same looked.belongs;
        stands = subst (λ (found : Option ℕ). Stands (from_after found from commands) read' corb rirb (rings_polled old.engine.rings on_it.reads) (world_of looked.ends)) same looked.stands;
      };
      rings = on_it.rings;
      sent = on_it.sent;
      stands = subst (λ (found : Option ℕ). Stands (from_after found from commands) read' corb rirb new.engine.rings (world_of after)) same on_it.stands;
    })

pub interrupted_stays : (old new : BringUp) (interrupts stream : ℕ) (made : List Event) (before middle after : Telling) → has_bit interrupts 31 ≡ true → Makes (interrupt_accesses interrupts stream) before middle → Stays false old new made middle after
    → Stays true old new (interrupt_accesses interrupts stream ++ made) before after
interrupted_stays old new interrupts stream made before middle after on makes stays from read stands =
    interrupted_looks old new interrupts stream made from read before middle after on makes
    (stays from read (interrupts_stand from read old.engine.corb.address old.engine.rirb.address old.engine.rings interrupts stream before middle makes stands))

-- a submission by blocks at the same addresses, from where the rings stand the same
pub at_blocks : {corb corb' rirb rirb' : ℕ} {rings rings' after_it : RingPlaces} {before after : Option Telling} → corb ≡ corb' → rirb ≡ rirb' → rings ≡ rings' → Between (submitted.LeadsOn corb rirb rings after_it) before after → Between (submitted.LeadsOn corb' rirb' rings' after_it) before after
at_blocks {corb} {corb'} {rirb} {rirb'} {rings} {rings'} {after_it} {before} {after} of_corb of_rirb of_rings leads =
    subst (λ (rings : RingPlaces). Between (submitted.LeadsOn corb' rirb' rings after_it) before after) of_rings
    (subst (λ (rirb : ℕ). Between (submitted.LeadsOn corb' rirb rings after_it) before after) of_rirb (subst (λ (corb : ℕ). Between (submitted.LeadsOn corb rirb rings after_it) before after) of_corb leads))

pub made_there : {corb corb' : ℕ} {rings rings' : RingPlaces} (order : Option Order) {before after : Option Telling} → corb ≡ corb' → rings ≡ rings' → Between (Makes (submit_made corb rings order)) before after → Between (Makes (submit_made corb' rings' order)) before after
made_there {corb} {corb'} {rings} {rings'} order {before} {after} of_corb of_rings made =
    subst (λ (rings : RingPlaces). Between (Makes (submit_made corb' rings order)) before after) of_rings (subst (λ (corb : ℕ). Between (Makes (submit_made corb rings order)) before after) of_corb made)
