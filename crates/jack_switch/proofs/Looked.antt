-- What a look finds, and what the rules are told of it.
use Rattle.std.proofs.Common.{◌≡◌, ◌+◌, ◌++◌, ◌∷◌, [], ℕ, Bool, true, false, nat_le, if◌then◌else◌, List, Option, Some, None, refl, sym, ap, ◌∙◌, append_assoc, arith}
use Rattle.std.specs.Prelude.{slice_get, drop}
use Rattle.std.proofs.lemmas.Option.{slice_get_within, get_or_from_slice_get}
use Rattle.command_engine.specs.declared.answers.Event.{Event}
use Rattle.command_engine.specs.declared.answers.Outstanding.{Outstanding}
use Rattle.command_engine.specs.declared.answers.Poll.TheVariants as polls
use Rattle.command_engine.specs.declared.ring_places.RingPlaces.{RingPlaces}
use Rattle.command_engine.specs.Entries.{responses_in, answer_among}
use Rattle.command_engine.specs.Polling.{PollReads, answer_limit, asked_of, found_by, poll_of, still_outstanding}
use Rattle.driver_bring_up.proofs.Leading.{none_asked}
use Rattle.jack_rules.specs.Switching.{SwitchingState, told_event, told_events, told_found}
use Rattle.jack_switch.specs.Found.{told_poll, is_unanswered}
use Rattle.jack_switch.specs.SwitchRules.{is_overdue}

-- an event more
pub told_more : (switching : SwitchingState) (done : List Event) (event : Event) → told_events switching (done ++ event ∷ []) ≡ told_event (told_events switching done) event
told_more switching [] event = refl
told_more switching (first ∷ done) event = told_more (told_event switching first) done event

-- where nothing is outstanding no answer is found
pub none_found : (rings : RingPlaces) (reads : PollReads) → rings.outstanding ≡ None → found_by rings reads ≡ None
none_found rings reads none = ap (λ (outstanding : Option Outstanding). answer_among (asked_of outstanding) (responses_in reads.entries)) none ∙ none_asked (responses_in reads.entries)

waits_told : (switching : SwitchingState) (over : Bool) (issued clock : ℕ) → told_poll switching (if over then polls.Unanswered issued clock else polls.Waiting) ≡ switching
waits_told switching true issued clock = refl
waits_told switching false issued clock = refl

-- the rules are told of the answer that was found
pub told_is : (switching : SwitchingState) (outstanding : Option Outstanding) (found : Option ℕ) (clock : ℕ) → (outstanding ≡ None → found ≡ None)
    → told_poll switching (poll_of outstanding found clock) ≡ told_found switching found
told_is switching None found clock none = ap (λ (found : Option ℕ). told_found switching found) (sym (none refl))
told_is switching (Some command) (Some word) clock none = refl
told_is switching (Some command) None clock none = waits_told switching (nat_le (command.issued + answer_limit) clock) command.issued clock

waits_over : (over : Bool) (issued clock : ℕ) → is_unanswered (if over then polls.Unanswered issued clock else polls.Waiting) ≡ over
waits_over true issued clock = refl
waits_over false issued clock = refl

-- and the command that is outstanding then is overdue where the poll says so
pub overdue_is : (outstanding : Option Outstanding) (found : Option ℕ) (clock : ℕ) → is_unanswered (poll_of outstanding found clock) ≡ is_overdue (still_outstanding outstanding found) clock
overdue_is None None clock = refl
overdue_is None (Some word) clock = refl
overdue_is (Some command) (Some word) clock = refl
overdue_is (Some command) None clock = waits_over (nat_le (command.issued + answer_limit) clock) command.issued clock

-- ---- the events that are left

pub first_is : (xs : List Event) (x : Event) → slice_get xs 0 ≡ Some x → xs ≡ x ∷ drop 1 xs
first_is [] x is = absurd (omega (arith, slice_get_within [] 0 x is))
first_is (y ∷ ys) x is = ap (λ (z : Event). z ∷ ys) (get_or_from_slice_get (y ∷ ys) 0 x x is)

pub done_more : (done rest rest' all : List Event) (event : Event) → rest ≡ event ∷ rest' → done ++ rest ≡ all → (done ++ event ∷ []) ++ rest' ≡ all
done_more done rest rest' all event is whole = append_assoc done (event ∷ []) rest' ∙ (ap (λ (xs : List Event). done ++ xs) (sym is) ∙ whole)
