-- The trail of a whole call that looks for an answer, and which responses answer the command that is outstanding after it.
use Rattle.std.proofs.Common.{◌≡◌, ◌≤◌, ℕ, Bool, false, List, ◌++◌, length, Option, Some, None, refl, sym, ap, subst, ◌∙◌, append_assoc, arith}
use Rattle.std.specs.Prelude.{drop}
use Rattle.std.specs.Option.{is_some}
use Rattle.world_rings.specs.declared.response.Response.{Response}
use Rattle.hda_world.specs.Worlds.{World}
use Rattle.hda_world.specs.Events.{Event}
use Rattle.hda_world.specs.Tellings.{Telling, world_of, Makes}
use Rattle.command_engine.specs.declared.ring_places.RingPlaces.{RingPlaces}
use Rattle.command_engine.specs.declared.answers.Outstanding.{Outstanding}
use Rattle.command_engine.specs.Fetchings.{Stands}
use Rattle.command_engine.specs.Polling.{PollReads, asked_of, found_by, rings_polled, still_outstanding}
use Rattle.command_engine.specs.Told.{found_since}
use Rattle.driver_progress.specs.Tasks.{Task, Order, DriverLine}
use Rattle.driver_progress.specs.States.{State}
use Rattle.driver_progress.specs.Progress.{Trail, trail_of, is_answered}
use Rattle.driver_progress.specs.Noting.{with_accesses}
use Rattle.driver_progress.proofs.Callers.{ConformsTo, trail_row}
use Rattle.driver_progress.specs.Answers.{has_answer, AnswersAgree}
use Rattle.driver_progress.specs.Commands.{ask_accesses}
use Rattle.driver_bring_up.specs.Commanding.{answer_in, submit_made, rings_with}
use Rattle.driver_bring_up.specs.declared.bringing.BringUp.{BringUp}
use Rattle.driver_bring_up.specs.Calls.{state_of}
use Rattle.driver_bring_up.specs.Told.{LooksOn}
use Rattle.laws_bring_up.specs.Stretches.{IsOpen}
use Rattle.laws_bring_up.proofs.Grows.{row_on}
use Rattle.laws_bring_up.proofs.Looking.{PollsNoted, AnswersFound, AgreeGrown, AgreeSubmitted, look_noted, NextNoted, none_next, one_next}

-- ---- laws, as they are handed in

abbrev pub AgreePolled : Type 0
AgreePolled = (asked : Option ℕ) (submitted read : ℕ) (written : List Response) → AnswersAgree asked submitted read written → has_answer asked (drop read written) ≡ false → AnswersAgree asked submitted (length written) written

abbrev pub AgreeNone : Type 0
AgreeNone = (submitted read : ℕ) (written : List Response) → submitted ≤ length written → read ≤ length written → AnswersAgree None submitted read written

pub record Laws : Type 0 where
  pub polls : PollsNoted
  pub found : AnswersFound
  pub grows : AgreeGrown
  pub submitted : AgreeSubmitted
  pub polled : AgreePolled
  pub none : AgreeNone

-- ---- whether it was answered

-- the responses that were written since the submission say so as those do that were not read
pub answered_same : Laws → (rings : RingPlaces) (submitted read : ℕ) (world : World) (trail : Trail) (answer : Option ℕ) → trail.state.rings ≡ rings → trail.written ≡ submitted
    → AnswersAgree (asked_of rings.outstanding) submitted read world.written → answer ≡ found_since read rings world → is_answered trail world ≡ is_some answer
answered_same laws rings submitted read world trail answer of_rings of_written agree found =
    ap (λ (rings : RingPlaces). has_answer (asked_of rings.outstanding) (drop trail.written world.written)) of_rings
    ∙ ap (λ (submitted : ℕ). has_answer (asked_of rings.outstanding) (drop submitted world.written)) of_written
    ∙ agree.agree
    ∙ sym (laws.found (asked_of rings.outstanding) (drop read world.written))
    ∙ ap (λ (answer : Option ℕ). is_some answer) (sym found)

-- ---- after the poll

agree_by : Laws → (outstanding : Option Outstanding) (found : Option ℕ) (submitted read : ℕ) (written : List Response) → AnswersAgree (asked_of outstanding) submitted read written
    → is_some found ≡ has_answer (asked_of outstanding) (drop read written) → AnswersAgree (asked_of (still_outstanding outstanding found)) submitted (length written) written
agree_by laws None None submitted read written agree same = laws.none submitted (length written) written agree.submitted_within (omega arith)
agree_by laws None (Some word) submitted read written agree same = laws.none submitted (length written) written agree.submitted_within (omega arith)
agree_by laws (Some command) None submitted read written agree same = laws.polled (asked_of (Some command)) submitted read written agree (sym same)
agree_by laws (Some command) (Some word) submitted read written agree same = laws.none submitted (length written) written agree.submitted_within (omega arith)

pub polled_agree : Laws → (rings : RingPlaces) (reads : PollReads) (submitted read : ℕ) (world : World) (answer : Option ℕ) → AnswersAgree (asked_of rings.outstanding) submitted read world.written
    → found_by rings reads ≡ answer → answer ≡ found_since read rings world → AnswersAgree (asked_of (rings_polled rings reads).outstanding) submitted (length world.written) world.written
polled_agree laws rings reads submitted read world answer agree is found =
    agree_by laws rings.outstanding (found_by rings reads) submitted read world.written agree
    (ap (λ (answer : Option ℕ). is_some answer) (is ∙ found) ∙ laws.found (asked_of rings.outstanding) (drop read world.written))

-- ---- the next command, if there is one

next_noted : Laws → (task : Task) (lines : List DriverLine) (order : Option Order) (from read corb rirb clock submitted : ℕ) (rings : RingPlaces) (old new : Telling) → ((is : Order) → order ≡ Some is → rings.outstanding ≡ None)
    → Makes (submit_made corb rings order) old new → Stands from read corb rirb rings (world_of old) → (trail_of task lines old).written ≡ submitted → AnswersAgree (asked_of rings.outstanding) submitted read (world_of old).written
    → NextNoted task lines (submit_made corb rings order) (asked_of (rings_with order clock rings).outstanding) read old new
next_noted laws task lines None from read corb rirb clock submitted rings old new idle makes stands of_written agree =
    none_next task lines (asked_of rings.outstanding) read old new makes (subst (λ (submitted : ℕ). AnswersAgree (asked_of rings.outstanding) submitted read (world_of old).written) (sym of_written) agree)
next_noted laws task lines (Some order) from read corb rirb clock submitted rings old new idle makes stands of_written agree =
    one_next laws.submitted task lines from read corb rirb rings order clock (Some order.codec) old new (idle order refl) makes stands

-- ---- the call

pub record CallNoted (task : Task) (lines : List DriverLine) (made : List Event) (found : Bool) (asked : Option ℕ) (read : ℕ) (old new : Telling) : Type 0 where
  pub written : ℕ
  pub trail : trail_of task lines new ≡ record (with_accesses (trail_of task lines old) made) { written = written; answered = found }
  pub conforms : ConformsTo task lines old → ConformsTo task lines new
  pub agree : AnswersAgree asked written read (world_of new).written

pub call_noted : Laws → (task : Task) (lines left : List DriverLine) (turn : Option DriverLine) (irq : Bool) (old new : BringUp) (made : List Event) (from read : ℕ) (before after : Telling) → IsOpen task lines left turn (state_of old) before
    → AnswersAgree (asked_of old.engine.rings.outstanding) (trail_of task lines before).written read (world_of before).written → (on : LooksOn irq old new made from read before after)
    → ((is : Order) → on.order ≡ Some is → (rings_polled old.engine.rings on.reads).outstanding ≡ None)
    → CallNoted task lines made (is_some (answer_in old.engine.rings made)) (asked_of new.engine.rings.outstanding) (length (world_of on.looked.ends).written) before after
call_noted laws task lines left turn irq old new made from read before after opened agree on idle =
    let looked = on.looked in
    let rings = old.engine.rings in
    let corb = old.engine.corb.address in
    let rirb = old.engine.rirb.address in
    let c0 = trail_of task lines before in
    let ask = ask_accesses rirb on.clock rings on.reads in
    let polled = rings_polled rings on.reads in
    let rest = submit_made corb polled on.order in
    let first = trail_row task lines on.first before looked.begins looked.first_made looked.plain in
    let begun = trail_of task lines looked.begins in
    let look = look_noted laws.polls task lines from read corb rirb on.clock rings on.reads looked.begins looked.ends looked.look_made looked.stood in
    let ended = world_of looked.ends in
    let on_first = row_on on.first before looked.begins looked.first_made in
    let on_look = row_on ask looked.begins looked.ends looked.look_made in
    let written = on_look.written ∙ ap (λ (front : List Response). front ++ on_look.more_written) on_first.written ∙ append_assoc (world_of before).written on_first.more_written on_look.more_written in
    let agree_ends = subst (λ (written : List Response). AnswersAgree (asked_of rings.outstanding) c0.written read written) (sym written)
    (laws.grows (asked_of rings.outstanding) c0.written read (world_of before).written (on_first.more_written ++ on_look.more_written) agree) in
    let found = answered_same laws rings c0.written read ended begun (answer_in rings made)
    (ap (λ (trail : Trail). trail.state.rings) first.0 ∙ ap (λ (state : State). state.rings) opened.state_is) (ap (λ (trail : Trail). trail.written) first.0) agree_ends looked.found in
    let agree_polled = polled_agree laws rings on.reads c0.written read ended (answer_in rings made) agree_ends looked.found_is looked.found in
    let next = next_noted laws task lines on.order _ _ corb rirb on.clock c0.written polled looked.ends after idle looked.rest_made looked.stands
    (ap (λ (trail : Trail). trail.written) look.trail ∙ ap (λ (trail : Trail). trail.written) first.0) agree_polled in record {
      written = next.written;
      trail = next.trail
          ∙ ap (λ (trail : Trail). record (with_accesses trail rest) { written = next.written }) look.trail
          ∙ ap (λ (answered : Bool). record (with_accesses (with_accesses begun ask) rest) { written = next.written; answered = answered }) found
          ∙ ap (λ (trail : Trail). record (with_accesses (with_accesses trail ask) rest) { written = next.written; answered = is_some (answer_in rings made) }) first.0
          ∙ ap (λ (all : List Event). record c0 { made = all; written = next.written; answered = is_some (answer_in rings made) })
          (append_assoc (c0.made ++ on.first) ask rest ∙ append_assoc c0.made on.first (ask ++ rest) ∙ ap (λ (made : List Event). c0.made ++ made) (sym looked.made_is));
      conforms = λ conforms. next.conforms (look.conforms (first.1 conforms));
      agree = subst (λ (rings : RingPlaces). AnswersAgree (asked_of rings.outstanding) next.written (length ended.written) (world_of after).written) (sym on.rings) next.agree;
    }
