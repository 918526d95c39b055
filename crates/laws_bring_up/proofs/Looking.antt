-- The trail of a call that looks for an answer.
use Rattle.std.proofs.Common.{◌≡◌, ◌≤◌, ◌+◌, ◌*◌, ℕ, List, [], ◌∷◌, ◌++◌, map, length, Option, Some, None, sym, ap, subst, ◌∙◌, append_assoc, append-nil}
use Rattle.std.specs.Option.{is_some}
use Rattle.byteorder.specs.Endian.{little_bytes}
use Rattle.hda_registers.specs.declared.shapes.Width.TheVariants.{Two, Four}
use Rattle.hda_registers.specs.declared.places.TheConstants.{WALCLK, CORBWP}
use Rattle.world_rings.specs.declared.response.Response.{Response}
use Rattle.world_rings.specs.declared.entries.TheConstants.{COMMAND_BYTES}
use Rattle.hda_world.specs.Worlds.{World}
use Rattle.hda_world.specs.Steps.{after_steps}
use Rattle.hda_world.specs.Events.{Event, Read, Write, DmaWrite}
use Rattle.hda_world.specs.Tellings.{Telling, world_of, Makes}
use Rattle.hda_world.proofs.Callers.{kept_steps, access_leaves, steps_after}
use Rattle.command_engine.specs.declared.ring_places.RingPlaces.{RingPlaces}
use Rattle.command_engine.specs.declared.answers.Outstanding.{Outstanding}
use Rattle.command_engine.specs.Belonging.{as_held}
use Rattle.command_engine.specs.Fetchings.{Stands}
use Rattle.command_engine.specs.Entries.{answer_among}
use Rattle.command_engine.specs.Polling.{PollReads, poll_accesses}
use Rattle.command_engine.specs.Submitting.{command_place}
use Rattle.command_engine.proofs.Callers.{responses_apart, keeps_standing, stored_stands}
use Rattle.driver_progress.specs.Tasks.{Task, Order, DriverLine}
use Rattle.driver_progress.specs.Progress.{Trail, trail_of, is_answered}
use Rattle.driver_progress.specs.Noting.{with_accesses}
use Rattle.driver_progress.proofs.Callers.{ConformsTo}
use Rattle.driver_progress.specs.Answers.{has_answer, AnswersAgree}
use Rattle.driver_progress.specs.Commands.{ask_accesses}
use Rattle.driver_bring_up.specs.Commanding.{submit_made}
use Rattle.laws_bring_up.proofs.Grows.{world_after}
use Rattle.laws_bring_up.proofs.Rows.{trail_access, conforms_access}

-- ---- laws of the stretches, as they are handed in

-- over a poll that is told whether the command was answered is noted
abbrev pub PollsNoted : Type 0
PollsNoted = (task : Task) (lines : List DriverLine) (rirb : ℕ) (rings : RingPlaces) (reads : PollReads) (old new : Telling) → Makes (poll_accesses rirb rings reads) old new → (world_of old).registers.global.response_flag ≤ 1
    → (trail_of task lines new ≡ record (with_accesses (trail_of task lines old) (poll_accesses rirb rings reads)) { answered = is_answered (trail_of task lines old) (world_of new) })
    × (ConformsTo task lines old → ConformsTo task lines new)

abbrev pub AnswersFound : Type 0
AnswersFound = (asked : Option ℕ) (responses : List Response) → is_some (answer_among asked (map as_held responses)) ≡ has_answer asked responses

abbrev pub AgreeGrown : Type 0
AgreeGrown = (asked : Option ℕ) (submitted read : ℕ) (written more : List Response) → AnswersAgree asked submitted read written → AnswersAgree asked submitted read (written ++ more)

abbrev pub AgreeSubmitted : Type 0
AgreeSubmitted = (from read corb rirb : ℕ) (rings : RingPlaces) (world : World) (asked : Option ℕ) → Stands from read corb rirb rings world → rings.outstanding ≡ None
    → AnswersAgree asked (length world.written) read world.written

-- ---- the look

pub record LookNoted (task : Task) (lines : List DriverLine) (made : List Event) (old new : Telling) : Type 0 where
  pub trail : trail_of task lines new ≡ record (with_accesses (trail_of task lines old) made) { answered = is_answered (trail_of task lines old) (world_of new) }
  pub conforms : ConformsTo task lines old → ConformsTo task lines new

-- over the clock and the poll, from where the engine stands
pub look_noted : PollsNoted → (task : Task) (lines : List DriverLine) (from read corb rirb clock : ℕ) (rings : RingPlaces) (reads : PollReads) (old new : Telling) → Makes (ask_accesses rirb clock rings reads) old new
    → Stands from read corb rirb rings (world_of old) → LookNoted task lines (ask_accesses rirb clock rings reads) old new
look_noted polls task lines from read corb rirb clock rings reads old new makes stands =
    let middle = makes.by.0 in
    let first = makes.by.1 in
    let there = after_steps first.steps (world_of old) in
    let stood = kept_steps (Stands from read corb rirb rings) (keeps_standing from read corb rirb rings responses_apart) first.steps (world_of old) stands in
    let flag = subst (λ (world : World). world.registers.global.response_flag ≤ 1) (sym (world_after (Read WALCLK Four clock) old middle first)) stood.flag in
    let poll = polls task lines rirb rings reads middle new (record { by = makes.by.2 }) flag in
    let here = trail_access task lines (Read WALCLK Four clock) old middle first in record {
      trail = poll.0
          ∙ ap (λ (trail : Trail). record (with_accesses trail (poll_accesses rirb rings reads)) { answered = is_answered trail (world_of new) }) here
          ∙ ap (λ (all : List Event). record (trail_of task lines old) { made = all; answered = is_answered (trail_of task lines old) (world_of new) })
          (append_assoc (trail_of task lines old).made (Read WALCLK Four clock ∷ []) (poll_accesses rirb rings reads));
      conforms = λ conforms. poll.1 (conforms_access task lines (Read WALCLK Four clock) old middle first (tt {0}) conforms);
    }

-- ---- the next command

-- what comes after the look: how many responses were written when CORBWP was written last, and that just those answer the command that
-- is outstanding then that were not read
pub record NextNoted (task : Task) (lines : List DriverLine) (made : List Event) (asked : Option ℕ) (read : ℕ) (old new : Telling) : Type 0 where
  pub written : ℕ
  pub trail : trail_of task lines new ≡ record (with_accesses (trail_of task lines old) made) { written = written }
  pub conforms : ConformsTo task lines old → ConformsTo task lines new
  pub agree : AnswersAgree asked written read (world_of new).written

pub none_next : (task : Task) (lines : List DriverLine) (asked : Option ℕ) (read : ℕ) (old new : Telling) → Makes [] old new → AnswersAgree asked (trail_of task lines old).written read (world_of old).written
    → NextNoted task lines [] asked read old new
none_next task lines asked read old new makes agree = record {
  written = (trail_of task lines old).written;
  trail = ap (trail_of task lines) makes.by ∙ ap (λ (made : List Event). record (trail_of task lines old) { made = made }) (sym (append-nil (trail_of task lines old).made));
  conforms = λ conforms. subst (ConformsTo task lines) (sym makes.by) conforms;
  agree = subst (λ (telling : Telling). AnswersAgree asked (trail_of task lines old).written read (world_of telling).written) (sym makes.by) agree;
}

-- a command is submitted where none is outstanding
pub one_next : AgreeSubmitted → (task : Task) (lines : List DriverLine) (from read corb rirb : ℕ) (rings : RingPlaces) (order : Order) (clock : ℕ) (asked : Option ℕ) (old new : Telling) → rings.outstanding ≡ None
    → Makes (submit_made corb rings (Some order)) old new → Stands from read corb rirb rings (world_of old) → NextNoted task lines (submit_made corb rings (Some order)) asked read old new
one_next submitted task lines from read corb rirb rings order clock asked old new idle makes stands =
    let command : Outstanding = record { codec = order.codec; word = order.word; issued = clock } in
    let store = DmaWrite (corb + COMMAND_BYTES * command_place rings) (little_bytes 4 order.word) in
    let point = Write CORBWP Two (command_place rings) in
    let middle = makes.by.0 in
    let first = makes.by.1 in
    let last = makes.by.2.0 in
    let second = makes.by.2.1 in
    let kept = keeps_standing from read corb rirb rings responses_apart in
    let Stood = Stands from read corb rirb rings in
    let stored = subst Stood (sym (world_after store old middle first))
    (stored_stands from read corb rirb rings responses_apart idle command (after_steps first.steps (world_of old)) (kept_steps Stood kept first.steps (world_of old) stands)) in
    let there = after_steps second.steps (world_of middle) in
    let stood = kept_steps Stood kept second.steps (world_of middle) stored in
    let agree = submitted from read corb rirb rings there asked stood idle in
    let same = ap (λ (world : World). world.written) (world_after point middle last second) ∙ (access_leaves there CORBWP (command_place rings) Two).written in
    let here = trail_access task lines store old middle first in
    let next = trail_access task lines point middle last second in
    let ends = makes.by.2.2 in record {
      written = length there.written;
      trail = ap (trail_of task lines) ends ∙ next
          ∙ ap (λ (world : World). record (with_accesses (trail_of task lines middle) (point ∷ [])) { written = length world.written }) (steps_after second.steps (world_of middle))
          ∙ ap (λ (trail : Trail). record (with_accesses trail (point ∷ [])) { written = length there.written }) here
          ∙ ap (λ (all : List Event). record (trail_of task lines old) { made = all; written = length there.written }) (append_assoc (trail_of task lines old).made (store ∷ []) (point ∷ []));
      conforms = λ conforms. subst (ConformsTo task lines) (sym ends) (conforms_access task lines point middle last second (tt {0}) (conforms_access task lines store old middle first (tt {0}) conforms));
      agree = subst (λ (written : List Response). AnswersAgree asked (length there.written) read written) (sym (ap (λ (telling : Telling). (world_of telling).written) ends ∙ same)) agree;
    }
