-- Whether the command that the rules ask was answered, over the events of a stretch, and the runs beside the rules.
use Rattle.std.proofs.Common.{◌≡◌, ◌≤◌, ◌==◌, ◌&&◌, ℕ, Bool, true, false, List, [], ◌∷◌, ◌++◌, map, length, drop, Option, None, Some, refl, sym, ap, subst, ◌∙◌, if◌then◌else◌}
use Rattle.verb_codes.specs.Words.{has_bit}
use Rattle.hda_registers.specs.declared.shapes.Width.TheVariants.{One, Two}
use Rattle.hda_registers.specs.declared.places.TheConstants.{CORBWP, RIRBSTS}
use Rattle.world_rings.specs.declared.response.Response.{Response}
use Rattle.world_steps.specs.declared.Step.{Step}
use Rattle.hda_world.specs.Worlds.{World}
use Rattle.hda_world.specs.Events.{Event, Stepped, Begin, End, Read, Write, DmaRead, DmaWrite, happens, after}
use Rattle.hda_world.specs.Tellings.{Telling, world_of, Went, Accessed, MakesBy, Makes}
use Rattle.hda_world.proofs.Callers.{access_leaves, world_of-went}
use Rattle.command_engine.specs.declared.ring_places.RingPlaces.{RingPlaces}
use Rattle.command_engine.specs.Polling.{PollReads, poll_accesses, batch_accesses}
use Rattle.command_engine.specs.Submitting.{submit_accesses}
use Rattle.driver_progress.specs.Answers.{has_answer}
use Rattle.driver_progress.specs.Noting.{IsPlain, ArePlain}
use Rattle.driver_progress.specs.Tasks.{Task, DriverLine}
use Rattle.driver_progress.proofs.Callers.{poll_split}
use Rattle.driver_rules.specs.Rules.{Rules}
use Rattle.driver_rules.specs.Onward.{Onward, onward_noted, onward_of, asked_by, is_answered_in}
use Rattle.driver_rules.specs.Notes.{HasNoted}
use Rattle.driver_rules.proofs.Onwards.{onward_went, steps_leave_onward, onward_access}

module _ {S : Type 0} (rules : Rules S) where
  -- ---- where a stretch begins and ends, and over steps

  pub begins_noted : (task : Task) (lines : List DriverLine) (old new : Telling) → Accessed old new Begin
      → ((onward_of rules task lines new).answered ≡ false) × ((onward_of rules task lines new).trail.written ≡ (onward_of rules task lines old).trail.written)
  begins_noted task lines old new accessed =
      let is = onward_access rules task lines Begin old new accessed in
      (ap (λ (onward : Onward S). onward.answered) is, ap (λ (onward : Onward S). onward.trail.written) is)

  pub ends_noted : (task : Task) (lines : List DriverLine) (old new : Telling) → Accessed old new End
      → ((onward_of rules task lines new).answered ≡ (onward_of rules task lines old).answered) × ((onward_of rules task lines new).trail.written ≡ (onward_of rules task lines old).trail.written)
  ends_noted task lines old new accessed =
      let is = onward_access rules task lines End old new accessed in
      (ap (λ (onward : Onward S). onward.answered) is, ap (λ (onward : Onward S). onward.trail.written) is)

  pub steps_noted : (task : Task) (lines : List DriverLine) (steps : List Step) (old new : Telling) → Went old new (map Stepped steps)
      → onward_of rules task lines new ≡ onward_of rules task lines old
  steps_noted task lines steps old new went =
      onward_went rules task lines old new (map Stepped steps) went ∙ steps_leave_onward rules task steps (world_of old) (onward_of rules task lines old)

  -- ---- plain accesses

  -- nothing of it changes
  abbrev Keeps : Onward S → Onward S → Type 0
  Keeps old new = HasNoted new old.later old.answered old.trail.written

  keeps_on : (first second third : Onward S) → Keeps first second → Keeps second third → Keeps first third
  keeps_on first second third one other = record {
    later_is = other.later_is ∙ one.later_is;
    answered_is = other.answered_is ∙ one.answered_is;
    written_is = other.written_is ∙ one.written_is;
  }

  keeps_same : (old new : Onward S) → new ≡ old → Keeps old new
  keeps_same old new same = record {
    later_is = ap (λ (onward : Onward S). onward.later) same;
    answered_is = ap (λ (onward : Onward S). onward.answered) same;
    written_is = ap (λ (onward : Onward S). onward.trail.written) same;
  }

  plain_keeps : (task : Task) (onward : Onward S) (world : World) (event : Event) → IsPlain event → Keeps onward (onward_noted rules task onward world event)
  plain_keeps task onward world (Stepped step) plain = absurd plain
  plain_keeps task onward world Begin plain = absurd plain
  plain_keeps task onward world End plain = absurd plain
  plain_keeps task onward world (Read at width value) plain = record {
    later_is = refl;
    answered_is = ap (λ (is : Bool). if is then is_answered_in rules onward world else onward.answered) plain;
    written_is = refl;
  }
  plain_keeps task onward world (Write at width value) plain = record {
    later_is = refl;
    answered_is = refl;
    written_is = ap (λ (is : Bool). if is then length world.written else onward.trail.written) plain;
  }
  plain_keeps task onward world (DmaRead at bytes) plain = record { later_is = refl; answered_is = refl; written_is = refl }
  plain_keeps task onward world (DmaWrite at bytes) plain = record { later_is = refl; answered_is = refl; written_is = refl }

  access_keeps : (task : Task) (lines : List DriverLine) (event : Event) (old new : Telling) → Accessed old new event → IsPlain event → Keeps (onward_of rules task lines old) (onward_of rules task lines new)
  access_keeps task lines event old new accessed plain =
      let world = after (map Stepped accessed.steps) (world_of old) in
      let onward = onward_of rules task lines old in
      keeps_on onward (onward_noted rules task onward world event) (onward_of rules task lines new) (plain_keeps task onward world event plain)
      (keeps_same (onward_noted rules task onward world event) (onward_of rules task lines new) (onward_access rules task lines event old new accessed))

  row_by : (task : Task) (lines : List DriverLine) (made : List Event) (old new : Telling) → MakesBy made old new → ArePlain made → Keeps (onward_of rules task lines old) (onward_of rules task lines new)
  row_by task lines [] old new none plain = keeps_same (onward_of rules task lines old) (onward_of rules task lines new) (ap (onward_of rules task lines) none)
  row_by task lines (event ∷ made) old new (middle, first, more) plain =
      keeps_on (onward_of rules task lines old) (onward_of rules task lines middle) (onward_of rules task lines new) (access_keeps task lines event old middle first plain.0) (row_by task lines made middle new more plain.1)

  pub plain_noted : (task : Task) (lines : List DriverLine) (made : List Event) (old new : Telling) → Makes made old new → ArePlain made → Keeps (onward_of rules task lines old) (onward_of rules task lines new)
  plain_noted task lines made old new makes plain = row_by task lines made old new makes.by plain

  -- ---- a poll

  -- it is said by what is written
  same_written : (onward : Onward S) (one other : World) → one.written ≡ other.written → is_answered_in rules onward one ≡ is_answered_in rules onward other
  same_written onward one other same = ap (λ (written : List Response). has_answer (asked_by rules onward.later) (drop onward.trail.written written)) same

  pub polls_noted : (task : Task) (lines : List DriverLine) (rirb : ℕ) (rings : RingPlaces) (reads : PollReads) (old new : Telling) → Makes (poll_accesses rirb rings reads) old new → (world_of old).registers.global.response_flag ≤ 1
      → HasNoted (onward_of rules task lines new) (onward_of rules task lines old).later (is_answered_in rules (onward_of rules task lines old) (world_of new)) (onward_of rules task lines old).trail.written
  polls_noted task lines rirb rings reads old new makes bit =
      let split = poll_split rirb rings reads old new makes bit in
      let onward = onward_of rules task lines old in
      let is = onward_access rules task lines (Read RIRBSTS One reads.flag) old split.middle split.first in
      let rest = plain_noted task lines (if has_bit reads.flag 0 then batch_accesses rirb rings reads.pointer reads.entries else []) split.middle new split.rest split.plain in record {
        later_is = rest.later_is ∙ ap (λ (onward : Onward S). onward.later) is;
        answered_is = rest.answered_is ∙ ap (λ (onward : Onward S). onward.answered) is
            ∙ same_written onward (after (map Stepped split.first.steps) (world_of old)) (world_of new) (sym (split.same ∙ ap (λ (world : World). world.written) split.there));
        written_is = rest.written_is ∙ ap (λ (onward : Onward S). onward.trail.written) is;
      }

  -- ---- a submission

  submit_by : (task : Task) (lines : List DriverLine) (at place : ℕ) (bytes : List ℕ) (old new : Telling) → MakesBy (DmaWrite at bytes ∷ Write CORBWP Two place ∷ []) old new
      → HasNoted (onward_of rules task lines new) (onward_of rules task lines old).later (onward_of rules task lines old).answered (length (world_of new).written)
  submit_by task lines at place bytes old new (middle, first, (last, second, same)) =
      subst (λ (telling : Telling). HasNoted (onward_of rules task lines telling) (onward_of rules task lines old).later (onward_of rules task lines old).answered (length (world_of telling).written)) (sym same)
      (let store = access_keeps task lines (DmaWrite at bytes) old middle first tt in
      let is = onward_access rules task lines (Write CORBWP Two place) middle last second in
      let there : world_of last ≡ happens (after (map Stepped second.steps) (world_of middle)) (Write CORBWP Two place) =
      world_of-went middle last _ second.went ∙ after_one second.steps (Write CORBWP Two place) (world_of middle) in record {
        later_is = ap (λ (onward : Onward S). onward.later) is ∙ store.later_is;
        answered_is = ap (λ (onward : Onward S). onward.answered) is ∙ store.answered_is;
        written_is = ap (λ (onward : Onward S). onward.trail.written) is
            ∙ ap length (sym (ap (λ (world : World). world.written) there ∙ (access_leaves (after (map Stepped second.steps) (world_of middle)) CORBWP place Two).written));
      }) where
        after_one : (steps : List Step) (event : Event) (world : World) → after (map Stepped steps ++ event ∷ []) world ≡ happens (after (map Stepped steps) world) event
        after_one [] event world = refl
        after_one (step ∷ steps) event world = after_one steps event (happens world (Stepped step))

  pub submits_noted : (task : Task) (lines : List DriverLine) (corb : ℕ) (rings : RingPlaces) (word : ℕ) (old new : Telling) → Makes (submit_accesses corb rings word) old new
      → HasNoted (onward_of rules task lines new) (onward_of rules task lines old).later (onward_of rules task lines old).answered (length (world_of new).written)
  submits_noted task lines corb rings word old new makes = submit_by task lines _ _ _ old new makes.by
