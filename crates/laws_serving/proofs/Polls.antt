-- How the engine stands to a served device after a poll and after a submission.
use Rattle.std.proofs.Common.{◌≡◌, ◌<◌, inr, ℕ, ◌%◌, ◌^◌, List, [], ◌∷◌, length, map, drop, Option, None, refl, sym, ap, subst, ◌∙◌, arith}
use Rattle.std.specs.Prelude.{All}
use Rattle.std.proofs.Math.Nat.{mod-eq_of_lt}
use Rattle.std.proofs.lemmas.List.Elements.{All-head, All-tail}
use Rattle.codec_graph.specs.CodecStates.{CodecState}
use Rattle.hda_registers.specs.Fields.{Global, entries_of}
use Rattle.world_rings.specs.declared.response.Response.{Response}
use Rattle.world_rings.specs.Entries.{next_place}
use Rattle.world_steps.specs.declared.Step.{Step}
use Rattle.hda_registers.proofs.Callers.{few_entries}
use Rattle.hda_world.specs.Worlds.{World, TakenCommand}
use Rattle.hda_world.specs.Steps.{after_step, after_steps}
use Rattle.hda_world.specs.Tellings.{Telling, world_of}
use Rattle.command_engine.specs.declared.ring_places.RingPlaces.{RingPlaces}
use Rattle.command_engine.specs.declared.answers.Outstanding.{Outstanding}
use Rattle.command_engine.specs.Submitting.{command_place, submit_accesses, rings_submitted}
use Rattle.command_engine.specs.Polling.{PollReads, AreNew, poll_accesses, asked_of, found_by, rings_polled}
use Rattle.command_engine.specs.Entries.{answer_among}
use Rattle.command_engine.specs.Fetchings.{Stands}
use Rattle.command_engine.specs.Belonging.{from_after, as_held}
use Rattle.command_engine.specs.Told.{found_since}
use Rattle.command_engine.proofs.Callers.{poll_leaves, submit_leaves, steps_keep_standing, responses_apart}
use Rattle.laws_serving.specs.ServingDevices.{Serves, ServesBy, StandsServed, NamesItsCodec, IsComing}
use Rattle.laws_serving.proofs.Rows.{CalmRow, told_row, just}
use Rattle.laws_serving.specs.ServingSchedules.{IsOfStreams}
use Rattle.laws_serving.proofs.Worlds.{SameLink, link_same, link_then, step_link, IsTimed}
use Rattle.laws_serving.proofs.Engines.{EnginesRun, RunsOn, poll_runs, submit_runs}

-- what a look leaves serves the rings, as a law says
abbrev pub LooksServe : Type 0
LooksServe = (from read corb rirb : ℕ) (rings : RingPlaces) (world : World) → StandsServed from read corb rirb rings world → NamesItsCodec rings.outstanding
    → ServesBy (from_after (found_since read rings world) from world.commands) (length world.written) (record world.registers.global { response_flag = 0 }) world.codecs world.waiting world.commands world.written

-- what serves the rings goes on doing so while the engines run and codecs and what waits stay the same
pub serves_at : (from read place : ℕ) (global : Global) (start world : World) → ServesBy from read global start.codecs start.waiting start.commands start.written → EnginesRun place world.registers.global → SameLink start world
    → (world.registers.global.response_flag ≡ 1 → read < length start.written) → Serves from read world
serves_at from read place global start world serves engines link flag =
    subst (λ (codecs : List CodecState). ServesBy from read world.registers.global codecs world.waiting world.commands world.written) (sym link.codecs)
    (subst (λ (waiting : List Response). ServesBy from read world.registers.global start.codecs waiting world.commands world.written) (sym link.waiting)
    (subst (λ (commands : List TakenCommand). ServesBy from read world.registers.global start.codecs start.waiting commands world.written) (sym link.commands)
    (subst (λ (written : List Response). ServesBy from read world.registers.global start.codecs start.waiting start.commands written) (sym link.written)
    (record {
      corb_runs = engines.corb_runs;
      no_reset = engines.no_reset;
      rirb_runs = engines.rirb_runs;
      flag = flag;
      asked = serves.asked;
      all_asked = serves.all_asked;
      read_asked = serves.read_asked;
      none_lost = serves.none_lost;
    }))))

not_one : (flag : ℕ) → flag ≡ 0 → flag ≡ 1 → ⊥
not_one flag clear is = omega (arith, clear, is)

-- so over steps of streams
pub served_streams : (from read corb rirb place least : ℕ) (rings : RingPlaces) (old new : World) (steps : List Step) → new ≡ after_steps steps old → RunsOn old place old.registers.global.response_flag least new → StandsServed from read corb rirb rings old
    → StandsServed from read corb rirb rings new
served_streams from read corb rirb place least rings old new steps leads runs served = record {
  stands = subst (Stands from read corb rirb rings) (sym leads) (steps_keep_standing from read corb rirb rings responses_apart steps old served.stands);
  serves = serves_at from read place old.registers.global old new served.serves runs.engines runs.link (λ is. served.serves.flag (sym runs.flag_is ∙ is));
}

-- how a world stands whose engine polled or submitted
stands_on : (from read corb rirb : ℕ) (rings : RingPlaces) (steps : List Step) (telling : Telling) (new : World) → new ≡ after_steps steps (world_of telling) → Stands from read corb rirb rings (world_of telling) → Stands from read corb rirb rings new
stands_on from read corb rirb rings steps telling new leads stands =
    subst (Stands from read corb rirb rings) (sym leads) (steps_keep_standing from read corb rirb rings responses_apart steps (world_of telling) stands)

-- the responses that were written and the commands that were taken stay the same while streams run
pub steps_link : (steps : List Step) (world : World) → All IsOfStreams steps → SameLink world (after_steps steps world)
steps_link [] world are = link_same world
steps_link (one ∷ steps) world are =
    link_then world (after_step one world) (after_steps steps (after_step one world)) (step_link one world (All-head IsOfStreams one steps are)) (steps_link steps (after_step one world) (All-tail IsOfStreams one steps are))

-- after a poll: RINTFL is clear, all is read, and what was found is what was unread
pub record IsPolled (from read corb rirb place least : ℕ) (rings : RingPlaces) (reads : PollReads) (old new : World) : Type 0 where
  pub runs : RunsOn old place 0 least new
  pub found : found_by rings reads ≡ found_since read rings old
  pub served : StandsServed (from_after (found_since read rings old) from old.commands) (length old.written) corb rirb (rings_polled rings reads) new

module _ (looks : LooksServe) (from read corb rirb place least : ℕ) (rings : RingPlaces) where
  polled_stands : (reads : PollReads) (old new : World) → AreNew rings reads → CalmRow (poll_accesses rirb rings reads) old new → SameLink old new → Stands from read corb rirb rings old
      → (found_by rings reads ≡ found_since read rings old) × Stands (from_after (found_since read rings old) from old.commands) (length old.written) corb rirb (rings_polled rings reads) new
  polled_stands reads old new fresh row link stands =
      let told = told_row (poll_accesses rirb rings reads) (just old) new row in
      let there = world_of told.telling in
      let later = steps_link told.steps there told.are in
      let leaves = poll_leaves from read corb rirb rings responses_apart reads (just old) told.telling fresh (record { by = told.made }) stands in
      let written : there.written ≡ old.written = sym later.written ∙ sym (ap (λ (world : World). world.written) told.leads) ∙ link.written in
      let commands : there.commands ≡ old.commands = sym later.commands ∙ sym (ap (λ (world : World). world.commands) told.leads) ∙ link.commands in
      let found : found_by rings reads ≡ found_since read rings old =
      ap (answer_among (asked_of rings.outstanding)) leaves.responses ∙ ap (λ (written : List Response). answer_among (asked_of rings.outstanding) (map as_held (drop read written))) written in
      let now = stands_on (from_after (found_by rings reads) from there.commands) (length there.written) corb rirb (rings_polled rings reads) told.steps told.telling new told.leads leaves.stands in (
        found,
        subst (λ (found : Option ℕ). Stands (from_after found from old.commands) (length old.written) corb rirb (rings_polled rings reads) new) found
            (subst (λ (commands : List TakenCommand). Stands (from_after (found_by rings reads) from commands) (length old.written) corb rirb (rings_polled rings reads) new) commands
            (subst (λ (written : List Response). Stands (from_after (found_by rings reads) from there.commands) (length written) corb rirb (rings_polled rings reads) new) written now)),
      )

  pub polled : (reads : PollReads) (old new : World) → AreNew rings reads → CalmRow (poll_accesses rirb rings reads) old new → EnginesRun place old.registers.global → IsTimed least old
      → StandsServed from read corb rirb rings old → NamesItsCodec rings.outstanding → IsPolled from read corb rirb place least rings reads old new
  polled reads old new fresh row engines timed served names =
      let runs = poll_runs old place least rirb rings reads old.registers.global.response_flag served.stands.flag old new row (record { engines = engines; flag_is = refl; link = link_same old; timed = timed }) in
      let both = polled_stands reads old new fresh row runs.link served.stands in
      record {
        runs = runs;
        found = both.0;
        served = record {
          stands = both.1;
          serves = serves_at (from_after (found_since read rings old) from old.commands) (length old.written) place (record old.registers.global { response_flag = 0 }) old new (looks from read corb rirb rings old served names) runs.engines runs.link
              (λ is. absurd (not_one new.registers.global.response_flag runs.flag_is is));
        };
      }

-- after a submission: the command is the next that CORB's engine fetches
pub record IsSubmitted (from read corb rirb place least : ℕ) (rings : RingPlaces) (command : Outstanding) (old new : World) : Type 0 where
  pub runs : RunsOn old place 0 least new
  pub served : StandsServed from read corb rirb (rings_submitted rings command) new
  pub coming : IsComing from new

-- where nothing is outstanding, CORB's engine fetches the next command's entry next, as a law says
abbrev pub SubmissionsCome : Type 0
SubmissionsCome = (from read corb rirb : ℕ) (rings : RingPlaces) (world : World) → StandsServed from read corb rirb rings world → rings.outstanding ≡ None
    → next_place world.registers.global.corb_read_pointer (entries_of world.registers.shape.corb) ≡ command_place rings % 2 ^ 8 % entries_of world.registers.shape.corb

module _ (comes : SubmissionsCome) (from read corb rirb place least : ℕ) (rings : RingPlaces) (command : Outstanding) where
  comes_next : (old new : World) → StandsServed from read corb rirb rings old → rings.outstanding ≡ None → old.registers.global.corb_read_pointer ≡ place → new.registers.global.corb_read_pointer ≡ place
      → Stands from read corb rirb (rings_submitted rings command) new → IsComing from new
  comes_next old new served idle was is stands =
      let next = comes from read corb rirb rings old served idle in
      let had : entries_of old.registers.shape.corb ≡ entries_of rings.corb = ap entries_of served.stands.has_rings.corb_size in
      let has : entries_of new.registers.shape.corb ≡ entries_of rings.corb = ap entries_of stands.has_rings.corb_size in
      let below : command_place rings < entries_of rings.corb = stands.has_rings.submitted_within in
      let few = few_entries rings.corb in
      let low : command_place rings % 2 ^ 8 ≡ command_place rings = mod-eq_of_lt (omega (arith, below, few)) in
      let small : command_place rings % entries_of rings.corb ≡ command_place rings = mod-eq_of_lt below in
      inr (
      ap (λ (at : ℕ). next_place at (entries_of new.registers.shape.corb)) (is ∙ sym was)
      ∙ ap (next_place old.registers.global.corb_read_pointer) (has ∙ sym had)
      ∙ next
      ∙ ap (λ (size : ℕ). command_place rings % 2 ^ 8 % size) had
      ∙ ap (λ (at : ℕ). at % entries_of rings.corb) low
      ∙ small
      ∙ sym stands.has_rings.submitted
      )

  pub submitted : (old new : World) → rings.outstanding ≡ None → command.word < 2 ^ 32 → CalmRow (submit_accesses corb rings command.word) old new → EnginesRun place old.registers.global → IsTimed least old
      → old.registers.global.response_flag ≡ 0 → StandsServed from read corb rirb rings old → IsSubmitted from read corb rirb place least rings command old new
  submitted old new idle narrow row engines timed clear served =
      let reads : PollReads = record { flag = 0; pointer = 0; entries = [] } in
      let runs = submit_runs old place least rirb rings reads corb command.word old new row (record { engines = engines; flag_is = clear; link = link_same old; timed = timed }) in
      let told = told_row (submit_accesses corb rings command.word) (just old) new row in
      let leaves = submit_leaves from read corb rirb rings responses_apart idle command (just old) told.telling narrow (record { by = told.made }) served.stands in
      let stands = stands_on from read corb rirb (rings_submitted rings command) told.steps told.telling new told.leads leaves in
      record {
        runs = runs;
        served = record {
          stands = stands;
          serves = serves_at from read place old.registers.global old new served.serves runs.engines runs.link (λ is. absurd (not_one new.registers.global.response_flag runs.flag_is is));
        };
        coming = comes_next old new served idle engines.place_is runs.engines.place_is stands;
      }
