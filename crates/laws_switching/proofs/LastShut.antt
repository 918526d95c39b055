-- The end of a last call: both rings are stopped, from which on no command is taken, and a stream that was over stays so.
use Rattle.std.proofs.Common.{◌≡◌, inl, inr, ℕ, Bool, true, false, List, [], ◌∷◌, ◌++◌, map, refl, sym, ap, subst, ◌∙◌, arith, lit<}
use Rattle.std.specs.Prelude.{All}
use Rattle.std.proofs.lemmas.Bool.{false≢true}
use Rattle.std.proofs.lemmas.List.Elements.{All-append, All-cons, All-head, All-nil, All-tail}
use Rattle.world_steps.specs.declared.Step.{Step}
use Rattle.hda_registers.specs.Access.{written, placed, global_written}
use Rattle.hda_registers.specs.Fields.{Fields, is_out_of_reset}
use Rattle.hda_registers.specs.declared.shapes.Width.{Width}
use Rattle.hda_registers.specs.declared.shapes.Width.TheVariants.{One, Four}
use Rattle.hda_registers.specs.declared.places.TheConstants.{GCTL, CORBCTL, RIRBCTL}
use Rattle.hda_world.specs.Worlds.{World, TakenCommand}
use Rattle.hda_world.specs.Steps.{after_steps}
use Rattle.hda_world.specs.Events.{Event, Stepped, End, Write, happens}
use Rattle.hda_world.specs.Tellings.{Telling, world_of, Accessed, Makes}
use Rattle.hda_world.proofs.Callers.{access_leaves, write_registers, steps_after}
use Rattle.command_engine.specs.declared.ring_places.RingPlaces.{RingPlaces}
use Rattle.command_engine.specs.Fetchings.{Stands}
use Rattle.command_engine.proofs.Callers.{responses_apart, steps_keep_standing, reset_registers}
use Rattle.period_writer.specs.declared.course.Ran.{Ran}
use Rattle.period_writer.specs.declared.course.Ran.TheVariants as ran
use Rattle.period_writer.specs.Runs.{Tally}
use Rattle.period_writer.specs.Standing.{Ring}
use Rattle.period_writer.specs.Beside.{LeavesStopped}
use Rattle.period_writer.specs.Outcomes.{WasStopped, HasDrained}
use Rattle.period_writer.proofs.Callers.{drained_events, stopped_events}
use Rattle.driver_progress.specs.Beginning.{IsUntaken}
use Rattle.driver_progress.specs.Noting.{ArePlain}
use Rattle.driver_progress.specs.Shutting.{shut_accesses}
use Rattle.driver_progress.proofs.Callers.{untaken_steps}
use Rattle.laws_bring_up.proofs.Callers.{world_after}
use Rattle.laws_stream.specs.Lives.{Along, IsStopped}
use Rattle.laws_stream.specs.Going.{StreamLeft, is_left_open}
use Rattle.laws_stream.specs.Resting.{LeavesRest}
use Rattle.laws_stream.proofs.Callers.{all_map}
use Rattle.laws_switching.specs.Senses.{IsBesideSenses}
use Rattle.laws_switching.proofs.Taken.{Grown, events_grown}

-- ---- CORB's engine after each write

corb_off : (fields : Fields) → is_out_of_reset fields.global ≡ true → (written fields 0x4C One 0).global.corb_run ≡ 0
unfolding written placed global_written
corb_off fields out = rw out refl

rirb_keeps : (fields : Fields) (out : Bool) → is_out_of_reset fields.global ≡ out → (written fields 0x5C One 0).global.corb_run ≡ fields.global.corb_run
unfolding written placed global_written
rirb_keeps fields true out = rw out refl
rirb_keeps fields false out = rw out refl

reset_off : (fields : Fields) → (written fields 0x08 Four 0).global.corb_run ≡ 0
reset_off fields = ap (λ (fields : Fields). fields.global.corb_run) (reset_registers fields 0 refl)

written_untaken : (commands : List TakenCommand) (at value : ℕ) (width : Width) (world : World) → (written world.registers at width value).global.corb_run ≡ 0 → world.commands ≡ commands → IsUntaken commands (happens world (Write at width value))
written_untaken commands at value width world stopped same = record {
  stopped = ap (λ (fields : Fields). fields.global.corb_run) (write_registers world at value width) ∙ stopped;
  commands_are = (access_leaves world at value width).commands ∙ same;
}

access_untaken : (commands : List TakenCommand) (at value : ℕ) (width : Width) (old new : Telling) → Accessed old new (Write at width value)
    → ((fields : Fields) → fields.global.corb_run ≡ 0 → (written fields at width value).global.corb_run ≡ 0) → IsUntaken commands (world_of old) → IsUntaken commands (world_of new)
access_untaken commands at value width old new accessed off is =
    let there = after_steps accessed.steps (world_of old) in
    let stepped : IsUntaken commands there = untaken_steps commands accessed.steps (world_of old) is in
    subst (IsUntaken commands) (sym (world_after (Write at width value) old new accessed))
    (written_untaken commands at value width there (off there.registers stepped.stopped) stepped.commands_are)

-- ---- up to it the engine stands, and then no command is taken

pub record IsShut (from read corb rirb : ℕ) (rings : RingPlaces) (old new : World) : Type 0 where
  pub last : World
  pub stands : Stands from read corb rirb rings last
  pub grown : Grown old last
  pub same : new.commands ≡ last.commands

pub shut_takes : (from read corb rirb : ℕ) (rings : RingPlaces) (old made new : Telling) → Makes shut_accesses old made → Accessed made new End → Stands from read corb rirb rings (world_of old) → IsShut from read corb rirb rings (world_of old) (world_of new)
shut_takes from read corb rirb rings old made new makes ends stands = record {
  last = last;
  stands = stands_last;
  grown = subst (Grown (world_of old)) (steps_after first.steps (world_of old)) (events_grown (map Stepped first.steps) (world_of old));
  same = ended.commands_are;
}
  where
    one : Telling
    one = makes.by.0

    first : Accessed old one (Write CORBCTL One 0)
    first = makes.by.1

    two : Telling
    two = makes.by.2.0

    second : Accessed one two (Write RIRBCTL One 0)
    second = makes.by.2.1

    three : Telling
    three = makes.by.2.2.0

    third : Accessed two three (Write GCTL Four 0)
    third = makes.by.2.2.1

    there : made ≡ three
    there = makes.by.2.2.2

    last : World
    last = after_steps first.steps (world_of old)

    stands_last : Stands from read corb rirb rings last
    stands_last = steps_keep_standing from read corb rirb rings responses_apart first.steps (world_of old) stands

    off : IsUntaken last.commands (world_of one)
    off =
        subst (IsUntaken last.commands) (sym (world_after (Write CORBCTL One 0) old one first))
        (written_untaken last.commands CORBCTL 0 One last (corb_off last.registers stands_last.has_rings.out) refl)

    off_three : IsUntaken last.commands (world_of three)
    off_three =
        access_untaken last.commands GCTL 0 Four two three third (λ fields was. reset_off fields)
        (access_untaken last.commands RIRBCTL 0 One one two second (λ fields was. rirb_keeps fields (is_out_of_reset fields.global) refl ∙ was) off)

    ended : IsUntaken last.commands (world_of new)
    ended =
        subst (IsUntaken last.commands) (sym (world_after End made new ends))
        (untaken_steps last.commands ends.steps (world_of made) (subst (λ (telling : Telling). IsUntaken last.commands (world_of telling)) (sym there) off_three))

-- ---- what the end leaves alone

shut_all : (P : Event → Type 0) → P (Write CORBCTL One 0) → P (Write RIRBCTL One 0) → P (Write GCTL Four 0) → All P shut_accesses
shut_all P one two three =
    All-cons P (Write CORBCTL One 0) (Write RIRBCTL One 0 ∷ Write GCTL Four 0 ∷ []) one
    (All-cons P (Write RIRBCTL One 0) (Write GCTL Four 0 ∷ []) two (All-cons P (Write GCTL Four 0) [] three (All-nil P)))

pub shut_stopped : All LeavesStopped shut_accesses
shut_stopped = shut_all LeavesStopped (inl (inl (omega arith))) (inl (inl (omega arith))) (inl (inl (omega arith)))

pub shut_rests : All LeavesRest shut_accesses
shut_rests =
    shut_all LeavesRest (inl (omega arith, inl (lit< tt))) (inl (omega arith, inl (lit< tt)))
    (inr (inr (record { place = refl; wide = refl; either = inl refl })))

pub shut_senses : (corb rirb : ℕ) → All (IsBesideSenses corb rirb) shut_accesses
shut_senses corb rirb = shut_all (IsBesideSenses corb rirb) (tt {0}) (tt {0}) (tt {0})

pub shut_plain : ArePlain shut_accesses
shut_plain = (refl, (refl, (refl, tt {0})))

-- steps of the device and the mark at the end leave alone what they may
pub end_all : (P : Event → Type 0) → ((step : Step) → P (Stepped step)) → P End → (steps : List Step) → All P (map Stepped steps ++ End ∷ [])
end_all P stepped end steps = All-append P (map Stepped steps) (End ∷ []) (all_map P Stepped stepped steps) (All-cons P End [] end (All-nil P))

-- ---- a stream that is over is stopped at each moment from then on

was_along : (ring : Ring) (pcm : List ℕ) (tally : Tally) (events : List Event) (world : World) → All LeavesStopped events → WasStopped ring pcm tally world → Along IsStopped events world
was_along ring pcm tally [] world all was = record { stopped = was.stopped; no_error = was.no_error }
was_along ring pcm tally (event ∷ events) world all was = (
  record { stopped = was.stopped; no_error = was.no_error },
  was_along ring pcm tally events (happens world event) (All-tail LeavesStopped event events all)
      (stopped_events ring pcm tally (event ∷ []) world (All-cons LeavesStopped event [] (All-head LeavesStopped event events all) (All-nil LeavesStopped)) was),
)

drained_along : (ring : Ring) (pcm : List ℕ) (tally : Tally) (events : List Event) (world : World) → All LeavesStopped events → HasDrained ring pcm tally world → Along IsStopped events world
drained_along ring pcm tally [] world all was = record { stopped = was.stopped; no_error = was.no_error }
drained_along ring pcm tally (event ∷ events) world all was = (
  record { stopped = was.stopped; no_error = was.no_error },
  drained_along ring pcm tally events (happens world event) (All-tail LeavesStopped event events all)
      (drained_events ring pcm tally (event ∷ []) world (All-cons LeavesStopped event [] (All-head LeavesStopped event events all) (All-nil LeavesStopped)) was),
)

pub over_along : (given_up : Bool) (ended : Ran) (ring : Ring) (pcm : List ℕ) (tally : Tally) (events : List Event) (world : World) → is_left_open given_up ended ≡ false → All LeavesStopped events → StreamLeft given_up ended ring pcm tally world
    → Along IsStopped events world
over_along true ended ring pcm tally events world over all was = was_along ring pcm tally events world all was
over_along false ran.Playing ring pcm tally events world over all was = absurd (false≢true (sym over))
over_along false ran.Drained ring pcm tally events world over all was = drained_along ring pcm tally events world all was
over_along false (ran.Late from to limit) ring pcm tally events world over all was = was_along ring pcm tally events world all was
