use Rattle.audio_driver.specs.States.{state_with}
use Rattle.sound_report.specs.declared.played.Played.{Played}
use Rattle.std.proofs.Common.{◌≡◌, ℕ, true, false, None, List, [], ◌++◌, length, refl, sym, ap, subst, ◌∙◌, arith}
use Rattle.stream_format.specs.declared.format.Format.{Format}
use Rattle.route_planner.specs.declared.routes.Plan.{Plan}
use Rattle.hda_files.specs.declared.machine.CodecFile.{CodecFile}
use Rattle.hda_world.specs.declared.world.TheConstants.{REGION_BYTES}
use Rattle.hda_world.specs.Events.{Event, AreHonest}
use Rattle.hda_world.specs.JournalEvents.{events_of}
use Rattle.driver_progress.specs.Tasks.{Task}
use Rattle.period_writer.specs.Runs.{Tally}
use Rattle.driver_bring_up.specs.Jacks.{Counts}
use Rattle.laws_driver.specs.Sounding.{Parts}
use Rattle.rig.specs.Follows.{Follows}
use Rattle.rig.specs.Rigs.{telling_of}
use Rattle.rig.specs.Replays.{start_of}
use Rattle.laws_start.specs.Tasks.{blocks_of}
use Rattle.route_setup.specs.Means.{analog}
use Rattle.codec_graph.specs.declared.pin_kind.PinKind.TheVariants.{Analog}
use Rattle.program_runs.specs.Outputs.{HavePlansOf, commands_as}
use Rattle.program_runs.specs.Events.{told_in}
use Rattle.program_runs.specs.Going.{parts_with}
use Rattle.program_runs.specs.Walks.{walk_format, walked_task}
use Rattle.program_runs.proofs.Counting.{few_lines}
use Rattle.program_runs.proofs.FedRings.{nothing_told, given_nothing, may_held, ends_held}
use Rattle.program_runs.proofs.Gone.{CanGo, Gone, gone, opened_can_go}
use Rattle.program_runs.proofs.Walked.{driven, none_recorded, walk_ends}
use Rattle.program_runs.proofs.walking.walk.Goals as goal

-- analog pins are a kind
pub command_count-requires-clause-plans : goal.command_count-requires-clause-plans
command_count-requires-clause-plans c =
    subst (λ (format : Format). HavePlansOf Analog format c.as_slice.result.now c.as_slice-2.result.now) (sym c.walk_format.ensures)
    (subst (λ (codecs : List CodecFile). HavePlansOf Analog walk_format codecs c.as_slice-2.result.now) (sym c.as_slice.ensures)
    (subst (λ (plans : List Plan). HavePlansOf Analog walk_format c.args.machine.codecs plans) (sym c.as_slice-2.ensures.value) c.requires.plans))

pub silent_driver-requires-clause-few : goal.silent_driver-requires-clause-few
silent_driver-requires-clause-few c =
    let lines = few_lines c.args.schedule.now in
    omega (arith, c.line_count.ensures, lines, c.requires.limits.steps)

-- a driver without sound is fed by nothing
pub drive-requires-clause-fed : goal.drive-requires-clause-fed
drive-requires-clause-fed c = record { source = None; first = nothing_told; is = given_nothing c.in_ok-driver.driver.supply c.in_ok-driver.ensures.supply }

-- the driver that was opened, with all that it gave and holds, and its task
abbrev sound_of : goal.After-from_vec-5 → List ℕ
sound_of c = (let driven = c.in_ok-driven.ensures.driven in driven.gave ++ driven.last.held)

abbrev opened : goal.After-from_vec-5 → Parts
opened c = (let driver = c.in_ok-driver.driver in parts_with driver.bring_up driver.writer (sound_of c))

whole : (c : goal.After-from_vec-5) → length c.in_ok-driven.ensures.driven.last.held ≡ c.in_ok-driven.ensures.driven.last.left
whole c = (c.in_ok-driven.ensures.driven.fed None nothing_told (given_nothing c.in_ok-driver.driver.supply c.in_ok-driver.ensures.supply)).whole

abbrev task_for : goal.After-from_vec-5 → Task
task_for c =
    walked_task c.args.machine c.args.plans.items c.in_ok-driver.ensures.fresh.geometry (blocks_of c.in_ok-driver.driver.bring_up c.in_ok-driver.driver.writer)

can_go : (c : goal.After-from_vec-5) → CanGo analog c.args.machine walk_format c.args.plans.items c.in_ok-driver.driver.play (task_for c) (opened c)
can_go c =
    let driver = c.in_ok-driver.driver in
    let fresh = c.in_ok-driver.ensures.fresh in
    let blocks = blocks_of driver.bring_up driver.writer in
    opened_can_go analog c.args.machine walk_format c.args.plans.items fresh.geometry _ driver.play false [] driver.bring_up driver.writer (sound_of c) c.in_ok-driver.ensures.play (λ plays. cc) fresh.opened fresh.apart fresh.ring.fifo_is
    fresh.ring.format_is
    (c.machines_have_tasks.ensures c.in_ok-driver.driver.setter walk_format c.args.machine c.args.plans.items fresh.geometry false [] blocks c.requires.sound c.requires.whole c.requires.plans c.requires.routed)
    (c.opened_drivers_can_begin.ensures c.in_ok-driver.driver.setter walk_format c.args.machine c.args.plans.items fresh.geometry false [] _ driver.bring_up driver.writer c.requires.sound c.requires.whole fresh.opened)
    (c.machines_rest.ensures c.args.machine)

-- where it has gone
over : (c : goal.After-from_vec-5) → Gone analog c.args.machine walk_format c.in_ok-driver.driver.play (task_for c) c.args.schedule.now (opened c) c.in_ok-driven.driven.closed (telling_of c.drive.new.rig).journal
over c =
    gone analog (λ format verbs graphs task is. c.drivers_keep_to_progress.ensures c.in_ok-driver.driver.setter format verbs graphs task is) c.args.machine walk_format c.args.plans.items c.in_ok-driver.driver.play
    (task_for c) c.args.schedule.now (opened c) c.in_ok-driven.driven.closed (telling_of c.in_ok-rig.rig) (telling_of c.drive.new.rig) (telling_of c.drive.new.rig).journal (can_go c) c.requires.limits
    c.in_ok-rig.ensures.told refl (c.in_ok-driven.ensures.driven.driven c.in_ok-driven.ensures.driven.last.held (may_held c.in_ok-driven.ensures.driven.last (whole c)) (ends_held c.in_ok-driven.ensures.driven.last (whole c)))

pub walk_fault-requires : goal.walk_fault-requires
walk_fault-requires c =
    walk_ends c.args.machine c.in_ok-driver.driver.play (task_for c) c.args.schedule.now (opened c) c.in_ok-driven.driven.closed (telling_of c.drive.new.rig).journal (over c) c.in_ok-driver.ensures.play (can_go c).fresh

pub returns : goal.returns
returns c =
    let earlier = c.before.before.before.before.before in
    let driver = c.in_ok-driver.driver in
    let fresh = c.in_ok-driver.ensures.fresh in
    let machine = c.args.machine in
    let gone = over earlier in
    let told = c.parts-machine.ensures.journal in
    let none = none_recorded machine driver.play (task_for earlier) c.args.schedule.now (opened earlier) c.in_ok-driven.driven.closed (telling_of c.drive.new.rig).journal gone c.in_ok-driver.ensures.play (can_go earlier).fresh in
    let played : Played = record {
      machine = c.parts-machine.result.0;
      format = c.walk_format-2.result;
      total = 0;
      read = 0;
      commands = c.in_ok-commands.commands;
      plans = c.from_vec.result;
      graphs = c.from_vec-2.result;
      runs = c.from_vec-3.result;
      silences = c.from_vec-4.result;
      heard = c.none.result;
      jacks = c.from_vec-5.result;
      journal = c.parts-machine.result.2;
      walk = true;
      fault = c.walk_fault.result;
      cut = None;
    } in
    let by = driven machine driver.play (task_for earlier) c.args.schedule.now (opened earlier) c.in_ok-driven.driven.closed (telling_of c.drive.new.rig).journal gone c.in_ok-driver.ensures.play (can_go earlier).fresh
    played told c.from_vec-2.ensures c.walk_fault.ensures in
    record {
      walk = refl;
      input = record {
        sound = c.requires.sound;
        machine_is = c.parts-machine.ensures.machine ∙ c.in_ok-driven.ensures.machine ∙ c.in_ok-rig.ensures.machine;
        plans_are = c.from_vec.ensures;
        format_is = c.walk_format-2.ensures;
        frames_are = refl;
      };
      silent = record {
        runs = c.from_vec-3.ensures ∙ gone.leaves.runs ∙ ap (λ (tally : Tally). tally.runs) none;
        silences = c.from_vec-4.ensures ∙ gone.leaves.silences ∙ ap (λ (tally : Tally). tally.silences) none;
        heard = c.none.ensures;
        unread = refl;
        uncut = refl;
      };
      geometry = fresh.geometry;
      ring = fresh.ring;
      blocks = blocks_of driver.bring_up driver.writer;
      first_fits = fresh.first_fits;
      run = record {
        state = state_with gone.ended gone.tally;
        history = record {
          replays = subst (λ (events : List Event). AreHonest events (start_of REGION_BYTES machine)) (sym told) gone.replays;
          follows = subst (Follows c.args.schedule.now) (sym told) gone.follows;
        };
        progress = by.progress;
        opened = by.opened;
        jacks = subst (λ jacks. Counts (told_in (events_of c.parts-machine.result.2)) jacks) (sym c.from_vec-5.ensures)
            (subst (λ (events : List Event). Counts (told_in events) c.in_ok-driven.driven.closed.jacks.items) (sym told) gone.jacks);
        commands = c.in_ok-commands.ensures
            ∙ ap (λ (codecs : List CodecFile). length (commands_as Analog c.walk_format.result codecs c.as_slice-2.result.now)) c.as_slice.ensures
            ∙ ap (λ (plans : List Plan). length (commands_as Analog c.walk_format.result machine.codecs plans)) c.as_slice-2.ensures.value
            ∙ ap (λ (f : Format). length (commands_as Analog f machine.codecs c.args.plans.items)) c.walk_format.ensures;
        ends = by.ends;
        fault = by.fault;
      };
    }
