use Rattle.audio_driver.specs.States.{state_with}
use Rattle.std.proofs.Common.{◌≡◌, ◌≤◌, ◌+◌, ◌%◌, ℕ, true, false, List, length, map, Some, refl, sym, ap, subst, ◌∙◌, arith}
use Rattle.stream_format.specs.Cadence.{block_bytes}
use Rattle.route_planner.specs.declared.routes.Plan.{Plan}
use Rattle.hda_files.specs.declared.machine.CodecFile.{CodecFile}
use Rattle.hda_files.specs.declared.machine.Machine.{Machine}
use Rattle.hda_world.specs.declared.world.TheConstants.{REGION_BYTES}
use Rattle.hda_world.specs.Events.{Event, AreHonest}
use Rattle.hda_world.specs.Tellings.{Telling, world_of}
use Rattle.hda_world.specs.JournalEvents.{events_of}
use Rattle.sound_report.specs.declared.played.Played.{Played}
use Rattle.driver_bring_up.specs.Jacks.{Counts}
use Rattle.period_writer.specs.Runs.{measures}
use Rattle.rig.specs.Follows.{Follows}
use Rattle.codec_graph.specs.declared.pin_kind.PinKind.{PinKind}
use Rattle.rig.specs.Rigs.{setting_of, telling_of}
use Rattle.rig.specs.Replays.{AreHeardInAs, start_of, telling_from}
use Rattle.heard_lists.specs.Listings.{AreListsAs, graphs_in, handed_out}
use Rattle.laws_start.specs.Tasks.{blocks_of}
use Rattle.program_runs.specs.Events.{told_in}
use Rattle.program_runs.specs.Feeding.{Shelves, Streams, shelves_of}
use Rattle.program_runs.specs.FrameCounts.{written_by}
use Rattle.program_runs.specs.Reading.{frames_read}
use Rattle.program_runs.specs.Going.{parts_with}
use Rattle.program_runs.specs.Hearing.{lists_heard}
use Rattle.digital_out.specs.declared.outputs.Outputs.{Outputs}
use Rattle.digital_out.specs.Means.{outputs}
use Rattle.program_runs.specs.Outputs.{HavePlansOf, commands_as}
use Rattle.program_runs.specs.Plays.{IsPlayedFrom, play_fault, sound_with}
use Rattle.program_runs.proofs.Counting.{few_lines}
use Rattle.program_runs.proofs.FedRings.{first_supply, ring_whole}
use Rattle.program_runs.proofs.Gone.{opened_can_go}
use Rattle.program_runs.proofs.Listed.{lists_are}
use Rattle.program_runs.proofs.LineRecorded.{RunLaws, ring_some}
use Rattle.program_runs.proofs.Played.{driven}
use Rattle.program_runs.proofs.PlayedFrom.{source_for, fed_at_open, beside_first, sound_is_read, cut_is_under, none_empty, frames_given, given_most, not_memory}
use Rattle.program_runs.proofs.PlayedOver.{CanPlayFrom, sound, streams, some_block, over, used, ends_at, end_is, few}
use Rattle.program_runs.proofs.playing.play.Given.{Over}
use Rattle.program_runs.proofs.playing.play.Goals.{After-block_bytes-2, After-drop-closed-3}
use Rattle.program_runs.proofs.playing.play.Goals as goal
use Rattle.stream_format.proofs.Callers.{some_block as some_bytes}

pub open_driver-requires : goal.open_driver-requires
open_driver-requires g c =
    let lines = few_lines c.args.schedule.now in
    omega (arith, c.line_count.ensures, lines, c.requires.limits.steps)

pub stream-requires-clause-some : goal.stream-requires-clause-some
stream-requires-clause-some g c = subst (λ (ring : ℕ). 1 ≤ ring) (sym c.ring.ensures) (ring_some c.args.geometry)

pub stream-requires-clause-blocks : goal.stream-requires-clause-blocks
stream-requires-clause-blocks g c =
    ap (λ (ring : ℕ). ring % block_bytes c.args.head.format) c.ring.ensures ∙ ring_whole c.args.geometry.periods c.args.geometry.period c.args.head.format

pub drive-requires-clause-fed : goal.drive-requires-clause-fed
drive-requires-clause-fed g c =
    let driver = c.in_ok-driver.driver in
    let ring = (measures c.args.geometry).ring in
    let shelf = shelves_of (g.S.Shelf.told c.args.shelf.now) (g.S.Shelf.faults c.args.shelf.now) (g.S.Shelf.empties c.args.shelf.now) (g.S.Shelf.given c.args.shelf.now) in
    let supply : driver.supply ≡ first_supply (source_for c.args.name.now c.args.head ring) =
    c.in_ok-driver.ensures.supply ∙ c.in_ok-supply.ensures ∙ ap (λ (ring : ℕ). first_supply (source_for c.args.name.now c.args.head ring)) c.ring.ensures in
    record {
      source = Some (source_for c.args.name.now c.args.head ring);
      first = shelf;
      is = fed_at_open c.args.name.now c.args.head c.args.geometry shelf driver.supply driver.writer supply c.in_ok-driver.ensures.opened.geometry_is c.requires.format;
    }

pub returns-clause-asked : goal.returns-clause-asked
returns-clause-asked g c other beside =
    c.in_ok-driven.ensures.asked other
    (beside_first c.args.name.now c.args.head (measures c.args.geometry).ring c.in_ok-driver.driver.supply other
    (c.in_ok-driver.ensures.supply ∙ c.in_ok-supply.ensures ∙ ap (λ (ring : ℕ). first_supply (source_for c.args.name.now c.args.head ring)) c.ring.ensures) beside)

pub returns-in_err-cut-clause-asked : goal.returns-in_err-cut-clause-asked
returns-in_err-cut-clause-asked g c other beside =
    c.in_ok-driven.ensures.asked other
    (beside_first c.args.name.now c.args.head (measures c.args.geometry).ring c.in_ok-driver.driver.supply other
    (c.in_ok-driver.ensures.supply ∙ c.in_ok-supply.ensures ∙ ap (λ (ring : ℕ). first_supply (source_for c.args.name.now c.args.head ring)) c.ring.ensures) beside)

pub frames_read-read-requires : goal.frames_read-read-requires
frames_read-read-requires g c =
    let some = some_bytes c.args.head.format in
    omega (arith, some, c.block_bytes.ensures)

-- how the driver was opened, at the two places where it is asked for: it sets pins of the kind up that is asked for, and the plans are those of its pins
kind_before : (g : Over) (c : After-block_bytes-2 g) → c.in_ok-driver.driver.setter.kind ≡ c.args.kind
kind_before g c = ap (λ (setter : Outputs). setter.kind) c.in_ok-driver.ensures.setter

kind_after : (g : Over) (c : After-drop-closed-3 g) → c.in_ok-driver.driver.setter.kind ≡ c.args.kind
kind_after g c = ap (λ (setter : Outputs). setter.kind) c.in_ok-driver.ensures.setter

planned_before : (g : Over) (c : After-block_bytes-2 g) → HavePlansOf c.in_ok-driver.driver.setter.kind c.args.head.format c.args.machine.codecs c.args.plans.items
planned_before g c = subst (λ (kind : PinKind). HavePlansOf kind c.args.head.format c.args.machine.codecs c.args.plans.items) (sym (kind_before g c)) c.requires.plans

planned_after : (g : Over) (c : After-drop-closed-3 g) → HavePlansOf c.in_ok-driver.driver.setter.kind c.args.head.format c.args.machine.codecs c.args.plans.items
planned_after g c = subst (λ (kind : PinKind). HavePlansOf kind c.args.head.format c.args.machine.codecs c.args.plans.items) (sym (kind_after g c)) c.requires.plans

can_before : (g : Over) (c : After-block_bytes-2 g) → CanPlayFrom c.in_ok-driver.driver.setter.kind c.args.machine c.args.plans.items c.args.head c.args.name.now c.args.geometry c.args.schedule.now c.in_ok-driver.driver.bring_up c.in_ok-driver.driver.writer c.in_ok-driver.driver.supply c.in_ok-driver.driver.play c.in_ok-rig.rig
can_before g c = record {
  keeps = λ format verbs graphs task is. c.drivers_keep_to_progress.ensures c.in_ok-driver.driver.setter format verbs graphs task is;
  plays = c.in_ok-driver.ensures.play;
  supply_is = c.in_ok-driver.ensures.supply ∙ c.in_ok-supply.ensures ∙ ap (λ (ring : ℕ). first_supply (source_for c.args.name.now c.args.head ring)) c.ring.ensures;
  ring_is = c.in_ok-driver.ensures.opened.geometry_is;
  format_is = c.requires.format;
  short = c.requires.short;
  within = c.requires.within;
  limited = c.requires.limits;
  start = c.in_ok-rig.ensures.told;
  can_go = λ pcm.
      opened_can_go (outputs c.in_ok-driver.driver.setter.kind) c.args.machine c.args.head.format c.args.plans.items c.args.geometry _ c.in_ok-driver.driver.play true pcm c.in_ok-driver.driver.bring_up
      c.in_ok-driver.driver.writer pcm c.in_ok-driver.ensures.play (λ plays. refl) c.in_ok-driver.ensures.opened c.in_ok-driver.ensures.apart c.requires.fifo c.requires.format
      (c.machines_have_tasks.ensures c.in_ok-driver.driver.setter c.args.head.format c.args.machine c.args.plans.items c.args.geometry true pcm (blocks_of c.in_ok-driver.driver.bring_up c.in_ok-driver.driver.writer)
      c.requires.sound c.requires.whole (planned_before g c) c.requires.routed)
      (c.opened_drivers_can_begin.ensures c.in_ok-driver.driver.setter c.args.head.format c.args.machine c.args.plans.items c.args.geometry true pcm _ c.in_ok-driver.driver.bring_up c.in_ok-driver.driver.writer
      c.requires.sound c.requires.whole c.in_ok-driver.ensures.opened)
      (c.machines_rest.ensures c.args.machine);
}

can_after : (g : Over) (c : After-drop-closed-3 g) → CanPlayFrom c.in_ok-driver.driver.setter.kind c.args.machine c.args.plans.items c.args.head c.args.name.now c.args.geometry c.args.schedule.now c.in_ok-driver.driver.bring_up c.in_ok-driver.driver.writer c.in_ok-driver.driver.supply c.in_ok-driver.driver.play c.in_ok-rig.rig
can_after g c = record {
  keeps = λ format verbs graphs task is. c.drivers_keep_to_progress.ensures c.in_ok-driver.driver.setter format verbs graphs task is;
  plays = c.in_ok-driver.ensures.play;
  supply_is = c.in_ok-driver.ensures.supply ∙ c.in_ok-supply.ensures ∙ ap (λ (ring : ℕ). first_supply (source_for c.args.name.now c.args.head ring)) c.ring.ensures;
  ring_is = c.in_ok-driver.ensures.opened.geometry_is;
  format_is = c.requires.format;
  short = c.requires.short;
  within = c.requires.within;
  limited = c.requires.limits;
  start = c.in_ok-rig.ensures.told;
  can_go = λ pcm.
      opened_can_go (outputs c.in_ok-driver.driver.setter.kind) c.args.machine c.args.head.format c.args.plans.items c.args.geometry _ c.in_ok-driver.driver.play true pcm c.in_ok-driver.driver.bring_up
      c.in_ok-driver.driver.writer pcm c.in_ok-driver.ensures.play (λ plays. refl) c.in_ok-driver.ensures.opened c.in_ok-driver.ensures.apart c.requires.fifo c.requires.format
      (c.machines_have_tasks.ensures c.in_ok-driver.driver.setter c.args.head.format c.args.machine c.args.plans.items c.args.geometry true pcm (blocks_of c.in_ok-driver.driver.bring_up c.in_ok-driver.driver.writer)
      c.requires.sound c.requires.whole (planned_after g c) c.requires.routed)
      (c.opened_drivers_can_begin.ensures c.in_ok-driver.driver.setter c.args.head.format c.args.machine c.args.plans.items c.args.geometry true pcm _ c.in_ok-driver.driver.bring_up c.in_ok-driver.driver.writer
      c.requires.sound c.requires.whole c.in_ok-driver.ensures.opened)
      (c.machines_rest.ensures c.args.machine);
}

pub play_fault-fault-requires-clause-can_end : goal.play_fault-fault-requires-clause-can_end
play_fault-fault-requires-clause-can_end g c =
    end_is c.in_ok-driver.driver.setter.kind c.args.machine c.args.plans.items c.args.head c.args.name.now c.args.geometry c.args.schedule.now c.in_ok-driver.driver.bring_up c.in_ok-driver.driver.writer c.in_ok-driver.driver.supply
    c.in_ok-driver.driver.play c.in_ok-rig.rig c.drive.new.rig (shelves_of (g.S.Shelf.told c.args.shelf.now) (g.S.Shelf.faults c.args.shelf.now) (g.S.Shelf.empties c.args.shelf.now) (g.S.Shelf.given c.args.shelf.now)) (shelves_of (g.S.Shelf.told c.drive.new.shelf) (g.S.Shelf.faults c.drive.new.shelf) (g.S.Shelf.empties c.drive.new.shelf) (g.S.Shelf.given c.drive.new.shelf)) c.drive.new.cut c.in_ok-driven.driven.closed c.in_ok-driven.driven.read (can_before g c) c.in_ok-driven.ensures.driven

pub play_fault-fault-requires-clause-few : goal.play_fault-fault-requires-clause-few
play_fault-fault-requires-clause-few g c =
    few c.in_ok-driver.driver.setter.kind c.args.machine c.args.plans.items c.args.head c.args.name.now c.args.geometry c.args.schedule.now c.in_ok-driver.driver.bring_up c.in_ok-driver.driver.writer c.in_ok-driver.driver.supply
    c.in_ok-driver.driver.play c.in_ok-rig.rig c.drive.new.rig (shelves_of (g.S.Shelf.told c.args.shelf.now) (g.S.Shelf.faults c.args.shelf.now) (g.S.Shelf.empties c.args.shelf.now) (g.S.Shelf.given c.args.shelf.now)) (shelves_of (g.S.Shelf.told c.drive.new.shelf) (g.S.Shelf.faults c.drive.new.shelf) (g.S.Shelf.empties c.drive.new.shelf) (g.S.Shelf.given c.drive.new.shelf)) c.drive.new.cut c.in_ok-driven.driven.closed c.in_ok-driven.driven.read (can_before g c) c.in_ok-driven.ensures.driven

-- the reading was never cut for want of memory
pub cut_line-requires : goal.cut_line-requires
cut_line-requires g c =
    let driver = c.in_ok-driver.driver in
    let source = source_for c.args.name.now c.args.head (measures c.args.geometry).ring in
    let first = (shelves_of (g.S.Shelf.told c.args.shelf.now) (g.S.Shelf.faults c.args.shelf.now) (g.S.Shelf.empties c.args.shelf.now) (g.S.Shelf.given c.args.shelf.now)) in
    let now = (shelves_of (g.S.Shelf.told c.drive.new.shelf) (g.S.Shelf.faults c.drive.new.shelf) (g.S.Shelf.empties c.drive.new.shelf) (g.S.Shelf.given c.drive.new.shelf)) in
    let supply = c.in_ok-driver.ensures.supply ∙ c.in_ok-supply.ensures ∙ ap (λ (ring : ℕ). first_supply (source_for c.args.name.now c.args.head ring)) c.ring.ensures in
    let fed = c.in_ok-driven.ensures.driven.fed (Some source) first (fed_at_open c.args.name.now c.args.head c.args.geometry first driver.supply driver.writer supply c.in_ok-driver.ensures.opened.geometry_is c.requires.format) in
    not_memory c.drive.new.cut source (first c.args.name.now) (now c.args.name.now) fed.cause

module _ (g : Over) (c : After-drop-closed-3 g) where
  abbrev first : Shelves
  first = shelves_of (g.S.Shelf.told c.args.shelf.now) (g.S.Shelf.faults c.args.shelf.now) (g.S.Shelf.empties c.args.shelf.now) (g.S.Shelf.given c.args.shelf.now)

  abbrev now : Shelves
  now = shelves_of (g.S.Shelf.told c.drive.new.shelf) (g.S.Shelf.faults c.drive.new.shelf) (g.S.Shelf.empties c.drive.new.shelf) (g.S.Shelf.given c.drive.new.shelf)

  abbrev sound_of : List ℕ
  sound_of = sound c.in_ok-driver.driver.setter.kind c.args.machine c.args.plans.items c.args.head c.args.name.now c.args.geometry c.args.schedule.now c.in_ok-driver.driver.bring_up c.in_ok-driver.driver.writer c.in_ok-driver.driver.supply
      c.in_ok-driver.driver.play c.in_ok-rig.rig c.drive.new.rig (shelves_of (g.S.Shelf.told c.args.shelf.now) (g.S.Shelf.faults c.args.shelf.now) (g.S.Shelf.empties c.args.shelf.now) (g.S.Shelf.given c.args.shelf.now)) (shelves_of (g.S.Shelf.told c.drive.new.shelf) (g.S.Shelf.faults c.drive.new.shelf) (g.S.Shelf.empties c.drive.new.shelf) (g.S.Shelf.given c.drive.new.shelf)) c.drive.new.cut c.in_ok-driven.driven.closed c.in_ok-driven.driven.read (can_after g c) c.in_ok-driven.ensures.driven

  streamed : Streams (measures c.args.geometry) (source_for c.args.name.now c.args.head (measures c.args.geometry).ring) (first c.args.name.now) (now c.args.name.now) c.drive.new.cut
      c.in_ok-driven.ensures.driven.last c.in_ok-driven.ensures.driven.course
  streamed = streams c.in_ok-driver.driver.setter.kind c.args.machine c.args.plans.items c.args.head c.args.name.now c.args.geometry c.args.schedule.now c.in_ok-driver.driver.bring_up c.in_ok-driver.driver.writer c.in_ok-driver.driver.supply
      c.in_ok-driver.driver.play c.in_ok-rig.rig c.drive.new.rig (shelves_of (g.S.Shelf.told c.args.shelf.now) (g.S.Shelf.faults c.args.shelf.now) (g.S.Shelf.empties c.args.shelf.now) (g.S.Shelf.given c.args.shelf.now)) (shelves_of (g.S.Shelf.told c.drive.new.shelf) (g.S.Shelf.faults c.drive.new.shelf) (g.S.Shelf.empties c.drive.new.shelf) (g.S.Shelf.given c.drive.new.shelf)) c.drive.new.cut c.in_ok-driven.driven.closed c.in_ok-driven.driven.read (can_after g c) c.in_ok-driven.ensures.driven

  block_there : block_bytes c.args.head.format ≡ (measures c.args.geometry).block
  block_there = ap block_bytes (sym c.requires.format)

  block_some : 1 ≤ (measures c.args.geometry).block
  block_some = some_block c.in_ok-driver.driver.setter.kind c.args.machine c.args.plans.items c.args.head c.args.name.now c.args.geometry c.args.schedule.now c.in_ok-driver.driver.bring_up c.in_ok-driver.driver.writer c.in_ok-driver.driver.supply
      c.in_ok-driver.driver.play c.in_ok-rig.rig c.drive.new.rig (shelves_of (g.S.Shelf.told c.args.shelf.now) (g.S.Shelf.faults c.args.shelf.now) (g.S.Shelf.empties c.args.shelf.now) (g.S.Shelf.given c.args.shelf.now)) (shelves_of (g.S.Shelf.told c.drive.new.shelf) (g.S.Shelf.faults c.drive.new.shelf) (g.S.Shelf.empties c.drive.new.shelf) (g.S.Shelf.given c.drive.new.shelf)) c.drive.new.cut c.in_ok-driven.driven.closed c.in_ok-driven.driven.read (can_after g c) c.in_ok-driven.ensures.driven

  -- the machine at the end
  machine_there : (setting_of c.drive.new.rig).machine ≡ c.args.machine
  machine_there = c.in_ok-driven.ensures.machine ∙ c.in_ok-rig.ensures.machine

  -- and its lists are those of the pins that the driver set up
  kind_there : (setting_of c.drive.new.rig).kind ≡ c.in_ok-driver.driver.setter.kind
  kind_there = c.in_ok-driven.ensures.kind ∙ (c.in_ok-rig.ensures.kind ∙ sym (kind_after g c))

  -- so many frames were read
  read_counted : c.frames_read-read.result ≡ frames_read c.drive.new.cut (c.in_ok-driven.ensures.driven.last.taken + length c.in_ok-driven.ensures.driven.last.held) (measures c.args.geometry).block c.args.head.frames
  read_counted =
      c.frames_read-read.ensures ∙ ap (λ (bytes : ℕ). frames_read c.drive.new.cut bytes c.block_bytes.result c.args.head.frames) c.in_ok-driven.ensures.driven.read_is
      ∙ ap (λ (block : ℕ). frames_read c.drive.new.cut (c.in_ok-driven.ensures.driven.last.taken + length c.in_ok-driven.ensures.driven.last.held) block c.args.head.frames)
      (c.block_bytes.ensures ∙ block_there)

pub returns-clause-cut : goal.returns-clause-cut
returns-clause-cut g c =
    let driven = c.in_ok-driven.ensures.driven in
    cut_is_under c.args.name.now c.args.head (measures c.args.geometry) driven.gave (first g c) (now g c) c.drive.new.cut c.in_ok-driver.driver.supply driven.last driven.course driven.took (can_after g c).supply_is (block_some g c) (streamed g c)
    c.frames_read-read.result c.in_ok-cut.cut (read_counted g c) c.in_ok-cut.ensures

pub returns-clause-not_short : goal.returns-clause-not_short
returns-clause-not_short g c =
    let driven = c.in_ok-driven.ensures.driven in
    none_empty c.args.name.now c.args.head (measures c.args.geometry) driven.gave (first g c) (now g c) c.drive.new.cut c.in_ok-driver.driver.supply driven.last driven.course driven.took (can_after g c).supply_is (block_some g c) (streamed g c)
    c.in_ok-cut.cut c.in_ok-cut.ensures

pub returns-clause-frames : goal.returns-clause-frames
returns-clause-frames g c =
    let driven = c.in_ok-driven.ensures.driven in
    frames_given c.args.name.now c.args.head (measures c.args.geometry) driven.gave (first g c) (now g c) c.drive.new.cut c.in_ok-driver.driver.supply driven.last driven.course driven.took (can_after g c).supply_is (block_some g c) (streamed g c)
    c.frames_read-read.result (read_counted g c)

pub returns-clause-given : goal.returns-clause-given
returns-clause-given g c =
    let driven = c.in_ok-driven.ensures.driven in
    let written = used c.in_ok-driver.driver.setter.kind c.args.machine c.args.plans.items c.args.head c.args.name.now c.args.geometry c.args.schedule.now c.in_ok-driver.driver.bring_up c.in_ok-driver.driver.writer c.in_ok-driver.driver.supply
    c.in_ok-driver.driver.play c.in_ok-rig.rig c.drive.new.rig (shelves_of (g.S.Shelf.told c.args.shelf.now) (g.S.Shelf.faults c.args.shelf.now) (g.S.Shelf.empties c.args.shelf.now) (g.S.Shelf.given c.args.shelf.now)) (shelves_of (g.S.Shelf.told c.drive.new.shelf) (g.S.Shelf.faults c.drive.new.shelf) (g.S.Shelf.empties c.drive.new.shelf) (g.S.Shelf.given c.drive.new.shelf)) c.drive.new.cut c.in_ok-driven.driven.closed c.in_ok-driven.driven.read (can_after g c) c.in_ok-driven.ensures.driven in
    given_most c.args.name.now c.args.head (measures c.args.geometry) driven.gave (first g c) (now g c) c.drive.new.cut c.in_ok-driver.driver.supply driven.last driven.course driven.took (can_after g c).supply_is (block_some g c) (streamed g c)
    (written_by c.from_vec-3.result) (subst (λ runs. driven.course.used ≤ written_by runs) (sym c.from_vec-3.ensures) written)

pub returns-clause-played : goal.returns-clause-played
returns-clause-played g c =
    let driver = c.in_ok-driver.driver in
    let kind = driver.setter.kind in
    let machine = c.args.machine in
    let head = c.args.head in
    let wav = sound_with c.args.head (sound_of g c) in
    let blocks = blocks_of driver.bring_up driver.writer in
    let opened = parts_with driver.bring_up driver.writer (sound_of g c) in
    let closed = c.in_ok-driven.driven.closed in
    let was = over c.in_ok-driver.driver.setter.kind c.args.machine c.args.plans.items c.args.head c.args.name.now c.args.geometry c.args.schedule.now c.in_ok-driver.driver.bring_up c.in_ok-driver.driver.writer c.in_ok-driver.driver.supply c.in_ok-driver.driver.play c.in_ok-rig.rig c.drive.new.rig (shelves_of (g.S.Shelf.told c.args.shelf.now) (g.S.Shelf.faults c.args.shelf.now) (g.S.Shelf.empties c.args.shelf.now) (g.S.Shelf.given c.args.shelf.now)) (shelves_of (g.S.Shelf.told c.drive.new.shelf) (g.S.Shelf.faults c.drive.new.shelf) (g.S.Shelf.empties c.drive.new.shelf) (g.S.Shelf.given c.drive.new.shelf)) c.drive.new.cut c.in_ok-driven.driven.closed c.in_ok-driven.driven.read (can_after g c) c.in_ok-driven.ensures.driven in
    let told = c.parts-machine.ensures.journal in
    let driven_so = c.in_ok-driven.ensures.driven in
    let played : Played = record {
      machine = c.parts-machine.result.0;
      format = head.format;
      total = head.frames;
      read = c.frames_read-read.result;
      commands = c.in_ok-commands.commands;
      plans = c.from_vec.result;
      graphs = c.from_vec-2.result;
      runs = c.from_vec-3.result;
      silences = c.from_vec-4.result;
      heard = c.into_lists.result;
      jacks = c.from_vec-5.result;
      journal = c.parts-machine.result.2;
      walk = false;
      fault = c.play_fault-fault.result;
      cut = c.in_ok-cut.cut;
    } in
    let laws : RunLaws = record {
      opened = c.runs_keep_the_course.ensures.opened;
      kept = c.runs_keep_the_course.ensures.kept;
      late = c.runs_keep_the_course.ensures.late;
      line_opened = c.runs_write_the_line.ensures.opened;
      line_kept = c.runs_write_the_line.ensures.kept;
      line_late = c.runs_write_the_line.ensures.late;
    } in
    let journal = (telling_of c.drive.new.rig).journal in
    let told_at : telling_of c.drive.new.rig ≡ telling_from REGION_BYTES machine journal =
    ends_at c.in_ok-driver.driver.setter.kind c.args.machine c.args.plans.items c.args.head c.args.name.now c.args.geometry c.args.schedule.now c.in_ok-driver.driver.bring_up c.in_ok-driver.driver.writer c.in_ok-driver.driver.supply c.in_ok-driver.driver.play c.in_ok-rig.rig c.drive.new.rig (shelves_of (g.S.Shelf.told c.args.shelf.now) (g.S.Shelf.faults c.args.shelf.now) (g.S.Shelf.empties c.args.shelf.now) (g.S.Shelf.given c.args.shelf.now)) (shelves_of (g.S.Shelf.told c.drive.new.shelf) (g.S.Shelf.faults c.drive.new.shelf) (g.S.Shelf.empties c.drive.new.shelf) (g.S.Shelf.given c.drive.new.shelf)) c.drive.new.cut c.in_ok-driven.driven.closed c.in_ok-driven.driven.read (can_after g c) c.in_ok-driven.ensures.driven in
    let heard : map handed_out c.parts-machine.result.1 ≡ lists_heard kind (world_of (telling_from REGION_BYTES machine journal)).carried machine.codecs c.args.plans.items =
    lists_are c.one_order_of_each_kind.ensures kind head.format machine.codecs c.args.plans.items (world_of (telling_from REGION_BYTES machine journal)) c.parts-machine.result.1
    (subst (λ (kind : PinKind). AreHeardInAs kind (world_of (telling_from REGION_BYTES machine journal)) c.parts-machine.result.1) (kind_there g c)
    (subst (λ (telling : Telling). AreHeardInAs (setting_of c.drive.new.rig).kind (world_of telling) c.parts-machine.result.1) told_at
    c.parts-machine.ensures.heard))
    (subst (λ (kind : PinKind). ∥ AreListsAs kind (graphs_in machine.codecs) c.parts-machine.result.1 ∥₁) (kind_there g c)
    (subst (λ (machine : Machine). ∥ AreListsAs (setting_of c.drive.new.rig).kind (graphs_in machine.codecs) c.parts-machine.result.1 ∥₁) (machine_there g c) c.parts-machine.ensures.pins))
    (planned_after g c) in
    let by = driven kind machine c.args.plans.items wav c.args.geometry blocks c.args.schedule.now opened closed journal was
    laws played told (sym (can_after g c).ring_is) c.requires.format (planned_after g c) c.from_vec-2.ensures c.from_vec-3.ensures c.from_vec-4.ensures
    (c.into_lists.ensures ∙ heard)
    (c.play_fault-fault.ensures
    ∙ ap (λ (block : ℕ). play_fault closed.phase closed.sent c.in_ok-commands.commands block head.frames closed.runs.items closed.silences.items) c.block_bytes-2.ensures) in
    let from : IsPlayedFrom kind (g.S.Shelf.told c.args.shelf.now) c.args.name.now head machine c.args.plans.items c.args.geometry c.args.schedule.now played = record {
      pcm = sound_of g c;
      sound = sound_is_read c.args.name.now head (measures c.args.geometry) driven_so.gave (first g c) (now g c) c.drive.new.cut driver.supply driven_so.last driven_so.course driven_so.took (can_after g c).supply_is (block_some g c) (streamed g c)
          played (block_there g c)
          (c.frames_read-read.ensures ∙ ap (λ (bytes : ℕ). frames_read c.drive.new.cut bytes c.block_bytes.result head.frames) driven_so.read_is
          ∙ ap (λ (block : ℕ). frames_read c.drive.new.cut (driven_so.last.taken + length driven_so.last.held) block head.frames) (c.block_bytes.ensures ∙ block_there g c))
          c.in_ok-cut.ensures;
      run = record {
        no_walk = refl;
        input = record {
          sound = c.requires.sound;
          machine_is = c.parts-machine.ensures.machine ∙ c.in_ok-driven.ensures.machine ∙ c.in_ok-rig.ensures.machine;
          plans_are = c.from_vec.ensures;
          format_is = refl;
          frames_are = refl;
        };
        blocks = blocks;
        first_fits = c.in_ok-driver.ensures.first_fits;
        run = record {
          state = state_with was.ended was.tally;
          history = record {
            replays = subst (λ (events : List Event). AreHonest events (start_of REGION_BYTES machine)) (sym told) was.replays;
            follows = subst (Follows c.args.schedule.now) (sym told) was.follows;
          };
          progress = by.progress;
          opened = by.opened;
          runs = by.runs;
          heard = by.heard;
          jacks = subst (λ jacks. Counts (told_in (events_of c.parts-machine.result.2)) jacks) (sym c.from_vec-5.ensures)
              (subst (λ (events : List Event). Counts (told_in events) closed.jacks.items) (sym told) was.jacks);
          commands = c.in_ok-commands.ensures
              ∙ ap (λ (codecs : List CodecFile). length (commands_as c.args.kind head.format codecs c.as_slice-2.result.now)) c.as_slice.ensures
              ∙ ap (λ (plans : List Plan). length (commands_as c.args.kind head.format machine.codecs plans)) c.as_slice-2.ensures.value
              ∙ ap (λ (kind : PinKind). length (commands_as kind head.format machine.codecs c.args.plans.items)) (sym (kind_after g c));
          ends = by.ends;
          fault = by.fault;
        };
      };
    } in
    subst (λ (kind : PinKind). IsPlayedFrom kind (g.S.Shelf.told c.args.shelf.now) c.args.name.now head machine c.args.plans.items c.args.geometry c.args.schedule.now played) (kind_after g c) from
