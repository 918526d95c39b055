use Rattle.std.proofs.Common.{◌≡◌, ◌+◌, List, length, map, sym, ap, subst, ◌∙◌}
use Rattle.std.proofs.lemmas.Option.{slice_get_past}
use Rattle.world_steps.specs.declared.Step.{Step}
use Rattle.schedule_reader.specs.declared.schedule.Group.{Group}
use Rattle.hda_world.specs.Events.{Stepped}
use Rattle.hda_world.specs.Tellings.{Went}
use Rattle.hda_world.proofs.Callers.{went_none}
use Rattle.rig.specs.Recordings.{HasRoomFor, items_for}
use Rattle.rig.specs.Rigs.{told_of}
use Rattle.rig.specs.Rooms.{steps_of, steps_before}
use Rattle.rig.proofs.Turns.{slice_get_here}
use Rattle.rig.proofs.groups.pass.Goals as goal

pub returns-then-number-groups-clause-room : goal.returns-then-number-groups-clause-room
returns-then-number-groups-clause-room c entries bytes items room =
    let before : steps_before c.args.number c.args.groups.now ≡ c.as_slice.result.now =
    ap steps_of (slice_get_here c.args.groups.now c.args.number _ _ c.if-number-groups.true c.index-groups-number.is) ∙ (ap (λ (group : Group). group.steps) c.index-groups-number.is ∙ sym c.as_slice.ensures) in
    c.make_steps.ensures.room entries bytes items
    (subst (λ (steps : List Step). HasRoomFor (length steps + entries) bytes (items_for steps + items) c.args.recording.now.journal c.args.recording.now.heard c.args.recording.now.came) before room)

pub returns-else-number-groups-clause-told : goal.returns-else-number-groups-clause-told
returns-else-number-groups-clause-told c =
    subst (λ (steps : List Step). Went (told_of c.args.recording.now) (told_of c.args.recording.now) (map Stepped steps))
    (sym (ap steps_of (slice_get_past c.args.groups.now c.args.number c.if-number-groups.false))) (went_none _)
