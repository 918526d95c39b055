use Rattle.std.proofs.Common.{◌≡◌, ◌+◌, ℕ, List, length, get_or, take, map, refl, sym, ap, subst, ◌∙◌, arith}
use Rattle.std.proofs.lemmas.List.Sums.{sum_by_more, sum_by_more_le}
use Rattle.world_steps.specs.declared.Step.{Step}
use Rattle.hda_world.specs.Events.{Stepped}
use Rattle.schedule_reader.specs.declared.schedule.Group.{Group}
use Rattle.hda_world.specs.Tellings.{Went}
use Rattle.hda_world.proofs.Callers.{went_none}
use Rattle.rig.specs.Recordings.{HasRoomFor, items_for}
use Rattle.rig.specs.Rigs.{told_of}
use Rattle.rig.specs.Rooms.{step_count, item_count}
use Rattle.rig.specs.Stretches.{all_steps_in}
use Rattle.rig.proofs.Rooming.{turn_room, turn_asked, start_room}
use Rattle.rig.proofs.Turns.{group_told, all_taken}
use Rattle.rig.proofs.groups.pass_all.Goals as goal

pub loop-group-init : goal.loop-group-init
loop-group-init c = record { told = went_none _; machine = refl; kind = refl; sound = refl; room = λ entries bytes items. start_room entries bytes items _ _ _ }

pub make_steps-requires : goal.make_steps-requires
make_steps-requires c =
    let i = c.loop-group.group-index in
    let here : c.group-item.result.steps ≡ c.as_slice.result.now = sym c.as_slice.ensures in
    let at : (get_or c.args.groups.now i c.group-item.result).steps ≡ c.as_slice.result.now = ap (λ (group : Group). group.steps) (sym c.group-item.is) ∙ here in
    subst (λ (steps : List Step). HasRoomFor (length steps) 0 (items_for steps) c.loop-group.recording.journal c.loop-group.recording.heard c.loop-group.recording.came) at
    (turn_asked (step_count c.args.groups.now) (step_count (take i c.args.groups.now)) (length (get_or c.args.groups.now i c.group-item.result).steps)
    (item_count c.args.groups.now) (item_count (take i c.args.groups.now)) (items_for (get_or c.args.groups.now i c.group-item.result).steps) _ _ _ _ _ _
    c.loop-group.invariant.room (sum_by_more_le (λ (group : Group). length group.steps) c.args.groups.now i c.group-item.result c.loop-group-test.true)
    (sum_by_more_le (λ (group : Group). items_for group.steps) c.args.groups.now i c.group-item.result c.loop-group-test.true) c.requires)

pub loop-group-preserved : goal.loop-group-preserved
loop-group-preserved c =
    let i = c.loop-group.group-index in
    let at : c.as_slice.result.now ≡ (get_or c.args.groups.now i c.group-item.result).steps = c.as_slice.ensures ∙ ap (λ (group : Group). group.steps) c.group-item.is in
    record {
      told = group_told _ _ _ c.args.groups.now i c.group-item.result c.loop-group-test.true c.loop-group.invariant.told
          (subst (λ (steps : List Step). Went (told_of c.loop-group.recording) (told_of c.make_steps.new.self) (map Stepped steps)) at c.make_steps.ensures.told);
      machine = c.make_steps.ensures.machine ∙ c.loop-group.invariant.machine;
      kind = c.make_steps.ensures.kind ∙ c.loop-group.invariant.kind;
      sound = c.make_steps.ensures.sound ∙ c.loop-group.invariant.sound;
      room = turn_room (step_count (take i c.args.groups.now)) (length (get_or c.args.groups.now i c.group-item.result).steps) (step_count (take (i + 1) c.args.groups.now))
          (item_count (take i c.args.groups.now)) (items_for (get_or c.args.groups.now i c.group-item.result).steps) (item_count (take (i + 1) c.args.groups.now)) _ _ _ _ _ _ _ _ _
          c.loop-group.invariant.room
          (subst (λ (steps : List Step). (entries bytes items : ℕ) → HasRoomFor (length steps + entries) bytes (items_for steps + items) c.loop-group.recording.journal c.loop-group.recording.heard c.loop-group.recording.came
          → HasRoomFor entries bytes items c.make_steps.new.self.journal c.make_steps.new.self.heard c.make_steps.new.self.came) at c.make_steps.ensures.room)
          (sum_by_more (λ (group : Group). length group.steps) c.args.groups.now i c.group-item.result c.loop-group-test.true)
          (sum_by_more (λ (group : Group). items_for group.steps) c.args.groups.now i c.group-item.result c.loop-group-test.true);
    }

pub returns : goal.returns
returns c =
    let i = c.loop-group.group-index in
    let end : i ≡ length c.args.groups.now = omega (arith, c.loop-group.auto.group-index-end, c.loop-group-test.false) in
    let all : take i c.args.groups.now ≡ c.args.groups.now = all_taken c.args.groups.now i end in
    record {
      told = subst (λ (groups : List Group). Went (told_of c.args.recording.now) (told_of c.loop-group.recording) (all_steps_in groups)) all c.loop-group.invariant.told;
      machine = c.loop-group.invariant.machine;
      kind = c.loop-group.invariant.kind;
      sound = c.loop-group.invariant.sound;
      room = subst (λ (groups : List Group). (entries bytes items : ℕ) → HasRoomFor (step_count groups + entries) bytes (item_count groups + items) c.args.recording.now.journal c.args.recording.now.heard c.args.recording.now.came
          → HasRoomFor entries bytes items c.loop-group.recording.journal c.loop-group.recording.heard c.loop-group.recording.came) all c.loop-group.invariant.room;
    }
