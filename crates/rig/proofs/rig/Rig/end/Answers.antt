use Rattle.std.proofs.Common.{◌≡◌, ◌+◌, List, drop, sym, ap, subst, ◌∙◌, arith}
use Rattle.schedule_reader.specs.declared.schedule.Group.{Group}
use Rattle.hda_world.specs.Tellings.{Went}
use Rattle.hda_world.proofs.Callers.{went_both}
use Rattle.rig.specs.Recordings.{HasRoomFor}
use Rattle.rig.specs.Rigs.{told_of}
use Rattle.rig.specs.Rooms.{step_count, item_count}
use Rattle.rig.specs.Stretches.{all_steps_in}
use Rattle.rig.proofs.Rooming.{less_room}
use Rattle.rig.proofs.Opened.{laid_end, ended_by}
use Rattle.rig.proofs.rig.Rig.end.Goals as goal

pub pass_all-requires : goal.pass_all-requires
pass_all-requires c =
    let rig = c.args.self.now in
    let same : c.groups_left-left.result.now ≡ drop rig.made rig.groups = c.groups_left-left.ensures ∙ ap (drop rig.made) c.as_slice.ensures in
    subst (λ (groups : List Group). HasRoomFor (step_count groups) 0 (item_count groups) rig.recording.journal rig.recording.heard rig.recording.came) (sym same)
    (less_room _ _ _ (step_count (drop rig.made rig.groups)) 0 (item_count (drop rig.made rig.groups)) _ _ _ (omega arith) (omega arith) (omega arith) (rig.room c.requires))

pub end-requires : goal.end-requires
end-requires c =
    let rig = c.args.self.now in
    let same : c.groups_left-left.result.now ≡ drop rig.made rig.groups = c.groups_left-left.ensures ∙ ap (drop rig.made) c.as_slice.ensures in
    c.pass_all.ensures.room 1 0 0
    (subst (λ (groups : List Group). HasRoomFor (step_count groups + 1) 0 (item_count groups + 0) rig.recording.journal rig.recording.heard rig.recording.came) (sym same)
    (less_room _ _ _ (step_count (drop rig.made rig.groups) + 1) 0 (item_count (drop rig.made rig.groups) + 0) _ _ _ (omega arith) (omega arith) (omega arith) (rig.room c.requires)))

pub returns-clause-told : goal.returns-clause-told
returns-clause-told c = record { is = ended_by _ _ _ c.groups_left-left.result.now _ c.pass_all.ensures.told c.end.ensures.told }

pub returns-clause-stretch : goal.returns-clause-stretch
returns-clause-stretch c =
    let rig = c.args.self.now in
    let same : c.groups_left-left.result.now ≡ drop rig.made rig.groups = c.groups_left-left.ensures ∙ ap (drop rig.made) c.as_slice.ensures in
    let before = subst (λ (groups : List Group). Went (told_of rig.recording) (told_of c.pass_all.new.recording) (all_steps_in groups)) same c.pass_all.ensures.told in
    laid_end rig.begun rig.made rig.groups _ _ rig.in_run rig.laid rig.numbered (went_both _ _ _ _ _ before c.end.ensures.told).journal c.requires
