use Rattle.std.proofs.Common.{◌-◌, ℕ, List, [], ◌∷◌, length, refl, sym, subst, arith}
use Rattle.schedule_reader.specs.declared.schedule.Group.{Group}
use Rattle.hda_world.specs.Events.{DmaWrite}
use Rattle.hda_world.specs.Tellings.{Went}
use Rattle.hda_world.proofs.Callers.{went_both}
use Rattle.rig.specs.Recordings.{HasRoomFor, items_for}
use Rattle.rig.specs.Rigs.{told_of}
use Rattle.rig.specs.Rooms.{steps_before}
use Rattle.rig.proofs.Opened.{is_open, stays_closed, laid_on, numbered_on, accessed_by, steps_room, passed_room, passed_told, one_entry, fewer_bytes}
use Rattle.rig.proofs.rig.accesses.RigPlatform.dma_write.Goals as goal

pub pass-requires : goal.pass-requires
pass-requires c =
    let rig = c.args.self.now in
    let running = is_open rig.in_run rig.spare_accesses rig.closed c.requires.room in
    subst (λ (groups : List Group). HasRoomFor (length (steps_before rig.made groups)) 0 (items_for (steps_before rig.made groups)) rig.recording.journal rig.recording.heard rig.recording.came)
    (sym c.as_slice.ensures) (steps_room rig.made rig.spare_accesses rig.spare_bytes rig.groups _ _ _ (rig.room running))

pub write_piece-requires-clause-room : goal.write_piece-requires-clause-room
write_piece-requires-clause-room c =
    let rig = c.args.self.now in
    let running = is_open rig.in_run rig.spare_accesses rig.closed c.requires.room in
    let passed = passed_room rig.made rig.spare_accesses rig.spare_bytes (length c.args.bytes.now) rig.groups c.as_slice.result.now _ _ _ _ _ _ c.as_slice.ensures c.requires.room c.requires.bytes_room (rig.room running) c.pass.ensures.room in
    one_entry _ (length c.args.bytes.now) _ _ _ _ _ passed

pub returns-clause-told : goal.returns-clause-told
returns-clause-told c =
    let rig = c.args.self.now in
    let before = passed_told rig.made rig.groups c.as_slice.result.now _ _ c.as_slice.ensures c.pass.ensures.told in
    record { is = accessed_by _ _ _ _ _ before (subst (λ (a : ℕ). Went (told_of c.pass.new.recording) (told_of c.write_piece.new.self) (DmaWrite a c.args.bytes.now ∷ [])) c.place.ensures.value c.write_piece.ensures.told) }

pub invariant_of-self : goal.invariant_of-self
invariant_of-self c =
    let rig = c.args.self.now in
    let before = passed_told rig.made rig.groups c.as_slice.result.now _ _ c.as_slice.ensures c.pass.ensures.told in
    let went = went_both _ _ _ _ _ before c.write_piece.ensures.told in
    record {
      closed = stays_closed rig.in_run rig.spare_accesses rig.closed;
      counts = (let b = rig.counts in omega (arith, b, c.requires.room));
      laid = laid_on rig.begun rig.made rig.groups _ _ rig.in_run (DmaWrite c.place.result c.args.bytes.now) rig.laid rig.numbered went.journal refl;
      numbered = numbered_on rig.begun rig.made rig.groups _ _ rig.in_run (DmaWrite c.place.result c.args.bytes.now) rig.laid rig.numbered went.journal refl;
      room = λ running. fewer_bytes _ _ _ _ _ _ _ (omega arith) (c.write_piece.ensures.room _ (rig.spare_bytes - (length c.args.bytes.now)) _
          (passed_room rig.made rig.spare_accesses rig.spare_bytes (length c.args.bytes.now) rig.groups c.as_slice.result.now _ _ _ _ _ _ c.as_slice.ensures c.requires.room c.requires.bytes_room (rig.room running) c.pass.ensures.room));
    }
