use Rattle.std.proofs.Common.{ℕ, List, length, refl, ap, ◌∙◌, arith}
use Rattle.std.proofs.Math.Logic.{∥∥₁_map}
use Rattle.world_rings.specs.Memory.{stored}
use Rattle.rig.proofs.Where.{honest_more, where_stored, went_one, memory_there, room_there, whole_write}
use Rattle.rig.proofs.recording.Recording.write_piece.Goals as goal

pub returns-clause-told : goal.returns-clause-told
returns-clause-told c =
    let more = c.note_dma_write.ensures.events in
    went_one _ _ _ _ more (room_there _ c.args.self.now.memory.items _ _ 4194304 (memory_there c.args.self.now.stands) c.args.self.now.whole c.requires.within)

pub invariant_of-self : goal.invariant_of-self
invariant_of-self c =
    let more = c.note_dma_write.ensures.events in
    let memory = whole_write c.store_piece.new.memory c.args.self.now.memory.items _ c.args.self.now.memory.len
    (c.store_piece.ensures ∙ ap (λ (bytes : List ℕ). stored bytes c.args.address c.args.piece.now) c.deref_mut.ensures.value)
    (c.store_piece.auto.memory ∙ ap length c.deref_mut.ensures.value) (omega (arith, c.args.self.now.memory.ok.0)) in
    let kept = whole_write c.store_piece.new.memory c.args.self.now.memory.items c.store_piece.new.memory c.args.self.now.memory.len refl
    (c.store_piece.auto.memory ∙ ap length c.deref_mut.ensures.value) (omega (arith, c.args.self.now.memory.ok.0)) in
    record {
      whole = ap length kept ∙ (c.store_piece.auto.memory ∙ (ap length c.deref_mut.ensures.value ∙ c.args.self.now.whole));
      honest = honest_more _ _ _ _ c.args.self.now.honest more
          (room_there _ c.args.self.now.memory.items _ _ 4194304 (memory_there c.args.self.now.stands) c.args.self.now.whole c.requires.within);
      stands = ∥∥₁_map c.args.self.now.stands (λ was. where_stored _ _ _ _ _ _ _ _ c.args.address c.args.piece.now _ was more memory);
      pins = c.args.self.now.pins;
    }
