use Rattle.std.proofs.Common.{◌+◌, ℕ, List, length, refl, ap, ◌∙◌, slice_range}
use Rattle.std.proofs.Math.Logic.{∥∥₁_map}
use Rattle.hda_world.specs.Events.{DmaRead}
use Rattle.rig.proofs.Where.{honest_more, where_seen, went_one, memory_there, piece_there}
use Rattle.rig.proofs.recording.Recording.read_piece.Goals as goal

pub returns-clause-told : goal.returns-clause-told
returns-clause-told c =
    let long = c.copy_piece.auto.into in
    let more = c.note_dma_read.ensures.events in
    went_one _ _ _ _ more
    (piece_there _ c.args.self.now.memory.items _ _ _ 4194304 (memory_there c.args.self.now.stands)
    (c.copy_piece.ensures ∙ ap (λ (memory : List ℕ). slice_range memory c.args.address (c.args.address + length c.args.into.now)) c.deref.ensures.value) long c.args.self.now.whole c.requires.within)

pub invariant_of-self : goal.invariant_of-self
invariant_of-self c =
    let long = c.copy_piece.auto.into in
    let more = c.note_dma_read.ensures.events in
    record {
      whole = c.args.self.now.whole;
      honest = honest_more _ _ _ _ c.args.self.now.honest more
          (piece_there _ c.args.self.now.memory.items _ _ _ 4194304 (memory_there c.args.self.now.stands)
          (c.copy_piece.ensures ∙ ap (λ (memory : List ℕ). slice_range memory c.args.address (c.args.address + length c.args.into.now)) c.deref.ensures.value) long c.args.self.now.whole c.requires.within);
      stands = ∥∥₁_map c.args.self.now.stands (λ was. where_seen _ _ _ _ _ _ _ _ (DmaRead c.args.address c.copy_piece.new.into) was more refl);
      pins = c.args.self.now.pins;
    }
