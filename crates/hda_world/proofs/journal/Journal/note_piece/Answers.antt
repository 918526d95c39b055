use Rattle.std.proofs.Common.{◌≡◌, ℕ, List, [], ◌∷◌, ◌++◌, length, map, subst, ap, ◌∙◌, arith}
use Rattle.hda_world.specs.declared.entry.MemoryPiece.{MemoryPiece}
use Rattle.hda_world.specs.Events.{Event}
use Rattle.hda_world.specs.JournalEvents.{events_of}
use Rattle.hda_world.specs.Journals.{JournalState, event_of}
use Rattle.hda_world.proofs.Noting.{noted_piece}
use Rattle.hda_world.proofs.journal.Journal.note_piece.Goals as goal

pub returns-clause-events : goal.returns-clause-events
returns-clause-events c =
    let begins : c.len-from.result ≡ length c.self.inside.bytes.items = omega (arith, c.len-from.ensures, c.self.inside.bytes.ok.0) in
    let piece : ℕ → MemoryPiece = λ from. record { at = c.args.at; len = length c.args.piece.now; from = from } in
    let events : List Event = map (event_of c.push_within_capacity.new.items.items c.extend_within_capacity.new.items.items) c.push_within_capacity-2.new.items.items in
    let one : ℕ → JournalState → Event = λ from state. event_of (state.pieces ++ piece from ∷ []) (state.bytes ++ c.args.piece.now) c.args.entry in
    subst (λ (state : JournalState). events ≡ events_of state ++ one (length state.bytes) state ∷ []) c.self.view_is
    (noted_piece _ _ _ _ _ c.args.piece.now _ _ c.args.entry c.self.invariant.0 c.push_within_capacity-2.ensures.items c.push_within_capacity.ensures.items c.extend_within_capacity.ensures.items
    ∙ ap (λ (from : ℕ). map (event_of c.self.inside.pieces.items c.self.inside.bytes.items) c.self.inside.entries.items
    ++ event_of (c.self.inside.pieces.items ++ piece from ∷ []) (c.self.inside.bytes.items ++ c.args.piece.now) c.args.entry ∷ []) begins)
