-- Items that events follow, one after another.
use Rattle.std.proofs.Common.{◌≡◌, List, [], ◌∷◌, ◌++◌, length, map, drop, refl, sym, ap, subst, ◌∙◌, append-nil}
use Rattle.std.proofs.Math.Seq.{drop-append_seam}
use Rattle.std.proofs.lemmas.List.Elements.{filter_passes}
use Rattle.schedule_reader.specs.declared.schedule.Group.{Group}
use Rattle.std.specs.Prelude.{All, flat_map}
use Rattle.std.proofs.lemmas.List.{map-append}
use Rattle.std.proofs.lemmas.List.Concat.{flat_map-append}
use Rattle.std.proofs.lemmas.List.Elements.{All-append, All-nil, All-push}
use Rattle.world_steps.specs.declared.Step.{Step}
use Rattle.schedule_reader.specs.declared.schedule.Item.{Item}
use Rattle.schedule_reader.specs.declared.schedule.Item.TheVariants.{Device, Drive}
use Rattle.schedule_reader.specs.declared.schedule.DriverLine.{DriverLine}
use Rattle.hda_world.specs.Events.{Event, Stepped}
use Rattle.rig.specs.Stretches.{is_access, accesses_of, stretch, IsStretchFrom}
use Rattle.rig.specs.Follows.{Piece, laid_out, AreAccesses, FollowItems}

abbrev events_of_piece : Piece → List Event
events_of_piece piece = laid_out piece.item piece.accesses

abbrev HasAccesses : Piece → Type 0
HasAccesses piece = AreAccesses piece.accesses

pub follow_none : FollowItems [] []
follow_none = record { pieces = []; are = refl; accesses = All-nil HasAccesses; laid = refl }

pub follow_both : (first second : List Item) (before after : List Event) → FollowItems first before → FollowItems second after
    → FollowItems (first ++ second) (before ++ after)
follow_both first second before after one other = record {
  pieces = one.pieces ++ other.pieces;
  are = map-append (λ (piece : Piece). piece.item) one.pieces other.pieces
      ∙ (ap (λ (items : List Item). items ++ map (λ (piece : Piece). piece.item) other.pieces) one.are
      ∙ ap (λ (items : List Item). first ++ items) other.are);
  accesses = All-append HasAccesses one.pieces other.pieces one.accesses other.accesses;
  laid = flat_map-append events_of_piece one.pieces other.pieces
      ∙ (ap (λ (events : List Event). events ++ flat_map events_of_piece other.pieces) one.laid
      ∙ ap (λ (events : List Event). before ++ events) other.laid);
}

one_piece : (piece : Piece) → HasAccesses piece → All HasAccesses (piece ∷ [])
one_piece piece has = All-push HasAccesses [] piece (All-nil HasAccesses) has

pub follow_step : (step : Step) → FollowItems (Device step ∷ []) (Stepped step ∷ [])
follow_step step = record {
  pieces = record { item = Device step; accesses = [] } ∷ [];
  are = refl;
  accesses = one_piece (record { item = Device step; accesses = [] }) (All-nil _);
  laid = append-nil (Stepped step ∷ []);
}

pub follow_run : (line : DriverLine) (accesses : List Event) → AreAccesses accesses → FollowItems (Drive line ∷ []) (stretch line.groups accesses)
follow_run line accesses are = record {
  pieces = record { item = Drive line; accesses = accesses } ∷ [];
  are = refl;
  accesses = one_piece (record { item = Drive line; accesses = accesses }) are;
  laid = append-nil (stretch line.groups accesses);
}

-- ---- a run that was made

pub all_accesses : (events : List Event) → AreAccesses (accesses_of events)
all_accesses events = filter_passes is_access events

-- what a run added to a journal is the run with its accesses
pub run_more : (groups : List Group) (old more : List Event) → IsStretchFrom (length old) groups (old ++ more) → more ≡ stretch groups (accesses_of more)
run_more groups old more is =
    let added : drop (length old) (old ++ more) ≡ more = drop-append_seam old more in
    sym added ∙ (is.laid ∙ ap (λ (events : List Event). stretch groups (accesses_of events)) added)

pub follow_more : (line : DriverLine) (old more : List Event) → IsStretchFrom (length old) line.groups (old ++ more) → FollowItems (Drive line ∷ []) more
follow_more line old more is =
    subst (FollowItems (Drive line ∷ [])) (sym (run_more line.groups old more is)) (follow_run line (accesses_of more) (all_accesses more))
