-- Steps in turn, as told.
use Rattle.std.proofs.Common.{◌≡◌, ◌<◌, ◌+◌, ℕ, zero, suc, List, [], ◌∷◌, ◌++◌, length, map, get_or, take, sym, ap, subst, ◌∙◌, arith, Some, slice_get}
use Rattle.std.proofs.Math.Seq.{take-length}
use Rattle.std.proofs.lemmas.List.{map-append, take_more}
use Rattle.std.proofs.lemmas.List.Concat.{flat_map-append}
use Rattle.hda_world.specs.Tellings.{Telling, Went}
use Rattle.hda_world.specs.Events.{Event, Stepped}
use Rattle.hda_world.proofs.Callers.{went_both}
use Rattle.std.proofs.lemmas.List.{append-nil}
use Rattle.world_steps.specs.declared.Step.{Step}
use Rattle.schedule_reader.specs.declared.schedule.Group.{Group}
use Rattle.rig.specs.Stretches.{steps_in, all_steps_in}

pub all_taken : {X : Type 0} (xs : List X) (i : ℕ) → i ≡ length xs → take i xs ≡ xs
all_taken xs i is = rw is (take-length xs)

pub step_told : (first middle last : Telling) (steps : List Step) (i : ℕ) (d : Step) → i < length steps → Went first middle (map Stepped (take i steps))
    → Went middle last (Stepped (get_or steps i d) ∷ []) → Went first last (map Stepped (take (i + 1) steps))
step_told first middle last steps i d within before one =
    subst (Went first last) (sym (ap (map Stepped) (take_more steps i d within) ∙ map-append Stepped (take i steps) (get_or steps i d ∷ [])))
    (went_both first middle last (map Stepped (take i steps)) (Stepped (get_or steps i d) ∷ []) before one)

pub group_told : (first middle last : Telling) (groups : List Group) (i : ℕ) (d : Group) → i < length groups → Went first middle (all_steps_in (take i groups))
    → Went middle last (map Stepped (get_or groups i d).steps) → Went first last (all_steps_in (take (i + 1) groups))
group_told first middle last groups i d within before one =
    subst (Went first last)
    (sym (ap all_steps_in (take_more groups i d within)
    ∙ (flat_map-append steps_in (take i groups) (get_or groups i d ∷ [])
    ∙ ap (λ (events : List Event). all_steps_in (take i groups) ++ events) (append-nil (steps_in (get_or groups i d))))))
    (went_both first middle last (all_steps_in (take i groups)) (map Stepped (get_or groups i d).steps) before one)

pub slice_get_here : (groups : List Group) (i : ℕ) (d group : Group) → i < length groups → group ≡ get_or groups i d → slice_get groups i ≡ Some group
slice_get_here [] i d group within is = absurd (omega (arith, within))
slice_get_here (first ∷ groups) zero d group within is = ap Some (sym is)
slice_get_here (first ∷ groups) (suc i) d group within is = slice_get_here groups i d group (omega (arith, within)) is
