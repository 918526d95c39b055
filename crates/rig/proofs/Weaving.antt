-- Runs as they grow, access by access.
use Rattle.std.proofs.Common.{◌≡◌, ◌≤◌, ◌+◌, ℕ, zero, suc, true, List, [], ◌∷◌, ◌++◌, length, map, drop, refl, sym, ap, subst, ◌∙◌, arith, append_assoc, append-nil}
use Rattle.std.specs.Prelude.{sum_by, slice_get, Option, Some, None}
use Rattle.std.proofs.lemmas.List.{drop-append-le, length-append}
use Rattle.std.proofs.lemmas.List.Sums.{sum_by-cons}
use Rattle.std.proofs.Math.Seq.{drop-append_seam, drop-nil}
use Rattle.std.proofs.lemmas.List.Elements.{filter-append}
use Rattle.world_steps.specs.declared.Step.{Step}
use Rattle.schedule_reader.specs.declared.schedule.Group.{Group}
use Rattle.hda_world.specs.Events.{Event, Stepped, Begin, End}
use Rattle.rig.specs.Rooms.{steps_before, steps_of, step_count, item_count}
use Rattle.rig.specs.Recordings.{items_for}
use Rattle.rig.specs.Stretches.{is_access, accesses_of, steps_in, all_steps_in, woven, stretch, IsOpenFrom, IsStretchFrom}

-- ---- accesses

steps_none : (steps : List Step) → accesses_of (map Stepped steps) ≡ []
steps_none [] = refl
steps_none (step ∷ steps) = steps_none steps

pub groups_none : (groups : List Group) → accesses_of (all_steps_in groups) ≡ []
groups_none [] = refl
groups_none (group ∷ groups) =
    filter-append is_access (steps_in group) (all_steps_in groups)
    ∙ (ap (λ (front : List Event). front ++ accesses_of (all_steps_in groups)) (steps_none group.steps) ∙ groups_none groups)

one_access : (access : Event) → is_access access ≡ true → accesses_of (access ∷ []) ≡ access ∷ []
one_access access is = rw is refl

-- ---- weaving

pub woven-push : (groups : List Group) (accesses : List Event) (access : Event)
    → woven groups (accesses ++ access ∷ []) ≡ woven groups accesses ++ (map Stepped (steps_before (length accesses) groups) ++ access ∷ [])
woven-push [] [] access = refl
woven-push (group ∷ groups) [] access = refl
woven-push [] (first ∷ accesses) access = ap (λ (rest : List Event). first ∷ rest) (woven-push [] accesses access)
woven-push (group ∷ groups) (first ∷ accesses) access =
    ap (λ (rest : List Event). steps_in group ++ first ∷ rest) (woven-push groups accesses access)
    ∙ sym (append_assoc (steps_in group) (first ∷ woven groups accesses) (map Stepped (steps_before (length accesses) groups) ++ access ∷ []))

-- ---- a run that is open

module _ (begun : ℕ) (groups : List Group) (old new : List Event) where
  abbrev run : List Event
  run = drop begun old

  -- it goes on
  later : (more : List Event) → begun ≤ length old → new ≡ old ++ more → drop begun new ≡ run ++ more
  later more begins is = ap (drop begun) is ∙ drop-append-le begun old more begins

  longer : (more : List Event) → begun ≤ length old → new ≡ old ++ more → begun ≤ length new
  longer more begins is = let long : length new ≡ length old + length more = ap length is ∙ length-append old more in omega arith

  access_more : (steps : List Step) (access : Event) → is_access access ≡ true
      → accesses_of (run ++ (map Stepped steps ++ access ∷ [])) ≡ accesses_of run ++ access ∷ []
  access_more steps access is =
      filter-append is_access run (map Stepped steps ++ access ∷ [])
      ∙ ap (λ (back : List Event). accesses_of run ++ back)
      (filter-append is_access (map Stepped steps) (access ∷ [])
      ∙ (ap (λ (front : List Event). front ++ accesses_of (access ∷ [])) (steps_none steps) ∙ one_access access is))

  pub accessed_open : (made : ℕ) (access : Event) → IsOpenFrom begun groups old → made ≡ length (accesses_of (drop begun old))
      → new ≡ old ++ (map Stepped (steps_before made groups) ++ access ∷ []) → is_access access ≡ true → IsOpenFrom begun groups new
  accessed_open made access was count is right =
      let more : List Event = map Stepped (steps_before made groups) ++ access ∷ [] in
      let numbered : new ≡ old ++ (map Stepped (steps_before (length (accesses_of run)) groups) ++ access ∷ []) =
      is ∙ ap (λ (n : ℕ). old ++ (map Stepped (steps_before n groups) ++ access ∷ [])) count in
      let all : drop begun new ≡ run ++ (map Stepped (steps_before (length (accesses_of run)) groups) ++ access ∷ []) = later _ was.begins numbered in
      record {
        begins = longer more was.begins is;
        laid =
            all
            ∙ (ap (λ (front : List Event). front ++ (map Stepped (steps_before (length (accesses_of run)) groups) ++ access ∷ [])) was.laid
            ∙ ap (λ (rest : List Event). Begin ∷ rest)
            (sym (woven-push groups (accesses_of run) access)
            ∙ ap (woven groups) (sym (access_more (steps_before (length (accesses_of run)) groups) access right) ∙ ap accesses_of (sym all))));
      }

  pub accessed_count : (made : ℕ) (access : Event) → begun ≤ length old → made ≡ length (accesses_of (drop begun old))
      → new ≡ old ++ (map Stepped (steps_before made groups) ++ access ∷ []) → is_access access ≡ true
      → made + 1 ≡ length (accesses_of (drop begun new))
  accessed_count made access begins count is right =
      let long : length (accesses_of run ++ access ∷ []) ≡ length (accesses_of run) + 1 = length-append (accesses_of run) (access ∷ []) in
      let all : accesses_of (drop begun new) ≡ accesses_of run ++ access ∷ [] = ap accesses_of (later _ begins is) ∙ access_more (steps_before made groups) access right in
      ap (λ (n : ℕ). n + 1) count ∙ (sym long ∙ ap length (sym all))

  -- it ends
  pub ended : (made : ℕ) → IsOpenFrom begun groups old → made ≡ length (accesses_of (drop begun old))
      → new ≡ old ++ (all_steps_in (drop made groups) ++ End ∷ []) → IsStretchFrom begun groups new
  ended made was count is =
      let left : List Event = all_steps_in (drop made groups) ++ End ∷ [] in
      let all : drop begun new ≡ run ++ left = later left was.begins is in
      let same : accesses_of (drop begun new) ≡ accesses_of run =
      ap accesses_of all
      ∙ (filter-append is_access run left
      ∙ (ap (λ (back : List Event). accesses_of run ++ back) (filter-append is_access (all_steps_in (drop made groups)) (End ∷ [])
      ∙ (ap (λ (front : List Event). front ++ []) (groups_none (drop made groups))))
      ∙ append-nil (accesses_of run))) in
      record {
        begins = longer left was.begins is;
        laid =
            all
            ∙ (ap (λ (front : List Event). front ++ left) was.laid
            ∙ (ap (λ (n : ℕ). Begin ∷ (woven groups (accesses_of run) ++ (all_steps_in (drop n groups) ++ End ∷ []))) count
            ∙ ap (λ (accesses : List Event). stretch groups accesses) (sym same)));
      }

-- it begins
pub began_open : (begun : ℕ) (groups : List Group) (old new : List Event) → begun ≡ length old → new ≡ old ++ Begin ∷ [] → drop begun new ≡ Begin ∷ []
began_open begun groups old new begins is =
    ap (drop begun) is ∙ (ap (λ (n : ℕ). drop n (old ++ Begin ∷ [])) begins ∙ drop-append_seam old (Begin ∷ []))

pub began : (begun : ℕ) (groups : List Group) (old new : List Event) → begun ≡ length old → new ≡ old ++ Begin ∷ [] → IsOpenFrom begun groups new
began begun groups old new begins is =
    let all : drop begun new ≡ Begin ∷ [] = began_open begun groups old new begins is in
    let long : length new ≡ length old + 1 = ap length is ∙ length-append old (Begin ∷ []) in
    record {
      begins = omega arith;
      laid = all ∙ (nothing groups ∙ ap (λ (events : List Event). Begin ∷ woven groups (accesses_of events)) (sym all));
    }
  where
    nothing : (groups : List Group) → (Begin ∷ []) ≡ Begin ∷ woven groups []
    nothing [] = refl
    nothing (group ∷ groups) = refl

pub began_count : (begun : ℕ) (groups : List Group) (old new : List Event) → begun ≡ length old → new ≡ old ++ Begin ∷ []
    → 0 ≡ length (accesses_of (drop begun new))
began_count begun groups old new begins is = ap (λ (events : List Event). length (accesses_of events)) (sym (began_open begun groups old new begins is))

-- ---- room

-- a sum over the groups that are left is that of the next one and those after it
sum_left : (f : Group → ℕ) (next : Option Group → ℕ) → next None ≡ 0 → ((group : Group) → next (Some group) ≡ f group) → (made : ℕ) (groups : List Group)
    → sum_by f (drop made groups) ≡ next (slice_get groups made) + sum_by f (drop (made + 1) groups)
sum_left f next none some made [] =
    let here : sum_by f (drop made []) ≡ 0 = ap (sum_by f) (drop-nil made) in
    let later : sum_by f (drop (made + 1) []) ≡ 0 = ap (sum_by f) (drop-nil (made + 1)) in
    omega (arith, here, later, none)
sum_left f next none some zero (group ∷ groups) = sum_by-cons f group groups ∙ ap (λ (n : ℕ). n + sum_by f groups) (sym (some group))
sum_left f next none some (suc made) (group ∷ groups) =
    let one : suc (made + 1) ≡ suc made + 1 = omega arith in
    subst (λ (n : ℕ). sum_by f (drop made groups) ≡ next (slice_get groups made) + sum_by f (drop n (group ∷ groups))) one (sum_left f next none some made groups)

-- the steps of the groups that are left are those before the next access and those after it
pub steps_left : (made : ℕ) (groups : List Group) → step_count (drop made groups) ≡ length (steps_before made groups) + step_count (drop (made + 1) groups)
steps_left made groups = sum_left (λ (group : Group). length group.steps) (λ (group : Option Group). length (steps_of group)) refl (λ group. refl) made groups

pub items_left : (made : ℕ) (groups : List Group) → item_count (drop made groups) ≡ items_for (steps_before made groups) + item_count (drop (made + 1) groups)
items_left made groups = sum_left (λ (group : Group). items_for group.steps) (λ (group : Option Group). items_for (steps_of group)) refl (λ group. refl) made groups
