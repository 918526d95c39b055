-- The first write to a register, among entries from one on.
use Rattle.std.proofs.Common.{◌≡◌, ◌∙◌, ℕ, ◌+◌, ◌<◌, ◌≤◌, List, drop, get_or, length, map, Option, Some, None, refl, sym, ap, add-one, drop-cons}
use Rattle.std.proofs.lemmas.List.{drop_all}
use Rattle.std.specs.Option.{option_or}
use Rattle.hda_world.specs.declared.entry.Entry.{Entry}
use Rattle.hda_world.specs.Events.{Event}
use Rattle.trace_lines.specs.Purposes.{first_put, value_put}

put_next : (register : ℕ) (event : Entry → Event) (entries : List Entry) (i : ℕ) (d : Entry) → i < length entries
    → first_put register (map event (drop i entries)) ≡ option_or (value_put register (event (get_or entries i d))) (first_put register (map event (drop (i + 1) entries)))
put_next register event entries i d within = rw (add-one, drop-cons entries i d) refl

put_at : (register : ℕ) (event : Entry → Event) (entries : List Entry) (i : ℕ) (d : Entry) (put : Option ℕ) → i < length entries
    → put ≡ value_put register (event (get_or entries i d))
    → first_put register (map event (drop i entries)) ≡ option_or put (first_put register (map event (drop (i + 1) entries)))
put_at register event entries i d put within value =
    put_next register event entries i d within
    ∙ ap (λ (p : Option ℕ). option_or p (first_put register (map event (drop (i + 1) entries)))) (sym value)

-- an entry that writes it is the first
pub put_here : (register : ℕ) (event : Entry → Event) (entries : List Entry) (i : ℕ) (d : Entry) (put : Option ℕ) (value : ℕ) → i < length entries
    → put ≡ value_put register (event (get_or entries i d)) → put ≡ Some value → first_put register (map event (drop i entries)) ≡ Some value
put_here register event entries i d put value within told some =
    put_at register event entries i d put within told
    ∙ ap (λ (p : Option ℕ). option_or p (first_put register (map event (drop (i + 1) entries)))) some

-- one that does not leaves it to those behind it
pub put_later : (register : ℕ) (event : Entry → Event) (entries : List Entry) (i : ℕ) (d : Entry) (put : Option ℕ) → i < length entries
    → put ≡ value_put register (event (get_or entries i d)) → put ≡ None → first_put register (map event (drop i entries)) ≡ first_put register (map event (drop (i + 1) entries))
put_later register event entries i d put within told none =
    put_at register event entries i d put within told
    ∙ ap (λ (p : Option ℕ). option_or p (first_put register (map event (drop (i + 1) entries)))) none

-- where no entry is left none does
pub put_never : (register : ℕ) (event : Entry → Event) (entries : List Entry) (i : ℕ) → length entries ≤ i → first_put register (map event (drop i entries)) ≡ None
put_never register event entries i past = ap (λ (left : List Entry). first_put register (map event left)) (drop_all i entries past)
