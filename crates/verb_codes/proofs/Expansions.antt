-- The expansion of a list, one entry at a time.
use Rattle.std.proofs.Common.{◌≡◌, ◌<◌, ◌≤◌, ◌+◌, ◌-◌, ◌==◌, ℕ, Bool, true, false, cond, List, [], ◌∷◌, ◌++◌, map, length, get_or, drop, Option, None, Some, Result, Ok, Err, refl, sym, ap, subst, ◌∙◌, arith}
use Rattle.std.specs.Prelude.{All, nat_lt}
use Rattle.std.proofs.lemmas.List.Elements.{All-nil, All-append, All-from_get_or}
use Rattle.std.proofs.lemmas.List.FromFn.{get_or-range_with_len, length-range_with_len}
use Rattle.std.proofs.lemmas.Bool.{ltb-false}
use Rattle.std.proofs.lemmas.List.{append_assoc, drop_more, drop_all, get_or-map, length-map}
use Rattle.verb_codes.specs.declared.entries.Entry.{Entry}
use Rattle.verb_codes.specs.declared.entries.ListFault.{ListFault}
use Rattle.verb_codes.specs.declared.entries.ListFault.TheVariants.{Zero, Beyond}
use Rattle.verb_codes.specs.Lists.{entry_of, range_fault, entry_fault, first_nid, nids_of, after, expanded, expansion_after, expansion_of}

pub after-nil : (rest : Result (List ℕ) ListFault) → after [] rest ≡ rest
after-nil (Ok nids) = refl
after-nil (Err fault) = refl

after-after : (xs ys : List ℕ) (rest : Result (List ℕ) ListFault) → after xs (after ys rest) ≡ after (xs ++ ys) rest
after-after xs ys (Ok nids) = ap (λ zs. Ok zs) (sym (append_assoc xs ys nids))
after-after xs ys (Err fault) = refl

-- the entries of a list, from one place on
pub drop-entries : (long : Bool) (bits : List ℕ) (place : ℕ) → place < length bits
    → drop place (map (entry_of long) bits) ≡ entry_of long (get_or bits place 0) ∷ drop (place + 1) (map (entry_of long) bits)
drop-entries long bits place lt =
    let count = length-map bits (entry_of long) in
    drop_more (map (entry_of long) bits) place (entry_of long 0) (omega arith)
    ∙ ap (λ e. e ∷ drop (place + 1) (map (entry_of long) bits)) (get_or-map (entry_of long) bits place 0 (entry_of long 0) lt)

pub drop-no_entries : (long : Bool) (bits : List ℕ) (place : ℕ) → length bits ≤ place → drop place (map (entry_of long) bits) ≡ []
drop-no_entries long bits place le =
    let count = length-map bits (entry_of long) in
    drop_all place (map (entry_of long) bits) (omega arith)

-- an entry without a fault is followed by what the rest stands for
pub one_more_entry : (nids : List ℕ) (before : Option Entry) (entry : Entry) (rest : List Entry) → entry_fault before entry ≡ None
    → after nids (expansion_after before (entry ∷ rest)) ≡ after (nids ++ nids_of before entry) (expansion_after (Some entry) rest)
one_more_entry nids before entry rest sound =
    ap (λ f. after nids (expanded f (nids_of before entry) (expansion_after (Some entry) rest))) sound
    ∙ after-after nids (nids_of before entry) (expansion_after (Some entry) rest)

-- an entry with a fault is what the whole list has
pub faulty_entry : (nids : List ℕ) (before : Option Entry) (entry : Entry) (rest : List Entry) (fault : ListFault) → entry_fault before entry ≡ Some fault
    → after nids (expansion_after before (entry ∷ rest)) ≡ Err fault
faulty_entry nids before entry rest fault faulty = ap (λ f. after nids (expanded f (nids_of before entry) (expansion_after (Some entry) rest))) faulty

-- an entry without a fault has a node identifier of seven bits
entry_small : (before : Option Entry) (entry : Entry) → entry_fault before entry ≡ None → entry.nid < 128
entry_small before entry sound = by (entry.nid == 0) (nat_lt 0x7F entry.nid) refl sound
  where
    by : (zero beyond : Bool) → nat_lt 0x7F entry.nid ≡ beyond → cond zero (Some Zero) (cond beyond (Some Beyond) (cond entry.is_range (range_fault before entry.nid) None)) ≡ None → entry.nid < 128
    by true beyond e h = cc
    by false true e h = cc
    by false false e h = let le = ltb-false 0x7F entry.nid e in omega arith

nids_small : (before : Option Entry) (entry : Entry) → entry_fault before entry ≡ None → All (λ nid. nid < 128) (nids_of before entry)
nids_small before entry sound =
    let first = first_nid before entry in
    let nids = nids_of before entry in
    let small = entry_small before entry sound in
    All-from_get_or (λ nid. nid < 128) nids 0 (λ i h. let within : i < entry.nid + 1 - first = omega (arith, length-range_with_len first (entry.nid + 1 - first)) in
    let e = get_or-range_with_len first (entry.nid + 1 - first) i 0 within in
    rw e (omega arith))

-- so has each node of an expansion
expansion_small : (before : Option Entry) (entries : List Entry) (nids : List ℕ) → expansion_after before entries ≡ Ok nids → All (λ nid. nid < 128) nids
expansion_small before [] nids e = let same : [] ≡ nids = cc in subst (All (λ nid. nid < 128)) same (All-nil (λ nid. nid < 128))
expansion_small before (entry ∷ entries) nids e =
    by (entry_fault before entry) (expansion_after (Some entry) entries) refl (expansion_small (Some entry) entries) e
  where
    by : (fault : Option ListFault) (rest : Result (List ℕ) ListFault) → entry_fault before entry ≡ fault
        → ((more : List ℕ) → rest ≡ Ok more → All (λ nid. nid < 128) more)
        → expanded fault (nids_of before entry) rest ≡ Ok nids → All (λ nid. nid < 128) nids
    by (Some fault) rest f all h = cc
    by None (Err fault) f all h = cc
    by None (Ok more) f all h =
        let same : nids_of before entry ++ more ≡ nids = cc in
        subst (All (λ nid. nid < 128)) same (All-append (λ nid. nid < 128) (nids_of before entry) more (nids_small before entry f) (all more refl))

pub expansion_of-small : (long : Bool) (entries nids : List ℕ) → expansion_of long entries ≡ Ok nids → All (λ nid. nid < 128) nids
expansion_of-small long entries nids e = expansion_small None (map (entry_of long) entries) nids e
