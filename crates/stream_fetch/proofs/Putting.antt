-- The oldest bytes of a FIFO are put in memory.
use Rattle.std.proofs.Common.{◌≡◌, ◌≤◌, ◌+◌, min, ℕ, List, ◌++◌, length, take, drop, sym, ap, ◌∙◌, arith, append_assoc, length-drop}
use Rattle.std.proofs.Math.Nat.{min-le_left, min-le_right}
use Rattle.std.proofs.lemmas.List.{length-take-le, take-append-drop, drop-append-le, drop-drop}
use Rattle.world_rings.specs.Memory.{stored}
use Rattle.stream_fetch.proofs.Stores.{stored_is}
use borrow.Rule.Slice.PartMut.{put_mid}

pub put_is : (place most size count : ℕ) (memory items part new : List ℕ) → place + most ≤ length memory → size ≡ most → part ≡ take size (drop place memory)
    → count ≡ min (length part) (length items) → new ≡ take count items ++ drop count part → put_mid place size memory new ≡ stored memory place (take count items)
put_is place most size count memory items part new fits size_is part_is count_is new_is =
    let after = drop place memory in
    let below = min-le_left (length part) (length items) in
    let right = min-le_right (length part) (length items) in
    let part_long : length (take size after) ≡ size = length-take-le size after (rw (length-drop place memory) (omega (arith, fits, size_is))) in
    let same_long : length part ≡ length (take size after) = ap length part_is in
    let long : length (take count items) ≡ count = length-take-le count items (omega (arith, count_is, right)) in
    let back : drop count part ++ drop size after ≡ drop (place + count) memory =
    ap (λ (part : List ℕ). drop count part ++ drop size after) part_is
    ∙ sym (drop-append-le count (take size after) (drop size after) (omega (arith, count_is, below, same_long)))
    ∙ ap (drop count) (take-append-drop size after)
    ∙ drop-drop count place memory in
    ap (λ (new : List ℕ). take place memory ++ (new ++ drop size after)) new_is
    ∙ ap (λ (rest : List ℕ). take place memory ++ rest) (append_assoc (take count items) (drop count part) (drop size after) ∙ ap (λ (rest : List ℕ). take count items ++ rest) back)
    ∙ ap (λ (n : ℕ). take place memory ++ (take count items ++ drop (place + n) memory)) (sym long)
    ∙ sym (stored_is memory place (take count items) (omega (arith, fits, long, count_is, below, same_long, part_long, size_is)))
