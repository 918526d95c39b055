-- Blocks of bytes in a row.
use Rattle.std.proofs.Common.{◌≡◌, ◌≤◌, ◌<◌, ◌+◌, ◌-◌, ◌*◌, ◌/◌, ◌⊎◌, inl, inr, ℕ, suc, List, [], ◌∷◌, ◌++◌, length, take, drop, get_or, sym, ap, ◌∙◌, arith, rules, length-append, length-drop}
use Rattle.std.proofs.Math.Nat.{add-mul-div_left, mul-le-mul_right}
use Rattle.std.proofs.lemmas.Nat.{div-mul-add}
use Rattle.std.proofs.lemmas.List.{same_lists, take-append-le, drop-append-le, get_or_append_left, get_or-append_right}
use Rattle.std.proofs.lemmas.List.FromFn.{length-map-range_with_len, get_or-map-range_with_len}
use Rattle.heard_frames.specs.HeardLists.{block_at, blocks}

-- how many they are
blocks_number : (size : ℕ) (bytes : List ℕ) → length (blocks size bytes) ≡ length bytes / size
blocks_number size bytes = length-map-range_with_len (block_at size bytes) 0 (length bytes / size)

-- the one at a place
block_there : (size : ℕ) (bytes : List ℕ) (place : ℕ) (d : List ℕ) → place < length bytes / size → get_or (blocks size bytes) place d ≡ block_at size bytes place
block_there size bytes place d within = get_or-map-range_with_len (block_at size bytes) 0 (length bytes / size) place place d within (omega arith)

wholes : (k n size : ℕ) → 1 ≤ size → (k * size + n) / size ≡ k + n / size
wholes k n size some =
    let turned : k * size + n ≡ n + size * k = omega arith in
    ap (λ m. m / size) turned ∙ add-mul-div_left n k some ∙ omega arith

-- a whole number of blocks, and then others
pub blocks_append : (size k : ℕ) (front back : List ℕ) → 1 ≤ size → length front ≡ k * size → blocks size (front ++ back) ≡ blocks size front ++ blocks size back
blocks_append size k front back some whole = same_lists (blocks size (front ++ back)) (blocks size front ++ blocks size back) long each where
  front_number : length (blocks size front) ≡ k
  front_number =
      let none : k * size ≡ k * size + 0 = omega arith in
      blocks_number size front ∙ ap (λ n. n / size) (whole ∙ none) ∙ wholes k 0 size some ∙ nothing where
        nothing : k + 0 / size ≡ k
        nothing = let of : 0 ≡ 0 * size + 0 = omega arith in let zero_is : 0 / size ≡ 0 = ap (λ n. n / size) of ∙ div-mul-add 0 size 0 some in omega (arith, zero_is)

  all_number : length (blocks size (front ++ back)) ≡ k + length back / size
  all_number = blocks_number size (front ++ back) ∙ ap (λ n. n / size) (length-append front back ∙ ap (λ n. n + length back) whole) ∙ wholes k (length back) size some

  long : length (blocks size (front ++ back)) ≡ length (blocks size front ++ blocks size back)
  long =
      let one = all_number in
      let two = front_number in
      let three = blocks_number size back in
      let four = length-append (blocks size front) (blocks size back) in
      omega (arith, one, two, three, four)

  order : (i : ℕ) → (i < k) ⊎ (k ≤ i)
  order i = search (rules, arith)

  each : (i : ℕ) (d : List ℕ) → i < length (blocks size (front ++ back)) → get_or (blocks size (front ++ back)) i d ≡ get_or (blocks size front ++ blocks size back) i d
  each i d within = block_there size (front ++ back) i d (let one = all_number in let two = blocks_number size (front ++ back) in omega (arith, within, one, two)) ∙ by (order i) where
    by : (i < k) ⊎ (k ≤ i) → block_at size (front ++ back) i ≡ get_or (blocks size front ++ blocks size back) i d
    by (inl below) =
        let up : i + 1 ≤ k = omega (arith, below) in
        let few : (i + 1) * size ≤ k * size = mul-le-mul_right size up in
        let wide : (i + 1) * size ≡ i * size + size = omega arith in
        let rest = length-drop (i * size) front in
        let number = front_number in
        let of_front = blocks_number size front in
        ap (take size) (drop-append-le (i * size) front back (omega (arith, few, wide, whole)))
        ∙ take-append-le size (drop (i * size) front) back (omega (arith, rest, few, wide, whole))
        ∙ sym (block_there size front i d (omega (arith, below, number, of_front)))
        ∙ sym (get_or_append_left (blocks size front) (blocks size back) d i (omega (arith, below, number)))
    by (inr above) =
        let number = front_number in
        let all = all_number in
        let split : i * size ≡ k * size + (i - k) * size = times i k above in
        let past : drop (i * size) (front ++ back) ≡ drop ((i - k) * size) back =
        ap (λ n. drop n (front ++ back)) (split ∙ ap (λ n. n + (i - k) * size) (sym whole)) ∙ past_front front back ((i - k) * size) in
        ap (take size) past
        ∙ sym (block_there size back (i - k) d (omega (arith, above, all, within)))
        ∙ sym (get_or-append_right (blocks size front) (blocks size back) k i d number above) where
          times : (i k : ℕ) → k ≤ i → i * size ≡ k * size + (i - k) * size
          times i k le = let e : i ≡ k + (i - k) = omega (arith, le) in let wide : (k + (i - k)) * size ≡ k * size + (i - k) * size = omega arith in ap (λ n. n * size) e ∙ wide

          past_front : (xs ys : List ℕ) (n : ℕ) → drop (length xs + n) (xs ++ ys) ≡ drop n ys
          past_front [] ys n = ap (λ k. drop k ys) (omega arith)
          past_front (x ∷ xs) ys n =
              let further : length (x ∷ xs) + n ≡ suc (length xs + n) = omega arith in
              ap (λ k. drop k (x ∷ (xs ++ ys))) further ∙ past_front xs ys n
