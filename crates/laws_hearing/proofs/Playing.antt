-- A line that was fetched is played.
use Rattle.std.proofs.Common.{◌≡◌, ◌≤◌, ◌<◌, ◌+◌, ◌*◌, ◌/◌, ℕ, zero, suc, List, ◌++◌, length, map, take, drop, get_or, slice_index, refl, sym, ap, ◌∙◌, arith, length-append, length-drop}
use Rattle.std.specs.List.{range_with_len}
use Rattle.std.proofs.Math.Nat.{div-mul-le_self, mul-le-mul_right}
use Rattle.std.proofs.lemmas.List.{length-take-le, get_or-take, get_or-drop, get_or_append_left}
use Rattle.std.proofs.lemmas.Grind.{same_number_lists}
use Rattle.std.proofs.lemmas.List.FromFn.{length-map-range_with_len, get_or-map-range_with_len}
use Rattle.stream_format.specs.Layouts.{Layout}
use Rattle.codec_sound.specs.declared.signals.Signal.{Signal}
use Rattle.codec_sound.specs.declared.signals.Signal.TheVariants.{Pair}
use Rattle.heard_frames.specs.declared.heard.Heard.{Heard}
use Rattle.heard_frames.specs.declared.heard.Heard.TheVariants.{Hole}
use Rattle.heard_frames.specs.HeardLists.{block_at, block_size, item_of}
use Rattle.laws_hearing.specs.Plays.{without_holes, PlaysFront}
use Rattle.laws_hearing.specs.BySignals.{heard_by, items_by, PlaysFrontBy, PlaysBelow}

-- ---- the same bytes give the same sounds

same_range : {X : Type 0} (f g : ℕ → X) (n a : ℕ) → ((i : ℕ) → a ≤ i → i < a + n → f i ≡ g i) → map f (range_with_len a n) ≡ map g (range_with_len a n)
same_range {X} f g zero a same = refl
same_range {X} f g (suc n) a same =
    let here : f a ≡ g a = same a (omega arith) (omega arith) in
    let rest = same_range f g n (a + 1) (λ i low high. same i (omega (arith, low)) (omega (arith, high))) in
    cc

block_same : (size i : ℕ) (xs ys : List ℕ) → (i + 1) * size ≤ length xs → (i + 1) * size ≤ length ys → ((k : ℕ) → k < (i + 1) * size → slice_index xs k ≡ slice_index ys k) → block_at size xs i ≡ block_at size ys i
block_same size i xs ys one other same = same_number_lists (block_at size xs i) (block_at size ys i) (long xs one ∙ sym (long ys other)) each where
  wide : (i + 1) * size ≡ i * size + size
  wide = omega arith

  long : (zs : List ℕ) → (i + 1) * size ≤ length zs → length (block_at size zs i) ≡ size
  long zs within = length-take-le size (drop (i * size) zs) (let rest = length-drop (i * size) zs in let wide = wide in omega (arith, rest, within, wide))

  there : (zs : List ℕ) (k : ℕ) → k < size → get_or (block_at size zs i) k 0 ≡ slice_index zs (i * size + k)
  there zs k below = get_or-take size (drop (i * size) zs) k 0 below ∙ get_or-drop (i * size) zs k 0

  each : (k : ℕ) → k < length (block_at size xs i) → get_or (block_at size xs i) k 0 ≡ get_or (block_at size ys i) k 0
  each k below =
      let size_is = long xs one in
      let under : k < size = omega (arith, below, size_is) in
      there xs k under ∙ same (i * size + k) (let wide = wide in omega (arith, under, wide)) ∙ sym (there ys k under)

pub items_agree : (layout : Layout) (signals : ℕ → Signal) (n : ℕ) (xs ys : List ℕ) → n * block_size layout ≤ length xs → n * block_size layout ≤ length ys → ((k : ℕ) → k < n * block_size layout → slice_index xs k ≡ slice_index ys k)
    → items_by layout signals xs n ≡ items_by layout signals ys n
items_agree layout signals n xs ys one other same =
    same_range (heard_by layout signals xs) (heard_by layout signals ys) n 0 (λ i low high.
    let up : i + 1 ≤ n = omega (arith, high) in
    let few : (i + 1) * block_size layout ≤ n * block_size layout = mul-le-mul_right (block_size layout) up in
    ap (item_of layout (signals i)) (block_same (block_size layout) i xs ys (omega (arith, few, one)) (omega (arith, few, other)) (λ k below. same k (omega (arith, below, few)))))

-- ---- what was sent, against the line

module _ (layout : Layout) (signals : ℕ → Signal) (entered : List ℕ) (left : ℕ) (behind : left ≤ length entered) (list : List Heard)
    (heard : without_holes list ≡ items_by layout signals (take left entered) (left / block_size layout)) where
  abbrev n : ℕ
  n = left / block_size layout

  whole : n * block_size layout ≤ left
  whole = div-mul-le_self left (block_size layout)

  sent_long : length (take left entered) ≡ left
  sent_long = length-take-le left entered behind

  -- these bytes
  pub plays : (bytes : List ℕ) → left ≤ length bytes → ((at : ℕ) → at < left → slice_index entered at ≡ slice_index bytes at) → PlaysFrontBy layout signals bytes list
  plays bytes within same = record {
    count = n;
    within = let few = whole in omega (arith, few, within);
    are = (
        heard
        ∙ items_agree layout signals n (take left entered) bytes (let few = whole in let long = sent_long in omega (arith, few, long)) (let few = whole in omega (arith, few, within))
        (λ k below. let few = whole in get_or-take left entered k 0 (omega (arith, below, few)) ∙ same k (omega (arith, below, few))));
  }

  -- below a position
  pub plays_below : (line : List ℕ) (reach : ℕ) → reach ≤ length line → ((at : ℕ) → at < left → at < reach → slice_index entered at ≡ slice_index line at) → PlaysBelow layout signals line reach list
  plays_below line reach long same place within below =
      let number = ap length heard ∙ length-map-range_with_len (heard_by layout signals (take left entered)) 0 n in
      let inside : place < n = omega (arith, within, number) in
      let up : place + 1 ≤ n = omega (arith, inside) in
      let few : (place + 1) * block_size layout ≤ n * block_size layout = mul-le-mul_right (block_size layout) up in
      let most = whole in
      let sent = sent_long in
      ap (λ l. get_or l place Hole) heard
      ∙ get_or-map-range_with_len (heard_by layout signals (take left entered)) 0 n place place Hole inside (omega arith)
      ∙ ap (item_of layout (signals place)) (block_same (block_size layout) place (take left entered) line (omega (arith, few, most, sent)) (omega (arith, below, long))
      (λ k under. get_or-take left entered k 0 (omega (arith, under, few, most)) ∙ same k (omega (arith, under, few, most)) (omega (arith, under, below))))

-- ---- a longer line

slice_front : (xs ys : List ℕ) (k : ℕ) → k < length xs → slice_index xs k ≡ slice_index (xs ++ ys) k
slice_front xs ys k below = sym (get_or_append_left xs ys 0 k below)

-- what plays of a line plays of one that begins with it
pub plays_longer_by : (layout : Layout) (signals : ℕ → Signal) (line more : List ℕ) (list : List Heard) → PlaysFrontBy layout signals line list → PlaysFrontBy layout signals (line ++ more) list
plays_longer_by layout signals line more list plays =
    let few = plays.within in
    let long = length-append line more in record {
      count = plays.count;
      within = omega (arith, few, long);
      are = plays.are ∙ items_agree layout signals plays.count line (line ++ more) few (omega (arith, few, long)) (λ k below. slice_front line more k (omega (arith, below, few)));
    }

-- ---- one pair

pub front_of_pair : (layout : Layout) (pair : ℕ) (bytes : List ℕ) (list : List Heard) → PlaysFrontBy layout (λ place. Pair pair) bytes list → PlaysFront layout pair bytes list
front_of_pair layout pair bytes list plays = record { count = plays.count; within = plays.within; are = plays.are }

pair_of_front : (layout : Layout) (pair : ℕ) (bytes : List ℕ) (list : List Heard) → PlaysFront layout pair bytes list → PlaysFrontBy layout (λ place. Pair pair) bytes list
pair_of_front layout pair bytes list plays = record { count = plays.count; within = plays.within; are = plays.are }

pub plays_longer : (layout : Layout) (pair : ℕ) (line more : List ℕ) (list : List Heard) → PlaysFront layout pair line list → PlaysFront layout pair (line ++ more) list
plays_longer layout pair line more list plays =
    front_of_pair layout pair (line ++ more) list (plays_longer_by layout (λ place. Pair pair) line more list (pair_of_front layout pair line list plays))
