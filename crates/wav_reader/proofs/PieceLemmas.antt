-- What is made of bytes piece by piece.
use Rattle.std.proofs.Common.{◌≡◌, ◌≤◌, ◌<◌, ℕ, zero, suc, ◌+◌, ◌-◌, ◌*◌, List, [], ◌∷◌, ◌++◌, length, take, drop, refl, sym, ap, ◌∙◌, append_assoc, length-append, length-drop, arith}
use Rattle.std.specs.List.{flat_map}
use Rattle.std.proofs.lemmas.List.{drop-drop, drop-take, take-take, drop_at, take-append-le, drop-append-le, length-take-le}
use Rattle.std.proofs.lemmas.List.Concat.{flat_map-append}
use Rattle.std.proofs.lemmas.List.FromFn.{map-range_with_len_more}
use Rattle.std.proofs.Math.Seq.{take-add}
use Rattle.wav_reader.specs.Wavs.{piece_at, pieces_of}

pub append-nil : (xs : List ℕ) → xs ++ [] ≡ xs
append-nil [] = refl
append-nil (x ∷ xs) = ap (λ rest. x ∷ rest) (append-nil xs)

-- one more piece
pub pieces-more : (f : List ℕ → List ℕ) (size : ℕ) (bytes : List ℕ) (count : ℕ)
    → flat_map f (pieces_of size bytes (count + 1)) ≡ flat_map f (pieces_of size bytes count) ++ f (piece_at size bytes count)
pieces-more f size bytes count =
    ap (flat_map f) (map-range_with_len_more (piece_at size bytes) 0 count count (omega arith))
    ∙ (flat_map-append f (pieces_of size bytes count) (piece_at size bytes count ∷ [])
    ∙ ap (λ last. flat_map f (pieces_of size bytes count) ++ last) (append-nil (f (piece_at size bytes count))))

pub pieces-suc : (f : List ℕ → List ℕ) (size : ℕ) (bytes : List ℕ) (count : ℕ)
    → flat_map f (pieces_of size bytes (suc count)) ≡ flat_map f (pieces_of size bytes count) ++ f (piece_at size bytes count)
pieces-suc f size bytes count =
    let next : suc count ≡ count + 1 = omega arith in
    ap (λ (n : ℕ). flat_map f (pieces_of size bytes n)) next ∙ pieces-more f size bytes count

-- some, and then the others
piece_at-drop : (size : ℕ) (bytes : List ℕ) (skipped number : ℕ) → piece_at size bytes (skipped + number) ≡ piece_at size (drop (size * skipped) bytes) number
piece_at-drop size bytes skipped number =
    let sum : size * (skipped + number) ≡ size * skipped + size * number = omega arith in
    ap (λ place. take size (drop place bytes)) sum ∙ ap (take size) (sym (drop-drop (size * number) (size * skipped) bytes))

pub pieces-add : (f : List ℕ → List ℕ) (size : ℕ) (bytes : List ℕ) (first more : ℕ)
    → flat_map f (pieces_of size bytes (first + more)) ≡ flat_map f (pieces_of size bytes first) ++ flat_map f (pieces_of size (drop (size * first) bytes) more)
pieces-add f size bytes first zero =
    let none : first + 0 ≡ first = omega arith in
    ap (λ (n : ℕ). flat_map f (pieces_of size bytes n)) none ∙ sym (append-nil (flat_map f (pieces_of size bytes first)))
pieces-add f size bytes first (suc more) =
    let sum : first + suc more ≡ suc (first + more) = omega arith in
    let rest = drop (size * first) bytes in
    ap (λ (n : ℕ). flat_map f (pieces_of size bytes n)) sum
    ∙ pieces-suc f size bytes (first + more)
    ∙ ap (λ front. front ++ f (piece_at size bytes (first + more))) (pieces-add f size bytes first more)
    ∙ append_assoc (flat_map f (pieces_of size bytes first)) (flat_map f (pieces_of size rest more)) (f (piece_at size bytes (first + more)))
    ∙ ap (λ last. flat_map f (pieces_of size bytes first) ++ (flat_map f (pieces_of size rest more) ++ f last)) (piece_at-drop size bytes first more)
    ∙ ap (λ both. flat_map f (pieces_of size bytes first) ++ both) (sym (pieces-suc f size rest more))

-- the pieces stand in the first bytes
pub piece-front : (size : ℕ) (bytes : List ℕ) (long number : ℕ) → size * number + size ≤ long → piece_at size (take long bytes) number ≡ piece_at size bytes number
piece-front size bytes long number inside =
    let rest : long ≡ size * number + (long - size * number) = omega (arith, inside) in
    ap (λ (long : ℕ). take size (drop (size * number) (take long bytes))) rest
    ∙ ap (λ (rest : List ℕ). take size rest) (drop-take (size * number) (long - size * number) bytes)
    ∙ take-take size (long - size * number) (drop (size * number) bytes) (omega (arith, inside))

pub pieces-front : (f : List ℕ → List ℕ) (size : ℕ) (bytes : List ℕ) (long count : ℕ) → size * count ≤ long
    → flat_map f (pieces_of size (take long bytes) count) ≡ flat_map f (pieces_of size bytes count)
pieces-front f size bytes long zero inside = refl
pieces-front f size bytes long (suc count) inside =
    let sum : size * suc count ≡ size * count + size = omega arith in
    let last : size * count + size ≤ long = omega (arith, sum, inside) in
    pieces-suc f size (take long bytes) count
    ∙ ap (λ (front : List ℕ). front ++ f (piece_at size (take long bytes) count)) (pieces-front f size bytes long count (omega (arith, last)))
    ∙ ap (λ (piece : List ℕ). flat_map f (pieces_of size bytes count) ++ f piece) (piece-front size bytes long count last)
    ∙ sym (pieces-suc f size bytes count)

-- so many bytes each
pub piece-length : (size : ℕ) (bytes : List ℕ) (number : ℕ) → size * number + size ≤ length bytes → length (piece_at size bytes number) ≡ size
piece-length size bytes number inside =
    let rest = length-drop (size * number) bytes in
    length-take-le size (drop (size * number) bytes) (omega (arith, rest, inside))

pub pieces-length : (f : List ℕ → List ℕ) (size out : ℕ) (bytes : List ℕ) (count : ℕ) → ((piece : List ℕ) → length piece ≡ size → length (f piece) ≡ out)
    → size * count ≤ length bytes → length (flat_map f (pieces_of size bytes count)) ≡ count * out
pieces-length f size out bytes zero each inside = let none : 0 ≡ zero * out = omega arith in none
pieces-length f size out bytes (suc count) each inside =
    let sum : size * suc count ≡ size * count + size = omega arith in
    let all : suc count * out ≡ count * out + out = omega arith in
    let last : size * count + size ≤ length bytes = omega (arith, sum, inside) in
    let before = pieces-length f size out bytes count each (omega (arith, last)) in
    let one = each (piece_at size bytes count) (piece-length size bytes count last) in
    let both = length-append (flat_map f (pieces_of size bytes count)) (f (piece_at size bytes count)) in
    ap length (pieces-suc f size bytes count) ∙ omega (arith, before, one, both, all)

-- what is made of one of them stands at its place
pub pieces-part : (f : List ℕ → List ℕ) (size out : ℕ) (bytes : List ℕ) (number more : ℕ) → ((piece : List ℕ) → length piece ≡ size → length (f piece) ≡ out)
    → size * (number + suc more) ≤ length bytes
    → drop (number * out) (flat_map f (pieces_of size bytes (number + suc more)))
    ≡ f (piece_at size bytes number) ++ flat_map f (pieces_of size (drop (size * suc number) bytes) more)
pieces-part f size out bytes number more each inside =
    let sum : size * (number + suc more) ≡ size * number + (size + size * more) = omega arith in
    let long = pieces-length f size out bytes number each (omega (arith, sum, inside)) in
    let next : number + suc more ≡ suc number + more = omega arith in
    let front = flat_map f (pieces_of size bytes number) in
    let piece = f (piece_at size bytes number) in
    let others = flat_map f (pieces_of size (drop (size * suc number) bytes) more) in
    ap (λ (n : ℕ). drop (number * out) (flat_map f (pieces_of size bytes n))) next
    ∙ ap (drop (number * out)) (pieces-add f size bytes (suc number) more ∙ ap (λ (first : List ℕ). first ++ others) (pieces-suc f size bytes number) ∙ append_assoc front piece others)
    ∙ drop_at front (piece ++ others) (number * out) long

-- a byte of what is made of one of them
pub pieces-byte : (f : List ℕ → List ℕ) (size out : ℕ) (bytes : List ℕ) (number count place : ℕ) → ((piece : List ℕ) → length piece ≡ size → length (f piece) ≡ out)
    → number < count → size * count ≤ length bytes → place < out
    → take 1 (drop (number * out + place) (flat_map f (pieces_of size bytes count))) ≡ take 1 (drop place (f (piece_at size bytes number)))
pieces-byte f size out bytes number count place each early inside within =
    let all : count ≡ number + suc (count - suc number) = omega (arith, early) in
    let more = count - suc number in
    let ring = flat_map f (pieces_of size bytes count) in
    let inside' : size * (number + suc (count - suc number)) ≤ length bytes = (let same = ap (λ (n : ℕ). size * n) all in omega (arith, same, inside)) in
    let part = pieces-part f size out bytes number (count - suc number) each inside' in
    let split : size * (number + suc (count - suc number)) ≡ size * number + (size + size * (count - suc number)) = omega arith in
    let long = each (piece_at size bytes number) (piece-length size bytes number (omega (arith, split, inside'))) in
    let piece = f (piece_at size bytes number) in
    let others = flat_map f (pieces_of size (drop (size * suc number) bytes) more) in
    let rest = length-drop place (f (piece_at size bytes number)) in
    let swap : number * out + place ≡ place + number * out = omega arith in
    ap (take 1)
    (ap (λ (n : ℕ). drop n ring) (omega (arith, swap))
    ∙ sym (drop-drop place (number * out) ring)
    ∙ ap (drop place) (ap (λ (n : ℕ). drop (number * out) (flat_map f (pieces_of size bytes n))) all ∙ part)
    ∙ drop-append-le place piece others (omega (arith, long, within)))
    ∙ take-append-le 1 (drop place piece) others (omega (arith, rest, long, within))

-- pieces that stay as they are
pub pieces-same : (size : ℕ) (bytes : List ℕ) (count : ℕ) → flat_map (λ (piece : List ℕ). piece) (pieces_of size bytes count) ≡ take (size * count) bytes
pieces-same size bytes zero = let none : size * 0 ≡ 0 = omega arith in rw none refl
pieces-same size bytes (suc count) =
    let sum : size * suc count ≡ size * count + size = omega arith in
    pieces-suc (λ (piece : List ℕ). piece) size bytes count
    ∙ ap (λ (front : List ℕ). front ++ piece_at size bytes count) (pieces-same size bytes count)
    ∙ sym (take-add (size * count) size bytes)
    ∙ ap (λ (n : ℕ). take n bytes) (sym sum)
