-- A file that is read piece after piece.
use Rattle.std.proofs.Common.{◌≡◌, ℕ, ◌+◌, ◌<◌, ◌≤◌, List, [], ◌++◌, take, drop, length, Option, Some, None, refl, sym, ap, subst, ◌∙◌, append_assoc, arith, append-nil, length-take}
use Rattle.std.proofs.Math.ListN.{drop_of_length-le}
use Rattle.std.proofs.lemmas.List.{take-append-drop, drop-drop}
use Rattle.std.specs.Prelude.{IfSome, IsSomeAnd}
use Rattle.hda_outside.specs.Shelf.{Files, file_of, IsPiece}

-- where the files are told and hold one of that name, these bytes are all of it before a place
abbrev pub IsFront : Option Files → List ℕ → List ℕ → ℕ → Type 0
IsFront told name bytes place =
    (files : Files) → told ≡ Some files → (file : List ℕ) → file_of files name ≡ Some file → bytes ++ drop place file ≡ file

-- what a told shelf's answer says of its piece
abbrev pub GivesPiece : Option Files → List ℕ → ℕ → List ℕ → ℕ → Type 0
GivesPiece told name from buffer n =
    IfSome told (λ files. IsSomeAnd (file_of files name) (λ file. IsPiece file from buffer n))

if_some_intro : {A : Type 0} (o : Option A) (P : A → Type 0) → ((x : A) → o ≡ Some x → P x) → IfSome o P
if_some_intro None P f = tt
if_some_intro (Some x) P f = f x refl

some_and_cases : {A C : Type 0} (o : Option A) (P : A → Type 0) → IsSomeAnd o P → ((x : A) → o ≡ Some x → P x → C) → C
some_and_cases None P h f = absurd h
some_and_cases (Some x) P h f = f x refl h

pub piece_in : (told : Option Files) (name buffer : List ℕ) (from n : ℕ) (files : Files) → told ≡ Some files
    → GivesPiece told name from buffer n → IsSomeAnd (file_of files name) (λ file. IsPiece file from buffer n)
piece_in told name buffer from n files here gives =
    let At : Option Files → Type 0 = λ t. GivesPiece t name from buffer n in subst At here gives

pub piece_of : (told : Option Files) (name buffer : List ℕ) (from n : ℕ) (files : Files) → told ≡ Some files
    → (file : List ℕ) → file_of files name ≡ Some file → GivesPiece told name from buffer n → IsPiece file from buffer n
piece_of told name buffer from n files here file there gives =
    let At : Option (List ℕ) → Type 0 = λ o. IsSomeAnd o (λ file. IsPiece file from buffer n) in
    subst At there (piece_in told name buffer from n files here gives)

-- one more piece of it
pub front_more : (before then : Option Files) (name bytes buffer : List ℕ) (place from n : ℕ) (bytes' : List ℕ) (place' : ℕ)
    → then ≡ before → IsFront before name bytes place → GivesPiece then name from buffer n → from ≡ place
    → bytes' ≡ bytes ++ take n buffer → place' ≡ place + n → IsFront before name bytes' place'
front_more before then name bytes buffer place from n bytes' place' same front gives asked more further files here file there =
    let At : ℕ → Type 0 = λ p. IsPiece file p buffer n in
    let piece : IsPiece file place buffer n = subst At asked (piece_of then name buffer from n files (same ∙ here) file there gives) in
    rw (more, further, piece.front, ← drop-drop n place file, append_assoc, take-append-drop) (front files here file there)

-- nothing more of it is left
pub whole_file : (before then : Option Files) (name bytes buffer : List ℕ) (place from n : ℕ)
    → then ≡ before → IsFront before name bytes place → GivesPiece then name from buffer n → from ≡ place → n ≡ 0
    → 0 < length buffer → IfSome before (λ files. file_of files name ≡ Some bytes)
whole_file before then name bytes buffer place from n same front gives asked none room =
    if_some_intro before (λ files. file_of files name ≡ Some bytes)
    (λ files here.
    some_and_cases (file_of files name) (λ file. IsPiece file from buffer n) (piece_in then name buffer from n files (same ∙ here) gives)
    (λ file there piece.
    let past : length file ≤ place = grind (arith, piece.some room) in
    let rest : drop place file ≡ [] = drop_of_length-le file past in
    there ∙ ap Some (sym (front files here file there) ∙ ap (λ r. bytes ++ r) rest ∙ append-nil bytes)))

-- a place, once a buffer's first bytes were added
pub place_more : (place place' n : ℕ) (buffer : List ℕ) → place' ≡ place + length (take n buffer) → n ≤ length buffer → place' ≡ place + n
place_more place place' n buffer further within = omega (arith, length-take n buffer)
