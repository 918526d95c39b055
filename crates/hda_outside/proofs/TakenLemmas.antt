-- What a sink has taken, piece after piece.
use Rattle.std.proofs.Common.{◌≡◌, ℕ, ◌+◌, ◌≤◌, List, ◌++◌, take, drop, length, Option, Some, None, is_some, refl, sym, ap, ◌∙◌, append_assoc, arith, length-append, length-take, length-drop}
use Rattle.std.proofs.lemmas.List.{take-append-drop, take-append-le}
use Rattle.std.proofs.Math.Seq.{take-add, take-append-add, take-length}
use Rattle.hda_outside.specs.Sink.{taken_with, TookFront}

-- the first bytes of a front of the list are its own first bytes
pub take-front : (xs : List ℕ) (m n : ℕ) → n ≤ length (take m xs) → take n (take m xs) ≡ take n xs
take-front xs m n within = sym (take-append-le n (take m xs) (drop m xs) within) ∙ ap (take n) (take-append-drop m xs)

-- two pieces taken are both in one
pub taken_with-append : (taken : Option (List ℕ)) (xs ys : List ℕ) → taken_with (taken_with taken xs) ys ≡ taken_with taken (xs ++ ys)
taken_with-append None xs ys = refl
taken_with-append (Some before) xs ys = ap Some (append_assoc before xs ys)

-- a piece that runs on from the first `done` bytes
pub taken_with-more : (taken : Option (List ℕ)) (bytes : List ℕ) (done n : ℕ)
    → taken_with taken (take (done + n) bytes) ≡ taken_with (taken_with taken (take done bytes)) (take n (drop done bytes))
taken_with-more taken bytes done n =
    ap (taken_with taken) (take-add done n bytes) ∙ sym (taken_with-append taken (take done bytes) (take n (drop done bytes)))

-- what a loop over pieces needs
pub ruleset piece_steps = (taken_with-more, take-front, length-take, length-drop)

-- a sink tells after it took bytes where it told before
pub is_some-taken_with : (taken : Option (List ℕ)) (bytes : List ℕ) → is_some (taken_with taken bytes) ≡ is_some taken
is_some-taken_with None bytes = refl
is_some-taken_with (Some before) bytes = refl

-- a sink that took all of the bytes took the first ones
pub TookFront-all : (before now : Option (List ℕ)) (bytes : List ℕ) → now ≡ taken_with before bytes → TookFront before now bytes
TookFront-all before now bytes all =
    record {
      count = length bytes;
      within = omega arith;
      front = all ∙ ap (taken_with before) (sym (take-length bytes));
    }

-- a sink that took some bytes and then the first ones of others took the first ones of both
pub TookFront-append : (before then now : Option (List ℕ)) (xs ys : List ℕ) → then ≡ taken_with before xs → TookFront then now ys
    → TookFront before now (xs ++ ys)
TookFront-append before then now xs ys past took =
    record {
      count = length xs + took.count;
      within = omega (arith, took.within, length-append xs ys);
      front =
          took.front ∙ ap (λ t. taken_with t (take took.count ys)) past ∙ taken_with-append before xs (take took.count ys)
          ∙ ap (taken_with before) (sym (take-append-add xs ys took.count));
    }
