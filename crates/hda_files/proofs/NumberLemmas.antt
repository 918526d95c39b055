-- Arrays of whole numbers.
use Rattle.std.proofs.Common.{◌≡◌, ℕ, ℤ, pos, negsuc, ◌<◌, ◌≤◌, ◌&&◌, ◌+◌, nat_le, option_and_then, Bool, true, false, List, [], ◌∷◌, length, Option, Some, None, IfSome, Ok, Err, Vec, Global, All, arith}
use Rattle.std.proofs.lemmas.Bool.Decides.{nat_tests}
use Rattle.std.proofs.lemmas.List.Elements.{All-nil, All-cons}
use Rattle.std.specs.List.{list_all, filter_map, cons_option}
use Rattle.toml.specs.Data.{Data, as_array, as_integer}
use Rattle.toml.specs.View.{view, array_view}
use Rattle.toml.specs.declared.value.Value.{Value}
use Rattle.hda_files.specs.declared.fault.Place.{Place}
use Rattle.hda_files.specs.declared.fault.Key.{Key}
use Rattle.hda_files.specs.declared.fault.FileFault.TheVariants.{OutOfRange}
use Rattle.hda_files.specs.Values.{within, is_integer, number_up_to, is_up_to, numbers_of}
use Rattle.hda_files.specs.Arrays.{values_in}
use Rattle.hda_files.proofs.ArrayLemmas.{length-view}

length-cons_option : {A : Type 0} (o : Option A) (xs : List A) (n : ℕ) → length xs ≤ n → length (cons_option o xs) ≤ n + 1
length-cons_option None xs n h = omega arith
length-cons_option (Some x) xs n h = omega arith

-- a filter makes no list longer
length-filter_map : {A B : Type 0} (h : A → Option B) (xs : List A) → length (filter_map h xs) ≤ length xs
length-filter_map h [] = omega arith
length-filter_map h (x ∷ xs) = let more = length-cons_option (h x) (filter_map h xs) (length xs) (length-filter_map h xs) in omega arith

pub few-numbers : {A B : Type 0} (h : A → Option B) (xs : List A) (count : ℕ) → length xs ≤ count → length (filter_map h xs) ≤ count
few-numbers h xs count few = let fewer = length-filter_map h xs in omega arith

within-bound : (most : ℕ) (number : ℤ) → IfSome (within 0 most number) (λ n. n ≤ most)
within-bound most (pos n) = grind (arith, nat_tests)
within-bound most (negsuc n) = tt

number-bound : (most : ℕ) (number : Option ℤ) → IfSome (option_and_then (within 0 most) number) (λ n. n ≤ most)
number-bound most None = tt
number-bound most (Some number) = within-bound most number

All-cons_option : {A : Type 0} (P : A → Type 0) (o : Option A) (xs : List A) → IfSome o P → All P xs → All P (cons_option o xs)
All-cons_option P None xs here rest = rest
All-cons_option P (Some x) xs here rest = All-cons P x xs here rest

-- the numbers up to a bound are below it
pub numbers-bound : (most : ℕ) (values : List Value) → All (λ n. n ≤ most) (filter_map (λ value. number_up_to most (view value)) values)
numbers-bound most [] = All-nil (λ n. n ≤ most)
numbers-bound most (value ∷ values) =
    All-cons_option (λ n. n ≤ most) (number_up_to most (view value)) (filter_map (λ v. number_up_to most (view v)) values) (number-bound most (as_integer (view value))) (numbers-bound most values)

may_be : (n count : ℕ) (all : Bool) → n ≤ count → all ≡ true → (nat_le n count && all) ≡ true
may_be n count all few every = grind (arith, nat_tests)

too_many : (n count : ℕ) (all : Bool) → count < n → (nat_le n count && all) ≡ false
too_many n count all many = grind (arith, nat_tests)

out_of_range : (n count : ℕ) (all : Bool) → all ≡ false → (nat_le n count && all) ≡ false
out_of_range n count all some = grind (arith, nat_tests)

-- an array of numbers that may be, and one that may not
pub numbers_of-good : (place : Place) (key : Key) (count most : ℕ) (value : Data) (array : Vec Value Global) → as_array value ≡ Some (array_view array) → list_all is_integer (values_in array) ≡ true
    → length array.items ≤ count → list_all (is_up_to most) (values_in array) ≡ true → numbers_of place key count most value ≡ Ok (filter_map (number_up_to most) (values_in array))
numbers_of-good place key count most value array e all few every =
    rw (e, all, may_be (length (values_in array)) count (list_all (is_up_to most) (values_in array)) (rw length-view few) every)

pub numbers_of-many : (place : Place) (key : Key) (count most : ℕ) (value : Data) (array : Vec Value Global) → as_array value ≡ Some (array_view array) → list_all is_integer (values_in array) ≡ true
    → count < length array.items → numbers_of place key count most value ≡ Err (OutOfRange place key)
numbers_of-many place key count most value array e all many =
    rw (e, all, too_many (length (values_in array)) count (list_all (is_up_to most) (values_in array)) (rw length-view many))

pub numbers_of-large : (place : Place) (key : Key) (count most : ℕ) (value : Data) (array : Vec Value Global) → as_array value ≡ Some (array_view array) → list_all is_integer (values_in array) ≡ true
    → list_all (is_up_to most) (values_in array) ≡ false → numbers_of place key count most value ≡ Err (OutOfRange place key)
numbers_of-large place key count most value array e all some =
    rw (e, all, out_of_range (length (values_in array)) count (list_all (is_up_to most) (values_in array)) some)
