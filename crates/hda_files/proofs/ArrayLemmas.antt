-- The values of an array, item by item.
use Rattle.std.proofs.Common.{◌≡◌, ℕ, ◌<◌, ◌≤◌, ◌+◌, get_or, drop, ◌&&◌, Bool, true, List, [], ◌∷◌, length, refl, ap, Option, Some, Ok, Err, Vec, Global, arith}
use Rattle.std.proofs.lemmas.Bool.Decides.{nat_tests}
use Rattle.std.specs.List.{list_all, filter_map, cons_option}
use Rattle.toml.specs.Data.{Data, Members, as_array, as_table}
use Rattle.toml.specs.View.{view, items_view, array_view}
use Rattle.toml.specs.declared.value.Value.{Value}
use Rattle.toml.proofs.Views.{items_view-drop}
use Rattle.hda_files.specs.declared.fault.Place.{Place}
use Rattle.hda_files.specs.declared.fault.Key.{Key}
use Rattle.hda_files.specs.declared.fault.FileFault.TheVariants.{OutOfRange}
use Rattle.hda_files.specs.Values.{values_of, is_table, up_to, tables_of}
use Rattle.hda_files.specs.Arrays.{values_in, tables_in}

pub length-view : (values : List Value) → length (values_of (items_view values)) ≡ length values
length-view [] = refl
length-view (value ∷ values) = rw (length-view values)

pub list_all-view : (test : Data → Bool) (values : List Value) → list_all test (values_of (items_view values)) ≡ list_all (λ value. test (view value)) values
list_all-view test [] = refl
list_all-view test (value ∷ values) = ap (λ rest. test (view value) && rest) (list_all-view test values)

pub filter_map-view : {B : Type 0} (h : Data → Option B) (values : List Value) → filter_map h (values_of (items_view values)) ≡ filter_map (λ value. h (view value)) values
filter_map-view h [] = refl
filter_map-view h (value ∷ values) = rw (filter_map-view h values)

-- an array that is neither empty nor too long, and one that is
pub up_to-good : (place : Place) (key : Key) (most : ℕ) (values : List Data) → 1 ≤ length values → length values ≤ most → up_to place key most values ≡ Ok values
up_to-good place key most values some few = grind (arith, nat_tests)

pub up_to-empty : (place : Place) (key : Key) (most : ℕ) (values : List Data) → length values < 1 → up_to place key most values ≡ Err (OutOfRange place key)
up_to-empty place key most values none = grind (arith, nat_tests)

pub up_to-long : (place : Place) (key : Key) (most : ℕ) (values : List Data) → most < length values → up_to place key most values ≡ Err (OutOfRange place key)
up_to-long place key most values many = grind (arith, nat_tests)

-- an array of tables, of a count that may be, and of one that may not
pub tables_of-good : (place : Place) (key : Key) (most : ℕ) (value : Data) (array : Vec Value Global) → as_array value ≡ Some (array_view array) → list_all is_table (values_in array) ≡ true
    → 1 ≤ length array.items → length array.items ≤ most → tables_of place key most value ≡ Ok (tables_in array)
tables_of-good place key most value array e all some few =
    rw (e, all, up_to-good place key most (values_in array) (rw length-view some) (rw length-view few))

pub tables_of-empty : (place : Place) (key : Key) (most : ℕ) (value : Data) (array : Vec Value Global) → as_array value ≡ Some (array_view array) → list_all is_table (values_in array) ≡ true
    → length array.items < 1 → tables_of place key most value ≡ Err (OutOfRange place key)
tables_of-empty place key most value array e all none =
    rw (e, all, up_to-empty place key most (values_in array) (rw length-view none))

pub tables_of-long : (place : Place) (key : Key) (most : ℕ) (value : Data) (array : Vec Value Global) → as_array value ≡ Some (array_view array) → list_all is_table (values_in array) ≡ true
    → most < length array.items → tables_of place key most value ≡ Err (OutOfRange place key)
tables_of-long place key most value array e all many =
    rw (e, all, up_to-long place key most (values_in array) (rw length-view many))

-- the tables among some values
abbrev pub tables_of_list : List Value → List Members
tables_of_list values = filter_map as_table (values_of (items_view values))

-- the tables from a place on
pub tables_of_list-drop : (values : List Value) (i : ℕ) (value : Value) → i < length values → value ≡ get_or values i value → tables_of_list (drop i values) ≡ cons_option (as_table (view value)) (tables_of_list (drop (i + 1) values))
tables_of_list-drop values i value within e = rw (items_view-drop values i value within, ← e)
