-- The values of a codec file's keys. A fault names the key and its table. This project's own.
use Rattle.std.specs.Prelude.{ℕ, ℤ, pos, negsuc, Bool, false, ◌&&◌, List, [], ◌∷◌, ◌++◌, length, nat_le, Option, Some}
use Rattle.std.specs.Prelude.{None, Result, Ok, Err, if◌then◌else◌, is_some, unwrap_or, option_and_then}
use Rattle.std.specs.Option.{ok_or}
use Rattle.std.specs.List.{list_all, filter_map}
use Rattle.toml.specs.Data.{Data, Items, no_items, item, Members, get_member, as_integer, as_bool, as_array, as_table}
use Rattle.hda_files.specs.declared.fault.Place.{Place}
use Rattle.hda_files.specs.declared.fault.Key.{Key}
use Rattle.hda_files.specs.declared.fault.FileFault.{FileFault}
use Rattle.hda_files.specs.declared.fault.FileFault.TheVariants.{MissingKey, WrongType, OutOfRange}
use Rattle.hda_files.specs.Keys.{key_name}

infixl 10 ◌>>=◌
-- one step after another: the first fault counts
abbrev pub ◌>>=◌ : {A B : Type 0} → Result A FileFault → (A → Result B FileFault) → Result B FileFault
(Ok x) >>= next = next x
(Err fault) >>= next = Err fault

-- the value at a key of a table
abbrev pub value_at : Members → Key → Option Data
value_at table key = get_member (key_name key) table

-- the number where it is one from `least` to `most`
abbrev pub within : ℕ → ℕ → ℤ → Option ℕ
within least most (pos n) = if nat_le least n && nat_le n most then Some n else None
within least most (negsuc n) = None

-- the value as a whole number from `least` to `most`
abbrev pub number_of : Place → Key → ℕ → ℕ → Data → Result ℕ FileFault
number_of place key least most value = do
  number ← ok_or (as_integer value) (WrongType place key)
  ok_or (within least most number) (OutOfRange place key)

-- the whole number at a key that must be given
abbrev pub required_number : Members → Place → Key → ℕ → ℕ → Result ℕ FileFault
required_number table place key least most = do
  value ← ok_or (value_at table key) (MissingKey place key)
  number_of place key least most value

-- the whole number of a key, where it is given
abbrev pub given_number_of : Place → Key → ℕ → ℕ → Option Data → Result (Option ℕ) FileFault
given_number_of place key least most None = Ok None
given_number_of place key least most (Some value) = do
  number ← number_of place key least most value
  Ok (Some number)

abbrev pub given_number : Members → Place → Key → ℕ → ℕ → Result (Option ℕ) FileFault
given_number table place key least most = given_number_of place key least most (value_at table key)

-- the whole number at a key, or what holds where it is not given
abbrev pub number_or : Members → Place → Key → ℕ → ℕ → ℕ → Result ℕ FileFault
number_or table place key least most default = do
  number ← given_number table place key least most
  Ok (unwrap_or number default)

-- the greatest 32-bit number
abbrev pub most_word : ℕ
most_word = 4294967295

-- the 32-bit word at a key, 0 where it is not given
abbrev pub word_or_zero : Members → Place → Key → Result ℕ FileFault
word_or_zero table place key = number_or table place key 0 most_word 0

-- the truth value of a key, false where it is not given
abbrev pub flag_of : Place → Key → Option Data → Result Bool FileFault
flag_of place key None = Ok false
flag_of place key (Some value) = ok_or (as_bool value) (WrongType place key)

abbrev pub flag_at : Members → Place → Key → Result Bool FileFault
flag_at table place key = flag_of place key (value_at table key)

-- the values of an array
abbrev pub values_of : Items → List Data
values_of no_items = []
values_of (item value items) = value ∷ values_of items

-- the values of an array all of whose values pass the test of their type
abbrev pub array_of : Place → Key → (Data → Bool) → Data → Result (List Data) FileFault
array_of place key is_right value = do
  items ← ok_or (as_array value) (WrongType place key)
  if list_all is_right (values_of items) then Ok (values_of items) else Err (WrongType place key)

abbrev pub is_integer : Data → Bool
is_integer value = is_some (as_integer value)

-- the value as a whole number from 0 to `most`
abbrev pub number_up_to : ℕ → Data → Option ℕ
number_up_to most value = option_and_then (within 0 most) (as_integer value)

abbrev pub is_up_to : ℕ → Data → Bool
is_up_to most value = is_some (number_up_to most value)

-- the value as an array of at most `count` whole numbers from 0 to `most`
abbrev pub numbers_of : Place → Key → ℕ → ℕ → Data → Result (List ℕ) FileFault
numbers_of place key count most value = do
  values ← array_of place key is_integer value
  if nat_le (length values) count && list_all (is_up_to most) values then Ok (filter_map (number_up_to most) values)
      else Err (OutOfRange place key)

abbrev pub is_table : Data → Bool
is_table value = is_some (as_table value)

-- the values, where they are from 1 to `most`
abbrev pub up_to : Place → Key → ℕ → List Data → Result (List Data) FileFault
up_to place key most values = if nat_le 1 (length values) && nat_le (length values) most then Ok values else Err
    (OutOfRange place key)

-- the value as an array of 1 to `most` tables
abbrev pub tables_of : Place → Key → ℕ → Data → Result (List Members) FileFault
tables_of place key most value = do
  values ← array_of place key is_table value
  tables ← up_to place key most values
  Ok (filter_map as_table tables)

-- the tables of an array of 1 to `most` tables, at a key that must be given
abbrev pub tables_at : Members → Place → Key → ℕ → Result (List Members) FileFault
tables_at table place key most = do
  value ← ok_or (value_at table key) (MissingKey place key)
  tables_of place key most value

-- what the tables of an array say in order, where each is read after those before it: the first fault counts
abbrev pub each_after : {A : Type 0} → (List A → Members → Result A FileFault) → List A → List Members
    → Result (List A) FileFault
each_after read_one earlier [] = Ok earlier
each_after read_one earlier (table ∷ tables) = do
  one ← read_one earlier table
  each_after read_one (earlier ++ one ∷ []) tables
