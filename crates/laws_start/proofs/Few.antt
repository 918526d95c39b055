-- A codec file describes four codecs at most.
use Rattle.std.proofs.Common.{◌≡◌, ◌≤◌, ◌+◌, ◌==◌, ◌&&◌, ◌++◌, ℕ, zero, suc, Bool, true, false, if◌then◌else◌, List, [], ◌∷◌, length, Option, Some, None, Result, Ok, Err, IfOk, inl, inr, refl, arith, length-append}
use Rattle.std.specs.Prelude.{nat_le}
use Rattle.std.specs.Option.{ok_or}
use Rattle.std.specs.List.{find, filter_map, cons_option, range_with_len}
use Rattle.std.proofs.lemmas.Bool.Decides.{nat_tests, eqb_tells}
use Rattle.toml.specs.Data.{Data, Members, as_table}
use Rattle.hda_files.specs.declared.fault.Place.{Place}
use Rattle.hda_files.specs.declared.fault.Place.TheVariants.{Top}
use Rattle.hda_files.specs.declared.fault.Key.{Key}
use Rattle.hda_files.specs.declared.fault.Key.TheVariants.{Fifo, Corb, Rirb, Codec as CodecKey}
use Rattle.hda_files.specs.declared.fault.FileFault.{FileFault}
use Rattle.hda_files.specs.declared.fault.FileFault.TheVariants.{MissingKey, OutOfRange}
use Rattle.hda_files.specs.Values.{◌>>=◌, value_at, array_of, is_table, up_to, tables_of, tables_at, number_or, each_after}
use Rattle.hda_files.specs.Codecs.{codec_of, codecs_after}
use Rattle.hda_files.specs.Tops.{ring_size_at, codecs_at, machine_table_of}
use Rattle.hda_files.specs.Machines.{by_address}

-- ---- one step after another

pub after_step : {A B : Type 0} (r : Result A FileFault) (next : A → Result B FileFault) (Q : B → Type 0) → ((x : A) → IfOk (next x) Q) → IfOk (r >>= next) Q
after_step (Ok x) next Q step = step x
after_step (Err fault) next Q step = tt

pub after_fact : {A B : Type 0} (r : Result A FileFault) (P : A → Type 0) (next : A → Result B FileFault) (Q : B → Type 0) → IfOk r P → ((x : A) → P x → IfOk (next x) Q) → IfOk (r >>= next) Q
after_fact (Ok x) P next Q here step = step x here
after_fact (Err fault) P next Q here step = tt

-- ---- the tables of an array

few_mapped : (values : List Data) → length (filter_map as_table values) ≤ length values
few_mapped [] = omega arith
few_mapped (value ∷ values) = by (as_table value) (few_mapped values) where
  by : (table : Option Members) → length (filter_map as_table values) ≤ length values → length (cons_option table (filter_map as_table values)) ≤ suc (length values)
  by None rest = omega (arith, rest)
  by (Some table) rest = omega (arith, rest)

few_values : (place : Place) (key : Key) (most : ℕ) (values : List Data) → IfOk (up_to place key most values) (λ taken. length taken ≤ most)
few_values place key most values = by (nat_le 1 (length values) && nat_le (length values) most) refl where
  by : (within : Bool) → (nat_le 1 (length values) && nat_le (length values) most) ≡ within → IfOk (if within then Ok values else Err (OutOfRange place key)) (λ taken. length taken ≤ most)
  by true is = grind (arith, nat_tests)
  by false is = tt

few_tables_of : (place : Place) (key : Key) (most : ℕ) (value : Data) → IfOk (tables_of place key most value) (λ tables. length tables ≤ most)
few_tables_of place key most value =
    after_step (array_of place key is_table value) _ (λ (tables : List Members). length tables ≤ most) (λ values.
    after_fact (up_to place key most values) (λ (taken : List Data). length taken ≤ most) (λ tables. Ok (filter_map as_table tables)) (λ (tables : List Members). length tables ≤ most) (few_values place key most values)
    (λ taken few. (let mapped = few_mapped taken in omega (arith, mapped, few))))

few_tables : (table : Members) (place : Place) (key : Key) (most : ℕ) → IfOk (tables_at table place key most) (λ tables. length tables ≤ most)
few_tables table place key most =
    after_step (ok_or (value_at table key) (MissingKey place key)) (tables_of place key most) (λ (tables : List Members). length tables ≤ most) (λ value. few_tables_of place key most value)

-- ---- the codecs of a file

few_read : {A : Type 0} (read_one : List A → Members → Result A FileFault) (tables : List Members) (earlier : List A) (most : ℕ)
    → length earlier + length tables ≤ most → IfOk (each_after read_one earlier tables) (λ codecs. length codecs ≤ most)
few_read {A} read_one [] earlier most few = omega (arith, few)
few_read {A} read_one (table ∷ tables) earlier most few =
    after_step (read_one earlier table) (λ one. each_after read_one (earlier ++ one ∷ []) tables) (λ (codecs : List A). length codecs ≤ most)
    (λ one. few_read read_one tables (earlier ++ one ∷ []) most (let longer = length-append earlier (one ∷ []) in omega (arith, longer, few)))

few_codecs : (top : Members) → IfOk (codecs_at top) (λ codecs. length codecs ≤ 4)
few_codecs top =
    after_fact (tables_at top Top CodecKey 4) (λ (tables : List Members). length tables ≤ 4) (λ tables. codecs_after [] tables) (λ codecs. length codecs ≤ 4)
    (few_tables top Top CodecKey 4) (λ tables few. few_read codec_of tables [] 4 (omega (arith, few)))

pub few_in_table : (top : Members) → IfOk (machine_table_of top) (λ table. length table.codecs ≤ 4)
few_in_table top =
    after_step (number_or top Top Fifo 8 4096 192) _ _
    (λ fifo. after_step (ring_size_at top Corb) _ _
    (λ corb. after_step (ring_size_at top Rirb) _ _
    (λ rirb. after_fact (codecs_at top) (λ codecs. length codecs ≤ 4) _ _ (few_codecs top) (λ codecs few. few))))

-- ---- items by their addresses

-- how many have this address or one above it
abbrev from : {A : Type 0} → List A → (address : A → ℕ) → ℕ → ℕ
from [] address first = 0
from (item ∷ items) address first = (if nat_le first (address item) then 1 else 0) + from items address first

from-few : {A : Type 0} (items : List A) (address : A → ℕ) (first : ℕ) → from items address first ≤ length items
from-few [] address first = omega arith
from-few (item ∷ items) address first = by (nat_le first (address item)) (from-few items address first) where
  by : (high : Bool) → from items address first ≤ length items → (if high then 1 else 0) + from items address first ≤ suc (length items)
  by true rest = omega (arith, rest)
  by false rest = omega (arith, rest)

-- whether an address is this one or above it, and above it
higher : (address first : ℕ) → (if nat_le (first + 1) address then 1 else 0) ≤ (if nat_le first address then 1 else 0)
higher address first = grind (arith, nat_tests)

at_first : (address first : ℕ) → address ≡ first → (if nat_le (first + 1) address then 1 else 0) + 1 ≤ (if nat_le first address then 1 else 0)
at_first address first same = grind (arith, nat_tests)

from-next : {A : Type 0} (items : List A) (address : A → ℕ) (first : ℕ) → from items address (first + 1) ≤ from items address first
from-next [] address first = omega arith
from-next (item ∷ items) address first = (let rest = from-next items address first in let here = higher (address item) first in omega (arith, rest, here))

from-found : {A : Type 0} (items : List A) (address : A → ℕ) (first : ℕ) (item : A) → find (λ one. address one == first) items ≡ Some item → from items address (first + 1) + 1 ≤ from items address first
from-found [] address first item found = cc
from-found (one ∷ items) address first item found =
    elim (eqb_tells (address one) first) [
      | inl same ↦
          let here = at_first (address one) first same.1 in
          let rest = from-next items address first in
          omega (arith, here, rest)
      | inr other ↦
          let here = higher (address one) first in
          let rest = from-found items address first item (rw other.0 at found) in
          omega (arith, here, rest)
    ]

few_from : {A : Type 0} (items : List A) (address : A → ℕ) (first count : ℕ) → length (filter_map (λ at. find (λ one. address one == at) items) (range_with_len first count)) ≤ from items address first
few_from items address first zero = omega arith
few_from {A} items address first (suc count) = by (find (λ one. address one == first) items) refl (few_from items address (first + 1) count) where
  by : (found : Option A) → find (λ one. address one == first) items ≡ found
      → length (filter_map (λ at. find (λ one. address one == at) items) (range_with_len (first + 1) count)) ≤ from items address (first + 1)
      → length (cons_option found (filter_map (λ at. find (λ one. address one == at) items) (range_with_len (first + 1) count))) ≤ from items address first
  by None is rest = (let more = from-next items address first in omega (arith, rest, more))
  by (Some item) is rest = (let more = from-found items address first item is in omega (arith, rest, more))

-- so tables by their addresses are no more than the tables
pub by_address-short : (codecs : _) → length (by_address codecs) ≤ length codecs
unfolding by_address
by_address-short codecs = (let some = few_from codecs (λ codec. codec.words.address) 0 15 in let all = from-few codecs (λ codec. codec.words.address) 0 in omega (arith, some, all))
