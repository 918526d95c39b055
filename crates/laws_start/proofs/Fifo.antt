-- A codec file's FIFO has 8 to 4,096 bytes.
use Rattle.std.proofs.Common.{◌≡◌, ◌≤◌, ◌&&◌, ℕ, ℤ, pos, negsuc, Bool, true, false, if◌then◌else◌, Option, Some, None, Ok, IfOk, refl, arith}
use Rattle.std.specs.Prelude.{nat_le, unwrap_or}
use Rattle.std.specs.Option.{ok_or}
use Rattle.std.proofs.lemmas.Bool.Decides.{nat_tests}
use Rattle.toml.specs.Data.{Data, Members, as_integer}
use Rattle.hda_files.specs.declared.fault.Place.{Place}
use Rattle.hda_files.specs.declared.fault.Place.TheVariants.{Top}
use Rattle.hda_files.specs.declared.fault.Key.{Key}
use Rattle.hda_files.specs.declared.fault.Key.TheVariants.{Fifo, Corb, Rirb}
use Rattle.hda_files.specs.declared.fault.FileFault.TheVariants.{WrongType, OutOfRange}
use Rattle.hda_files.specs.Values.{within, number_of, given_number_of, given_number, number_or, value_at}
use Rattle.hda_files.specs.Tops.{ring_size_at, codecs_at, machine_table_of}
use Rattle.laws_start.proofs.Few.{after_step, after_fact}

abbrev pub IsWithin : (least most : ℕ) → ℕ → Type 0
IsWithin least most number = (least ≤ number) × (number ≤ most)

-- a number that may not be given
abbrev AreWithin : (least most : ℕ) → Option ℕ → Type 0
AreWithin least most None = Unit {0}
AreWithin least most (Some number) = IsWithin least most number

module _ (place : Place) (key : Key) (least most : ℕ) where
  in_range : (number : ℤ) → IfOk (ok_or (within least most number) (OutOfRange place key)) (IsWithin least most)
  in_range (pos n) = by (nat_le least n && nat_le n most) refl where
    by : (fits : Bool) → (nat_le least n && nat_le n most) ≡ fits → IfOk (ok_or (if fits then Some n else None) (OutOfRange place key)) (IsWithin least most)
    by true is = (grind (arith, nat_tests), grind (arith, nat_tests))
    by false is = tt
  in_range (negsuc n) = tt

  value_within : (value : Data) → IfOk (number_of place key least most value) (IsWithin least most)
  value_within value = after_step (ok_or (as_integer value) (WrongType place key)) (λ number. ok_or (within least most number) (OutOfRange place key)) (IsWithin least most) in_range

  given_within : (value : Option Data) → IfOk (given_number_of place key least most value) (AreWithin least most)
  given_within None = tt
  given_within (Some value) = after_fact (number_of place key least most value) (IsWithin least most) (λ number. Ok (Some number)) (AreWithin least most) (value_within value) (λ number fits. fits)

-- where it is not given it has 192
fifo_number : (top : Members) → IfOk (number_or top Top Fifo 8 4096 192) (IsWithin 8 4096)
fifo_number top =
    after_fact (given_number top Top Fifo 8 4096) (AreWithin 8 4096) (λ number. Ok (unwrap_or number 192)) (IsWithin 8 4096) (given_within Top Fifo 8 4096 (value_at top Fifo)) by
  where
    by : (number : Option ℕ) → AreWithin 8 4096 number → IsWithin 8 4096 (unwrap_or number 192)
    by None fits = (omega arith, omega arith)
    by (Some n) fits = fits

pub fifo_in_table : (top : Members) → IfOk (machine_table_of top) (λ table. IsWithin 8 4096 table.fifo)
fifo_in_table top =
    after_fact (number_or top Top Fifo 8 4096 192) (IsWithin 8 4096) _ (λ table. IsWithin 8 4096 table.fifo) (fifo_number top)
    (λ fifo fits. after_step (ring_size_at top Corb) _ _ (λ corb. after_step (ring_size_at top Rirb) _ _ (λ rirb. after_step (codecs_at top) _ _ (λ codecs. fits))))
