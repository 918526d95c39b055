-- Codecs by their addresses.
use Rattle.std.proofs.Common.{◌≡◌, ◌<◌, ◌≤◌, ◌+◌, ◌-◌, ℕ, suc, zero, List, [], ◌∷◌, length, map, Option, Some, None, All, inl, inr, refl, ap, sym, ◌∙◌, subst, arith}
use Rattle.std.specs.List.{range_with_len, filter_map, cons_option}
use Rattle.std.specs.List.Sorted.{IsStrictlyIncreasing}
use Rattle.std.proofs.lemmas.Bool.Decides.{eqb_tells}
use Rattle.std.proofs.lemmas.Option.{same_Some}
use Rattle.std.proofs.lemmas.List.Elements.{All-nil, All-cons, All-head, All-tail, All-weaker}
use Rattle.hda_files.specs.declared.codec.CodecTable.{CodecTable}
use Rattle.hda_files.specs.declared.machine.CodecFile.{CodecFile}
use Rattle.hda_files.specs.Codecs.{codec_with_address}
use Rattle.hda_files.specs.Machines.{by_address, codec_file, codec_files}

-- what holds of each codec holds of the one with an address
pub found-all : (P : CodecTable → Type 0) (codecs : List CodecTable) (address : ℕ) (codec : CodecTable) → All P codecs → codec_with_address codecs address ≡ Some codec → P codec
found-all P [] address codec all e = cc
found-all P (first ∷ codecs) address codec all e =
    elim (eqb_tells first.words.address address) [
      | inl same ↦ subst P (same_Some first codec (rw same.0 at e)) (All-head P first codecs all)
      | inr other ↦ found-all P codecs address codec (All-tail P first codecs all) (rw other.0 at e)
    ]

-- the codec with an address has it
found-address : (codecs : List CodecTable) (address : ℕ) (codec : CodecTable) → codec_with_address codecs address ≡ Some codec → codec.words.address ≡ address
found-address [] address codec e = cc
found-address (first ∷ codecs) address codec e =
    elim (eqb_tells first.words.address address) [
      | inl same ↦ ap (λ (c : CodecTable). c.words.address) (sym (same_Some first codec (rw same.0 at e))) ∙ same.1
      | inr other ↦ found-address codecs address codec (rw other.0 at e)
    ]

-- the codecs with some addresses that follow one another
abbrev pub of_addresses : List CodecTable → ℕ → ℕ → List CodecTable
of_addresses codecs first count = filter_map (codec_with_address codecs) (range_with_len first count)

-- the codecs from an address on, ascending
unfoldable pub from_address : List CodecTable → ℕ → List CodecTable
from_address codecs address = of_addresses codecs address (15 - address)

pub from_address-first : (codecs : List CodecTable) → by_address codecs ≡ from_address codecs 0
unfolding by_address from_address
from_address-first codecs = refl

pub from_address-past : (codecs : List CodecTable) → from_address codecs 15 ≡ []
unfolding from_address
from_address-past codecs = refl

pub from_address-here : (codecs : List CodecTable) (address : ℕ) (found : Option CodecTable) → address < 15 → codec_with_address codecs address ≡ found → from_address codecs address ≡ cons_option found (from_address codecs (address + 1))
unfolding from_address
from_address-here codecs address found within e =
    let step : 15 - address ≡ suc (15 - (address + 1)) = omega arith in rw (step, e)

-- some that hold of all codecs hold of those with some addresses
all-option : (P : CodecTable → Type 0) (found : Option CodecTable) (codecs : List CodecTable) → ((codec : CodecTable) → found ≡ Some codec → P codec) → All P codecs → All P (cons_option found codecs)
all-option P None codecs here rest = rest
all-option P (Some codec) codecs here rest = All-cons P codec codecs (here codec refl) rest

of_addresses-all : (P : CodecTable → Type 0) (codecs : List CodecTable) (first count : ℕ) → All P codecs → All P (of_addresses codecs first count)
of_addresses-all P codecs first zero all = All-nil P
of_addresses-all P codecs first (suc count) all =
    all-option P (codec_with_address codecs first) (of_addresses codecs (first + 1) count) (λ codec e. found-all P codecs first codec all e) (of_addresses-all P codecs (first + 1) count all)

pub by_address-all : (P : CodecTable → Type 0) (codecs : List CodecTable) → All P codecs → All P (by_address codecs)
unfolding by_address
by_address-all P codecs all = of_addresses-all P codecs 0 15 all

-- there are no more codecs than addresses
few-option : (found : Option CodecTable) (codecs : List CodecTable) (n : ℕ) → length codecs ≤ n → length (cons_option found codecs) ≤ suc n
few-option None codecs n few = omega arith
few-option (Some codec) codecs n few = omega arith

of_addresses-few : (codecs : List CodecTable) (first count : ℕ) → length (of_addresses codecs first count) ≤ count
of_addresses-few codecs first zero = omega arith
of_addresses-few codecs first (suc count) = few-option (codec_with_address codecs first) (of_addresses codecs (first + 1) count) count (of_addresses-few codecs (first + 1) count)

pub by_address-few : (codecs : List CodecTable) → length (by_address codecs) ≤ 15
unfolding by_address
by_address-few codecs = of_addresses-few codecs 0 15

-- the addresses of the codecs that some tables describe
abbrev addresses_of : List CodecTable → List ℕ
addresses_of codecs = map (λ (file : CodecFile). file.graph.address) (map codec_file codecs)

-- numbers from an address on that ascend
record Ascends (first : ℕ) (addresses : List ℕ) : Type 0 where
  ascending : IsStrictlyIncreasing addresses
  bound : All (λ address. first ≤ address) addresses

increasing-cons : (x : ℕ) (xs : List ℕ) → All (λ y. x < y) xs → IsStrictlyIncreasing xs → IsStrictlyIncreasing (x ∷ xs)
increasing-cons x xs below ascending zero within = below 0 0 (omega arith)
increasing-cons x xs below ascending (suc k) within =
    let next : suc k + 1 ≡ suc (k + 1) = omega arith in rw next (ascending k (omega arith))

ascends-option : (found : Option CodecTable) (codecs : List CodecTable) (first : ℕ) → ((codec : CodecTable) → found ≡ Some codec → codec.words.address ≡ first) → Ascends (first + 1) (addresses_of codecs) → Ascends first (addresses_of (cons_option found codecs))
ascends-option None codecs first here rest = record {
  ascending = rest.ascending;
  bound = All-weaker (λ address. first + 1 ≤ address) (λ address. first ≤ address) (λ address more. omega arith) (addresses_of codecs) rest.bound;
}
ascends-option (Some codec) codecs first here rest =
    let same : codec.words.address ≡ first = here codec refl in
    record {
      ascending = increasing-cons codec.words.address (addresses_of codecs) (All-weaker (λ address. first + 1 ≤ address) (λ address. codec.words.address < address) (λ address more. omega arith) (addresses_of codecs) rest.bound) rest.ascending;
      bound = All-cons (λ address. first ≤ address) codec.words.address (addresses_of codecs) (omega arith) (All-weaker (λ address. first + 1 ≤ address) (λ address. first ≤ address) (λ address more. omega arith) (addresses_of codecs) rest.bound);
    }

of_addresses-ascend : (codecs : List CodecTable) (first count : ℕ) → Ascends first (addresses_of (of_addresses codecs first count))
of_addresses-ascend codecs first zero = record { ascending = λ k within. absurd (omega arith); bound = All-nil (λ address. first ≤ address) }
of_addresses-ascend codecs first (suc count) =
    ascends-option (codec_with_address codecs first) (of_addresses codecs (first + 1) count) first (λ codec e. found-address codecs first codec e) (of_addresses-ascend codecs (first + 1) count)

-- the codecs' addresses ascend, each once
pub codec_files-ascend : (codecs : List CodecTable) → IsStrictlyIncreasing (map (λ (file : CodecFile). file.graph.address) (codec_files codecs))
unfolding by_address
codec_files-ascend codecs = (of_addresses-ascend codecs 0 15).ascending
