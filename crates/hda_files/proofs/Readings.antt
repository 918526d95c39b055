-- What bytes mean whose top table is known.
use Rattle.std.proofs.Common.{◌≡◌, ℕ, List, sym, ◌∙◌, subst, inl, inr, Result}
use Rattle.std.proofs.lemmas.Option.{same_Some}
use Rattle.toml.specs.Data.{Members}
use Rattle.hda_files.specs.declared.machine.Machine.{Machine}
use Rattle.hda_files.specs.declared.fault.FileFault.{FileFault}
use Rattle.hda_files.specs.Memory.{OrMemory}
use Rattle.hda_files.specs.Machines.{HasTable, IsReadingOf, IsReadingOfBytes, Reads}

-- bytes have one top table at most
pub one_table : (bytes : List ℕ) (one other : Members) → HasTable bytes one → HasTable bytes other → one ≡ other
one_table bytes one other h k = same_Some one other (sym h.1 ∙ k.1)

pub IsReadingOfBytes-from_table : (bytes : List ℕ) (top : Members) (result : Result Machine FileFault) → HasTable bytes top → IsReadingOf top result → IsReadingOfBytes bytes result
IsReadingOfBytes-from_table bytes top result has reading = record {
  of_table = λ other h. subst (λ t. IsReadingOf t result) (one_table bytes top other has h) reading;
  of_none = λ none. absurd (none top has);
}

pub Reads-from_table : (bytes : List ℕ) (top : Members) (result : Result Machine FileFault) → HasTable bytes top → OrMemory result (IsReadingOf top result) → Reads bytes result
Reads-from_table bytes top result has (inl memory) = inl memory
Reads-from_table bytes top result has (inr reading) = inr (IsReadingOfBytes-from_table bytes top result has reading)
