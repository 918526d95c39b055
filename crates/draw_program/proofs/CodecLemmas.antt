-- How many codecs a sound machine has.
use Rattle.std.proofs.Common.{◌≡◌, ◌≤◌, ◌<◌, ◌+◌, ℕ, suc, List, [], ◌∷◌, length, map, get_or, arith}
use Rattle.std.specs.Prelude.{All}
use Rattle.std.specs.List.Sorted.{IsStrictlyIncreasing}
use Rattle.std.proofs.lemmas.List.{length-map}
use Rattle.std.proofs.lemmas.List.Elements.{All-head, All-tail}
use Rattle.hda_files.specs.declared.machine.CodecFile.{CodecFile}
use Rattle.hda_files.specs.declared.machine.Machine.{Machine}
use Rattle.hda_files.specs.Machines.{IsSoundCodec, IsSound}

abbrev address_of : CodecFile → ℕ
address_of file = file.graph.address

increasing_tail : (address : ℕ) (addresses : List ℕ) → IsStrictlyIncreasing (address ∷ addresses) → IsStrictlyIncreasing addresses
increasing_tail address addresses increasing k within =
    let next : suc k + 1 ≡ suc (k + 1) = omega arith in
    rw next at (increasing (suc k) (omega (arith, within)))

-- addresses that ascend from one on end at 14
few_from : (low : ℕ) (files : List CodecFile) → IsStrictlyIncreasing (map address_of files) → All IsSoundCodec files
    → (0 < length files → low ≤ get_or (map address_of files) 0 0) → low ≤ 15 → low + length files ≤ 15
few_from low [] increasing sound above few = omega (arith, few)
few_from low (file ∷ files) increasing sound above few =
    let most = (All-head IsSoundCodec file files sound).address in
    let rest =
    few_from (file.graph.address + 1) files (increasing_tail file.graph.address (map address_of files) increasing) (All-tail IsSoundCodec file files sound)
    (λ some. (let same = length-map files address_of in let step = increasing 0 (omega (arith, some, same)) in omega (arith, step))) (omega (arith, most)) in
    let from = above (omega arith) in
    omega (arith, rest, from)

pub few_codecs : (machine : Machine) → IsSound machine → length machine.codecs ≤ 15
few_codecs machine sound =
    let few = few_from 0 machine.codecs sound.ascending sound.each (λ some. omega arith) (omega arith) in omega (arith, few)
