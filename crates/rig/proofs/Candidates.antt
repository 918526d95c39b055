-- A candidate pin of a codec's graph is one of the machine that the codec's file describes.
use Rattle.std.proofs.Common.{◌≡◌, ◌<◌, ◌==◌, ℕ, zero, suc, Bool, true, false, List, [], ◌∷◌, length, map, get_or, Some, if◌then◌else◌, refl, sym, ap, subst, ◌∙◌, arith, eq-eqb, rules, tests}
use Rattle.std.specs.Prelude.{AllPairs}
use Rattle.std.proofs.lemmas.List.{get_or-map, length-map}
use Rattle.std.proofs.lemmas.List.Kept.{AllPairs-from_increasing}
use Rattle.codec_graph.specs.Candidates.{is_candidate}
use Rattle.codec_graph.specs.declared.pin_kind.PinKind.{PinKind}
use Rattle.codec_graph.specs.declared.pin_kind.PinKind.TheVariants.{Analog}
use Rattle.hda_world.specs.Worlds.{codec_at}
use Rattle.hda_files.specs.declared.machine.CodecFile.{CodecFile}
use Rattle.hda_files.specs.declared.machine.Machine.{Machine}
use Rattle.hda_files.specs.Machines.{IsSound}
use Rattle.hda_controller.specs.Controllers.{is_candidate_in, is_candidate_of, is_candidate_of_kind}
use Rattle.hda_controller.specs.Openings.{codec_in, codecs_in}

abbrev address_of : CodecFile → ℕ
address_of file = file.graph.address

-- which of two codecs has an address
pick : Bool → CodecFile → List CodecFile → ℕ → ℕ → Bool
pick named file files address pin = is_candidate_in Analog (if named then Some (codec_in file) else codec_at address (codecs_in files)) pin

not_named : (one other : ℕ) → one < other → (one == other) ≡ false
not_named one other less = search (rules, tests)

candidate_at : (files : List CodecFile) (k : ℕ) (d : CodecFile) (pin : ℕ) → AllPairs (λ x y. x < y) (map address_of files) → k < length files
    → is_candidate_of (codecs_in files) (get_or files k d).graph.address pin ≡ is_candidate (get_or files k d).graph pin
unfolding pick
candidate_at [] k d pin ascend within = absurd (omega (arith, within))
candidate_at (file ∷ files) zero d pin ascend within =
    ap (λ (named : Bool). pick named file files file.graph.address pin) (eq-eqb file.graph.address file.graph.address refl)
candidate_at (file ∷ files) (suc k) d pin ascend within =
    let here : CodecFile = get_or files k d in
    let inside : k < length files = omega (arith, within) in
    let mapped : suc k < length (map address_of (file ∷ files)) = subst (λ (n : ℕ). suc k < n) (sym (length-map (file ∷ files) address_of)) within in
    let above : file.graph.address < get_or (map address_of files) k d.graph.address = ascend 0 (suc k) d.graph.address (omega arith) mapped in
    let same : get_or (map address_of files) k d.graph.address ≡ here.graph.address = get_or-map address_of files k d d.graph.address inside in
    ap (λ (named : Bool). pick named file files here.graph.address pin) (not_named file.graph.address here.graph.address (subst (λ (n : ℕ). file.graph.address < n) same above))
    ∙ candidate_at files k d pin later inside
  where
    later : AllPairs (λ x y. x < y) (map address_of files)
    later i j e less within = ascend (suc i) (suc j) e (omega (arith, less)) (omega (arith, within))

pub candidate_known : (kind : PinKind) (machine : Machine) (k : ℕ) (d : CodecFile) (pin : ℕ) → kind ≡ Analog → IsSound machine → k < length machine.codecs
    → is_candidate (get_or machine.codecs k d).graph pin ≡ true → is_candidate_of_kind kind (codecs_in machine.codecs) (get_or machine.codecs k d).graph.address pin ≡ true
candidate_known kind machine k d pin analog sound within is =
    ap (λ (pins : PinKind). is_candidate_of_kind pins (codecs_in machine.codecs) (get_or machine.codecs k d).graph.address pin) analog
    ∙ (candidate_at machine.codecs k d pin (AllPairs-from_increasing (map address_of machine.codecs) sound.ascending) within ∙ is)
