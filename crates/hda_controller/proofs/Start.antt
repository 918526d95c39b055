-- A machine's codecs at the start, and the place of a codec by its address.
use Rattle.codec_graph.specs.declared.pin_kind.PinKind.{PinKind}
use Rattle.std.proofs.Common.{◌≡◌, ◌≤◌, ◌<◌, ◌==◌, ℕ, Bool, true, false, List, [], ◌∷◌, length, map, get_or, Some, refl, sym, ap, subst, ◌∙◌, arith, eq-eqb, suc, if◌then◌else◌}
use Rattle.std.specs.Prelude.{All, Contains}
use Rattle.std.specs.List.{position_or_len}
use Rattle.std.specs.List.Sorted.{IsStrictlyIncreasing}
use Rattle.std.proofs.lemmas.List.{get_or-map, length-map}
use Rattle.std.proofs.lemmas.List.Elements.{All-map}
use Rattle.std.proofs.lemmas.List.Sums.{position_or_len_is}
use Rattle.codec_graph.specs.CodecStates.{CodecState}
use Rattle.hda_files.specs.declared.machine.CodecFile.{CodecFile}
use Rattle.hda_files.specs.declared.machine.Machine.{Machine}
use Rattle.hda_files.specs.Machines.{IsSound}
use Rattle.device_core.specs.Codecs.{AreAddresses, AreIdle, addresses_of, place_of}
use Rattle.hda_world.specs.Worlds.{codec_at}
use Rattle.std.proofs.lemmas.Bool.{eqb-true}
use Rattle.device_core.proofs.Callers.{place_by}
use Rattle.hda_controller.specs.Controllers.{is_candidate_in, is_candidate_of_kind}
use Rattle.hda_controller.specs.Openings.{codec_in, codecs_in}

addresses-in : (files : List CodecFile) → addresses_of (codecs_in files) ≡ map (λ file. file.graph.address) files
addresses-in [] = refl
addresses-in (file ∷ files) = ap (λ (rest : List ℕ). file.graph.address ∷ rest) (addresses-in files)

pub addresses_good : (machine : Machine) → IsSound machine → AreAddresses (addresses_of (codecs_in machine.codecs))
addresses_good machine sound = record {
  ascend = subst IsStrictlyIncreasing (sym (addresses-in machine.codecs)) sound.ascending;
  few = subst (All (λ a. a ≤ 14)) (sym (addresses-in machine.codecs)) (All-map (λ (a : ℕ). a ≤ 14) (λ (file : CodecFile). file.graph.address) machine.codecs (λ k d within. (sound.each k d within).address));
}

pub nothing_waits : (files : List CodecFile) → AreIdle (codecs_in files)
nothing_waits files = All-map (λ (codec : CodecState). codec.waiting ≡ []) codec_in files (λ k d within. refl)

-- ---- places

pub found_is : (address : ℕ) (codecs : List CodecState) (place : ℕ) (codec : CodecState) → place < length codecs → ((k : ℕ) (d : CodecState) → k < place → ((get_or codecs k d).graph.address == address) ≡ false)
    → codec ≡ get_or codecs place codec → codec.graph.address ≡ address → place_of address codecs ≡ Some place
found_is address codecs place codec within before is hit =
    let named = (λ (c : CodecState). c.graph.address == address) in
    let here = eq-eqb (get_or codecs place codec).graph.address address (ap (λ (c : CodecState). c.graph.address) (sym is) ∙ hit) in
    place_by (position_or_len named codecs) (length codecs) place (position_or_len_is named codecs place codec (omega (arith, within)) (λ k. before k codec) (λ inside. here)) within

pub none_has : (address : ℕ) (codecs : List CodecState) (place : ℕ) → length codecs ≤ place → ((k : ℕ) (d : CodecState) → k < place → ((get_or codecs k d).graph.address == address) ≡ false)
    → Contains (addresses_of codecs) address → ⊥
none_has address [] place end before there = absurd (let within = there.1 in omega (arith, within))
none_has address (c ∷ codecs) place end before there =
    let all : List CodecState = c ∷ codecs in
    let inside : there.0 < length all = subst (λ (n : ℕ). there.0 < n) (length-map all (λ codec. codec.graph.address)) there.1 in
    let same = sym (get_or-map (λ (codec : CodecState). codec.graph.address) all there.0 c address inside) ∙ there.2 in
    let hit : ((get_or all there.0 c).graph.address == address) ≡ true = eq-eqb (get_or all there.0 c).graph.address address same in
    let miss = before there.0 c (omega (arith, inside, end)) in
    let never : true ≡ false = sym hit ∙ miss in cc

-- a pin that is a candidate is one of a codec that is there
candidate_by : (kind : PinKind) (codec : CodecState) (codecs : List CodecState) (address pin : ℕ) (named : Bool) → (codec.graph.address == address) ≡ named → (is_candidate_of_kind kind codecs address pin ≡ true → Contains (addresses_of codecs) address)
    → is_candidate_in kind (if named then Some codec else codec_at address codecs) pin ≡ true → Contains (addresses_of (codec ∷ codecs)) address
candidate_by kind codec codecs address pin true is rest candidate = (0, omega arith, eqb-true codec.graph.address address is)
candidate_by kind codec codecs address pin false is rest candidate = (let there = rest candidate in (suc there.0, omega (arith, there.1), there.2))

pub candidate_there : (kind : PinKind) (codecs : List CodecState) (address pin : ℕ) → is_candidate_of_kind kind codecs address pin ≡ true → Contains (addresses_of codecs) address
candidate_there kind [] address pin candidate = (let never : false ≡ true = candidate in cc)
candidate_there kind (codec ∷ codecs) address pin candidate = candidate_by kind codec codecs address pin (codec.graph.address == address) refl (candidate_there kind codecs address pin) candidate
