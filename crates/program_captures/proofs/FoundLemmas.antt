-- The codec from which is recorded, one codec more at a time.
use Rattle.std.proofs.Common.{◌≡◌, ◌≢◌, ◌<◌, ◌==◌, ℕ, Bool, true, false, List, [], ◌∷◌, ◌++◌, length, map, take, get_or, get_or-take, Option, Some, None, refl, sym, ap, subst, ◌∙◌, append_assoc, arith}
use Rattle.std.specs.Prelude.{All, Contains}
use Rattle.std.specs.List.{AllZip}
use Rattle.std.proofs.lemmas.Bool.Decides.{nat_tests}
use Rattle.std.proofs.lemmas.List.{get_or-map, length-map, length-take-le}
use Rattle.std.proofs.lemmas.List.Elements.{All-cons, All-nil, All-head, All-tail, All-append, All-contains, Contains-append_right}
use Rattle.std.proofs.lemmas.List.Kept.{AllPairs-from_increasing}
use Rattle.std.proofs.lemmas.Slice.Zip.{all_zipped_more}
use Rattle.codec_graph.specs.declared.raw.RawCodec.{RawCodec}
use Rattle.stream_format.specs.declared.format.Format.{Format}
use Rattle.route_planner.specs.declared.routes.PinPlan.{PinPlan}
use Rattle.route_planner.specs.declared.routes.Plan.{Plan}
use Rattle.route_planner.specs.Inputs.{AreInputEntries, IsInputPlan}
use Rattle.input_verbs.specs.OpenInputs.{IsInputPlanAt, IsInputPlanIf}
use Rattle.hda_files.specs.declared.machine.CodecFile.{CodecFile}
use Rattle.program_captures.specs.Inputs.{Ascend, HasInputPin, IsInputOf, IsWithoutInput}
use Rattle.program_captures.specs.Finding.{address_by, address_with, HasNoEntry, IsFound, IsNextPlan}

-- ---- addresses

abbrev address_of : CodecFile → ℕ
address_of file = file.graph.address

abbrev pub LiesBelow : CodecFile → CodecFile → Type 0
LiesBelow file other = other.graph.address < file.graph.address

-- ---- plans

plan_here : (graph : RawCodec) (format : Format) (plan : Plan) → IsInputPlan graph format plan → IsInputPlanAt graph.address graph format plan
plan_here graph format plan is =
    let test : (graph.address == graph.address) ≡ true = grind (arith, nat_tests) in
    subst (λ (b : Bool). IsInputPlanIf b graph format plan) (sym test) is

plan_elsewhere : (address : ℕ) (graph : RawCodec) (format : Format) (plan : Plan) → graph.address ≢ address → plan.pins ≡ [] → IsInputPlanAt address graph format plan
plan_elsewhere address graph format plan other none =
    let test : (graph.address == address) ≡ false = grind (arith, nat_tests, other) in
    subst (λ (b : Bool). IsInputPlanIf b graph format plan) (sym test) none

all_elsewhere : (file : CodecFile) (format : Format) (files : List CodecFile) (plans : List Plan) → All (LiesBelow file) files → AllZip HasNoEntry files plans
    → AllZip (λ (f : CodecFile) (p : Plan). IsInputPlanAt file.graph.address f.graph format p) files plans
all_elsewhere file format [] [] below none = tt
all_elsewhere file format [] (plan ∷ plans) below none = none
all_elsewhere file format (f ∷ files) [] below none = none
all_elsewhere file format (f ∷ files) (plan ∷ plans) below none =
    let low : f.graph.address < file.graph.address = All-head (LiesBelow file) f files below in
    (plan_elsewhere file.graph.address f.graph format plan (λ same. absurd (omega (arith, low, same))) none.0, all_elsewhere file format files plans (All-tail (LiesBelow file) f files below) none.1)

-- ---- one codec more

entry_of : (format : Format) (file : CodecFile) (entry : PinPlan) (entries : List PinPlan) → AreInputEntries file.graph format (entry ∷ entries) → HasInputPin format file
entry_of format file entry [] is = (entry, is)
entry_of format file entry (other ∷ entries) is = absurd is

-- behind the one that was found
behind_found : (format : Format) (files : List CodecFile) (address : ℕ) (plans : List Plan) (file : CodecFile) (plan : Plan) → All (LiesBelow file) files
    → IsInputOf format files address plans → plan.pins ≡ [] → IsInputOf format (files ++ file ∷ []) address (plans ++ plan ∷ [])
behind_found format files address plans file plan below found none =
    let there : Contains files found.file =
    subst (λ (fs : List CodecFile). Contains fs found.file) (sym found.among) (Contains-append_right found.before (found.file ∷ found.behind) found.file (0, (omega arith), refl)) in
    let low : found.file.graph.address < file.graph.address = All-contains (LiesBelow file) files found.file below there in
    let is = found.address_is in
    record {
      before = found.before;
      file = found.file;
      behind = found.behind ++ file ∷ [];
      among = ap (λ (fs : List CodecFile). fs ++ file ∷ []) found.among ∙ append_assoc found.before (found.file ∷ found.behind) (file ∷ []);
      first = found.first;
      has = found.has;
      address_is = found.address_is;
      planned =
          all_zipped_more (λ (f : CodecFile) (p : Plan). IsInputPlanAt address f.graph format p) files plans file plan found.planned
          (plan_elsewhere address file.graph format plan (λ same. absurd (omega (arith, low, is, same))) none);
    }

-- none was found before it
none_before : (format : Format) (files : List CodecFile) (plans : List Plan) (file : CodecFile) (plan : Plan) (pins : List PinPlan) → plan.pins ≡ pins → All (LiesBelow file) files
    → IsFound format files None plans → IsInputPlan file.graph format plan → IsFound format (files ++ file ∷ []) (address_by file.graph pins) (plans ++ plan ∷ [])
none_before format files plans file plan [] pins_are below found is =
    let here : IsWithoutInput format file = subst (λ (p : List PinPlan). AreInputEntries file.graph format p) pins_are is in (
      All-append (IsWithoutInput format) files (file ∷ []) found.0 (All-cons (IsWithoutInput format) file [] here (All-nil (IsWithoutInput format))),
      all_zipped_more HasNoEntry files plans file plan found.1 pins_are,
    )
none_before format files plans file plan (entry ∷ entries) pins_are below found is =
    record {
      before = files;
      file = file;
      behind = [];
      among = refl;
      first = found.0;
      has = entry_of format file entry entries (subst (λ (p : List PinPlan). AreInputEntries file.graph format p) pins_are is);
      address_is = refl;
      planned =
          all_zipped_more (λ (f : CodecFile) (p : Plan). IsInputPlanAt file.graph.address f.graph format p) files plans file plan
          (all_elsewhere file format files plans below found.1) (plan_here file.graph format plan is);
    }

pub found_more : (format : Format) (files : List CodecFile) (plans : List Plan) (found : Option ℕ) (file : CodecFile) (plan : Plan) → All (LiesBelow file) files
    → IsFound format files found plans → IsNextPlan found file.graph format plan → IsFound format (files ++ file ∷ []) (address_with found file.graph plan) (plans ++ plan ∷ [])
found_more format files plans (Some address) file plan below found is = behind_found format files address plans file plan below found is
found_more format files plans None file plan below found is = none_before format files plans file plan plan.pins refl below found is

-- the codecs before one lie below it
pub all_below : (files : List CodecFile) (place : ℕ) (file : CodecFile) → Ascend files → place < length files → file ≡ get_or files place file → All (LiesBelow file) (take place files)
all_below files place file ascend within is = λ k d inside.
    let long = length-take-le place files in
    let before : k < place = omega (arith, inside, long, within) in
    let low = AllPairs-from_increasing (map address_of files) ascend k place 0 before (let same = length-map files address_of in omega (arith, same, within)) in
    let there : get_or (map address_of files) k 0 ≡ (get_or (take place files) k d).graph.address =
    get_or-map address_of files k d 0 (omega (arith, before, within)) ∙ ap address_of (sym (get_or-take place files k d before)) in
    let here : get_or (map address_of files) place 0 ≡ file.graph.address =
    get_or-map address_of files place file 0 within ∙ ap address_of (sym is) in
    omega (arith, low, there, here)
