-- A text that goes out part by part.
use Rattle.std.proofs.Common.{◌≡◌, ℕ, List, [], ◌++◌, Option, Some, None, Result, Ok, Err, refl, sym, ap, subst, ◌∙◌, append_assoc, append-nil, arith, length-append}
use Rattle.std.proofs.lemmas.List.{take-append-le}
use Rattle.hda_outside.specs.declared.fault.Fault.{Fault}
use Rattle.hda_outside.specs.declared.fault.Fault.TheVariants.{Failed}
use Rattle.hda_outside.specs.Sink.{taken_with, TookFront}
use Rattle.sound_report.specs.Pages.{TookAllBut, Writes}
use Rattle.sound_report.proofs.Callers.{line_more, no_memory, no_sink}

with_nothing : (now : Option (List ℕ)) → now ≡ taken_with now []
with_nothing None = refl
with_nothing (Some bytes) = ap Some (sym (append-nil bytes))

-- the sink took nothing yet
pub nothing_yet : (now : Option (List ℕ)) (bytes : List ℕ) → TookAllBut now now bytes bytes
nothing_yet now bytes = record { gone = []; cut = refl; front = with_nothing now }

-- what was taken up to some rest is a front
pub rest_front : {before now : Option (List ℕ)} {bytes rest : List ℕ} → TookAllBut before now bytes rest → TookFront before now bytes
rest_front took = no_memory (Err Failed) [] refl took

-- the last part
pub last_part : {before then : Option (List ℕ)} {bytes : List ℕ} (now : Option (List ℕ)) (result : Result (Unit {0}) Fault) (page' page text : List ℕ)
    → TookAllBut before then bytes (page ++ text) → Writes result then now (page ++ text) page' → Writes result before now bytes page'
last_part {before = before} {then} {bytes} now (Ok done) page' page text took more =
    let Took : List ℕ → Type 0 = λ rest. TookAllBut before now bytes rest in
    subst Took (append-nil page') (line_more page text text [] took (sym (append-nil text)) refl more)
last_part now (Err fault) page' page text took front = no_sink (Err fault) page' page text text [] refl took (sym (append-nil text)) refl front

-- what is left under another name
pub took_as : {before now : Option (List ℕ)} {bytes left left' : List ℕ} (page : List ℕ) → left ≡ left' → TookAllBut before now bytes (page ++ left)
    → TookAllBut before now bytes (page ++ left')
took_as {before = before} {now} {bytes} page same took =
    let Took : List ℕ → Type 0 = λ rest. TookAllBut before now bytes (page ++ rest) in
    subst Took same took

-- the last part, under another name
pub writes_as : {before then : Option (List ℕ)} {bytes left text : List ℕ} (now : Option (List ℕ)) (result : Result (Unit {0}) Fault) (page' page : List ℕ)
    → left ≡ text → TookAllBut before then bytes (page ++ left) → Writes result then now (page ++ text) page' → Writes result before now bytes page'
writes_as {text = text} now result page' page same took = last_part now result page' page text (took_as page same took)

-- bytes after what is left
pub rest_longer : {before now : Option (List ℕ)} (bytes rest later : List ℕ) → TookAllBut before now bytes rest → TookAllBut before now (bytes ++ later) (rest ++ later)
rest_longer bytes rest later took =
    record { gone = took.gone; cut = sym (append_assoc took.gone rest later) ∙ ap (λ b. b ++ later) took.cut; front = took.front }

-- a front of the first bytes is a front of all
pub front_longer : {before now : Option (List ℕ)} (bytes later : List ℕ) → TookFront before now bytes → TookFront before now (bytes ++ later)
front_longer {before = before} bytes later took =
    record {
      count = took.count;
      within = omega (arith, took.within, length-append bytes later);
      front = took.front ∙ ap (taken_with before) (sym (take-append-le took.count bytes later took.within));
    }
