-- A text that goes out page after page.
use Rattle.std.proofs.Common.{◌≡◌, ℕ, ◌+◌, ◌<◌, List, [], ◌++◌, take, drop, get_or, length, Option, Some, None, Result, Ok, Err, refl, sym, ap, subst, ◌∙◌, append_assoc, append-nil, arith, add-one, length-append, drop-cons}
use Rattle.std.specs.Prelude.{IsErr, OnOk, OnErr}
use Rattle.std.specs.List.{flat_map}
use Rattle.std.proofs.lemmas.List.{take-append-le}
use Rattle.std.proofs.lemmas.Result.{on_ok_weaker, on_err_weaker}
use Rattle.std.proofs.Math.Seq.{take-append-add, take-append_seam}
use Rattle.hda_outside.specs.declared.fault.Fault.{Fault}
use Rattle.hda_outside.specs.Sink.{taken_with, TookFront}
use Rattle.sound_report.specs.Pages.{TookAllBut, Writes}
use Rattle.hda_outside.proofs.Callers.{taken_with-append}

-- a front of the first bytes is a front of all
pub front_longer : (before now : Option (List ℕ)) (xs ys : List ℕ) → TookFront before now xs → TookFront before now (xs ++ ys)
front_longer before now xs ys took =
    record {
      count = took.count;
      within = omega (arith, took.within, length-append xs ys);
      front = took.front ∙ ap (taken_with before) (sym (take-append-le took.count xs ys took.within));
    }

-- what was taken up to some rest is a front
pub front_of_rest : {before now : Option (List ℕ)} {bytes rest : List ℕ} → TookAllBut before now bytes rest → TookFront before now bytes
front_of_rest {before = before} {now} {bytes} {rest} took =
    record {
      count = length took.gone;
      within = (let l = ap length took.cut in omega (arith, l, length-append took.gone rest));
      front =
          took.front
          ∙ ap (taken_with before) (sym (take-append_seam took.gone rest) ∙ ap (λ b. take (length took.gone) b) took.cut);
    }

-- a front of the rest is a front of all
front_after : {before then now : Option (List ℕ)} {bytes rest : List ℕ} → TookAllBut before then bytes rest → TookFront then now rest → TookFront before now bytes
front_after {before = before} {then} {now} {bytes} {rest} took more =
    let here : TookFront before now (took.gone ++ rest) =
    record {
      count = length took.gone + more.count;
      within = omega (arith, more.within, length-append took.gone rest);
      front =
          more.front ∙ ap (λ t. taken_with t (take more.count rest)) took.front ∙ taken_with-append before took.gone (take more.count rest)
          ∙ ap (taken_with before) (sym (take-append-add took.gone rest more.count));
    } in
    let Front : List ℕ → Type 0 = λ b. TookFront before now b in
    subst Front took.cut here

-- more of the rest is taken
rest_after : (before then now : Option (List ℕ)) (bytes middle rest : List ℕ) → TookAllBut before then bytes middle → TookAllBut then now middle rest → TookAllBut before now bytes rest
rest_after before then now bytes middle rest took more =
    record {
      gone = took.gone ++ more.gone;
      cut = append_assoc took.gone more.gone rest ∙ ap (λ m. took.gone ++ m) more.cut ∙ took.cut;
      front = more.front ∙ ap (λ t. taken_with t more.gone) took.front ∙ taken_with-append before took.gone more.gone;
    }

-- bytes after what is left
rest_longer : (before now : Option (List ℕ)) (bytes rest later : List ℕ) → TookAllBut before now bytes rest → TookAllBut before now (bytes ++ later) (rest ++ later)
rest_longer before now bytes rest later took =
    record { gone = took.gone; cut = sym (append_assoc took.gone rest later) ∙ ap (λ b. b ++ later) took.cut; front = took.front }

-- the sink took the page and a line after it, but for what stands on the page then
pub line_more : {before then now : Option (List ℕ)} {bytes full page' : List ℕ} (page left line later : List ℕ)
    → TookAllBut before then bytes (page ++ left) → left ≡ line ++ later → full ≡ page ++ line → TookAllBut then now full page'
    → TookAllBut before now bytes (page' ++ later)
line_more {before = before} {then} {now} {bytes} {full} {page'} page left line later took next written more =
    let whole : full ++ later ≡ page ++ left = ap (λ p. p ++ later) written ∙ append_assoc page line later ∙ ap (λ l. page ++ l) (sym next) in
    let Took : List ℕ → Type 0 = λ m. TookAllBut then now m (page' ++ later) in
    rest_after before then now bytes (page ++ left) (page' ++ later) took (subst Took whole (rest_longer then now full page' later more))

-- memory was wanting
pub no_memory : {before now : Option (List ℕ)} {bytes rest : List ℕ} (result : Result (Unit {0}) Fault) (page : List ℕ) → IsErr result
    → TookAllBut before now bytes rest → Writes result before now bytes page
no_memory (Ok done) page failed took = cc
no_memory (Err fault) page failed took = front_of_rest took

-- the sink failed at the page and a line after it
pub no_sink : {before then now : Option (List ℕ)} {bytes full : List ℕ} (result : Result (Unit {0}) Fault) (page' page left line later : List ℕ)
    → IsErr result → TookAllBut before then bytes (page ++ left) → left ≡ line ++ later → full ≡ page ++ line → TookFront then now full
    → Writes result before now bytes page'
no_sink (Ok done) page' page left line later failed took next written front = cc
no_sink {before = before} {then} {now} {bytes} {full} (Err fault) page' page left line later failed took next written front =
    let whole : full ++ later ≡ page ++ left = ap (λ p. p ++ later) written ∙ append_assoc page line later ∙ ap (λ l. page ++ l) (sym next) in
    let Front : List ℕ → Type 0 = λ m. TookFront then now m in
    front_after took (subst Front whole (front_longer then now full later front))

-- the lines of items from one on
pub lines_left : {X : Type 0} (line : X → List ℕ) (items : List X) (i : ℕ) (d : X) → i < length items
    → flat_map line (drop i items) ≡ line (get_or items i d) ++ flat_map line (drop (i + 1) items)
lines_left line items i d within = rw (add-one, drop-cons items i d) refl

-- the same at an item under a name of its own
pub lines_left_at : {X : Type 0} (line : X → List ℕ) (items : List X) (i : ℕ) (item : X) → i < length items → item ≡ get_or items i item
    → flat_map line (drop i items) ≡ line item ++ flat_map line (drop (i + 1) items)
lines_left_at line items i item within is =
    lines_left line items i item within ∙ ap (λ x. line x ++ flat_map line (drop (i + 1) items)) (sym is)

-- where no line is left, the sink took all but the page
pub all_lines : {before now : Option (List ℕ)} {bytes left : List ℕ} (page : List ℕ) → left ≡ [] → TookAllBut before now bytes (page ++ left)
    → TookAllBut before now bytes page
all_lines {before = before} {now} {bytes} page none took =
    let Took : List ℕ → Type 0 = λ r. TookAllBut before now bytes r in
    subst Took (ap (λ l. page ++ l) none ∙ append-nil page) took

-- ---- texts one after another

-- the sink took the page and a text, and then what stood on the page and a second text, but for what stands on the page now
pub then_more : {before then now : Option (List ℕ)} {rest page : List ℕ} (first xs ys : List ℕ) → TookAllBut before then (first ++ xs) rest
    → TookAllBut then now (rest ++ ys) page → TookAllBut before now (first ++ (xs ++ ys)) page
then_more {before = before} {then} {now} {rest} {page} first xs ys took more =
    let Took : List ℕ → Type 0 = λ b. TookAllBut before now b page in
    subst Took (append_assoc first xs ys)
    (rest_after before then now (first ++ xs ++ ys) (rest ++ ys) page (rest_longer before then (first ++ xs) rest ys took) more)

-- or the first ones of all of them
pub then_front : {before then now : Option (List ℕ)} {rest : List ℕ} (first xs ys : List ℕ) → TookAllBut before then (first ++ xs) rest
    → TookFront then now (rest ++ ys) → TookFront before now (first ++ (xs ++ ys))
then_front {before = before} {then} {now} {rest} first xs ys took more =
    let Front : List ℕ → Type 0 = λ b. TookFront before now b in
    subst Front (append_assoc first xs ys) (front_after (rest_longer before then (first ++ xs) rest ys took) more)

-- the first ones of the page and a text are those of them and a text after it
pub front_more : {before now : Option (List ℕ)} (first xs ys : List ℕ) → TookFront before now (first ++ xs) → TookFront before now (first ++ (xs ++ ys))
front_more {before = before} {now} first xs ys took =
    let Front : List ℕ → Type 0 = λ b. TookFront before now b in
    subst Front (append_assoc first xs ys) (front_longer before now (first ++ xs) ys took)

-- what a failed call leaves
pub failed : {before now : Option (List ℕ)} {bytes : List ℕ} (result : Result (Unit {0}) Fault) (page : List ℕ) → IsErr result
    → TookFront before now bytes → Writes result before now bytes page
failed (Ok done) page err took = cc
failed (Err fault) page err took = took

-- what the last call leaves
pub then_last : {before then : Option (List ℕ)} {rest : List ℕ} (now : Option (List ℕ)) (result : Result (Unit {0}) Fault) (page first xs ys : List ℕ)
    → TookAllBut before then (first ++ xs) rest → Writes result then now (rest ++ ys) page → Writes result before now (first ++ (xs ++ ys)) page
then_last now (Ok done) page first xs ys took more = then_more first xs ys took more
then_last now (Err fault) page first xs ys took more = then_front first xs ys took more

-- ---- the whole text

-- the page is written whole
pub all_taken : {before then : Option (List ℕ)} {bytes rest page : List ℕ} (now : Option (List ℕ)) (result : Result (Unit {0}) Fault) (last : List ℕ)
    → TookAllBut before then bytes rest → page ≡ rest ++ last → OnOk result (now ≡ taken_with then page)
    → OnOk result (now ≡ taken_with before (bytes ++ last))
all_taken {before = before} {then} {bytes} {rest} {page} now result last took written =
    on_ok_weaker result
    (λ all.
    let end : TookAllBut before then (bytes ++ last) page =
    (let Took : List ℕ → Type 0 = λ r. TookAllBut before then (bytes ++ last) r in subst Took (sym written) (rest_longer before then bytes rest last took)) in
    all ∙ ap (λ t. taken_with t page) end.front ∙ taken_with-append before end.gone page ∙ ap (taken_with before) end.cut)

-- or the first ones of it
pub front_taken : {before then : Option (List ℕ)} {bytes rest page : List ℕ} (now : Option (List ℕ)) (result : Result (Unit {0}) Fault) (last : List ℕ)
    → TookAllBut before then bytes rest → page ≡ rest ++ last → OnErr result (TookFront then now page)
    → OnErr result (TookFront before now (bytes ++ last))
front_taken {before = before} {then} {bytes} {rest} {page} now result last took written =
    on_err_weaker result
    (λ front.
    let Took : List ℕ → Type 0 = λ r. TookAllBut before then (bytes ++ last) r in
    front_after (subst Took (sym written) (rest_longer before then bytes rest last took)) front)

-- what holds anyway holds on a fault
pub on_err : {P : Type 0} (result : Result (Unit {0}) Fault) → P → OnErr result P
on_err (Ok done) p = tt
on_err (Err fault) p = p
