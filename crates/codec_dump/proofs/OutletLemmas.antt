-- Files that are written one after another.
use Rattle.std.proofs.Common.{◌≡◌, ◌+◌, ◌<◌, ℕ, List, [], ◌∷◌, ◌++◌, length, take, get_or, Option, sym, ap, ◌∙◌, arith}
use Rattle.std.proofs.lemmas.List.{length-take-le}
use Rattle.std.proofs.lemmas.Grind.{take_at_read}
use Rattle.std.specs.Prelude.{String, string_bytes}
use Rattle.std.specs.declared.alloc.Global.{Global}
use Rattle.hda_outside.specs.Shelf.{Files}
use Rattle.codec_dump.specs.Texts.{further_name}
use Rattle.codec_dump.specs.Outlets.{written_with}
use Rattle.codec_dump.specs.Programs.{with_further}

-- one file more
pub further_more : (texts : List (String Global)) (written : Option Files) (name : List ℕ) (number : ℕ) (text : String Global) → with_further written name number (texts ++ text ∷ []) ≡ written_with (with_further written name number texts) (further_name name (number + length texts)) (string_bytes text)
further_more [] written name number text =
    let same : number ≡ number + 0 = omega arith in
    ap (λ n. written_with written (further_name name n) (string_bytes text)) same
further_more (t ∷ texts) written name number text =
    let after : Option Files = written_with written (further_name name number) (string_bytes t) in
    let same : number + 1 + length texts ≡ number + length (t ∷ texts) = omega arith in
    further_more texts after name (number + 1) text
    ∙ ap (λ n. written_with (with_further after name (number + 1) texts) (further_name name n) (string_bytes text)) same

-- one file more, at its place
pub further_at : (texts : List (String Global)) (i : ℕ) (text : String Global) (before old now : Option Files) (name given bytes : List ℕ) → i < length texts → text ≡ get_or texts i text → old ≡ with_further before name 2 (take i texts) → given ≡ further_name name (i + 2) → bytes ≡ string_bytes text → now ≡ written_with old given bytes → now ≡ with_further before name 2 (take (i + 1) texts)
further_at texts i text before old now name given bytes inside at was named same done =
    let front : List (String Global) = take i texts in
    let more : take (i + 1) texts ≡ front ++ text ∷ [] = (take_at_read texts i text inside).1 ∙ ap (λ y. front ++ y ∷ []) (sym at) in
    let count : length front ≡ i = length-take-le i texts (omega arith) in
    let number : i + 2 ≡ 2 + length front = omega arith in
    let files : Option Files = with_further before name 2 front in
    let place : given ≡ further_name name (2 + length front) = named ∙ ap (further_name name) number in
    done
    ∙ ap (λ o. written_with o given bytes) was
    ∙ ap (λ n. written_with files n bytes) place
    ∙ ap (λ b. written_with files (further_name name (2 + length front)) b) same
    ∙ sym (further_more front before name 2 text)
    ∙ ap (with_further before name 2) (sym more)
