use Rattle.std.proofs.Common.{◌≤◌, ℕ, List, length, rules, refl, inl, inr}
use Rattle.std.specs.Prelude.{codes}
use Rattle.std.proofs.lemmas.Result.{IfOk-weaker}
use Rattle.hda_outside.specs.Counts.{Rose}
use Rattle.wav_reader.specs.Opening.{most_wav_bytes}
use Rattle.hda_program.specs.Files.{IsFile, IsLonger}
use Rattle.hda_program.specs.Given.{AreGivenBytesRead, IsGivenRead}
use Rattle.hda_program.proofs.GivenLemmas.{given_read}
use Rattle.hda_program.proofs.given.read_given_file.Goals as goal

pub returns-in-Ok-clause-read : goal.returns-in-Ok-clause-read
returns-in-Ok-clause-read g c =
    let bytes = c.in-Ok.bytes.items in
    let told = g.S.Shelf.told c.args.shelf.now in
    let failed : List ℕ → Type 0 = λ name. Rose (g.S.Shelf.faults c.args.shelf.now name) (g.S.Shelf.faults c.read_all.new.shelf name) in
    let file : IsFile told c.args.name.now bytes = search rules in
    let short : length bytes ≤ most_wav_bytes = search rules in
    let read = rw c.as_slice.ensures.value at c.read_bytes.ensures in
    IfOk-weaker c.read_bytes.result (AreGivenBytesRead bytes) (IsGivenRead told failed c.args.name.now)
    (λ read h. given_read told failed c.args.name.now bytes read file short h) read

pub returns-in_ok-wav_refused-in-Err-TooLong-clause-read : goal.returns-in_ok-wav_refused-in-Err-TooLong-clause-read
returns-in_ok-wav_refused-in-Err-TooLong-clause-read g c =
    let longer : IsLonger most_wav_bytes (g.S.Shelf.told c.args.shelf.now) c.args.name.now = search rules in
    inr (codes "TooLong", inl (longer, refl), c.in_ok-wav_refused-in-Err-TooLong.ensures)
