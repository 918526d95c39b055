use Rattle.std.proofs.Common.{◌≤◌, ◌+◌, ℕ, List, length, rules, refl, inl, inr}
use Rattle.std.specs.Prelude.{codes}
use Rattle.std.proofs.lemmas.Result.{IfOk-weaker}
use Rattle.hda_outside.specs.Counts.{Rose}
use Rattle.hda_program.specs.Files.{AreScheduleBytesRead, IsScheduleRead, IsFile, IsLonger, most_schedule_bytes}
use Rattle.hda_program.proofs.ReadLemmas.{schedule_read}
use Rattle.hda_program.proofs.schedule.read_schedule_file.Goals as goal

pub returns-in-Ok-clause-read : goal.returns-in-Ok-clause-read
returns-in-Ok-clause-read g c =
    let bytes = c.in-Ok.bytes.items in
    let told = g.S.Shelf.told c.args.shelf.now in
    let failed : List ℕ → Type 0 = λ name. Rose (g.S.Shelf.faults c.args.shelf.now name) (g.S.Shelf.faults c.read_all.new.shelf name) in
    let gave : ℕ → Type 0 = λ n. g.S.Shelf.given c.read_all.new.shelf ≤ g.S.Shelf.given c.args.shelf.now + n in
    let file : IsFile told c.args.name.now bytes = search rules in
    let short : length bytes ≤ most_schedule_bytes = search rules in
    let given : gave (length bytes) = search rules in
    let read = rw c.as_slice.ensures.value at c.read_bytes.ensures in
    IfOk-weaker c.read_bytes.result (AreScheduleBytesRead bytes) (IsScheduleRead told failed gave c.args.name.now)
    (λ read h. schedule_read told failed gave c.args.name.now bytes read file short given h) read

pub returns-in_ok-schedule_refused-in-Err-TooLong-clause-read : goal.returns-in_ok-schedule_refused-in-Err-TooLong-clause-read
returns-in_ok-schedule_refused-in-Err-TooLong-clause-read g c =
    let longer : IsLonger most_schedule_bytes (g.S.Shelf.told c.args.shelf.now) c.args.name.now = search rules in
    inr (codes "TooLong", inl (longer, refl), c.in_ok-schedule_refused-in-Err-TooLong.ensures)
