use Rattle.std.proofs.Common.{◌≡◌, ◌++◌, [], List, ℕ, rules, subst}
use Rattle.hda_world.specs.JournalEvents.{events_of}
use Rattle.sound_report.specs.Pages.{Writes}
use Rattle.trace_lines.specs.Lines.{lines_from}
use Rattle.trace_lines.specs.Purposes.{bases_in}
use Rattle.trace_lines.specs.Situations.{situation_opened}
use Rattle.trace_lines.specs.declared.purposes.Bases.{Bases}
use Rattle.trace_lines.proofs.LineLemmas.{raw_lines_of}
use Rattle.trace_lines.proofs.whole.write_form.Goals as goal

-- rings and list lie where all entries say, and the reader begins before the first of them
pub returns-in-Lines-clause-text : goal.returns-in-Lines-clause-text
returns-in-Lines-clause-text g c =
    let journal = c.args.played.now.journal in
    let bases : c.bases_in.result ≡ bases_in (events_of journal) = rw c.entries-entries.ensures at (c.bases_in.ensures journal.pieces journal.bytes) in
    let none : c.new.result.items ≡ [] = search rules in
    let Written : Bases → Type 0 = λ found. Writes c.write_lines.result (g.K.Sink.taken c.args.out.now) (g.K.Sink.taken c.write_lines.new.out)
    (c.args.page.now.items ++ lines_from found c.args.played.now.fault [] (situation_opened c.args.played.now.commands c.args.walks) (events_of journal)) c.write_lines.new.page.items in
    rw c.in-Lines.is (subst Written bases (rw (none, c.opened.ensures, c.entries-entries.ensures) at c.write_lines.ensures.text))

-- the lines of the entries are those of the events
pub returns-in-Raw-clause-text : goal.returns-in-Raw-clause-text
returns-in-Raw-clause-text g c =
    let journal = c.args.played.now.journal in
    let Written : List ℕ → Type 0 = λ lines. Writes c.write_raw_lines.result (g.K.Sink.taken c.args.out.now) (g.K.Sink.taken c.write_raw_lines.new.out)
    (c.args.page.now.items ++ lines) c.write_raw_lines.new.page.items in
    rw c.in-Raw.is (subst Written (raw_lines_of journal journal.entries) (rw c.entries-entries.ensures at c.write_raw_lines.ensures.text))
