-- The lines of entries, from one on.
use Rattle.std.proofs.Common.{◌≡◌, ◌∙◌, ℕ, ◌+◌, ◌<◌, List, [], ◌∷◌, ◌++◌, drop, get_or, length, map, Option, Result, refl, sym, subst, ap, ap₂, add-one, append-nil, drop-cons}
use Rattle.std.specs.Prelude.{OnErr, OnOk}
use Rattle.std.specs.List.{flat_map}
use Rattle.hda_outside.specs.declared.fault.Fault.{Fault}
use Rattle.hda_outside.specs.Sink.{TookFront, taken_with}
use Rattle.hda_world.specs.declared.entry.Entry.{Entry}
use Rattle.hda_world.specs.Events.{Event}
use Rattle.hda_world.specs.Journals.{JournalState, event_of}
use Rattle.sound_report.specs.Pages.{TookAllBut}
use Rattle.sound_report.proofs.Callers.{all_taken, front_taken}
use Rattle.sound_report.specs.declared.played.PlayFault.{PlayFault}
use Rattle.trace_lines.specs.declared.purposes.Bases.{Bases}
use Rattle.trace_lines.specs.declared.purposes.Listed.{Listed}
use Rattle.trace_lines.specs.declared.situations.Situation.{Situation}
use Rattle.trace_lines.specs.Lines.{line_of, lines_from}
use Rattle.trace_lines.specs.Raw.{raw_entry, raw_line, raw_lines}
use Rattle.trace_lines.specs.Situations.{after_entry, listed_in}

-- an entry as the event that it notes
abbrev pub event_at : JournalState → Entry → Event
event_at journal entry = event_of journal.pieces journal.bytes entry

-- the lines that are left of a journal's entries
abbrev pub lines_of : Bases → Option PlayFault → List Listed → Situation → JournalState → List Entry → List ℕ
lines_of bases end buffers situation journal entries = lines_from bases end buffers situation (map (event_at journal) entries)

-- the next line, and those behind it
lines_next : (bases : Bases) (end : Option PlayFault) (buffers : List Listed) (situation : Situation) (journal : JournalState) (entries : List Entry) (i : ℕ) (d : Entry)
    → i < length entries
    → lines_of bases end buffers situation journal (drop i entries)
    ≡ line_of bases end buffers situation (event_at journal (get_or entries i d))
    ++ lines_of bases end (buffers ++ listed_in bases buffers (event_at journal (get_or entries i d)))
    (after_entry bases end buffers situation (event_at journal (get_or entries i d))) journal (drop (i + 1) entries)
lines_next bases end buffers situation journal entries i d within = rw (add-one, drop-cons entries i d) refl

-- the same where the buffers and the situation after it have names of their own
pub lines_left : (bases : Bases) (end : Option PlayFault) (buffers buffers' : List Listed) (situation situation' : Situation) (journal : JournalState) (entries : List Entry)
    (i : ℕ) (d : Entry) → i < length entries
    → buffers' ≡ buffers ++ listed_in bases buffers (event_at journal (get_or entries i d)) → situation' ≡ after_entry bases end buffers situation (event_at journal (get_or entries i d))
    → lines_of bases end buffers situation journal (drop i entries)
    ≡ line_of bases end buffers situation (event_at journal (get_or entries i d)) ++ lines_of bases end buffers' situation' journal (drop (i + 1) entries)
lines_left bases end buffers buffers' situation situation' journal entries i d within listed after =
    lines_next bases end buffers situation journal entries i d within
    ∙ ap₂ (λ (b : List Listed) (s : Situation). line_of bases end buffers situation (event_at journal (get_or entries i d)) ++ lines_of bases end b s journal (drop (i + 1) entries)) (sym listed) (sym after)

-- the lines of JSON of entries are those of their events
pub raw_lines_of : (journal : JournalState) (entries : List Entry) → flat_map (raw_entry journal) entries ≡ raw_lines (map (event_at journal) entries)
raw_lines_of journal [] = refl
raw_lines_of journal (entry ∷ entries) = ap (λ (rest : List ℕ). raw_line (event_at journal entry) ++ rest) (raw_lines_of journal entries)

-- ---- the last page

-- the sink took all but a page, and then this page
pub all_of_page : {before then : Option (List ℕ)} {bytes page : List ℕ} (now : Option (List ℕ)) (result : Result (Unit {0}) Fault) → TookAllBut before then bytes page
    → OnOk result (now ≡ taken_with then page) → OnOk result (now ≡ taken_with before bytes)
all_of_page {before = before} {then} {bytes} {page} now result took written =
    let all : OnOk result (now ≡ taken_with before (bytes ++ [])) = all_taken now result [] took (sym (append-nil page)) written in
    let Taken : List ℕ → Type 0 = λ text. OnOk result (now ≡ taken_with before text) in
    subst Taken (append-nil bytes) all

-- or the first bytes of it
pub front_of_page : {before then : Option (List ℕ)} {bytes page : List ℕ} (now : Option (List ℕ)) (result : Result (Unit {0}) Fault) → TookAllBut before then bytes page
    → OnErr result (TookFront then now page) → OnErr result (TookFront before now bytes)
front_of_page {before = before} {then} {bytes} {page} now result took written =
    let front : OnErr result (TookFront before now (bytes ++ [])) = front_taken now result [] took (sym (append-nil page)) written in
    let Front : List ℕ → Type 0 = λ text. OnErr result (TookFront before now text) in
    subst Front (append-nil bytes) front
