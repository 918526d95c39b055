-- What a look reads of RIRB.
use Rattle.std.proofs.Common.{◌≡◌, ◌+◌, ℕ, List, [], ◌∷◌, ◌++◌, length, Bool, true, false, if◌then◌else◌, refl, ap, ◌∙◌, append-nil}
use Rattle.verb_codes.specs.Words.{has_bit}
use Rattle.hda_registers.specs.declared.shapes.Width.TheVariants.{One}
use Rattle.hda_registers.specs.declared.places.TheConstants.{RIRBSTS}
use Rattle.hda_registers.specs.Fields.{entries_of}
use Rattle.hda_world.specs.Events.{Event, Write}
use Rattle.command_engine.specs.declared.answers.Event as told
use Rattle.command_engine.specs.declared.ring_places.RingPlaces.{RingPlaces}
use Rattle.command_engine.specs.Entries.{responses_in, unasked_events_of}
use Rattle.command_engine.specs.Polling.{PollReads, AreNew, entry_reads, batch_accesses, new_entries}
use Rattle.driver_progress.specs.Commands.{ask_accesses}
use Rattle.driver_bring_up.specs.Commanding.{entries_in, with_told}

batch_entries : (rirb size place : ℕ) (entries : List (List ℕ)) (rest : List Event) → entries_in rest ≡ [] → entries_in ((entry_reads rirb size place entries ++ Write RIRBSTS One 1 ∷ []) ++ rest) ≡ entries
batch_entries rirb size place [] rest none = none
batch_entries rirb size place (entry ∷ entries) rest none = ap (λ (more : List (List ℕ)). entry ∷ more) (batch_entries rirb size (place + 1) entries rest none)

no_entries : (entries : List (List ℕ)) → length entries ≡ 0 → [] ≡ entries
no_entries [] none = refl
no_entries (entry ∷ entries) none = cc

read_entries : (written : Bool) (rirb : ℕ) (rings : RingPlaces) (reads : PollReads) (rest : List Event) → length reads.entries ≡ (if written then new_entries rings reads.pointer else 0) → entries_in rest ≡ []
    → entries_in ((if written then batch_accesses rirb rings reads.pointer reads.entries else []) ++ rest) ≡ reads.entries
read_entries true rirb rings reads rest number none = batch_entries rirb (entries_of rings.rirb) (rings.read + 1) reads.entries rest none
read_entries false rirb rings reads rest number none = none ∙ no_entries reads.entries number

-- the entries that were read are those of the poll
pub asked_entries : (rirb clock : ℕ) (rings : RingPlaces) (reads : PollReads) (rest : List Event) → AreNew rings reads → entries_in rest ≡ [] → entries_in (ask_accesses rirb clock rings reads ++ rest) ≡ reads.entries
asked_entries rirb clock rings reads rest new none = read_entries (has_bit reads.flag 0) rirb rings reads rest new.number none

pub told_same : (events : List told.Event) (entries : List (List ℕ)) → events ++ unasked_events_of (responses_in entries) ≡ with_told events entries
told_same events [] = append-nil events
told_same events (entry ∷ entries) = refl
