-- What a stretch of a look for an answer and a submission saw, and that its accesses are those that are expected.
use Rattle.std.proofs.Common.{◌≡◌, ◌+◌, ℕ, List, [], ◌∷◌, ◌++◌, Bool, true, false, if◌then◌else◌, Option, Some, None, refl, ap, ◌∙◌}
use Rattle.std.specs.Prelude.{slice_index}
use Rattle.std.proofs.lemmas.Grind.{flat_map-append}
use Rattle.verb_codes.specs.Words.{has_bit}
use Rattle.hda_registers.specs.declared.shapes.Width.TheVariants.{One, Two, Four}
use Rattle.hda_registers.specs.declared.places.TheConstants.{WALCLK, RIRBWP, RIRBSTS}
use Rattle.hda_registers.specs.Fields.{entries_of}
use Rattle.hda_world.specs.Events.{Event, Read, Write}
use Rattle.command_engine.specs.declared.ring_places.RingPlaces.{RingPlaces}
use Rattle.command_engine.specs.Polling.{PollReads, AreNew, entry_reads, batch_accesses, poll_accesses, rings_polled}
use Rattle.driver_progress.specs.Requests.{Request, Gets, requests_of, requests_in}
use Rattle.driver_progress.specs.Tasks.{Blocks, Order}
use Rattle.driver_progress.specs.Seen.{seen_by, values_of, value_in}
use Rattle.driver_progress.specs.Expected.{polls, submits}
use Rattle.driver_progress.specs.Commands.{ask_accesses}
use Rattle.driver_progress.proofs.Callers.{poll_fits}
use Rattle.driver_bring_up.specs.Commanding.{submit_made}

-- all accesses of a call that goes on with these
abbrev pub call_made : (rirb clock : ℕ) → RingPlaces → PollReads → (rest : List Event) → List Event
call_made rirb clock rings reads rest = ask_accesses rirb clock rings reads ++ rest

-- ---- what is read of a register

pub none_submitted : (register corb : ℕ) (rings : RingPlaces) (order : Option Order) → values_of (submit_made corb rings order) register ≡ []
none_submitted register corb rings None = refl
none_submitted register corb rings (Some order) = refl

pub entry_unread : (register rirb size place : ℕ) (entries : List (List ℕ)) (rest : List Event)
    → values_of ((entry_reads rirb size place entries ++ Write RIRBSTS One 1 ∷ []) ++ rest) register ≡ values_of rest register
entry_unread register rirb size place [] rest = refl
entry_unread register rirb size place (entry ∷ entries) rest = entry_unread register rirb size (place + 1) entries rest

-- an event and then events by which nothing is read of it
flat_one : (register : ℕ) (event : Event) (rest : List Event) → values_of rest register ≡ [] → values_of (event ∷ rest) register ≡ values_of (event ∷ []) register
flat_one register event rest none = ap (λ (values : List ℕ). value_in register event ++ values) none

-- after the read of RIRBSTS only RIRBWP is read
batch_reads : (written : Bool) (register rirb : ℕ) (rings : RingPlaces) (reads : PollReads) (rest : List Event) → values_of rest register ≡ []
    → values_of ((if written then batch_accesses rirb rings reads.pointer reads.entries else []) ++ rest) register
    ≡ values_of (if written then Read RIRBWP Two reads.pointer ∷ [] else []) register
batch_reads false register rirb rings reads rest none = none
batch_reads true register rirb rings reads rest none =
    flat_one register (Read RIRBWP Two reads.pointer) ((entry_reads rirb (entries_of rings.rirb) (rings.read + 1) reads.entries ++ Write RIRBSTS One 1 ∷ []) ++ rest)
    (entry_unread register rirb (entries_of rings.rirb) (rings.read + 1) reads.entries rest ∙ none)

-- ---- what the stretch saw

no_pointer : (written : Bool) (pointer : ℕ) → values_of (if written then Read RIRBWP Two pointer ∷ [] else []) WALCLK ≡ []
no_pointer true pointer = refl
no_pointer false pointer = refl

pub one_clock : (rirb clock : ℕ) (rings : RingPlaces) (reads : PollReads) (rest : List Event) → values_of rest WALCLK ≡ [] → values_of (call_made rirb clock rings reads rest) WALCLK ≡ clock ∷ []
one_clock rirb clock rings reads rest none =
    ap (λ (values : List ℕ). clock ∷ values) (batch_reads (has_bit reads.flag 0) WALCLK rirb rings reads rest none ∙ no_pointer (has_bit reads.flag 0) reads.pointer)

pub pointer_by : (written : Bool) (rirb : ℕ) (rings : RingPlaces) (reads : PollReads) (rest : List Event) → written ≡ true
    → slice_index (values_of ((if written then batch_accesses rirb rings reads.pointer reads.entries else []) ++ rest) RIRBWP) 0 ≡ reads.pointer
pointer_by true rirb rings reads rest is = refl
pointer_by false rirb rings reads rest is = cc

pub pointer_seen : (rirb clock : ℕ) (rings : RingPlaces) (reads : PollReads) (rest : List Event) (found : Bool) → has_bit reads.flag 0 ≡ true
    → (seen_by (values_of (call_made rirb clock rings reads rest)) found).pointer ≡ reads.pointer
pointer_seen rirb clock rings reads rest found is = pointer_by (has_bit reads.flag 0) rirb rings reads rest is

-- ---- its accesses are those that are expected

pub submit_fits : (blocks : Blocks) (rings : RingPlaces) (reads : PollReads) (order : Option Order) → requests_of (submit_made blocks.corb (rings_polled rings reads) order) ≡ submits blocks rings order
submit_fits blocks rings reads None = refl
submit_fits blocks rings reads (Some order) = refl

pub call_fits : (rirb clock : ℕ) (rings : RingPlaces) (reads : PollReads) (rest : List Event) (found : Bool) → AreNew rings reads
    → requests_of (call_made rirb clock rings reads rest)
    ≡ Gets WALCLK Four ∷ (polls rirb rings (seen_by (values_of (call_made rirb clock rings reads rest)) found) ++ requests_of rest)
call_fits rirb clock rings reads rest found new =
    let seen = seen_by (values_of (call_made rirb clock rings reads rest)) found in
    ap (λ (later : List Request). Gets WALCLK Four ∷ later)
    (flat_map-append requests_in (poll_accesses rirb rings reads) rest
    ∙ ap (λ (front : List Request). front ++ requests_of rest) (poll_fits rirb rings reads seen new refl (pointer_seen rirb clock rings reads rest found)))
