-- The accesses of stretches are those that progress expects, and lead where it says.
use Rattle.std.proofs.Common.{◌≡◌, ◌+◌, ◌*◌, ◌%◌, ℕ, List, [], ◌∷◌, ◌++◌, length, Bool, true, false, if◌then◌else◌, Option, Some, None, refl, sym, ap, ◌∙◌}
use Rattle.std.specs.Prelude.{All}
use Rattle.std.proofs.lemmas.Grind.{flat_map-append}
use Rattle.std.proofs.lemmas.List.Elements.{All-head, All-tail}
use Rattle.verb_codes.specs.Words.{has_bit, bits_of}
use Rattle.hda_registers.specs.declared.shapes.Width.TheVariants.{One, Two, Four}
use Rattle.hda_registers.specs.declared.places.TheConstants.{STATESTS, WALCLK, CORBSIZE, RIRBSIZE, RIRBWP, RIRBSTS, INTSTS}
use Rattle.hda_registers.specs.Fields.{entries_of}
use Rattle.world_rings.specs.declared.entries.TheConstants.{RESPONSE_BYTES}
use Rattle.hda_world.specs.Events.{Event, Read, Write}
use Rattle.command_engine.specs.declared.ring_places.RingPlaces.{RingPlaces}
use Rattle.command_engine.specs.Starting.{StartReads, rings_read, settings_if}
use Rattle.command_engine.specs.Polling.{PollReads, AreNew, entry_reads, batch_accesses, poll_accesses, new_entries}
use Rattle.driver_progress.specs.declared.registers.TheConstants.{STREAM_STATUS}
use Rattle.driver_progress.specs.Requests.{Request, Gets, Puts, Fetches, requests_of, requests_in}
use Rattle.driver_progress.specs.Tasks.{Task}
use Rattle.driver_progress.specs.Seen.{Seen, seen_by, values_of}
use Rattle.driver_progress.specs.States.{State}
use Rattle.driver_progress.specs.Expected.{has_settled, rings_seen, settles, sets_rings, fetches, polls, clears, interrupted_if}
use Rattle.driver_progress.specs.Interrupts.{clear_accesses}
use Rattle.driver_progress.specs.Settling.{start_if}

-- ---- settling

start_requests : (rings : Option RingPlaces) (task : Task) (seen : Seen) (reads : StartReads) → seen.changes ≡ reads.status
    → requests_of (settings_if rings task.blocks.corb task.blocks.rirb reads) ≡ sets_rings task.blocks seen rings
start_requests None task seen reads is = refl
start_requests (Some rings) task seen reads is =
    ap (λ (status : ℕ). requests_of (settings_if (Some rings) task.blocks.corb task.blocks.rirb (record reads { status = status }))) (sym is)

pub settle_fits_by : (settled : Bool) (task : Task) (state : State) (clock : ℕ) (reads : StartReads) (answered : Bool) → has_settled state.kept clock ≡ settled
    → requests_of (Read WALCLK Four clock ∷ start_if settled task.blocks.corb task.blocks.rirb reads)
    ≡ settles task state (seen_by (values_of (Read WALCLK Four clock ∷ start_if settled task.blocks.corb task.blocks.rirb reads)) answered)
settle_fits_by true task state clock reads answered is =
    let seen = seen_by (values_of (Read WALCLK Four clock ∷ start_if true task.blocks.corb task.blocks.rirb reads)) answered in
    ap (λ (rest : List Request). Gets WALCLK Four ∷ Gets STATESTS Two ∷ Gets CORBSIZE One ∷ Gets RIRBSIZE One ∷ rest) (start_requests (rings_read reads) task seen reads refl)
    ∙ ap (λ (settled : Bool). Gets WALCLK Four ∷ (if settled then Gets STATESTS Two ∷ Gets CORBSIZE One ∷ Gets RIRBSIZE One ∷ sets_rings task.blocks seen (rings_read reads) else [])) (sym is)
settle_fits_by false task state clock reads answered is =
    let seen = seen_by (values_of (Read WALCLK Four clock ∷ [])) answered in
    ap (λ (settled : Bool). Gets WALCLK Four ∷ (if settled then Gets STATESTS Two ∷ Gets CORBSIZE One ∷ Gets RIRBSIZE One ∷ sets_rings task.blocks seen (rings_seen seen) else [])) (sym is)

-- ---- the poll

fetched : (rirb size place : ℕ) (entries : List (List ℕ)) → All (λ (entry : List ℕ). length entry ≡ RESPONSE_BYTES) entries
    → requests_of (entry_reads rirb size place entries) ≡ fetches rirb size (length entries) place
fetched rirb size place [] whole = refl
fetched rirb size place (entry ∷ entries) whole =
    ap (λ (count : ℕ). Fetches (rirb + RESPONSE_BYTES * (place % size)) count ∷ requests_of (entry_reads rirb size (place + 1) entries)) (All-head (λ (entry : List ℕ). length entry ≡ RESPONSE_BYTES) entry entries whole)
    ∙ ap (λ (rest : List Request). Fetches (rirb + RESPONSE_BYTES * (place % size)) RESPONSE_BYTES ∷ rest) (fetched rirb size (place + 1) entries (All-tail (λ (entry : List ℕ). length entry ≡ RESPONSE_BYTES) entry entries whole))

poll_by : (written : Bool) (rirb : ℕ) (rings : RingPlaces) (reads : PollReads) (pointer : ℕ) → length reads.entries ≡ (if written then new_entries rings reads.pointer else 0)
    → All (λ (entry : List ℕ). length entry ≡ RESPONSE_BYTES) reads.entries → (written ≡ true → pointer ≡ reads.pointer)
    → requests_of (if written then batch_accesses rirb rings reads.pointer reads.entries else [])
    ≡ (if written then Gets RIRBWP Two ∷ (fetches rirb (entries_of rings.rirb) (new_entries rings pointer) (rings.read + 1) ++ Puts RIRBSTS One 1 ∷ []) else [])
poll_by false rirb rings reads pointer number whole is = refl
poll_by true rirb rings reads pointer number whole is =
    ap (λ (rest : List Request). Gets RIRBWP Two ∷ rest)
    (flat_map-append requests_in (entry_reads rirb (entries_of rings.rirb) (rings.read + 1) reads.entries) (Write RIRBSTS One 1 ∷ [])
    ∙ ap (λ (front : List Request). front ++ Puts RIRBSTS One 1 ∷ [])
    (fetched rirb (entries_of rings.rirb) (rings.read + 1) reads.entries whole
    ∙ ap (λ (count : ℕ). fetches rirb (entries_of rings.rirb) count (rings.read + 1)) (number ∙ ap (new_entries rings) (sym (is refl)))))

-- of a poll that read these
pub poll_fits : (rirb : ℕ) (rings : RingPlaces) (reads : PollReads) (seen : Seen) → AreNew rings reads → seen.flag ≡ reads.flag → (has_bit reads.flag 0 ≡ true → seen.pointer ≡ reads.pointer)
    → requests_of (poll_accesses rirb rings reads) ≡ polls rirb rings seen
poll_fits rirb rings reads seen new flag pointer =
    ap (λ (rest : List Request). Gets RIRBSTS One ∷ rest) (poll_by (has_bit reads.flag 0) rirb rings reads seen.pointer new.number new.whole pointer)
    ∙ ap (λ (flag : ℕ). Gets RIRBSTS One ∷ (if has_bit flag 0 then Gets RIRBWP Two ∷ (fetches rirb (entries_of rings.rirb) (new_entries rings seen.pointer) (rings.read + 1) ++ Puts RIRBSTS One 1 ∷ []) else [])) (sym flag)

-- ---- interrupts

cleared_by : (is : Bool) (stream : ℕ) (seen : Seen) → (is ≡ true → seen.stream ≡ stream)
    → requests_of (if is then Read STREAM_STATUS One stream ∷ Write STREAM_STATUS One (4 * bits_of stream 2 3) ∷ [] else [])
    ≡ (if is then Gets STREAM_STATUS One ∷ Puts STREAM_STATUS One (4 * bits_of seen.stream 2 3) ∷ [] else [])
cleared_by true stream seen same = ap (λ (stream : ℕ). Gets STREAM_STATUS One ∷ Puts STREAM_STATUS One (4 * bits_of stream 2 3) ∷ []) (sym (same refl))
cleared_by false stream seen same = refl

clear_fits : (interrupts stream : ℕ) (seen : Seen) → seen.interrupts ≡ interrupts → (has_bit interrupts 1 ≡ true → seen.stream ≡ stream) → requests_of (clear_accesses interrupts stream) ≡ clears seen
clear_fits interrupts stream seen is same =
    cleared_by (has_bit interrupts 1) stream seen same
    ∙ ap (λ (interrupts : ℕ). if has_bit interrupts 1 then Gets STREAM_STATUS One ∷ Puts STREAM_STATUS One (4 * bits_of seen.stream 2 3) ∷ [] else []) (sym is)

looked_by : (on : Bool) (interrupts stream : ℕ) (seen : Seen) (called : List Event) → seen.interrupts ≡ interrupts → (has_bit interrupts 1 ≡ true → seen.stream ≡ stream)
    → requests_of (if on then clear_accesses interrupts stream ++ called else []) ≡ (if on then clears seen ++ requests_of called else [])
looked_by true interrupts stream seen called is same =
    flat_map-append requests_in (clear_accesses interrupts stream) called ∙ ap (λ (front : List Request). front ++ requests_of called) (clear_fits interrupts stream seen is same)
looked_by false interrupts stream seen called is same = refl

-- a look for interrupts, and what is done where there is one
pub interrupt_fits : (interrupts stream : ℕ) (seen : Seen) (called : List Event) → seen.interrupts ≡ interrupts → (has_bit interrupts 1 ≡ true → seen.stream ≡ stream)
    → requests_of (Read INTSTS Four interrupts ∷ (if has_bit interrupts 31 then clear_accesses interrupts stream ++ called else [])) ≡ interrupted_if true seen (requests_of called)
interrupt_fits interrupts stream seen called is same =
    ap (λ (rest : List Request). Gets INTSTS Four ∷ rest)
    (looked_by (has_bit interrupts 31) interrupts stream seen called is same
    ∙ ap (λ (interrupts : ℕ). if has_bit interrupts 31 then clears seen ++ requests_of called else []) (sym is))
