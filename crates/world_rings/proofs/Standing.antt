-- Responses that were written stand each in an entry of its own.
use Rattle.std.proofs.Common.{◌≡◌, ◌≢◌, ◌<◌, ◌≤◌, ◌+◌, ◌*◌, ◌-◌, ◌%◌, ℕ, zero, suc, List, [], ◌∷◌, length, slice_index, slice_get, Some, refl, sym, ap, ◌∙◌, inl, inr, arith, ◌⊎◌, lit<, length-append}
use Rattle.byteorder.specs.Numbers.{length-bytes_low_first}
use Rattle.std.proofs.Math.Nat.{mod-lt, mod-add-mod, mod-eq-sub-mod, mod-eq_of_lt}
use Rattle.std.proofs.lemmas.Bool.{cases_lt, cases_order}
use Rattle.hda_registers.specs.declared.shapes.RingSize.{RingSize}
use Rattle.hda_registers.specs.declared.shapes.RingSize.TheVariants.{Two, Sixteen, Full}
use Rattle.world_rings.specs.declared.response.Response.{Response}
use Rattle.hda_registers.specs.Fields.{Fields, entries_of, rirb_address}
use Rattle.world_rings.specs.Memory.{IsOutside}
use Rattle.world_rings.specs.Entries.{response_bytes, response_place, response_stored, responses_stored, after_response}
use Rattle.world_rings.proofs.Pieces.{stored_outside, piece_is_stored}
use Rattle.world_rings.specs.Standing.{StandsAt, IsRirbInside}
use Rattle.hda_registers.proofs.Callers.{some_entries}

apart_within : (at more size : ℕ) → at < size → 0 < more → more < size → (at + more < size) ⊎ (size ≤ at + more) → (at + more) % size ≡ at → ⊥
apart_within at more size below some few (inr over) same =
    let less : (at + more) % size ≡ at + more - size = mod-eq-sub-mod over ∙ mod-eq_of_lt (omega arith) in
    omega arith
apart_within at more size below some few (inl under) same =
    let is : (at + more) % size ≡ at + more = mod-eq_of_lt under in
    omega arith

-- two numbers that differ by less than a ring's size have different places in it
pub places_apart : (at more size : ℕ) → 0 < more → more < size → (at + more) % size ≡ at % size → ⊥
places_apart at more size some few same =
    apart_within (at % size) more size (mod-lt at (omega arith)) some few (cases_lt (at % size + more) size) (mod-add-mod at size more ∙ same)

-- the entry after the next one
next_then : (at places size : ℕ) → ((at + 1) % size + places) % size ≡ (at + (places + 1)) % size
next_then at places size = mod-add-mod (at + 1) size places ∙ ap (λ n. n % size) (omega arith)

-- a byte of one entry is outside another
entry_apart : (base here there byte : ℕ) → byte < 8 → there ≢ here → IsOutside (base + 8 * there) 8 (base + 8 * here + byte)
entry_apart base here there byte small apart =
    elim (cases_order here there) [ inl same ↦ absurd (apart (sym same)) | inr either ↦ elim either [ inl below ↦ inl (omega arith) | inr above ↦ inr (omega arith) ] ]

pub length-response_bytes : (response : Response) → length (response_bytes response) ≡ 8
length-response_bytes response = simp (length-append, length-bytes_low_first)

-- a response stored in another entry leaves an entry alone
stored_apart : (fields : Fields) (memory : List ℕ) (response : Response) (place byte : ℕ) → byte < 8 → response_place fields ≢ place
    → slice_index (response_stored fields memory response) (rirb_address fields + 8 * place + byte) ≡ slice_index memory (rirb_address fields + 8 * place + byte)
stored_apart fields memory response place byte small apart =
    (stored_outside (rirb_address fields + 8 * response_place fields) (response_bytes response) memory).1 _
    (rw (length-response_bytes response) (entry_apart (rirb_address fields) place (response_place fields) byte small apart))

-- responses stored in other entries leave an entry alone
untouched : (responses : List Response) (fields : Fields) (memory : List ℕ) (place byte : ℕ) → byte < 8
    → ((i : ℕ) → i < length responses → (fields.global.rirb_write_pointer + (i + 1)) % entries_of fields.shape.rirb ≢ place)
    → slice_index (responses_stored fields memory responses) (rirb_address fields + 8 * place + byte) ≡ slice_index memory (rirb_address fields + 8 * place + byte)
untouched [] fields memory place byte small apart = refl
untouched (response ∷ responses) fields memory place byte small apart =
    untouched responses (after_response fields) (response_stored fields memory response) place byte small
    (λ i below same. apart (i + 1) (omega arith) (sym (next_then fields.global.rirb_write_pointer (i + 1) (entries_of fields.shape.rirb)) ∙ same))
    ∙ stored_apart fields memory response place byte small (apart 0 (omega arith))

-- the response that was written last stands where it was written
stored_here : (fields : Fields) (memory : List ℕ) (response : Response) (byte : ℕ) → byte < 8 → IsRirbInside fields memory
    → slice_index (response_stored fields memory response) (rirb_address fields + 8 * response_place fields + byte) ≡ slice_index (response_bytes response) byte
stored_here fields memory response byte small within =
    let place : response_place fields < entries_of fields.shape.rirb = mod-lt _ (some_entries fields.shape.rirb) in
    let eight = length-response_bytes response in
    (piece_is_stored (rirb_address fields + 8 * response_place fields) (response_bytes response) memory (rw eight (omega arith))).inside byte (rw eight small)

inside_stored : (fields : Fields) (memory : List ℕ) (response : Response) → IsRirbInside fields memory → IsRirbInside (after_response fields) (response_stored fields memory response)
inside_stored fields memory response within =
    rw (stored_outside (rirb_address fields + 8 * response_place fields) (response_bytes response) memory).0 within

some_same : (first second : Response) → Some first ≡ Some second → first ≡ second
some_same first second is = cc

-- each response stands as many entries after the write pointer as it comes among them, from 1
pub each_stands : (responses : List Response) (fields : Fields) (memory : List ℕ) (place : ℕ) (response : Response) → length responses < entries_of fields.shape.rirb
    → IsRirbInside fields memory → slice_get responses place ≡ Some response → StandsAt fields (responses_stored fields memory responses) (place + 1) response
each_stands [] fields memory place response few within is = cc
each_stands (first ∷ responses) fields memory zero response few within is = λ byte small.
    untouched responses (after_response fields) (response_stored fields memory first) (response_place fields) byte small
    (λ i below same. places_apart (fields.global.rirb_write_pointer + 1) (i + 1) (entries_of fields.shape.rirb) (omega arith) (omega arith) (ap (λ n. n % entries_of fields.shape.rirb) (omega arith) ∙ sym (next_then fields.global.rirb_write_pointer (i + 1) (entries_of fields.shape.rirb)) ∙ same))
    ∙ stored_here fields memory first byte small within ∙ ap (λ (r : Response). slice_index (response_bytes r) byte) (some_same first response is)
each_stands (first ∷ responses) fields memory (suc place) response few within is = λ byte small.
    ap (λ n. slice_index (responses_stored fields memory (first ∷ responses)) (rirb_address fields + 8 * n + byte)) (sym (next_then fields.global.rirb_write_pointer (place + 1) (entries_of fields.shape.rirb) ∙ ap (λ n. (fields.global.rirb_write_pointer + n) % entries_of fields.shape.rirb) (omega arith)))
    ∙ each_stands responses (after_response fields) (response_stored fields memory first) place response (omega arith) (inside_stored fields memory first within) is byte small
