-- How many events a look reads.
use Rattle.std.proofs.Common.{◌≡◌, ◌≤◌, ◌+◌, ◌-◌, ◌%◌, ℕ, suc, List, [], ◌∷◌, length, Bool, true, false, if◌then◌else◌, arith, refl, ap}
use Rattle.std.specs.Prelude.{filter}
use Rattle.std.proofs.Math.Nat.{mod-lt}
use Rattle.std.proofs.lemmas.List.{length-map}
use Rattle.verb_codes.specs.Words.{has_bit}
use Rattle.hda_registers.specs.declared.shapes.RingSize.{RingSize}
use Rattle.hda_registers.specs.declared.shapes.RingSize.TheVariants.{Two, Sixteen, Full}
use Rattle.world_rings.specs.declared.response.Response.{Response}
use Rattle.command_engine.specs.declared.ring_places.RingPlaces.{RingPlaces}
use Rattle.command_engine.specs.Sizes.{entries_up_to}
use Rattle.command_engine.specs.Entries.{response_in, responses_in, unasked_events_of, event_of}
use Rattle.command_engine.specs.Polling.{PollReads, AreNew, new_entries}

few_more : (keeps : Response → Bool) (response : Response) (responses : List Response) (is : Bool) → keeps response ≡ is → length (filter keeps responses) ≤ length responses
    → length (filter keeps (response ∷ responses)) ≤ suc (length responses)
few_more keeps response responses true is few = let e = ap (λ (is : Bool). length (if is then response ∷ filter keeps responses else filter keeps responses)) is in omega arith
few_more keeps response responses false is few = let e = ap (λ (is : Bool). length (if is then response ∷ filter keeps responses else filter keeps responses)) is in omega arith

few_left : (keeps : Response → Bool) (responses : List Response) → length (filter keeps responses) ≤ length responses
few_left keeps [] = omega arith
few_left keeps (response ∷ responses) = few_more keeps response responses (keeps response) refl (few_left keeps responses)

few_new : (size : RingSize) (place pointer : ℕ) → entries_up_to size place pointer ≤ 256
few_new Two place pointer = let below = mod-lt (pointer % 2 + (2 - place)) {m = 2} (omega arith) in omega arith
few_new Sixteen place pointer = let below = mod-lt (pointer % 16 + (16 - place)) {m = 16} (omega arith) in omega arith
few_new Full place pointer = let below = mod-lt (pointer % 256 + (256 - place)) {m = 256} (omega arith) in omega arith

few_read : (written : Bool) (count number : ℕ) → number ≤ 256 → count ≡ (if written then number else 0) → count ≤ 256
few_read true count number few is = omega arith
few_read false count number few is = omega arith

pub few_events : (rings : RingPlaces) (reads : PollReads) → AreNew rings reads → length (unasked_events_of (responses_in reads.entries)) ≤ 256
few_events rings reads new =
    let events = length-map (filter (λ (response : Response). response.unsolicited) (responses_in reads.entries)) event_of in
    let left = few_left (λ (response : Response). response.unsolicited) (responses_in reads.entries) in
    let responses = length-map reads.entries response_in in
    let few = few_read (has_bit reads.flag 0) (length reads.entries) (new_entries rings reads.pointer) (few_new rings.rirb rings.read reads.pointer) new.number in
    omega arith
