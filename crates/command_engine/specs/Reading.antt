-- Entries that are read one after another.
use Rattle.std.specs.Prelude.{◌≡◌, ℕ, ◌%◌, List, [], ◌∷◌, ◌++◌, length, All, Option, Some, None, if◌then◌else◌}
use Rattle.verb_codes.specs.Words.{has_bit}
use Rattle.hda_registers.specs.Fields.{entries_of}
use Rattle.world_rings.specs.declared.response.Response.{Response}
use Rattle.world_rings.specs.declared.entries.TheConstants.{RESPONSE_BYTES}
use Rattle.hda_world.specs.Tellings.{Telling, Between, Makes}
use Rattle.command_engine.specs.declared.answers.Event.{Event}
use Rattle.command_engine.specs.Entries.{responses_in, event_of, unasked_events_of, answers_it, answer_among}
use Rattle.command_engine.specs.declared.ring_places.RingPlaces.{RingPlaces}
use Rattle.command_engine.specs.Polling.{entry_reads, batch_accesses, new_entries, asked_of}

-- an answer that was found stays
abbrev pub found_with : Option ℕ → Option ℕ → Response → Option ℕ
found_with (Some answer) asked response = Some answer
found_with None asked response = if answers_it asked response then Some response.answer else None

-- the event of a response, if it tells one
abbrev pub event_in : Response → List Event
event_in response = if response.unsolicited then event_of response ∷ [] else []

-- these entries were read from a place of the ring on, as it is told
pub record ReadsEntries (rirb size place count : ℕ) (asked : Option ℕ) (before after : List Event) (found : Option ℕ)
    (old new : Option Telling) : Type 0 where
  pub entries : List (List ℕ)
  pub number : length entries ≡ count
  pub whole : All (λ (entry : List ℕ). length entry ≡ RESPONSE_BYTES) entries
  pub made : Between (Makes (entry_reads rirb size place entries)) old new
  pub events : after ≡ before ++ unasked_events_of (responses_in entries)
  pub answer : found ≡ answer_among asked (responses_in entries)

-- the new entries up to RIRB's write pointer were read, where the flag says that responses were written
pub record ReadsNew (rirb : ℕ) (rings : RingPlaces) (flag : ℕ) (found : Option ℕ) (rings' : RingPlaces)
    (events : List Event) (old new : Option Telling) : Type 0 where
  pub pointer : ℕ
  pub entries : List (List ℕ)
  pub number : length entries ≡ (if has_bit flag 0 then new_entries rings pointer else 0)
  pub whole : All (λ (entry : List ℕ). length entry ≡ RESPONSE_BYTES) entries
  pub made : Between (Makes (if has_bit flag 0 then batch_accesses rirb rings pointer entries else [])) old new
  pub rings_are : rings' ≡ record rings {
    read = if has_bit flag 0 then pointer % entries_of rings.rirb else rings.read;
  }
  pub events_are : events ≡ unasked_events_of (responses_in entries)
  pub found_is : found ≡ answer_among (asked_of rings.outstanding) (responses_in entries)

-- the new entries up to RIRB's write pointer were read
pub record ReadsBatch (rirb : ℕ) (rings : RingPlaces) (found : Option ℕ) (rings' : RingPlaces) (events : List Event)
    (old new : Option Telling) : Type 0 where
  pub pointer : ℕ
  pub entries : List (List ℕ)
  pub number : length entries ≡ new_entries rings pointer
  pub whole : All (λ (entry : List ℕ). length entry ≡ RESPONSE_BYTES) entries
  pub made : Between (Makes (batch_accesses rirb rings pointer entries)) old new
  pub rings_are : rings' ≡ record rings { read = pointer % entries_of rings.rirb }
  pub events_are : events ≡ unasked_events_of (responses_in entries)
  pub found_is : found ≡ answer_among (asked_of rings.outstanding) (responses_in entries)
