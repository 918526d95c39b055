-- What the entries of RIRB say, as the driver reads them. High Definition Audio 1.0a, 4.4.2 and 7.3.3.14.
use Rattle.std.specs.Prelude.{ℕ, Bool, false, not, ◌==◌, ◌&&◌, List, map, filter, Option, None, Some}
use Rattle.std.specs.List.{find}
use Rattle.std.specs.Option.{option_map}
use Rattle.verb_codes.specs.Words.{bits_of, has_bit}
use Rattle.world_rings.specs.Memory.{word_at}
use Rattle.world_rings.specs.declared.response.Response.{Response}
use Rattle.command_engine.specs.declared.answers.Event.{Event}

-- the response that an entry of 8 bytes holds: the answer, and then the codec in bits 3:0 and the mark of an
-- unsolicited one in bit 4
abbrev pub response_in : List ℕ → Response
response_in entry = record {
  codec = bits_of (word_at entry 4) 0 4;
  answer = word_at entry 0;
  unsolicited = has_bit (word_at entry 4) 4;
}

abbrev pub responses_in : List (List ℕ) → List Response
responses_in entries = map response_in entries

-- the event that an unsolicited response tells: its tag stands in bits 31:26
abbrev pub event_of : Response → Event
event_of response = record { codec = response.codec; tag = bits_of response.answer 26 6 }

-- the events that responses tell, in their order
abbrev pub unasked_events_of : List Response → List Event
unasked_events_of responses = map event_of (filter (λ (response : Response). response.unsolicited) responses)

-- a response to a command, of the codec that is asked, if one is
abbrev pub is_from : Option ℕ → ℕ → Bool
is_from None codec = false
is_from (Some asked) codec = codec == asked

abbrev pub answers_it : Option ℕ → Response → Bool
answers_it asked response = not response.unsolicited && is_from asked response.codec

-- the answer among responses: the first to a command of the codec that is asked
abbrev pub answer_among : Option ℕ → List Response → Option ℕ
answer_among asked responses = option_map (λ (response : Response). response.answer) (find (answers_it asked) responses)
