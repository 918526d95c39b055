-- An event's codec and tag are fields of 4 and 6 bits.
use Rattle.std.proofs.Common.{ℕ, List, All, get_or, arith}
use Rattle.std.proofs.lemmas.List.Elements.{All-map, All-filter}
use Rattle.world_rings.specs.declared.response.Response.{Response}
use Rattle.command_engine.specs.Entries.{response_in, responses_in, event_of, unasked_events_of}
use Rattle.driver_bring_up.specs.Jacks.{IsOfPin}

entry_is : (entry : List ℕ) → IsOfPin (event_of (response_in entry))
entry_is entry = record { codec = omega arith; tag = omega arith }

pub all_are : (entries : List (List ℕ)) → All IsOfPin (unasked_events_of (responses_in entries))
all_are entries =
    All-map IsOfPin event_of _ (All-filter _ (λ (response : Response). IsOfPin (event_of response)) (responses_in entries)
    (All-map (λ (response : Response). IsOfPin (event_of response)) response_in entries (λ k d within. entry_is (get_or entries k d))))
