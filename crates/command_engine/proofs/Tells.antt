-- What is told of the accesses of a start, a submission and a poll.
use Rattle.std.proofs.Common.{◌≡◌, ◌≢◌, ◌<◌, ◌^◌, ℕ, List, length, Option, None, Some, refl, sym, ap, subst, ◌∙◌}
use Rattle.world_rings.proofs.Callers.{each_stands}
use Rattle.hda_world.specs.Tellings.{Telling, world_of, Between, Makes}
use Rattle.hda_world.proofs.Callers.{told_map}
use Rattle.command_engine.specs.declared.ring_places.RingPlaces.{RingPlaces}
use Rattle.command_engine.specs.declared.answers.Event.{Event}
use Rattle.command_engine.specs.declared.answers.Outstanding.{Outstanding}
use Rattle.command_engine.specs.declared.answers.Poll.{Poll}
use Rattle.command_engine.specs.Entries.{unasked_events_of, answer_among}
use Rattle.command_engine.specs.Polling.{asked_of, found_by, poll_of, Polls}
use Rattle.command_engine.specs.Submitting.{submit_accesses, rings_submitted}
use Rattle.command_engine.specs.Starting.{codecs_if, rings_if, rings_read, Starts}
use Rattle.command_engine.specs.Fetchings.{Stands}
use Rattle.command_engine.specs.Belonging.{Belongs, from_after}
use Rattle.command_engine.specs.Quiet.{IsBlockAddress}
use Rattle.command_engine.specs.Told.{Begins, LeadsOn, found_since, PollTellsOf}
use Rattle.command_engine.proofs.Batches.{EachStands}
use Rattle.command_engine.proofs.PollTellings.{poll_leaves}
use Rattle.command_engine.proofs.SubmitTellings.{submit_leaves}
use Rattle.command_engine.proofs.StartTellings.{start_leaves}

-- fewer responses than RIRB has entries stand each in an entry of its own
pub responses_apart : EachStands
responses_apart fields memory responses = each_stands responses fields memory

pub poll_tells : (clock corb rirb : ℕ) (rings rings' : RingPlaces) (answer : Poll) (events : List Event) (old new : Option Telling) → Polls rirb clock rings answer rings' events old new
    → Between (PollTellsOf clock corb rirb rings answer rings' events) old new
poll_tells clock corb rirb rings rings' answer events old new polls =
    told_map (λ old new made from read holds. (
    let leaves = poll_leaves from read corb rirb rings responses_apart polls.reads old new polls.new_ones made holds in
    let found : found_by rings polls.reads ≡ found_since read rings (world_of new) = ap (answer_among (asked_of rings.outstanding)) leaves.responses in
    record {
      answer_is = polls.answer_is ∙ ap (λ (f : Option ℕ). poll_of rings.outstanding f clock) found;
      events_are = polls.events_are ∙ ap unasked_events_of leaves.responses;
      belongs = subst (λ (f : Option ℕ). Belongs from rings.outstanding (world_of new).codecs (world_of new).commands f) found leaves.belongs;
      stands = subst (λ (f : Option ℕ). Stands (from_after f from (world_of new).commands) (length (world_of new).written) corb rirb rings' (world_of new)) found
          (subst (λ (r : RingPlaces). Stands (from_after (found_by rings polls.reads) from (world_of new).commands) (length (world_of new).written) corb rirb r (world_of new)) (sym polls.rings_are) leaves.stands);
    })) polls.made

pub submit_tells : (corb rirb : ℕ) (rings : RingPlaces) (command : Outstanding) (old new : Option Telling) → rings.outstanding ≡ None → command.word < 2 ^ 32
    → Between (Makes (submit_accesses corb rings command.word)) old new → Between (LeadsOn corb rirb rings (rings_submitted rings command)) old new
submit_tells corb rirb rings command old new idle narrow made =
    told_map (λ old new made from read holds. submit_leaves from read corb rirb rings responses_apart idle command old new narrow made holds) made

some_rings : (found : Option RingPlaces) (status answer : ℕ) → answer ≡ codecs_if found status → answer ≢ 0 → (begun : RingPlaces) × (found ≡ Some begun)
some_rings None status answer is some = absurd (some is)
some_rings (Some begun) status answer is some = (begun, refl)

pub start_tells : (corb rirb answer : ℕ) (rings rings' : RingPlaces) (old new : Option Telling) → IsBlockAddress corb → IsBlockAddress rirb → Starts corb rirb rings answer rings' old new
    → Between (Begins corb rirb answer rings') old new
start_tells corb rirb answer rings rings' old new corb_block rirb_block starts =
    told_map (λ old new made some can. (
    let begun = some_rings (rings_read starts.reads) starts.reads.status answer starts.answer_is some in
    let is : rings' ≡ begun.0 = starts.rings_are ∙ ap (λ (found : Option RingPlaces). rings_if found rings) begun.1 in
    subst (λ (r : RingPlaces). Stands (length (world_of old).commands) (length (world_of old).written) corb rirb r (world_of new)) (sym is)
    (start_leaves responses_apart corb rirb starts.reads begun.0 old new corb_block rirb_block begun.1 made can))) starts.made
