-- What single responses, the tick and the discovery keep, whole batches and frames keep.
use Rattle.std.proofs.Common.{◌≡◌, ℕ, zero, suc, ◌+◌, Bool, true, false, ◌==◌, List, [], ◌∷◌, ◌++◌, length, take, drop, append-nil, append_assoc, refl, sym, ap, ap₂, subst, ◌∙◌, if◌then◌else◌, rules, tests}
use Rattle.hda_registers.specs.Fields.{is_out_of_reset}
use Rattle.hda_registers.specs.Moves.{framed}
use Rattle.world_rings.specs.declared.response.Response.{Response}
use Rattle.world_rings.specs.Entries.{after_responses, responses_stored}
use Rattle.world_rings.specs.Engines.{can_respond, batch_of, batch}
use Rattle.hda_world.specs.declared.step.TheConstants.{FRAMES_TO_DISCOVERY}
use Rattle.hda_world.specs.Worlds.{World}
use Rattle.hda_world.specs.Steps.{responded, discovered}
use Rattle.hda_world.specs.Kept.{Kept, KeptSingly, wrote_one, flagged, ticked}
use Rattle.hda_world.proofs.Stepping.{batch_some, frames_after}

wrote_all : List Response → World → World
wrote_all [] world = world
wrote_all (response ∷ responses) world = wrote_all responses (wrote_one response world)

-- responses one by one, as a batch without its flag
abbrev wrote_batch : List Response → World → World
wrote_batch responses world = record world {
  registers = after_responses world.registers responses;
  memory = responses_stored world.registers world.memory responses;
  waiting = drop (length responses) world.waiting;
  written = world.written ++ responses;
}

drop_one_more : (n : ℕ) (waiting : List Response) → drop n (drop 1 waiting) ≡ drop (suc n) waiting
drop_one_more zero [] = refl
drop_one_more (suc n) [] = refl
drop_one_more zero (response ∷ waiting) = refl
drop_one_more (suc n) (response ∷ waiting) = refl

wrote_all-batch : (responses : List Response) (world : World) → wrote_all responses world ≡ wrote_batch responses world
unfolding wrote_all
wrote_all-batch [] world = ap (λ (written : List Response). record world { written = written }) (sym (append-nil world.written))
wrote_all-batch (response ∷ responses) world =
    wrote_all-batch responses (wrote_one response world)
    ∙ ap₂ (λ (waiting written : List Response). record (wrote_batch (response ∷ responses) world) { waiting = waiting; written = written })
    (drop_one_more (length responses) world.waiting) (append_assoc world.written (response ∷ []) responses)

frames_are : (frames : ℕ) → (frames == FRAMES_TO_DISCOVERY) ≡ true → frames ≡ FRAMES_TO_DISCOVERY
frames_are frames now = search (rules, tests)

module _ (Holds : World → Type 0) (kept : KeptSingly Holds) where
  kept_writes : (n : ℕ) (waiting : List Response) (world : World) → world.waiting ≡ waiting → can_respond world.registers ≡ true → Holds world → Holds (flagged (wrote_all (take n waiting) world))
  unfolding wrote_all
  kept_writes zero waiting world are can holds = kept.flags world holds can
  kept_writes (suc n) [] world are can holds = kept.flags world holds can
  kept_writes (suc n) (response ∷ rest) world are can holds =
      kept_writes n rest (wrote_one response world) (ap (drop 1) are) can (kept.writes world response rest holds can are)

  kept_responses : (world : World) (response : Response) (rest : List Response) → Holds world → can_respond world.registers ≡ true
      → batch world.registers world.waiting ≡ response ∷ rest → Holds (responded (response ∷ rest) world)
  kept_responses world response rest holds can are =
      let these : take (batch_of world.registers) world.waiting ≡ response ∷ rest = sym (batch_some world.registers world.waiting can) ∙ are in
      let one_by_one : Holds (flagged (wrote_all (response ∷ rest) world)) = subst (λ (responses : List Response). Holds (flagged (wrote_all responses world))) these (kept_writes (batch_of world.registers) world.waiting world refl can holds) in
      subst (λ (after : World). Holds (flagged after)) (wrote_all-batch (response ∷ rest) world) one_by_one

  frame_by : (now : Bool) (world : World) → (world.frames + 1 == FRAMES_TO_DISCOVERY) ≡ now → is_out_of_reset world.registers.global ≡ true → Holds world
      → Holds (record world { registers = record world.registers { global = (if now then discovered world.codecs (framed world.registers) else framed world.registers).global }; frames = world.frames + 1 })
  frame_by true world is out holds = kept.announces (ticked world) (kept.ticks world holds out) out (frames_are (world.frames + 1) is)
  frame_by false world is out holds = kept.ticks world holds out

  pub kept_singly : Kept Holds
  kept_singly = record {
    codecs = kept.codecs;
    responds = kept_responses;
    bytes = kept.bytes;
    input = kept.input;
    passes = λ world holds out still. frame_by _ world refl out holds;
    frames = frames_after Holds (λ world holds out. frame_by _ world refl out holds) kept.frames;
  }
