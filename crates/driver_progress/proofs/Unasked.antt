-- While no command is outstanding, no answer stands unread.
use Rattle.std.proofs.Common.{◌≡◌, ◌+◌, ◌*◌, ℕ, Bool, true, false, not, ◌&&◌, ◌||◌, List, [], ◌∷◌, length, drop, Option, None, refl, sym, ap, subst, ◌∙◌, arith}
use Rattle.std.specs.Prelude.{cond}
use Rattle.std.proofs.lemmas.List.Sums.{sum_by-cons}
use Rattle.world_rings.specs.declared.response.Response.{Response}
use Rattle.world_rings.specs.Memory.{word_at}
use Rattle.world_rings.specs.declared.entries.TheConstants.{COMMAND_BYTES}
use Rattle.hda_world.specs.Worlds.{World}
use Rattle.command_engine.specs.declared.ring_places.RingPlaces.{RingPlaces}
use Rattle.command_engine.specs.declared.answers.Outstanding.{Outstanding}
use Rattle.command_engine.specs.Fetchings.{part_of, IsFetching, solicited, Stands}
use Rattle.command_engine.specs.Entries.{answers_it, is_from}
use Rattle.command_engine.proofs.Callers.{none_gained}
use Rattle.driver_progress.specs.Answers.{has_answer, AnswersAgree}

first_none : (asked : Option ℕ) (response : Response) (responses : List Response) (unsolicited : Bool) → response.unsolicited ≡ unsolicited → solicited (response ∷ responses) ≡ 0
    → (solicited responses ≡ 0 → has_answer asked responses ≡ false) → has_answer asked (response ∷ responses) ≡ false
first_none asked response responses true is none rest =
    let here : answers_it asked response ≡ false = ap (λ (unsolicited : Bool). not unsolicited && is_from asked response.codec) is in
    let count : solicited (response ∷ responses) ≡ 0 + solicited responses =
    sum_by-cons (λ (response : Response). cond (not response.unsolicited) 1 0) response responses ∙ ap (λ (unsolicited : Bool). cond (not unsolicited) 1 0 + solicited responses) is in
    ap (λ (b : Bool). b || has_answer asked responses) here ∙ rest (omega (arith, count, none))
first_none asked response responses false is none rest =
    let count : solicited (response ∷ responses) ≡ 1 + solicited responses =
    sum_by-cons (λ (response : Response). cond (not response.unsolicited) 1 0) response responses ∙ ap (λ (unsolicited : Bool). cond (not unsolicited) 1 0 + solicited responses) is in
    absurd (omega (arith, count, none))

-- with no answer to a command among them none answers
none_answers : (asked : Option ℕ) (responses : List Response) → solicited responses ≡ 0 → has_answer asked responses ≡ false
none_answers asked [] none = refl
none_answers asked (response ∷ responses) none = first_none asked response responses response.unsolicited refl none (none_answers asked responses)

pub unread_none : (from read corb rirb : ℕ) (rings : RingPlaces) (world : World) (asked : Option ℕ) → Stands from read corb rirb rings world → rings.outstanding ≡ None
    → has_answer asked (drop read world.written) ≡ false
unread_none from read corb rirb rings world asked stands free =
    let gained = none_gained (part_of world.registers) (word_at world.memory (corb + COMMAND_BYTES * rings.submitted)) (drop from world.commands) (subst (λ (outstanding : Option Outstanding). IsFetching outstanding (part_of world.registers) (word_at world.memory (corb + COMMAND_BYTES * rings.submitted)) (drop from world.commands)) free stands.fetching) in
    let few = stands.on_its_way.few in
    let long : length (drop from world.commands) ≡ 0 = ap length gained in
    none_answers asked (drop read world.written) (omega (arith, few, long))

-- so from the submission on just those answer it that were not read
pub agree_submitted : (from read corb rirb : ℕ) (rings : RingPlaces) (world : World) (asked : Option ℕ) → Stands from read corb rirb rings world → rings.outstanding ≡ None
    → AnswersAgree asked (length world.written) read world.written
agree_submitted from read corb rirb rings world asked stands free = record {
  submitted_within = omega arith;
  read_within = stands.reading.within;
  agree = ap (has_answer asked) (all_dropped world.written) ∙ sym (unread_none from read corb rirb rings world asked stands free);
}
  where
    all_dropped : (xs : List Response) → drop (length xs) xs ≡ []
    all_dropped [] = refl
    all_dropped (x ∷ xs) = all_dropped xs
