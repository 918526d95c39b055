-- What a batch of RIRB's engine leaves.
use Rattle.std.proofs.Common.{◌≡◌, ◌<◌, ◌≤◌, ◌⊎◌, ◌+◌, ◌*◌, ◌%◌, ◌||◌, ℕ, Bool, true, false, min, nat_le, List, [], ◌∷◌, length, take, slice_index, slice_get, Some, refl, sym, ap, subst, ◌∙◌, inl, inr, arith, rules, tests, lit<, if◌then◌else◌}
use Rattle.std.proofs.Math.Nat.{mod-lt, mod-add-mod, mod-eq_of_lt}
use Rattle.std.proofs.lemmas.List.{length-take}
use Rattle.hda_registers.specs.declared.shapes.RingSize.{RingSize}
use Rattle.hda_registers.specs.declared.shapes.RingSize.TheVariants.{Two, Sixteen, Full}
use Rattle.hda_registers.specs.Fields.{Fields, entries_of, responses_of, rirb_address}
use Rattle.hda_registers.proofs.Callers.{some_entries, few_entries}
use Rattle.world_rings.specs.declared.response.Response.{Response}
use Rattle.world_rings.specs.Memory.{word_at, IsOutside}
use Rattle.world_rings.specs.Entries.{response_bytes, response_place, response_stored, responses_stored, after_response, after_responses}
use Rattle.world_rings.specs.Engines.{can_respond, batch_of, batch}
use Rattle.world_rings.specs.Standing.{StandsAt, IsRirbInside}
use Rattle.world_rings.proofs.Callers.{stored_outside, length-response_bytes}
use Rattle.hda_world.proofs.Callers.{same_word}
use Rattle.command_engine.specs.Blocks.{are_apart}
use Rattle.command_engine.specs.Sizes.{half_of}
use Rattle.command_engine.specs.Fetchings.{part_of, AreStanding}

-- fewer responses than RIRB has entries stand each in an entry of its own
abbrev pub EachStands : Type 0
EachStands = (fields : Fields) (memory : List ℕ) (responses : List Response) (place : ℕ) (response : Response)
    → length responses < entries_of fields.shape.rirb → IsRirbInside fields memory → slice_get responses place ≡ Some response
    → StandsAt fields (responses_stored fields memory responses) (place + 1) response

pub half_small : (size : RingSize) → half_of size < entries_of size
half_small Two = lit< tt
half_small Sixteen = lit< tt
half_small Full = lit< tt

half_asked : (size : RingSize) → responses_of (half_of size) ≡ half_of size
half_asked Two = refl
half_asked Sixteen = refl
half_asked Full = refl

-- ---- the registers

-- of the rings' registers responses move RIRB's write pointer alone
pub part_after : (responses : List Response) (fields : Fields) → part_of (after_responses fields responses) ≡ record (part_of fields) { rirb_write_pointer = (after_responses fields responses).global.rirb_write_pointer }
part_after [] fields = refl
part_after (response ∷ responses) fields = part_after responses (after_response fields)

-- by as many entries as they are
pub pointer_after : (responses : List Response) (fields : Fields) → fields.global.rirb_write_pointer < entries_of fields.shape.rirb
    → (after_responses fields responses).global.rirb_write_pointer ≡ (fields.global.rirb_write_pointer + length responses) % entries_of fields.shape.rirb
pointer_after [] fields within = sym (mod-eq_of_lt (omega arith)) ∙ ap (λ (n : ℕ). n % entries_of fields.shape.rirb) (omega arith)
pointer_after (response ∷ responses) fields within =
    pointer_after responses (after_response fields) (mod-lt _ (some_entries fields.shape.rirb))
    ∙ mod-add-mod (fields.global.rirb_write_pointer + 1) (entries_of fields.shape.rirb) (length responses)
    ∙ ap (λ (n : ℕ). n % entries_of fields.shape.rirb) (omega arith)

-- ---- which responses

-- a batch has at most as many responses as RINTCNT says, half of the entries
pub batch_short : (fields : Fields) (size : RingSize) (waiting responses : List Response) → can_respond fields ≡ true → batch fields waiting ≡ responses
    → fields.global.response_count ≡ half_of size → length responses ≤ half_of size
batch_short fields size waiting responses can are served =
    let taken : take (batch_of fields) waiting ≡ responses = sym (ap (λ (now : Bool). if now then take (batch_of fields) waiting else []) can) ∙ are in
    let long : length responses ≡ min (batch_of fields) (length waiting) = ap length (sym taken) ∙ length-take (batch_of fields) waiting in
    let asked : responses_of fields.global.response_count ≡ half_of size = ap responses_of served ∙ half_asked size in
    omega arith

-- ---- memory

abbrev OutsideRirb : Fields → ℕ → Type 0
OutsideRirb fields at = (at < rirb_address fields) ⊎ (rirb_address fields + 8 * entries_of fields.shape.rirb ≤ at)

outside_entry : (base place entries at : ℕ) → place < entries → (at < base) ⊎ (base + 8 * entries ≤ at) → IsOutside (base + 8 * place) 8 at
outside_entry base place entries at within (inl below) = inl (omega arith)
outside_entry base place entries at within (inr above) = inr (omega arith)

-- responses are written in RIRB alone
pub outside_stored : (responses : List Response) (fields : Fields) (memory : List ℕ) (at : ℕ) → OutsideRirb fields at → slice_index (responses_stored fields memory responses) at ≡ slice_index memory at
outside_stored [] fields memory at outside = refl
outside_stored (response ∷ responses) fields memory at outside =
    outside_stored responses (after_response fields) (response_stored fields memory response) at outside
    ∙ (stored_outside (rirb_address fields + 8 * response_place fields) (response_bytes response) memory).1 at
    (rw (length-response_bytes response) (outside_entry (rirb_address fields) (response_place fields) (entries_of fields.shape.rirb) at (mod-lt _ (some_entries fields.shape.rirb)) outside))

-- the memory keeps its size
pub size_stored : (responses : List Response) (fields : Fields) (memory : List ℕ) → length (responses_stored fields memory responses) ≡ length memory
size_stored [] fields memory = refl
size_stored (response ∷ responses) fields memory =
    size_stored responses (after_response fields) (response_stored fields memory response)
    ∙ (stored_outside (rirb_address fields + 8 * response_place fields) (response_bytes response) memory).0

apart_by : (corb rirb at entries : ℕ) → are_apart corb rirb ≡ true → corb ≤ at → at < corb + 1024 → entries ≤ 256 → (at < rirb) ⊎ (rirb + 8 * entries ≤ at)
apart_by corb rirb at entries apart from to few = by (nat_le (corb + 1024) rirb) refl apart
  where
    by : (b : Bool) → nat_le (corb + 1024) rirb ≡ b → (b || nat_le (rirb + 2048) corb) ≡ true → (at < rirb) ⊎ (rirb + 8 * entries ≤ at)
    by true is e = let below : corb + 1024 ≤ rirb = search (rules, tests) in inl (omega arith)
    by false is e = let above : rirb + 2048 ≤ corb = search (rules, tests) in inr (omega arith)

-- outside RIRB's block
pub outside_block : (responses : List Response) (fields : Fields) (memory : List ℕ) (rirb : ℕ) → rirb_address fields ≡ rirb → (at : ℕ) → IsOutside rirb 2048 at
    → slice_index (responses_stored fields memory responses) at ≡ slice_index memory at
outside_block responses fields memory rirb base at outside = outside_stored responses fields memory at (by outside)
  where
    by : IsOutside rirb 2048 at → OutsideRirb fields at
    by (inl below) = inl (omega (arith, below, base))
    by (inr above) = let few = few_entries fields.shape.rirb in inr (omega (arith, above, base, few))

-- so a command of CORB stays
pub word_stays : (responses : List Response) (fields : Fields) (memory : List ℕ) (corb place : ℕ) → are_apart corb (rirb_address fields) ≡ true → place < 256
    → word_at (responses_stored fields memory responses) (corb + 4 * place) ≡ word_at memory (corb + 4 * place)
word_stays responses fields memory corb place apart few =
    same_word memory (responses_stored fields memory responses) (corb + 4 * place)
    (λ byte small. outside_stored responses fields memory (corb + 4 * place + byte) (apart_by corb (rirb_address fields) (corb + 4 * place + byte) (entries_of fields.shape.rirb) apart (omega arith) (omega arith) (few_entries fields.shape.rirb)))

-- responses that are written where none is unread stand from the entry after the write pointer on
pub standing_written : EachStands → (responses : List Response) (fields : Fields) (memory : List ℕ) (place : ℕ) → length responses < entries_of fields.shape.rirb → IsRirbInside fields memory
    → fields.global.rirb_write_pointer ≡ place
    → AreStanding (rirb_address fields) (entries_of fields.shape.rirb) place (responses_stored fields memory responses) responses
standing_written stands responses fields memory place few inside at = λ index response byte is small.
    subst (λ (p : ℕ). slice_index (responses_stored fields memory responses) (rirb_address fields + 8 * ((p + (index + 1)) % entries_of fields.shape.rirb) + byte) ≡ slice_index (response_bytes response) byte) at
    (stands fields memory responses index response few inside is byte small)
