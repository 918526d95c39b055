-- Responses written one by one, and how many of those that wait.
use Rattle.std.proofs.Common.{◌≡◌, ◌<◌, ◌≤◌, ◌+◌, ℕ, zero, suc, true, List, [], ◌∷◌, ◌++◌, length, take, drop, slice_get, Some, None, add-one, refl, sym, ap, ◌∙◌, arith, rules, tests}
use Rattle.world_rings.specs.declared.response.Response.{Response}
use Rattle.hda_registers.specs.Fields.{Fields, is_out_of_reset}
use Rattle.world_rings.specs.Entries.{after_response, after_responses, response_stored, responses_stored}
use Rattle.world_rings.specs.Engines.{can_respond}

pub after_responses-push : (responses : List Response) (response : Response) (fields : Fields) → after_responses fields (responses ++ response ∷ []) ≡ after_response (after_responses fields responses)
after_responses-push [] response fields = refl
after_responses-push (first ∷ responses) response fields = after_responses-push responses response (after_response fields)

pub responses_stored-push : (responses : List Response) (response : Response) (fields : Fields) (memory : List ℕ)
    → responses_stored fields memory (responses ++ response ∷ []) ≡ response_stored (after_responses fields responses) (responses_stored fields memory responses) response
responses_stored-push [] response fields memory = refl
responses_stored-push (first ∷ responses) response fields memory = responses_stored-push responses response (after_response fields) (response_stored fields memory first)

-- the engine may go on
pub can_respond-after : (responses : List Response) (fields : Fields) → can_respond (after_responses fields responses) ≡ can_respond fields
can_respond-after [] fields = refl
can_respond-after (response ∷ responses) fields = can_respond-after responses (after_response fields)

same_some : {A : Type 0} (x y : A) → Some x ≡ Some y → x ≡ y
same_some x y is = cc

-- the item after the first n
taken_suc : (items : List Response) (response : Response) (n : ℕ) → slice_get (drop n items) 0 ≡ Some response → take (suc n) items ≡ take n items ++ response ∷ []
taken_suc [] response zero is = cc
taken_suc [] response (suc n) is = cc
taken_suc (first ∷ items) response zero is = ap (λ (r : Response). r ∷ []) (same_some first response is)
taken_suc (first ∷ items) response (suc n) is = ap (λ (xs : List Response). first ∷ xs) (taken_suc items response n is)

pub taken_more : (items : List Response) (response : Response) (n : ℕ) → slice_get (drop n items) 0 ≡ Some response → take (n + 1) items ≡ take n items ++ response ∷ []
taken_more items response n is = rw add-one (taken_suc items response n is)

pub some_left : (items : List Response) (response : Response) (n : ℕ) → slice_get (drop n items) 0 ≡ Some response → n < length items
some_left [] response zero is = cc
some_left [] response (suc n) is = cc
some_left (first ∷ items) response zero is = omega arith
some_left (first ∷ items) response (suc n) is = let later = some_left items response n is in omega arith

pub none_left : (items : List Response) (n : ℕ) → slice_get (drop n items) 0 ≡ None → length items ≤ n
none_left [] n is = omega arith
none_left (first ∷ items) zero is = cc
none_left (first ∷ items) (suc n) is = let later = none_left items n is in omega arith

-- an engine that may write responses is out of reset, and stays so
pub out_of_reset : (fields : Fields) → can_respond fields ≡ true → is_out_of_reset fields.global ≡ true
out_of_reset fields can = search (rules, tests)

pub may_respond : (now fields : Fields) (responses : List Response) → now ≡ after_responses fields responses → can_respond fields ≡ true → can_respond now ≡ true
may_respond now fields responses is can = ap can_respond is ∙ can_respond-after responses fields ∙ can

-- one response more
pub registers_more : (old now new : Fields) (items : List Response) (response : Response) (n : ℕ) → slice_get (drop n items) 0 ≡ Some response
    → now ≡ after_responses old (take n items) → new ≡ after_response now → new ≡ after_responses old (take (n + 1) items)
registers_more old now new items response n is so becomes =
    becomes ∙ ap after_response so ∙ sym (ap (after_responses old) (taken_more items response n is) ∙ after_responses-push (take n items) response old)

pub memory_more : (old now : Fields) (before memory new : List ℕ) (items : List Response) (response : Response) (n : ℕ) → slice_get (drop n items) 0 ≡ Some response
    → now ≡ after_responses old (take n items) → memory ≡ responses_stored old before (take n items) → new ≡ response_stored now memory response
    → new ≡ responses_stored old before (take (n + 1) items)
memory_more old now before memory new items response n is so held becomes =
    becomes ∙ ap (λ (fields : Fields). response_stored fields memory response) so
    ∙ ap (λ (bytes : List ℕ). response_stored (after_responses old (take n items)) bytes response) held
    ∙ sym (ap (responses_stored old before) (taken_more items response n is) ∙ responses_stored-push (take n items) response old before)
