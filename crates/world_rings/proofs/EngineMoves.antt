-- What the engines of the rings leave of the registers, and what they take.
use Rattle.std.proofs.Common.{◌≡◌, ◌==◌, ◌&&◌, ℕ, Bool, true, false, not, List, [], ◌∷◌, ◌++◌, length, take, drop, refl, sym, ap, ◌∙◌, rules, if◌then◌else◌, tests}
use Rattle.std.proofs.Math.Seq.{drop-append_seam}
use Rattle.std.proofs.lemmas.List.{take-append-drop}
use Rattle.hda_registers.specs.Fields.{Fields}
use Rattle.hda_registers.specs.Moves.{raised}
use Rattle.hda_registers.specs.declared.shapes.Raise.TheVariants as event
use Rattle.world_rings.specs.declared.response.Response.{Response}
use Rattle.world_rings.specs.Entries.{after_response, after_responses}
use Rattle.world_rings.specs.Engines.{after_batch, can_respond, batch_of, batch}

-- responses move RIRB's pointer alone
pub responses_registers : (responses : List Response) (fields : Fields) → after_responses fields responses
    ≡ record fields { global = record fields.global { rirb_write_pointer = (after_responses fields responses).global.rirb_write_pointer } }
responses_registers [] fields = refl
responses_registers (response ∷ responses) fields = responses_registers responses (after_response fields)

-- and a batch raises their flag
pub batch_registers : (response : Response) (rest : List Response) (fields : Fields) → after_batch fields (response ∷ rest)
    ≡ record fields { global = record fields.global { rirb_write_pointer = (after_responses fields (response ∷ rest)).global.rirb_write_pointer; response_flag = 1 } }
batch_registers response rest fields = ap (λ (fields : Fields). raised fields event.Response) (responses_registers (response ∷ rest) fields)

-- STATESTS stays
pub status_responded : (responses : List Response) (fields : Fields) → (after_responses fields responses).global.state_status ≡ fields.global.state_status
status_responded [] fields = refl
status_responded (response ∷ responses) fields = status_responded responses (after_response fields)

-- and so do the sizes of the rings
pub shape_responded : (responses : List Response) (fields : Fields) → (after_responses fields responses).shape ≡ fields.shape
shape_responded [] fields = refl
shape_responded (response ∷ responses) fields = shape_responded responses (after_response fields)

-- what responds has no flag
pub flag_clear : (fields : Fields) → can_respond fields ≡ true → (fields.global.response_flag == 1) ≡ false
flag_clear fields can = search (rules, tests)

-- an engine that cannot respond takes none
pub batch_none : (fields : Fields) (waiting : List Response) → can_respond fields ≡ false → batch fields waiting ≡ []
batch_none fields waiting cannot = ap (λ (can : Bool). if can then take (batch_of fields) waiting else []) cannot

batch_by : (can : Bool) (count : ℕ) (waiting responses : List Response) → can ≡ true → (if can then take count waiting else []) ≡ responses → take count waiting ≡ responses
batch_by true count waiting responses is e = e
batch_by false count waiting responses is e = cc

-- a batch is the first that wait
pub batch_first : (fields : Fields) (waiting responses : List Response) → can_respond fields ≡ true → batch fields waiting ≡ responses → responses ++ drop (length responses) waiting ≡ waiting
batch_first fields waiting responses can are =
    let taken = batch_by (can_respond fields) (batch_of fields) waiting responses can are in
    let all : responses ++ drop (batch_of fields) waiting ≡ waiting = ap (λ (rs : List Response). rs ++ drop (batch_of fields) waiting) (sym taken) ∙ take-append-drop (batch_of fields) waiting in
    let tail : drop (length responses) waiting ≡ drop (batch_of fields) waiting = ap (drop (length responses)) (sym all) ∙ drop-append_seam responses (drop (batch_of fields) waiting) in
    ap (λ (rest : List Response). responses ++ rest) tail ∙ all

-- an idle CORB has nothing to fetch
pub none_fetched : {A : Type 0} (out run reset : Bool) (read write : ℕ) → read ≡ write → (out && run && reset && not (read == write)) ≡ true → A
none_fetched {A} out run reset read write same can = by out run reset (read == write) (search (rules, same)) can
  where
    by : {A : Type 0} (a b c d : Bool) → d ≡ true → (a && b && c && not d) ≡ true → A
    by true true true true is can = cc
    by true true true false is can = cc
    by true true false d is can = cc
    by true false c d is can = cc
    by false b c d is can = cc
