-- What the bits of a command read as: bits and verbs that are in range stand for one another.
use Rattle.std.proofs.Common.{◌≡◌, ◌<◌, ◌+◌, ◌*◌, ◌/◌, ◌%◌, ◌^◌, ℕ, Bool, true, false, ◌==◌, ◌&&◌, nat_eq, nat_lt, List, [], ◌∷◌, Option, Some, None, IsTrue, cond, refl, sym, ap, ◌∙◌, arith, lit<, zero, suc}
use Rattle.std.specs.Prelude.{find, bit_and}
use Rattle.std.proofs.lemmas.Bool.{and_parts, and_from, ltb-true, lt-ltb, eqb-true, eq-eqb}
use Rattle.std.proofs.lemmas.Option.{same_Some, none-some}
use Rattle.std.proofs.lemmas.Nat.{div-mul-add, mod-mul-add, shr_split, mod_below, pow_pos}
use Rattle.verb_codes.specs.declared.verbs.Verb.{Verb}
use Rattle.verb_codes.specs.declared.verbs.Verb.TheVariants.{GetParam, GetSelect, SetSelect, GetList, GetPower, SetPower, GetStream, SetStream, GetPin, SetPin, GetUnsol, SetUnsol, GetSense, GetEapd, SetEapd, GetDigital, SetDigital, GetDefault, SetDefault, GetFormat, SetFormat, GetAmp, SetAmp}
use Rattle.verb_codes.specs.Verbs.{Row, row_of, is_allowed, is_verb_in_range, verb_bits, verbs_with, is_row_at, reads_as, verb_of_bits, get_amp_zeros}

-- what is found passes the test
find-passes : {X : Type 0} (p : X → Bool) (xs : List X) (x : X) → find p xs ≡ Some x → p x ≡ true
find-passes p [] x e = absurd (none-some x e)
find-passes {X} p (y ∷ ys) x e =
    let go : (b : Bool) → p y ≡ b → cond b (Some y) (find p ys) ≡ Some x → p x ≡ true =
    λ b. elim b as (λ b. p y ≡ b → cond b (Some y) (find p ys) ≡ Some x → p x ≡ true) [
      | true ↦ λ q h. ap p (sym (same_Some y x h)) ∙ q
      | false ↦ λ q h. find-passes p ys x h
    ]
    in go (p y) refl e

-- bits at which a row is found are the row's, and its payload fits
row_there : (row : Row) (allowed : Bool) (bits : ℕ) → (is_row_at row bits && allowed) ≡ true → IsTrue (nat_lt row.payload (2 ^ row.width) && allowed) × (bits ≡ row.code * 2 ^ row.width + row.payload)
row_there row allowed bits h =
    let both = and_parts _ allowed h in
    let row_parts = and_parts _ _ both.0 in
    let code : row.code ≡ bits / 2 ^ row.width = eqb-true _ _ row_parts.0 in
    let payload : row.payload ≡ bits % 2 ^ row.width = eqb-true _ _ row_parts.1 in
    let below : bits % 2 ^ row.width < 2 ^ row.width = mod_below bits (2 ^ row.width) (pow_pos row.width) in
    (and_from _ _ (lt-ltb _ _ (rw payload below)) both.1, rw (code, payload) (sym (shr_split bits row.width)))

-- bits that read as a verb are the verb's, which is in range
pub verb_of_bits-sound : (bits : ℕ) (verb : Verb) → verb_of_bits bits ≡ Some verb → IsTrue (is_verb_in_range verb) × (bits ≡ verb_bits verb)
unfolding verb_of_bits
verb_of_bits-sound bits verb e =
    row_there (row_of verb) (is_allowed verb) bits (find-passes (reads_as bits) (verbs_with (bits % 2 ^ 8) (bits % 2 ^ 16)) verb e)

-- the same search, by the numbers above and below 8 and 16 bits of payload
abbrev found_at : ℕ → ℕ → ℕ → ℕ → Option Verb
found_at code byte top half =
    find (λ v. cond (nat_eq (row_of v).width 8) ((row_of v).code == code && (row_of v).payload == byte) ((row_of v).code == top && (row_of v).payload == half) && is_allowed v) (verbs_with byte half)

verb_of_bits-at : (bits : ℕ) → verb_of_bits bits ≡ found_at (bits / 2 ^ 8) (bits % 2 ^ 8) (bits / 2 ^ 16) (bits % 2 ^ 16)
unfolding verb_of_bits
verb_of_bits-at bits = refl

short_bits : (code byte : ℕ) → byte < 2 ^ 8 → verb_of_bits (code * 2 ^ 8 + byte) ≡ found_at code byte (code / 2 ^ 8) (code % 2 ^ 8 * 2 ^ 8 + byte)
short_bits code byte h =
    let bits = code * 2 ^ 8 + byte in
    let e₁ : bits / 2 ^ 8 ≡ code = div-mul-add code (2 ^ 8) byte h in
    let e₂ : bits % 2 ^ 8 ≡ byte = mod-mul-add code (2 ^ 8) byte h in
    let e₃ : bits / 2 ^ 16 ≡ code / 2 ^ 8 = omega arith in
    let e₄ : bits % 2 ^ 16 ≡ code % 2 ^ 8 * 2 ^ 8 + byte = omega arith in
    verb_of_bits-at bits
    ∙ ap (λ x. found_at x (bits % 2 ^ 8) (bits / 2 ^ 16) (bits % 2 ^ 16)) e₁
    ∙ ap (λ x. found_at code x (bits / 2 ^ 16) (bits % 2 ^ 16)) e₂
    ∙ ap (λ x. found_at code byte x (bits % 2 ^ 16)) e₃
    ∙ ap (λ x. found_at code byte (code / 2 ^ 8) x) e₄

long_bits : (code half : ℕ) → half < 2 ^ 16 → verb_of_bits (code * 2 ^ 16 + half) ≡ found_at ((code * 2 ^ 16 + half) / 2 ^ 8) ((code * 2 ^ 16 + half) % 2 ^ 8) code half
long_bits code half h =
    let bits = code * 2 ^ 16 + half in
    verb_of_bits-at bits
    ∙ ap (λ x. found_at (bits / 2 ^ 8) (bits % 2 ^ 8) x (bits % 2 ^ 16)) (div-mul-add code (2 ^ 16) half h)
    ∙ ap (λ x. found_at (bits / 2 ^ 8) (bits % 2 ^ 8) code x) (mod-mul-add code (2 ^ 16) half h)

-- the row with this payload is the one found
same_found : (n : ℕ) (allowed : Bool) (x y : Option Verb) → allowed ≡ true → cond (n == n && allowed) x y ≡ x
same_found n allowed x y h = rw (and_from _ _ (eq-eqb n n refl) h)

-- the payload of a verb in range fits its width
pub payload-lt : (verb : Verb) → IsTrue (is_verb_in_range verb) → (row_of verb).payload < 2 ^ (row_of verb).width
payload-lt verb h = ltb-true _ _ (and_parts _ _ h).0

pub allowed-of : (verb : Verb) → IsTrue (is_verb_in_range verb) → is_allowed verb ≡ true
allowed-of verb h = (and_parts _ _ h).1

byte_found : (place byte : ℕ) → place < 4 → byte < 2 ^ 8 → verb_of_bits ((0x71C + place) * 2 ^ 8 + byte) ≡ Some (SetDefault place byte)
byte_found zero byte p h = short_bits 0x71C byte h ∙ same_found byte true _ _ refl
byte_found (suc zero) byte p h = short_bits 0x71D byte h ∙ same_found byte true _ _ refl
byte_found (suc (suc zero)) byte p h = short_bits 0x71E byte h ∙ same_found byte true _ _ refl
byte_found (suc (suc (suc zero))) byte p h = short_bits 0x71F byte h ∙ same_found byte true _ _ refl
byte_found (suc (suc (suc (suc n)))) byte p h = absurd (omega arith)

-- the bits of a verb in range read as that verb
pub verb_of_bits-complete : (verb : Verb) → IsTrue (is_verb_in_range verb) → verb_of_bits (verb_bits verb) ≡ Some verb
verb_of_bits-complete (GetParam n) h = short_bits 0xF00 n (payload-lt (GetParam n) h) ∙ same_found n true _ _ refl
verb_of_bits-complete GetSelect h = short_bits 0xF01 0 (lit< tt)
verb_of_bits-complete (SetSelect n) h = short_bits 0x701 n (payload-lt (SetSelect n) h) ∙ same_found n true _ _ refl
verb_of_bits-complete (GetList n) h = short_bits 0xF02 n (payload-lt (GetList n) h) ∙ same_found n true _ _ refl
verb_of_bits-complete GetPower h = short_bits 0xF05 0 (lit< tt)
verb_of_bits-complete (SetPower n) h = short_bits 0x705 n (payload-lt (SetPower n) h) ∙ same_found n true _ _ refl
verb_of_bits-complete GetStream h = short_bits 0xF06 0 (lit< tt)
verb_of_bits-complete (SetStream n) h = short_bits 0x706 n (payload-lt (SetStream n) h) ∙ same_found n true _ _ refl
verb_of_bits-complete GetPin h = short_bits 0xF07 0 (lit< tt)
verb_of_bits-complete (SetPin n) h = short_bits 0x707 n (payload-lt (SetPin n) h) ∙ same_found n true _ _ refl
verb_of_bits-complete GetUnsol h = short_bits 0xF08 0 (lit< tt)
verb_of_bits-complete (SetUnsol n) h = short_bits 0x708 n (payload-lt (SetUnsol n) h) ∙ same_found n true _ _ refl
verb_of_bits-complete GetSense h = short_bits 0xF09 0 (lit< tt)
verb_of_bits-complete GetEapd h = short_bits 0xF0C 0 (lit< tt)
verb_of_bits-complete (SetEapd n) h = short_bits 0x70C n (payload-lt (SetEapd n) h) ∙ same_found n true _ _ refl
verb_of_bits-complete GetDigital h = short_bits 0xF0D 0 (lit< tt)
verb_of_bits-complete (SetDigital n) h = short_bits 0x70D n (payload-lt (SetDigital n) h) ∙ same_found n true _ _ refl
verb_of_bits-complete GetDefault h = short_bits 0xF1C 0 (lit< tt)
verb_of_bits-complete (SetDefault place n) h =
    byte_found place n (ltb-true place 4 (allowed-of (SetDefault place n) h)) (payload-lt (SetDefault place n) h)
verb_of_bits-complete GetFormat h = long_bits 0xA 0 (lit< tt)
verb_of_bits-complete (SetFormat n) h = long_bits 0x2 n (payload-lt (SetFormat n) h) ∙ same_found n true _ _ refl
verb_of_bits-complete (GetAmp n) h =
    long_bits 0xB n (payload-lt (GetAmp n) h) ∙ same_found n (bit_and n get_amp_zeros == 0) _ _ (allowed-of (GetAmp n) h)
verb_of_bits-complete (SetAmp n) h = long_bits 0x3 n (payload-lt (SetAmp n) h) ∙ same_found n true _ _ refl

-- bits that are those of a verb in range read as that verb
pub reads_verb : (bits : ℕ) (verb : Verb) → (row_of verb).payload < 2 ^ (row_of verb).width → is_allowed verb ≡ true → bits ≡ verb_bits verb → verb_of_bits bits ≡ Some verb
reads_verb bits verb lt allowed e = ap verb_of_bits e ∙ verb_of_bits-complete verb (and_from _ _ (lt-ltb _ _ lt) allowed)

-- bits that are those of no verb in range have no reading
pub reads_none : (bits : ℕ) → ((verb : Verb) → IsTrue (is_verb_in_range verb) → bits ≡ verb_bits verb → ⊥) → verb_of_bits bits ≡ None
reads_none bits h =
    let go : (o : Option Verb) → verb_of_bits bits ≡ o → o ≡ None =
    λ o. elim o as (λ o. verb_of_bits bits ≡ o → o ≡ None) [
      | None ↦ λ e. refl
      | Some v ↦ λ e. let s = verb_of_bits-sound bits v e in absurd (h v s.0 s.1)
    ]
    in go (verb_of_bits bits) refl

-- the bits of a verb whose arguments are allowed and whose payload fits are 20
pub verb_bits-lt : (verb : Verb) → (row_of verb).payload < 2 ^ (row_of verb).width → is_allowed verb ≡ true → verb_bits verb < 2 ^ 20
verb_bits-lt (SetDefault place n) h a = let p : place < 4 = ltb-true place 4 a in omega arith
verb_bits-lt _ h a = omega arith
