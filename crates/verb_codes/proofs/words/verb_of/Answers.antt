use Rattle.std.proofs.Common.{◌≡◌, ◌<◌, ◌^◌, refl, sym, ap, ◌∙◌, true, arith}
use Rattle.std.specs.Prelude.{bit_and}
use Rattle.std.proofs.lemmas.Bool.{ltb-true, eqb-true, eq-eqb}
use Rattle.verb_codes.specs.declared.verbs.Verb.{Verb}
use Rattle.verb_codes.specs.declared.verbs.Verb.TheVariants as verb
use Rattle.verb_codes.specs.Verbs.{row_of, is_allowed, verb_bits, get_amp_zeros}
use Rattle.verb_codes.proofs.Readings.{reads_verb, reads_none, payload-lt, allowed-of}
use Rattle.verb_codes.proofs.words.verb_of.Goals as goal

pub returns-in-2 : goal.returns-in-2
returns-in-2 c = sym (reads_verb c.args.bits (verb.SetFormat c.bits_of-payload.result) (omega arith) refl (omega arith))

pub returns-in-3 : goal.returns-in-3
returns-in-3 c = sym (reads_verb c.args.bits (verb.SetAmp c.bits_of-payload.result) (omega arith) refl (omega arith))

pub returns-in-10 : goal.returns-in-10
returns-in-10 c = sym (reads_verb c.args.bits verb.GetFormat (omega arith) refl (omega arith))

pub returns-in-11 : goal.returns-in-11
returns-in-11 c =
    sym (reads_verb c.args.bits (verb.GetAmp c.bits_of-payload.result) (omega arith) (eq-eqb _ 0 c.if-payload-eq0-2.true) (omega arith))

pub returns-in_default : goal.returns-in_default
returns-in_default c = sym (reads_none c.args.bits (λ v r e. none c v (payload-lt v r) (allowed-of v r) e))
  where
    none : (c : goal.Else-payload-eq0) (v : Verb) → (row_of v).payload < 2 ^ (row_of v).width → is_allowed v ≡ true → c.args.bits ≡ verb_bits v → ⊥
    none c (verb.SetDefault place byte) lt allowed e = let p : place < 4 = ltb-true place 4 allowed in omega arith
    none c _ lt allowed e = omega arith

pub returns-in_default-2 : goal.returns-in_default-2
returns-in_default-2 c = sym (reads_none c.args.bits (λ v r e. none c v (payload-lt v r) (allowed-of v r) e))
  where
    none : (c : goal.Else-payload-eq0-2) (v : Verb) → (row_of v).payload < 2 ^ (row_of v).width → is_allowed v ≡ true → c.args.bits ≡ verb_bits v → ⊥
    none c (verb.GetAmp side) lt allowed e =
        let same : c.bits_of-payload.result ≡ side = omega arith in
        c.if-payload-eq0-2.false (ap (λ x. bit_and x get_amp_zeros) same ∙ eqb-true _ 0 allowed)
    none c (verb.SetDefault place byte) lt allowed e = let p : place < 4 = ltb-true place 4 allowed in omega arith
    none c _ lt allowed e = omega arith

pub returns-in_default-3 : goal.returns-in_default-3
returns-in_default-3 c = sym (reads_none c.args.bits (λ v r e. none c v (payload-lt v r) (allowed-of v r) e))
  where
    none : (c : goal.In_default) (v : Verb) → (row_of v).payload < 2 ^ (row_of v).width → is_allowed v ≡ true → c.args.bits ≡ verb_bits v → ⊥
    none c (verb.SetDefault place byte) lt allowed e = let p : place < 4 = ltb-true place 4 allowed in omega arith
    none c _ lt allowed e = omega arith
