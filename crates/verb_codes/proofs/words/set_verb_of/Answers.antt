use Rattle.std.proofs.Common.{◌≡◌, ◌<◌, ◌+◌, ◌*◌, ◌^◌, ◌-◌, refl, sym, true, arith}
use Rattle.std.proofs.lemmas.Bool.{ltb-true, lt-ltb}
use Rattle.verb_codes.specs.declared.verbs.Verb.{Verb}
use Rattle.verb_codes.specs.declared.verbs.Verb.TheVariants as verb
use Rattle.verb_codes.specs.Verbs.{row_of, is_allowed, verb_bits}
use Rattle.verb_codes.proofs.Readings.{reads_verb, reads_none, payload-lt, allowed-of}
use Rattle.verb_codes.proofs.words.set_verb_of.Goals as goal

pub returns-in-1793 : goal.returns-in-1793
returns-in-1793 c = sym (reads_verb (c.args.code * 2 ^ 8 + c.args.argument) (verb.SetSelect c.args.argument) (omega arith) refl (omega arith))

pub returns-in-1797 : goal.returns-in-1797
returns-in-1797 c = sym (reads_verb (c.args.code * 2 ^ 8 + c.args.argument) (verb.SetPower c.args.argument) (omega arith) refl (omega arith))

pub returns-in-1798 : goal.returns-in-1798
returns-in-1798 c = sym (reads_verb (c.args.code * 2 ^ 8 + c.args.argument) (verb.SetStream c.args.argument) (omega arith) refl (omega arith))

pub returns-in-1799 : goal.returns-in-1799
returns-in-1799 c = sym (reads_verb (c.args.code * 2 ^ 8 + c.args.argument) (verb.SetPin c.args.argument) (omega arith) refl (omega arith))

pub returns-in-1800 : goal.returns-in-1800
returns-in-1800 c = sym (reads_verb (c.args.code * 2 ^ 8 + c.args.argument) (verb.SetUnsol c.args.argument) (omega arith) refl (omega arith))

pub returns-in-1804 : goal.returns-in-1804
returns-in-1804 c = sym (reads_verb (c.args.code * 2 ^ 8 + c.args.argument) (verb.SetEapd c.args.argument) (omega arith) refl (omega arith))

pub returns-in-1805 : goal.returns-in-1805
returns-in-1805 c = sym (reads_verb (c.args.code * 2 ^ 8 + c.args.argument) (verb.SetDigital c.args.argument) (omega arith) refl (omega arith))

pub returns-in_default : goal.returns-in_default
returns-in_default c =
    sym (reads_verb (c.args.code * 2 ^ 8 + c.args.argument) (verb.SetDefault (c.args.code - 0x71C) c.args.argument) (omega arith) (lt-ltb _ 4 (omega arith)) (omega arith))

pub returns-in_default-2 : goal.returns-in_default-2
returns-in_default-2 c =
    sym (reads_none (c.args.code * 2 ^ 8 + c.args.argument) (λ v r e. none c v (payload-lt v r) (allowed-of v r) e))
  where
    none : (c : goal.Else-code-lt4) (v : Verb) → (row_of v).payload < 2 ^ (row_of v).width → is_allowed v ≡ true → c.args.code * 2 ^ 8 + c.args.argument ≡ verb_bits v → ⊥
    none c (verb.SetDefault place byte) lt allowed e = let p : place < 4 = ltb-true place 4 allowed in omega arith
    none c _ lt allowed e = omega arith

pub returns-in_default-2-2 : goal.returns-in_default-2-2
returns-in_default-2-2 c =
    sym (reads_none (c.args.code * 2 ^ 8 + c.args.argument) (λ v r e. none c v (payload-lt v r) (allowed-of v r) e))
  where
    none : (c : goal.Else-code-ge-SET_DEFAULT) (v : Verb) → (row_of v).payload < 2 ^ (row_of v).width → is_allowed v ≡ true → c.args.code * 2 ^ 8 + c.args.argument ≡ verb_bits v → ⊥
    none c (verb.SetDefault place byte) lt allowed e = let p : place < 4 = ltb-true place 4 allowed in omega arith
    none c _ lt allowed e = omega arith
