use Rattle.std.proofs.Common.{◌≡◌, ◌<◌, ◌+◌, ◌*◌, ◌^◌, refl, sym, true, arith}
use Rattle.std.proofs.lemmas.Bool.{ltb-true}
use Rattle.verb_codes.specs.declared.verbs.Verb.{Verb}
use Rattle.verb_codes.specs.declared.verbs.Verb.TheVariants as verb
use Rattle.verb_codes.specs.Verbs.{row_of, is_allowed, verb_bits}
use Rattle.verb_codes.proofs.Readings.{reads_verb, reads_none, payload-lt, allowed-of}
use Rattle.verb_codes.proofs.words.get_verb_of.Goals as goal

pub returns-in-3840 : goal.returns-in-3840
returns-in-3840 c = sym (reads_verb (c.args.code * 2 ^ 8 + c.args.argument) (verb.GetParam c.args.argument) (omega arith) refl (omega arith))

pub returns-in-3842 : goal.returns-in-3842
returns-in-3842 c = sym (reads_verb (c.args.code * 2 ^ 8 + c.args.argument) (verb.GetList c.args.argument) (omega arith) refl (omega arith))

pub returns-in-3841 : goal.returns-in-3841
returns-in-3841 c = sym (reads_verb (c.args.code * 2 ^ 8 + c.args.argument) verb.GetSelect (omega arith) refl (omega arith))

pub returns-in-3845 : goal.returns-in-3845
returns-in-3845 c = sym (reads_verb (c.args.code * 2 ^ 8 + c.args.argument) verb.GetPower (omega arith) refl (omega arith))

pub returns-in-3846 : goal.returns-in-3846
returns-in-3846 c = sym (reads_verb (c.args.code * 2 ^ 8 + c.args.argument) verb.GetStream (omega arith) refl (omega arith))

pub returns-in-3847 : goal.returns-in-3847
returns-in-3847 c = sym (reads_verb (c.args.code * 2 ^ 8 + c.args.argument) verb.GetPin (omega arith) refl (omega arith))

pub returns-in-3848 : goal.returns-in-3848
returns-in-3848 c = sym (reads_verb (c.args.code * 2 ^ 8 + c.args.argument) verb.GetUnsol (omega arith) refl (omega arith))

pub returns-in-3849 : goal.returns-in-3849
returns-in-3849 c = sym (reads_verb (c.args.code * 2 ^ 8 + c.args.argument) verb.GetSense (omega arith) refl (omega arith))

pub returns-in-3852 : goal.returns-in-3852
returns-in-3852 c = sym (reads_verb (c.args.code * 2 ^ 8 + c.args.argument) verb.GetEapd (omega arith) refl (omega arith))

pub returns-in-3853 : goal.returns-in-3853
returns-in-3853 c = sym (reads_verb (c.args.code * 2 ^ 8 + c.args.argument) verb.GetDigital (omega arith) refl (omega arith))

pub returns-in-3868 : goal.returns-in-3868
returns-in-3868 c = sym (reads_verb (c.args.code * 2 ^ 8 + c.args.argument) verb.GetDefault (omega arith) refl (omega arith))

pub returns-in_default : goal.returns-in_default
returns-in_default c =
    sym (reads_none (c.args.code * 2 ^ 8 + c.args.argument) (λ v r e. none c v (payload-lt v r) (allowed-of v r) e))
  where
    none : (c : goal.Then-argument-ne0) (v : Verb) → (row_of v).payload < 2 ^ (row_of v).width → is_allowed v ≡ true → c.args.code * 2 ^ 8 + c.args.argument ≡ verb_bits v → ⊥
    none c (verb.SetDefault place byte) lt allowed e = let p : place < 4 = ltb-true place 4 allowed in omega arith
    none c _ lt allowed e = omega arith

pub returns-in_default-2 : goal.returns-in_default-2
returns-in_default-2 c =
    sym (reads_none (c.args.code * 2 ^ 8 + c.args.argument) (λ v r e. none c v (payload-lt v r) (allowed-of v r) e))
  where
    none : (c : goal.In_default-2) (v : Verb) → (row_of v).payload < 2 ^ (row_of v).width → is_allowed v ≡ true → c.args.code * 2 ^ 8 + c.args.argument ≡ verb_bits v → ⊥
    none c (verb.SetDefault place byte) lt allowed e = let p : place < 4 = ltb-true place 4 allowed in omega arith
    none c _ lt allowed e = omega arith
