use Rattle.std.proofs.Common.{◌≡◌, ◌<◌, ◌-◌, ◌+◌, ◌++◌, ℕ, Bool, true, false, List, length, take, drop, get_or, set, refl, sym, ap, ◌∙◌, arith}
use mir.Val.{bool_byte}
use Rattle.hda_model.specs.Copies.{mark_of}
use Rattle.hda_model.proofs.Copying.{parts_from, length-parts_from, parts_from-at, pasted, most_is}
use Rattle.hda_model.proofs.marks.copy_marks.Goals as goal

byte_is : (taken : Bool) → bool_byte taken ≡ mark_of taken
byte_is true = refl
byte_is false = refl

pub loop-number-preserved : goal.loop-number-preserved
loop-number-preserved c =
    let from : ℕ = c.args.from in
    let number : ℕ = c.loop-number.number in
    let old : List ℕ = c.args.into.now in
    let marks : List Bool = c.args.marks.now in
    let parts : List ℕ = parts_from mark_of from marks in
    let size : length parts ≡ length marks - from = length-parts_from mark_of from marks in
    let most = c.most_copied-most.ensures ∙ most_is (length marks) from (length old) (length parts) size in
    let before = c.loop-number-test.true in
    let there : number < length parts = omega (arith, most, before) in
    let room : number < length old = omega (arith, most, before) in
    let value : c.from.result ≡ get_or parts number 0 =
    c.from.ensures ∙ (byte_is (get_or marks (from + number) false)
    ∙ sym (parts_from-at mark_of from number marks false 0 (omega (arith, there, size)))) in
    ap (λ (into : List ℕ). set into number c.from.result) c.loop-number.invariant
    ∙ (ap (set (take number parts ++ drop number old) number) value ∙ pasted number parts old 0 there room)
