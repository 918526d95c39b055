use Rattle.std.proofs.Common.{◌≡◌, ℕ, ◌+◌, ◌-◌, ◌*◌, ◌/◌, List, ◌++◌, drop, take, length, sym, ap, ◌∙◌, rules, arith}
use Rattle.std.proofs.lemmas.List.{take_rest}
use Rattle.std.proofs.lemmas.Slice.{take-put_mid}
use Rattle.wav_reader.specs.Readers.{group_length, slot_length, slots}
use Rattle.wav_reader.proofs.RingLemmas.{groups-next, slots-none}
use Rattle.wav_reader.proofs.slots.groups_of.Goals as goal

pub loop-i-init : goal.loop-i-init
loop-i-init c =
    let none : 0 * (16 / slot_length c.args.mono c.args.bits) ≡ 0 = omega arith in
    sym (ap (slots c.args.mono c.args.bits c.args.samples.now) none ∙ slots-none c.args.mono c.args.bits c.args.samples.now)

pub loop-i-preserved : goal.loop-i-preserved
loop-i-preserved c =
    let mono = c.args.mono in
    let bits = c.args.bits in
    let samples = c.args.samples.now in
    let each = 16 / slot_length c.args.mono c.args.bits in
    let i = c.loop-i.i in
    let within = c.loop-i-test.true in
    let few = c.requires.few in
    let all = c.loop-i-test.array_long in
    let rest = take_rest c.args.samples.now (c.loop-i.i * group_length c.args.mono c.args.bits) in
    let group : c.copy_from_slice.new.self ≡ slots c.args.mono c.args.bits (drop (c.loop-i.i * group_length c.args.mono c.args.bits) c.args.samples.now) (16 / slot_length c.args.mono c.args.bits) =
    c.copy_from_slice.ensures.after ∙ c.group_of.ensures
    ∙ ap (λ (n : ℕ). slots mono bits (take (length samples - i * n) (drop (i * n) samples)) each) c.group_len-size.ensures.value
    ∙ ap (λ (samples : List ℕ). slots mono bits samples each) rest in
    let long : length c.copy_from_slice.new.self ≡ 16 = search rules in
    take-put_mid (i * 16) (i * 16 + 16 - i * 16) c.loop-i.part c.copy_from_slice.new.self ((i + 1) * 16) (omega (arith, long)) (omega (arith, all, within, few))
    ∙ ap (λ (front : List ℕ). front ++ c.copy_from_slice.new.self) c.loop-i.invariant
    ∙ ap (λ (group : List ℕ). slots mono bits samples (i * each) ++ group) group
    ∙ sym (groups-next mono bits samples i)
