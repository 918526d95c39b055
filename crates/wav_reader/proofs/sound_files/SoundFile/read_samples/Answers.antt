use Rattle.std.proofs.Common.{◌≡◌, ◌≤◌, ◌+◌, ◌*◌, ◌/◌, ◌%◌, ℕ, length, Ok, sym, ap, subst, ◌∙◌, string_bytes, arith}
use Rattle.std.proofs.lemmas.Result.{err_from_is_err_and}
use Rattle.std.proofs.Math.Nat.{mul-mod_left}
use Rattle.wav_reader.specs.Formats.{sample_length}
use Rattle.wav_reader.specs.Opening.{head_in_file}
use Rattle.wav_reader.specs.Readers.{ReadsOn, seen_under, slot_length}
use Rattle.wav_reader.proofs.CountLemmas.{mul-few, whole-less, sum-mod}
use Rattle.wav_reader.proofs.ReadingOn.{reads_both, reads_early, given_both}
use Rattle.wav_reader.proofs.sound_files.SoundFile.read_samples.Goals as goal

pub read_few_samples-requires-clause-few : goal.read_few_samples-requires-clause-few
read_few_samples-requires-clause-few g c =
    let size = sample_length c.args.self.now.head.format.bits in
    let most : c.min-count.result ≤ 4096 / sample_length c.args.self.now.head.format.bits =
    (let count = c.min-count.ensures in let most = ap (λ (n : ℕ). 4096 / n) c.sample_len-most.ensures.value in omega (arith, count, most)) in
    let fit = mul-few c.min-count.result (4096 / size) size most in
    let less = whole-less 4096 (sample_length c.args.self.now.head.format.bits) in
    omega (arith, fit, less)

pub read_few_samples-requires-clause-slots : goal.read_few_samples-requires-clause-slots
read_few_samples-requires-clause-slots g c =
    let slot = slot_length c.args.self.now.head.mono c.args.self.now.head.format.bits in
    let test = c.loop-done-test.true in
    let all = c.loop-done.invariant.reads.grown.all in
    let place : c.args.taken + length c.loop-done.held.items ≡ c.args.taken + length c.args.held.now.items + c.loop-done.done * slot_length c.args.self.now.head.mono c.args.self.now.head.format.bits =
    omega (arith, all) in
    ap (λ (n : ℕ). n % slot) place
    ∙ sum-mod (c.args.taken + length c.args.held.now.items) (c.loop-done.done * slot) slot (c.requires.slots (omega (arith, test))) (mul-mod_left c.loop-done.done slot)

pub read_few_samples-requires-clause-room : goal.read_few_samples-requires-clause-room
read_few_samples-requires-clause-room g c =
    let slot = slot_length c.args.self.now.head.mono c.args.self.now.head.format.bits in
    let count = c.min-count.ensures in
    let within = c.loop-done.invariant.within in
    let all = c.loop-done.invariant.reads.grown.all in
    let few = mul-few (c.loop-done.done + c.min-count.result) c.args.samples slot (omega (arith, count, within)) in
    let sum : (c.loop-done.done + c.min-count.result) * slot_length c.args.self.now.head.mono c.args.self.now.head.format.bits
    ≡ c.loop-done.done * slot_length c.args.self.now.head.mono c.args.self.now.head.format.bits + c.min-count.result * slot_length c.args.self.now.head.mono c.args.self.now.head.format.bits = omega arith in
    let room = c.requires.room in
    let capacity = c.loop-done.invariant.reads.grown.capacity in
    omega (arith, all, few, sum, room, capacity)

pub read_few_samples-requires-clause-there : goal.read_few_samples-requires-clause-there
read_few_samples-requires-clause-there g c =
    let slot = slot_length c.args.self.now.head.mono c.args.self.now.head.format.bits in
    let count = c.min-count.ensures in
    let within = c.loop-done.invariant.within in
    let all = c.loop-done.invariant.reads.grown.all in
    let few = mul-few (c.loop-done.done + c.min-count.result) c.args.samples slot (omega (arith, count, within)) in
    let sum : (c.loop-done.done + c.min-count.result) * slot_length c.args.self.now.head.mono c.args.self.now.head.format.bits
    ≡ c.loop-done.done * slot_length c.args.self.now.head.mono c.args.self.now.head.format.bits + c.min-count.result * slot_length c.args.self.now.head.mono c.args.self.now.head.format.bits = omega arith in
    let there = c.requires.there in
    omega (arith, all, few, sum, there)

pub returns-in_err-read_few_samples-clause-reads : goal.returns-in_err-read_few_samples-clause-reads
returns-in_err-read_few_samples-clause-reads g c =
    let name = string_bytes c.args.self.now.name in
    let said = head_in_file c.args.self.now.head in
    let slot = slot_length c.args.self.now.head.mono c.args.self.now.head.format.bits in
    let count = c.min-count.ensures in
    let within = c.loop-done.invariant.within in
    let all = c.loop-done.invariant.reads.grown.all in
    let few = mul-few (c.loop-done.done + c.min-count.result) c.args.samples slot (omega (arith, count, within)) in
    let sum : (c.loop-done.done + c.min-count.result) * slot_length c.args.self.now.head.mono c.args.self.now.head.format.bits
    ≡ c.loop-done.done * slot_length c.args.self.now.head.mono c.args.self.now.head.format.bits + c.min-count.result * slot_length c.args.self.now.head.mono c.args.self.now.head.format.bits = omega arith in
    let before = (seen_under (g.S.Shelf.told c.args.shelf.now) (g.S.Shelf.faults c.args.shelf.now) (g.S.Shelf.empties c.args.shelf.now) (g.S.Shelf.given c.args.shelf.now) (string_bytes c.args.self.now.name)) in
    let between = (seen_under (g.S.Shelf.told c.loop-done.shelf) (g.S.Shelf.faults c.loop-done.shelf) (g.S.Shelf.empties c.loop-done.shelf) (g.S.Shelf.given c.loop-done.shelf) (string_bytes c.args.self.now.name)) in
    let after = (seen_under (g.S.Shelf.told c.read_few_samples.new.shelf) (g.S.Shelf.faults c.read_few_samples.new.shelf) (g.S.Shelf.empties c.read_few_samples.new.shelf) (g.S.Shelf.given c.read_few_samples.new.shelf) (string_bytes c.args.self.now.name)) in
    let p = err_from_is_err_and c.from_residual.result c.from_residual.ensures.1 in
    reads_early (c.loop-done.done * slot + c.min-count.result * slot) (c.args.samples * slot) name said c.args.taken before after c.args.held.now c.read_few_samples.new.held
    c.read_few_samples.result c.from_residual.result c.in_err-read_few_samples.field-0.0
    (omega (arith, few, sum)) c.in_err-read_few_samples.was (cc (p.1, p.2, c.in_err-read_few_samples.was))
    (reads_both (c.loop-done.done * slot) (c.min-count.result * slot) name said c.args.taken before between after c.args.held.now c.loop-done.held c.read_few_samples.new.held
    c.read_few_samples.result c.loop-done.invariant.reads c.read_few_samples.ensures.reads)

pub returns-in_err-read_few_samples-clause-given : goal.returns-in_err-read_few_samples-clause-given
returns-in_err-read_few_samples-clause-given g c =
    let p = err_from_is_err_and c.from_residual.result c.from_residual.ensures.1 in
    let same : c.from_residual.result ≡ c.read_few_samples.result = cc (p.1, p.2, c.in_err-read_few_samples.was) in
    rw same
    (given_both c.args.self.now.head.mono c.args.self.now.head.format.bits c.args.held.now c.loop-done.held c.read_few_samples.new.held (g.S.Shelf.given c.args.shelf.now)
    (g.S.Shelf.given c.loop-done.shelf) (g.S.Shelf.given c.read_few_samples.new.shelf) c.read_few_samples.result c.loop-done.invariant.given c.read_few_samples.ensures.given)

pub loop-done-preserved : goal.loop-done-preserved
loop-done-preserved g c =
    let name = string_bytes c.args.self.now.name in
    let said = head_in_file c.args.self.now.head in
    let slot = slot_length c.args.self.now.head.mono c.args.self.now.head.format.bits in
    let count = c.min-count.ensures in
    let within = c.loop-done.invariant.within in
    let all = c.loop-done.invariant.reads.grown.all in
    let few = mul-few (c.loop-done.done + c.min-count.result) c.args.samples slot (omega (arith, count, within)) in
    let sum : (c.loop-done.done + c.min-count.result) * slot_length c.args.self.now.head.mono c.args.self.now.head.format.bits
    ≡ c.loop-done.done * slot_length c.args.self.now.head.mono c.args.self.now.head.format.bits + c.min-count.result * slot_length c.args.self.now.head.mono c.args.self.now.head.format.bits = omega arith in
    let before = (seen_under (g.S.Shelf.told c.args.shelf.now) (g.S.Shelf.faults c.args.shelf.now) (g.S.Shelf.empties c.args.shelf.now) (g.S.Shelf.given c.args.shelf.now) (string_bytes c.args.self.now.name)) in
    let between = (seen_under (g.S.Shelf.told c.loop-done.shelf) (g.S.Shelf.faults c.loop-done.shelf) (g.S.Shelf.empties c.loop-done.shelf) (g.S.Shelf.given c.loop-done.shelf) (string_bytes c.args.self.now.name)) in
    let after = (seen_under (g.S.Shelf.told c.read_few_samples.new.shelf) (g.S.Shelf.faults c.read_few_samples.new.shelf) (g.S.Shelf.empties c.read_few_samples.new.shelf) (g.S.Shelf.given c.read_few_samples.new.shelf) (string_bytes c.args.self.now.name)) in
    record {
      within = omega (arith, count, within);
      reads = subst (λ (n : ℕ). ReadsOn n name said c.args.taken before after c.args.held.now c.read_few_samples.new.held (Ok tt)) (sym sum)
          (reads_both (c.loop-done.done * slot) (c.min-count.result * slot) name said c.args.taken before between after c.args.held.now c.loop-done.held c.read_few_samples.new.held
          (Ok tt) c.loop-done.invariant.reads c.in_ok-read_few_samples.ensures.reads);
      given = given_both c.args.self.now.head.mono c.args.self.now.head.format.bits c.args.held.now c.loop-done.held c.read_few_samples.new.held (g.S.Shelf.given c.args.shelf.now)
          (g.S.Shelf.given c.loop-done.shelf) (g.S.Shelf.given c.read_few_samples.new.shelf) (Ok tt) c.loop-done.invariant.given c.in_ok-read_few_samples.ensures.given;
      asked = λ other beside. c.in_ok-read_few_samples.ensures.asked other beside ∙ c.loop-done.invariant.asked other beside;
      later = λ other. (let first = c.loop-done.invariant.later other in let second = c.in_ok-read_few_samples.ensures.later other in omega (arith, first, second));
      empties_later = λ other.
          (let first = c.loop-done.invariant.empties_later other in let second = c.in_ok-read_few_samples.ensures.empties_later other in omega (arith, first, second));
    }

pub returns-clause-reads : goal.returns-clause-reads
returns-clause-reads g c =
    let name = string_bytes c.args.self.now.name in
    let said = head_in_file c.args.self.now.head in
    let slot = slot_length c.args.self.now.head.mono c.args.self.now.head.format.bits in
    let before = (seen_under (g.S.Shelf.told c.args.shelf.now) (g.S.Shelf.faults c.args.shelf.now) (g.S.Shelf.empties c.args.shelf.now) (g.S.Shelf.given c.args.shelf.now) (string_bytes c.args.self.now.name)) in
    let after = (seen_under (g.S.Shelf.told c.loop-done.shelf) (g.S.Shelf.faults c.loop-done.shelf) (g.S.Shelf.empties c.loop-done.shelf) (g.S.Shelf.given c.loop-done.shelf) (string_bytes c.args.self.now.name)) in
    let within = c.loop-done.invariant.within in
    let end = c.loop-done-test.false in
    let all : c.loop-done.done ≡ c.args.samples = omega (arith, within, end) in
    subst (λ (n : ℕ). ReadsOn (n * slot_length c.args.self.now.head.mono c.args.self.now.head.format.bits) name said c.args.taken before after c.args.held.now c.loop-done.held (Ok tt)) all
    c.loop-done.invariant.reads
