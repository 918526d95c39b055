use Rattle.std.proofs.Common.{◌≡◌, ◌≤◌, Ok, ◌+◌, ◌-◌, ◌*◌, ◌/◌, ◌%◌, min, ℕ, length, ap, ◌∙◌, string_bytes, subst, arith}
use Rattle.std.proofs.lemmas.Result.{err_from_is_err_and}
use Rattle.wav_reader.specs.Opening.{head_in_file}
use Rattle.wav_reader.specs.Readers.{ReadsOn, seen_under, slot_length}
use Rattle.wav_reader.proofs.ReadingOn.{reads_both, reads_early, given_both, given_nothing, next_none, next_whole, rest_is}
use Rattle.wav_reader.proofs.sound_files.SoundFile.read_next.Goals as goal

pub read_samples-requires-clause-slots : goal.read_samples-requires-clause-slots
read_samples-requires-clause-slots g c = λ some.
    let slot = slot_length c.args.self.now.head.mono c.args.self.now.head.format.bits in
    let first_is : c.min-first.result ≡ min c.args.count ((slot_length c.args.self.now.head.mono c.args.self.now.head.format.bits
    - (c.args.taken + length c.args.held.now.items) % slot_length c.args.self.now.head.mono c.args.self.now.head.format.bits) % slot_length c.args.self.now.head.mono c.args.self.now.head.format.bits) =
    c.min-first.ensures
    ∙ ap (λ (n : ℕ). min c.args.count ((n - (c.args.taken + c.len.result) % n) % n)) c.slot_len-slot.ensures.value
    ∙ ap (λ (n : ℕ). min c.args.count ((slot - (c.args.taken + n) % slot) % slot)) c.len.ensures.len in
    let grown = c.in_ok-read_bytes.ensures.reads.grown.all in
    let some' : 1 ≤ (c.args.count - c.min-first.result) / slot_length c.args.self.now.head.mono c.args.self.now.head.format.bits =
    subst (λ (n : ℕ). 1 ≤ (c.args.count - c.min-first.result) / n) c.slot_len-slot.ensures.value some in
    let place : c.args.taken + length c.read_bytes.new.held.items ≡ c.args.taken + length c.args.held.now.items + c.min-first.result = omega (arith, grown) in
    ap (λ (n : ℕ). n % slot) place
    ∙ next_whole c.args.self.now.head.mono c.args.self.now.head.format.bits (c.args.taken + length c.args.held.now.items) c.args.count c.min-first.result first_is some'

pub read_samples-requires-clause-room : goal.read_samples-requires-clause-room
read_samples-requires-clause-room g c =
    let first = c.min-first.ensures in
    let all = rest_is (c.args.count - c.min-first.result) c.slot_len-slot.result (slot_length c.args.self.now.head.mono c.args.self.now.head.format.bits) c.slot_len-slot.ensures.value in
    let grown = c.in_ok-read_bytes.ensures.reads.grown.all in
    let capacity = c.read_bytes.ensures.reads.grown.capacity in
    let room = c.requires.room in
    omega (arith, first, all, grown, capacity, room)

pub read_samples-requires-clause-there : goal.read_samples-requires-clause-there
read_samples-requires-clause-there g c =
    let first = c.min-first.ensures in
    let all = rest_is (c.args.count - c.min-first.result) c.slot_len-slot.result (slot_length c.args.self.now.head.mono c.args.self.now.head.format.bits) c.slot_len-slot.ensures.value in
    let grown = c.in_ok-read_bytes.ensures.reads.grown.all in
    let capacity = c.read_bytes.ensures.reads.grown.capacity in
    let there = c.requires.there in
    omega (arith, first, all, grown, there)

pub read_bytes-requires-2-clause-room : goal.read_bytes-requires-2-clause-room
read_bytes-requires-2-clause-room g c =
    let first = c.min-first.ensures in
    let all = rest_is (c.args.count - c.min-first.result) c.slot_len-slot.result (slot_length c.args.self.now.head.mono c.args.self.now.head.format.bits) c.slot_len-slot.ensures.value in
    let grown = c.in_ok-read_bytes.ensures.reads.grown.all in
    let capacity = c.read_bytes.ensures.reads.grown.capacity in
    let room = c.requires.room in
    let grown' = c.in_ok-read_samples.ensures.reads.grown.all in
    let capacity' = c.read_samples.ensures.reads.grown.capacity in
    omega (arith, first, all, grown, grown', capacity, capacity', room)

pub read_bytes-requires-2-clause-there : goal.read_bytes-requires-2-clause-there
read_bytes-requires-2-clause-there g c =
    let first = c.min-first.ensures in
    let all = rest_is (c.args.count - c.min-first.result) c.slot_len-slot.result (slot_length c.args.self.now.head.mono c.args.self.now.head.format.bits) c.slot_len-slot.ensures.value in
    let grown = c.in_ok-read_bytes.ensures.reads.grown.all in
    let capacity = c.read_bytes.ensures.reads.grown.capacity in
    let there = c.requires.there in
    let grown' = c.in_ok-read_samples.ensures.reads.grown.all in
    omega (arith, first, all, grown, grown', there)

pub returns-in_err-read_bytes-clause-reads : goal.returns-in_err-read_bytes-clause-reads
returns-in_err-read_bytes-clause-reads g c =
    let name = string_bytes c.args.self.now.name in
    let said = head_in_file c.args.self.now.head in
    let before = (seen_under (g.S.Shelf.told c.args.shelf.now) (g.S.Shelf.faults c.args.shelf.now) (g.S.Shelf.empties c.args.shelf.now) (g.S.Shelf.given c.args.shelf.now) (string_bytes c.args.self.now.name)) in
    let after = (seen_under (g.S.Shelf.told c.read_bytes.new.shelf) (g.S.Shelf.faults c.read_bytes.new.shelf) (g.S.Shelf.empties c.read_bytes.new.shelf) (g.S.Shelf.given c.read_bytes.new.shelf) (string_bytes c.args.self.now.name)) in
    let p = err_from_is_err_and c.from_residual.result c.from_residual.ensures.1 in
    reads_early c.min-first.result c.args.count name said c.args.taken before after c.args.held.now c.read_bytes.new.held
    c.read_bytes.result c.from_residual.result c.in_err-read_bytes.field-0.0
    (omega (arith, c.min-first.ensures)) c.in_err-read_bytes.was (cc (p.1, p.2, c.in_err-read_bytes.was)) c.read_bytes.ensures.reads

pub returns-in_err-read_samples-clause-reads : goal.returns-in_err-read_samples-clause-reads
returns-in_err-read_samples-clause-reads g c =
    let name = string_bytes c.args.self.now.name in
    let said = head_in_file c.args.self.now.head in
    let slot = slot_length c.args.self.now.head.mono c.args.self.now.head.format.bits in
    let first = c.min-first.ensures in
    let all = rest_is (c.args.count - c.min-first.result) c.slot_len-slot.result (slot_length c.args.self.now.head.mono c.args.self.now.head.format.bits) c.slot_len-slot.ensures.value in
    let grown = c.in_ok-read_bytes.ensures.reads.grown.all in
    let capacity = c.read_bytes.ensures.reads.grown.capacity in
    let before = (seen_under (g.S.Shelf.told c.args.shelf.now) (g.S.Shelf.faults c.args.shelf.now) (g.S.Shelf.empties c.args.shelf.now) (g.S.Shelf.given c.args.shelf.now) (string_bytes c.args.self.now.name)) in
    let between = (seen_under (g.S.Shelf.told c.read_bytes.new.shelf) (g.S.Shelf.faults c.read_bytes.new.shelf) (g.S.Shelf.empties c.read_bytes.new.shelf) (g.S.Shelf.given c.read_bytes.new.shelf) (string_bytes c.args.self.now.name)) in
    let after = (seen_under (g.S.Shelf.told c.read_samples.new.shelf) (g.S.Shelf.faults c.read_samples.new.shelf) (g.S.Shelf.empties c.read_samples.new.shelf) (g.S.Shelf.given c.read_samples.new.shelf) (string_bytes c.args.self.now.name)) in
    let p = err_from_is_err_and c.from_residual-in_err-read_samples.result c.from_residual-in_err-read_samples.ensures.1 in
    let blocks = (c.args.count - c.min-first.result) / c.slot_len-slot.result in
    reads_early (c.min-first.result + blocks * slot) c.args.count name said c.args.taken before after c.args.held.now c.read_samples.new.held
    c.read_samples.result c.from_residual-in_err-read_samples.result c.in_err-read_samples.field-0.0
    (omega (arith, first, all)) c.in_err-read_samples.was (cc (p.1, p.2, c.in_err-read_samples.was))
    (reads_both c.min-first.result (blocks * slot) name said c.args.taken before between after c.args.held.now c.read_bytes.new.held c.read_samples.new.held
    c.read_samples.result c.in_ok-read_bytes.ensures.reads c.read_samples.ensures.reads)

pub returns-clause-reads : goal.returns-clause-reads
returns-clause-reads g c =
    let name = string_bytes c.args.self.now.name in
    let said = head_in_file c.args.self.now.head in
    let slot = slot_length c.args.self.now.head.mono c.args.self.now.head.format.bits in
    let before = (seen_under (g.S.Shelf.told c.args.shelf.now) (g.S.Shelf.faults c.args.shelf.now) (g.S.Shelf.empties c.args.shelf.now) (g.S.Shelf.given c.args.shelf.now) (string_bytes c.args.self.now.name)) in
    let between = (seen_under (g.S.Shelf.told c.read_bytes.new.shelf) (g.S.Shelf.faults c.read_bytes.new.shelf) (g.S.Shelf.empties c.read_bytes.new.shelf) (g.S.Shelf.given c.read_bytes.new.shelf) (string_bytes c.args.self.now.name)) in
    let later = (seen_under (g.S.Shelf.told c.read_samples.new.shelf) (g.S.Shelf.faults c.read_samples.new.shelf) (g.S.Shelf.empties c.read_samples.new.shelf) (g.S.Shelf.given c.read_samples.new.shelf) (string_bytes c.args.self.now.name)) in
    let after = (seen_under (g.S.Shelf.told c.read_bytes-2.new.shelf) (g.S.Shelf.faults c.read_bytes-2.new.shelf) (g.S.Shelf.empties c.read_bytes-2.new.shelf) (g.S.Shelf.given c.read_bytes-2.new.shelf) (string_bytes c.args.self.now.name)) in
    let rest = c.args.count - c.min-first.result in
    let size = c.slot_len-slot.result in
    let first = c.min-first.ensures in
    let all = rest_is (c.args.count - c.min-first.result) c.slot_len-slot.result (slot_length c.args.self.now.head.mono c.args.self.now.head.format.bits) c.slot_len-slot.ensures.value in
    subst (λ (count : ℕ). ReadsOn count name said c.args.taken before after c.args.held.now c.read_bytes-2.new.held c.read_bytes-2.result) (omega (arith, first, all))
    (reads_both (c.min-first.result + rest / size * slot) (rest % size) name said c.args.taken before later after c.args.held.now c.read_samples.new.held c.read_bytes-2.new.held
    c.read_bytes-2.result
    (reads_both c.min-first.result (rest / size * slot) name said c.args.taken before between later c.args.held.now c.read_bytes.new.held c.read_samples.new.held
    (Ok tt) c.in_ok-read_bytes.ensures.reads c.in_ok-read_samples.ensures.reads)
    c.read_bytes-2.ensures.reads)

pub returns-in_err-read_bytes-clause-given : goal.returns-in_err-read_bytes-clause-given
returns-in_err-read_bytes-clause-given g c = λ whole blocks.
    let slot = slot_length c.args.self.now.head.mono c.args.self.now.head.format.bits in
    let first_is : c.min-first.result ≡ min c.args.count ((slot_length c.args.self.now.head.mono c.args.self.now.head.format.bits
    - (c.args.taken + length c.args.held.now.items) % slot_length c.args.self.now.head.mono c.args.self.now.head.format.bits) % slot_length c.args.self.now.head.mono c.args.self.now.head.format.bits) =
    c.min-first.ensures
    ∙ ap (λ (n : ℕ). min c.args.count ((n - (c.args.taken + c.len.result) % n) % n)) c.slot_len-slot.ensures.value
    ∙ ap (λ (n : ℕ). min c.args.count ((slot - (c.args.taken + n) % slot) % slot)) c.len.ensures.len in
    let none = next_none c.args.self.now.head.mono c.args.self.now.head.format.bits (c.args.taken + length c.args.held.now.items) c.args.count c.min-first.result first_is whole in
    let p = err_from_is_err_and c.from_residual.result c.from_residual.ensures.1 in
    let same : c.from_residual.result ≡ c.read_bytes.result = cc (p.1, p.2, c.in_err-read_bytes.was) in
    rw same
    (given_nothing c.args.self.now.head.mono c.args.self.now.head.format.bits c.min-first.result c.args.held.now c.read_bytes.new.held
    (g.S.Shelf.given c.args.shelf.now) (g.S.Shelf.given c.read_bytes.new.shelf) c.read_bytes.result none
    c.read_bytes.ensures.reads.grown c.read_bytes.ensures.reads.given)

pub returns-in_err-read_samples-clause-given : goal.returns-in_err-read_samples-clause-given
returns-in_err-read_samples-clause-given g c = λ whole blocks.
    let slot = slot_length c.args.self.now.head.mono c.args.self.now.head.format.bits in
    let first_is : c.min-first.result ≡ min c.args.count ((slot_length c.args.self.now.head.mono c.args.self.now.head.format.bits
    - (c.args.taken + length c.args.held.now.items) % slot_length c.args.self.now.head.mono c.args.self.now.head.format.bits) % slot_length c.args.self.now.head.mono c.args.self.now.head.format.bits) =
    c.min-first.ensures
    ∙ ap (λ (n : ℕ). min c.args.count ((n - (c.args.taken + c.len.result) % n) % n)) c.slot_len-slot.ensures.value
    ∙ ap (λ (n : ℕ). min c.args.count ((slot - (c.args.taken + n) % slot) % slot)) c.len.ensures.len in
    let none = next_none c.args.self.now.head.mono c.args.self.now.head.format.bits (c.args.taken + length c.args.held.now.items) c.args.count c.min-first.result first_is whole in
    let p = err_from_is_err_and c.from_residual-in_err-read_samples.result c.from_residual-in_err-read_samples.ensures.1 in
    let same : c.from_residual-in_err-read_samples.result ≡ c.read_samples.result = cc (p.1, p.2, c.in_err-read_samples.was) in
    rw same
    (given_both c.args.self.now.head.mono c.args.self.now.head.format.bits c.args.held.now c.read_bytes.new.held c.read_samples.new.held (g.S.Shelf.given c.args.shelf.now)
    (g.S.Shelf.given c.read_bytes.new.shelf) (g.S.Shelf.given c.read_samples.new.shelf) c.read_samples.result
    (given_nothing c.args.self.now.head.mono c.args.self.now.head.format.bits c.min-first.result c.args.held.now c.read_bytes.new.held
    (g.S.Shelf.given c.args.shelf.now) (g.S.Shelf.given c.read_bytes.new.shelf) (Ok tt) none
    c.in_ok-read_bytes.ensures.reads.grown c.in_ok-read_bytes.ensures.reads.given)
    c.read_samples.ensures.given)

pub returns-clause-given : goal.returns-clause-given
returns-clause-given g c = λ whole blocks.
    let slot = slot_length c.args.self.now.head.mono c.args.self.now.head.format.bits in
    let first_is : c.min-first.result ≡ min c.args.count ((slot_length c.args.self.now.head.mono c.args.self.now.head.format.bits
    - (c.args.taken + length c.args.held.now.items) % slot_length c.args.self.now.head.mono c.args.self.now.head.format.bits) % slot_length c.args.self.now.head.mono c.args.self.now.head.format.bits) =
    c.min-first.ensures
    ∙ ap (λ (n : ℕ). min c.args.count ((n - (c.args.taken + c.len.result) % n) % n)) c.slot_len-slot.ensures.value
    ∙ ap (λ (n : ℕ). min c.args.count ((slot - (c.args.taken + n) % slot) % slot)) c.len.ensures.len in
    let none = next_none c.args.self.now.head.mono c.args.self.now.head.format.bits (c.args.taken + length c.args.held.now.items) c.args.count c.min-first.result first_is whole in
    let rest : (c.args.count - c.min-first.result) % c.slot_len-slot.result ≡ 0 =
    ap (λ (n : ℕ). (c.args.count - c.min-first.result) % n) c.slot_len-slot.ensures.value
    ∙ ap (λ (n : ℕ). n % slot) (let less : c.args.count - c.min-first.result ≡ c.args.count = omega (arith, none) in less) ∙ blocks in
    given_both c.args.self.now.head.mono c.args.self.now.head.format.bits c.args.held.now c.read_bytes.new.held c.read_bytes-2.new.held (g.S.Shelf.given c.args.shelf.now)
    (g.S.Shelf.given c.read_bytes.new.shelf) (g.S.Shelf.given c.read_bytes-2.new.shelf) c.read_bytes-2.result
    (given_nothing c.args.self.now.head.mono c.args.self.now.head.format.bits c.min-first.result c.args.held.now c.read_bytes.new.held
    (g.S.Shelf.given c.args.shelf.now) (g.S.Shelf.given c.read_bytes.new.shelf) (Ok tt) none
    c.in_ok-read_bytes.ensures.reads.grown c.in_ok-read_bytes.ensures.reads.given)
    (given_both c.args.self.now.head.mono c.args.self.now.head.format.bits c.read_bytes.new.held c.read_samples.new.held c.read_bytes-2.new.held (g.S.Shelf.given c.read_bytes.new.shelf)
    (g.S.Shelf.given c.read_samples.new.shelf) (g.S.Shelf.given c.read_bytes-2.new.shelf) c.read_bytes-2.result c.in_ok-read_samples.ensures.given
    (given_nothing c.args.self.now.head.mono c.args.self.now.head.format.bits ((c.args.count - c.min-first.result) % c.slot_len-slot.result) c.read_samples.new.held
    c.read_bytes-2.new.held (g.S.Shelf.given c.read_samples.new.shelf) (g.S.Shelf.given c.read_bytes-2.new.shelf)
    c.read_bytes-2.result rest c.read_bytes-2.ensures.reads.grown c.read_bytes-2.ensures.reads.given))
