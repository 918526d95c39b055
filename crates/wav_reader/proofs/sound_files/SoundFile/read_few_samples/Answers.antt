use Rattle.std.proofs.Common.{◌≡◌, ◌+◌, ◌*◌, ◌/◌, ◌%◌, ◌++◌, ℕ, List, length, take, string_bytes, ap, subst, ◌∙◌, rules, arith}
use Rattle.std.proofs.lemmas.List.{length-take-le}
use Rattle.std.proofs.Math.Nat.{mul-mod_left}
use Rattle.circular_buffer.specs.Buffer.{buffer}
use Rattle.wav_reader.specs.Formats.{sample_length}
use Rattle.wav_reader.specs.Heads.{IsRingFormat}
use Rattle.wav_reader.specs.Opening.{head_in_file}
use Rattle.wav_reader.specs.Readers.{place_of, ring_part, seen_under, slot_length}
use Rattle.wav_reader.proofs.CountLemmas.{whole-less}
use Rattle.wav_reader.proofs.ReadingOn.{IsPiece, samples_part, samples_fit, samples_read, given_piece}
use Rattle.wav_reader.proofs.sound_files.SoundFile.read_few_samples.Goals as goal

pub put_samples-requires-clause-whole : goal.put_samples-requires-clause-whole
put_samples-requires-clause-whole g c =
    let mono = c.args.self.now.head.mono in
    let bits = c.args.self.now.head.format.bits in
    let size : c.sample_len-size.result ≡ sample_length bits = c.sample_len-size.ensures.value in
    let long : length c.read_piece-read.new.buf ≡ c.args.samples * sample_length bits =
    (let long : length c.read_piece-read.new.buf ≡ c.args.samples * c.sample_len-size.result = search rules in long ∙ ap (λ (n : ℕ). c.args.samples * n) size) in
    let whole : c.read_piece-read.result.count / c.sample_len-size.result * c.sample_len-size.result ≡ c.read_piece-read.result.count / sample_length bits * sample_length bits =
    ap (λ (n : ℕ). c.read_piece-read.result.count / n * n) size in
    let count = c.read_piece-read.result.count in
    let within = c.read_piece-read.ensures.within in
    let less = whole-less c.read_piece-read.result.count (sample_length bits) in
    rw whole
    (ap (λ (n : ℕ). n % sample_length bits) (length-take-le (count / sample_length bits * sample_length bits) c.read_piece-read.new.buf (omega (arith, within, less)))
    ∙ mul-mod_left (count / sample_length bits) (sample_length bits))

pub put_samples-requires-clause-room : goal.put_samples-requires-clause-room
put_samples-requires-clause-room g c =
    let mono = c.args.self.now.head.mono in
    let bits = c.args.self.now.head.format.bits in
    let slot = slot_length c.args.self.now.head.mono c.args.self.now.head.format.bits in
    let size : c.sample_len-size.result ≡ sample_length bits = c.sample_len-size.ensures.value in
    let long : length c.read_piece-read.new.buf ≡ c.args.samples * sample_length bits =
    (let long : length c.read_piece-read.new.buf ≡ c.args.samples * c.sample_len-size.result = search rules in long ∙ ap (λ (n : ℕ). c.args.samples * n) size) in
    let whole : c.read_piece-read.result.count / c.sample_len-size.result * c.sample_len-size.result ≡ c.read_piece-read.result.count / sample_length bits * sample_length bits =
    ap (λ (n : ℕ). c.read_piece-read.result.count / n * n) size in
    let fits = samples_fit mono bits c.read_piece-read.new.buf c.read_piece-read.result.count c.args.samples c.read_piece-read.ensures.within long in
    rw whole (let room = c.requires.room in omega (arith, fits, room))

pub returns-clause-reads : goal.returns-clause-reads
returns-clause-reads g c =
    let name = string_bytes c.args.self.now.name in
    let said = head_in_file c.args.self.now.head in
    let mono = c.args.self.now.head.mono in
    let bits = c.args.self.now.head.format.bits in
    let slot = slot_length c.args.self.now.head.mono c.args.self.now.head.format.bits in
    let before = seen_under (g.S.Shelf.told c.args.shelf.now) (g.S.Shelf.faults c.args.shelf.now) (g.S.Shelf.empties c.args.shelf.now) (g.S.Shelf.given c.args.shelf.now) in
    let after = seen_under (g.S.Shelf.told c.read_piece-read.new.shelf) (g.S.Shelf.faults c.read_piece-read.new.shelf) (g.S.Shelf.empties c.read_piece-read.new.shelf) (g.S.Shelf.given c.read_piece-read.new.shelf) in
    let place : c.place_of-at.result ≡ place_of said (c.args.taken + length c.args.held.now.items) = c.place_of-at.ensures ∙ ap (λ (n : ℕ). place_of said (c.args.taken + n)) c.len.ensures.len in
    let read = c.read_piece-read.ensures in
    let piece : IsPiece name (place_of said (c.args.taken + length c.args.held.now.items)) c.read_piece-read.new.buf (before name) (after name) c.read_piece-read.result =
    subst (λ (at : ℕ). IsPiece name at c.read_piece-read.new.buf (before name) (after name) c.read_piece-read.result) place
    (subst (λ (name : List ℕ). IsPiece name c.place_of-at.result c.read_piece-read.new.buf (before name) (after name) c.read_piece-read.result) c.deref.ensures
    (record {
      told = read.told;
      within = read.within;
      all = read.all;
      early = read.early;
      front = read.front;
      given = read.given;
      given_rises = read.given_rises;
      later = read.later c.deref.result.now;
      failed = read.failed;
      empties_later = read.empties_later c.deref.result.now;
      short = read.short;
      not_short = read.not_short;
      whole = read.whole;
    })) in
    let format = c.args.self.now.head.format in
    let form : IsRingFormat said.mono said.format = record { even = format.even; some = format.some; few = format.few; doubled = c.args.self.now.head.doubled } in
    let size : c.sample_len-size.result ≡ sample_length bits = c.sample_len-size.ensures.value in
    let long : length c.read_piece-read.new.buf ≡ c.args.samples * sample_length bits =
    (let long : length c.read_piece-read.new.buf ≡ c.args.samples * c.sample_len-size.result = search rules in long ∙ ap (λ (n : ℕ). c.args.samples * n) size) in
    let whole : c.read_piece-read.result.count / c.sample_len-size.result * c.sample_len-size.result ≡ c.read_piece-read.result.count / sample_length bits * sample_length bits =
    ap (λ (n : ℕ). c.read_piece-read.result.count / n * n) size in
    let held : c.put_samples.new.held ≡ buffer (c.args.held.now.items ++ samples_part mono bits c.read_piece-read.new.buf c.read_piece-read.result.count) c.args.held.now.capacity =
    c.put_samples.ensures ∙ ap (λ (n : ℕ). buffer (c.args.held.now.items ++ ring_part mono bits (take n c.read_piece-read.new.buf)) c.args.held.now.capacity) whole in
    rw (held, c.answer_of.ensures)
    (samples_read name said c.args.taken c.args.samples form (before name) (after name) c.args.held.now c.read_piece-read.new.buf c.read_piece-read.result long c.requires.slots
    c.requires.there piece)

pub returns-clause-given : goal.returns-clause-given
returns-clause-given g c =
    let mono = c.args.self.now.head.mono in
    let bits = c.args.self.now.head.format.bits in
    let slot = slot_length c.args.self.now.head.mono c.args.self.now.head.format.bits in
    let read = c.read_piece-read.ensures in
    let size : c.sample_len-size.result ≡ sample_length bits = c.sample_len-size.ensures.value in
    let long : length c.read_piece-read.new.buf ≡ c.args.samples * sample_length bits =
    (let long : length c.read_piece-read.new.buf ≡ c.args.samples * c.sample_len-size.result = search rules in long ∙ ap (λ (n : ℕ). c.args.samples * n) size) in
    let whole : c.read_piece-read.result.count / c.sample_len-size.result * c.sample_len-size.result ≡ c.read_piece-read.result.count / sample_length bits * sample_length bits =
    ap (λ (n : ℕ). c.read_piece-read.result.count / n * n) size in
    let held : c.put_samples.new.held ≡ buffer (c.args.held.now.items ++ samples_part mono bits c.read_piece-read.new.buf c.read_piece-read.result.count) c.args.held.now.capacity =
    c.put_samples.ensures ∙ ap (λ (n : ℕ). buffer (c.args.held.now.items ++ ring_part mono bits (take n c.read_piece-read.new.buf)) c.args.held.now.capacity) whole in
    rw (held, c.answer_of.ensures)
    (given_piece mono bits c.args.samples _ _ c.args.held.now c.read_piece-read.new.buf c.read_piece-read.result long read.within read.given read.all)
