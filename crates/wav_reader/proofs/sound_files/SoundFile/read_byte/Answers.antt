use Rattle.std.proofs.Common.{◌≡◌, ◌+◌, ℕ, List, length, string_bytes, true, false, sym, ap, subst, ◌∙◌, rules, arith}
use Rattle.std.proofs.lemmas.List.{length-take-le}
use Rattle.wav_reader.specs.Heads.{IsRingFormat}
use Rattle.wav_reader.specs.Opening.{head_in_file}
use Rattle.wav_reader.specs.Readers.{is_pad, place_of, seen_under}
use Rattle.wav_reader.proofs.ReadingOn.{IsPiece, byte_read, pad_read}
use Rattle.wav_reader.proofs.sound_files.SoundFile.read_byte.Goals as goal

pub put_last-requires-2 : goal.put_last-requires-2
put_last-requires-2 g c =
    let within = c.read_piece-read.ensures.within in
    let size : length c.read_piece-read.new.buf ≡ 1 = search rules in
    let front = length-take-le c.read_piece-read.result.count c.read_piece-read.new.buf within in
    let room = c.requires.room in
    omega (arith, within, size, front, room)

pub returns-then-is_pad-clause-reads : goal.returns-then-is_pad-clause-reads
returns-then-is_pad-clause-reads g c =
    let said = head_in_file c.args.self.now.head in
    let format = c.args.self.now.head.format in
    let form : IsRingFormat said.mono said.format = record { even = format.even; some = format.some; few = format.few; doubled = c.args.self.now.head.doubled } in
    let pad : is_pad said.format.bits (c.args.taken + length c.args.held.now.items) ≡ true =
    ap (λ (n : ℕ). is_pad said.format.bits (c.args.taken + n)) (sym c.len.ensures.len) ∙ sym c.is_pad.ensures ∙ c.if-is_pad.true in
    rw c.put_last.ensures (pad_read (string_bytes c.args.self.now.name) said c.args.taken _ c.args.held.now form c.requires.there pad)

pub returns-clause-reads : goal.returns-clause-reads
returns-clause-reads g c =
    let name = string_bytes c.args.self.now.name in
    let before = seen_under (g.S.Shelf.told c.args.shelf.now) (g.S.Shelf.faults c.args.shelf.now) (g.S.Shelf.empties c.args.shelf.now) (g.S.Shelf.given c.args.shelf.now) in
    let after = seen_under (g.S.Shelf.told c.read_piece-read.new.shelf) (g.S.Shelf.faults c.read_piece-read.new.shelf) (g.S.Shelf.empties c.read_piece-read.new.shelf) (g.S.Shelf.given c.read_piece-read.new.shelf) in
    let said = head_in_file c.args.self.now.head in
    let place : c.place_of.result ≡ place_of said (c.args.taken + length c.args.held.now.items) = c.place_of.ensures ∙ ap (λ (n : ℕ). place_of said (c.args.taken + n)) c.len.ensures.len in
    let read = c.read_piece-read.ensures in
    let piece : IsPiece name (place_of said (c.args.taken + length c.args.held.now.items)) c.read_piece-read.new.buf (before name) (after name) c.read_piece-read.result =
    subst (λ (at : ℕ). IsPiece name at c.read_piece-read.new.buf (before name) (after name) c.read_piece-read.result) place
    (subst (λ (name : List ℕ). IsPiece name c.place_of.result c.read_piece-read.new.buf (before name) (after name) c.read_piece-read.result) c.deref.ensures
    (record {
      told = read.told;
      within = read.within;
      all = read.all;
      early = read.early;
      front = read.front;
      given = read.given;
      given_rises = read.given_rises;
      later = read.later c.deref.result.now;
      failed = read.failed;
      empties_later = read.empties_later c.deref.result.now;
      short = read.short;
      not_short = read.not_short;
      whole = read.whole;
    })) in
    let format = c.args.self.now.head.format in
    let form : IsRingFormat said.mono said.format = record { even = format.even; some = format.some; few = format.few; doubled = c.args.self.now.head.doubled } in
    let size : length c.read_piece-read.new.buf ≡ 1 = search rules in
    let sample : is_pad said.format.bits (c.args.taken + length c.args.held.now.items) ≡ false =
    ap (λ (n : ℕ). is_pad said.format.bits (c.args.taken + n)) (sym c.len.ensures.len) ∙ sym c.is_pad.ensures ∙ c.if-is_pad.false in
    rw (c.put_last-2.ensures, c.answer_of.ensures)
    (byte_read name said c.args.taken form (before name) (after name) c.args.held.now c.read_piece-read.new.buf c.read_piece-read.result size c.requires.there sample piece)
