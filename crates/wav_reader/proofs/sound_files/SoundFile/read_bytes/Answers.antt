use Rattle.std.proofs.Common.{◌+◌, string_bytes, arith}
use Rattle.std.proofs.lemmas.Result.{err_from_is_err_and}
use Rattle.wav_reader.specs.Opening.{head_in_file}
use Rattle.wav_reader.specs.Readers.{seen_under}
use Rattle.wav_reader.proofs.ReadingOn.{reads_both, reads_early}
use Rattle.wav_reader.proofs.sound_files.SoundFile.read_bytes.Goals as goal

pub returns-in_err-read_byte-clause-reads : goal.returns-in_err-read_byte-clause-reads
returns-in_err-read_byte-clause-reads g c =
    let name = string_bytes c.args.self.now.name in
    let said = head_in_file c.args.self.now.head in
    let before = (seen_under (g.S.Shelf.told c.args.shelf.now) (g.S.Shelf.faults c.args.shelf.now) (g.S.Shelf.empties c.args.shelf.now) (g.S.Shelf.given c.args.shelf.now) (string_bytes c.args.self.now.name)) in
    let between = (seen_under (g.S.Shelf.told c.loop.shelf) (g.S.Shelf.faults c.loop.shelf) (g.S.Shelf.empties c.loop.shelf) (g.S.Shelf.given c.loop.shelf) (string_bytes c.args.self.now.name)) in
    let after = (seen_under (g.S.Shelf.told c.read_byte.new.shelf) (g.S.Shelf.faults c.read_byte.new.shelf) (g.S.Shelf.empties c.read_byte.new.shelf) (g.S.Shelf.given c.read_byte.new.shelf) (string_bytes c.args.self.now.name)) in
    let p = err_from_is_err_and c.from_residual.result c.from_residual.ensures.1 in
    reads_early (c.loop.counter + 1) c.args.count name said c.args.taken before after c.args.held.now c.read_byte.new.held c.read_byte.result c.from_residual.result c.in_err-read_byte.field-0.0
    (omega arith) c.in_err-read_byte.was (cc (p.1, p.2, c.in_err-read_byte.was))
    (reads_both c.loop.counter 1 name said c.args.taken before between after c.args.held.now c.loop.held c.read_byte.new.held c.read_byte.result c.loop.invariant.reads c.read_byte.ensures.reads)
