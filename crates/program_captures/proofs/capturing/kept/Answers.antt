use Rattle.std.proofs.Common.{◌≡◌, ℕ, List, length, ap, sym, subst, ◌∙◌, arith}
use Rattle.stream_format.specs.declared.format.Format.{Format}
use Rattle.stream_format.proofs.Callers.{some_block}
use Rattle.wav_reader.specs.Laws.{CanBeWritten}
use Rattle.program_captures.proofs.capturing.kept.Goals as goal

pub nonzero_div-read : goal.nonzero_div-read
nonzero_div-read c = (let some = some_block c.format-format.result in omega (arith, some, c.from.ensures, c.block_bytes.ensures))
