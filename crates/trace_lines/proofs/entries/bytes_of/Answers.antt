use Rattle.std.proofs.Common.{◌≡◌, ◌+◌, length, min, rules}
use Rattle.trace_lines.proofs.PieceLemmas.{cut_piece}
use Rattle.trace_lines.proofs.entries.bytes_of.Goals as goal

-- both places are cut at the length
pub returns : goal.returns
returns c =
    let first : c.min-from.result ≡ min c.args.piece.from (length c.args.bytes.now) = search rules in
    let last : c.min-end.result ≡ min (c.args.piece.from + c.args.piece.len) (length c.args.bytes.now) = search rules in
    cut_piece c.args.bytes.now c.args.piece.from c.args.piece.len c.min-from.result c.min-end.result first last
