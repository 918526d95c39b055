use Rattle.std.proofs.Common.{◌≡◌, ◌+◌, ◌-◌, ◌*◌, ℕ, List, take, drop, sym, ap, ◌∙◌, arith}
use Rattle.std.proofs.lemmas.List.{drop-drop}
use Rattle.stream_format.specs.Cadence.{block_bytes}
use Rattle.stream_format.specs.Layouts.{layout}
use Rattle.heard_frames.specs.declared.heard.Heard.TheVariants.{Quiet}
use Rattle.heard_frames.specs.HeardLists.{block_at, item_of}
use Rattle.heard_lists.proofs.Reading.{before-at}
use Rattle.heard_lists.proofs.reader.block_in.Goals as goal

pub returns : goal.returns
returns c =
    let bytes : List ℕ = c.args.bytes.now in
    let size : ℕ = c.block_bytes-size.result in
    let from : ℕ = c.args.byte + c.args.block * size in
    let next : from + size - from ≡ size = omega arith in
    let block : take (from + size - from) (drop from bytes) ≡ block_at (block_bytes c.args.piece.format) (drop c.args.byte bytes) c.args.block =
    ap (λ (n : ℕ). take n (drop from bytes)) next
    ∙ (ap (take size) (sym (drop-drop (c.args.block * size) c.args.byte bytes))
    ∙ ap (λ (n : ℕ). block_at n (drop c.args.byte bytes) c.args.block) c.block_bytes-size.ensures) in
    c.item.ensures
    ∙ (ap (item_of (layout c.args.piece.format) c.args.signal) block
    ∙ sym (before-at (layout c.args.piece.format) c.args.signal (drop c.args.byte bytes) c.args.piece.blocks c.args.block Quiet c.requires.there))
