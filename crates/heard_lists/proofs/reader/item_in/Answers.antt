use Rattle.std.proofs.Common.{◌≡◌, ◌<◌, List, length, get_or, sym, ap, subst, arith}
use Rattle.std.proofs.lemmas.List.{get_or_default}
use Rattle.std.proofs.lemmas.Bool.Decides.{nat_tests}
use Rattle.heard_frames.specs.declared.heard.Heard.TheVariants.{Quiet}
use Rattle.codec_sound.specs.declared.signals.Signal.{Signal}
use Rattle.codec_sound.specs.declared.signals.Signal.TheVariants.{Silence}
use Rattle.codec_sound.specs.Signals.{IsAmong}
use Rattle.heard_lists.specs.declared.pieces.Piece.{Piece}
use Rattle.heard_lists.specs.Pieces.{piece_count}
use Rattle.heard_lists.proofs.Taken.{length-zip}
use Rattle.heard_lists.proofs.Reading.{hole-behind}
use Rattle.heard_lists.proofs.Starts.{among-at, byte-fits, end-count, hole-here, block-here}
use Rattle.heard_lists.proofs.reader.item_in.Goals as goal

pub returns-then-start-pieces : goal.returns-then-start-pieces
returns-then-start-pieces c holes inside =
    let test = c.if-start-pieces.true in
    let end : c.args.start.piece ≡ length c.args.pieces.now = grind (arith, nat_tests, test) in
    let item = end-count c.args.pieces.now c.args.start c.requires.start end in
    let before = c.requires.before in
    hole-behind c.args.pieces.now c.args.signals.now c.args.bytes.now (length-zip c.args.pieces.now c.args.signals.now c.requires.among) holes c.args.number Quiet
    (omega (arith, item, before)) inside

pub returns-then-place-piece : goal.returns-then-place-piece
returns-then-place-piece c holes inside =
    let pieces : List Piece = c.args.pieces.now in
    let signals : List Signal = c.args.signals.now in
    let piece : Piece = c.index-pieces-start.result in
    let end = c.if-start-pieces.false in
    let most = c.requires.start.within in
    let within : c.args.start.piece < length pieces = grind (arith, nat_tests, end, most) in
    let here : piece ≡ get_or pieces c.args.start.piece piece = c.index-pieces-start.is in
    let same = ap piece_count here in
    let there = c.requires.there piece within in
    let first = c.if-place-piece.true in
    hole-here pieces signals c.args.bytes.now (length-zip pieces signals c.requires.among) c.args.start c.requires.start piece (get_or signals c.args.start.piece Silence) within here
    (let each = length-zip pieces signals c.requires.among in get_or_default signals c.args.start.piece Silence (get_or signals c.args.start.piece Silence) (omega (arith, within, each)))
    holes c.args.number Quiet c.requires.before (omega (arith, there, same)) (grind (arith, nat_tests, first))

pub bounds-signals-start : goal.bounds-signals-start
bounds-signals-start c =
    let end = c.if-start-pieces.false in
    let most = c.requires.start.within in
    let within : c.args.start.piece < length c.args.pieces.now = grind (arith, nat_tests, end, most) in
    let each = length-zip c.args.pieces.now c.args.signals.now c.requires.among in
    omega (arith, within, each)

pub block_in-requires-clause-pair : goal.block_in-requires-clause-pair
block_in-requires-clause-pair c =
    let pieces : List Piece = c.args.pieces.now in
    let piece : Piece = c.index-pieces-start.result in
    let end = c.if-start-pieces.false in
    let most = c.requires.start.within in
    let within : c.args.start.piece < length pieces = grind (arith, nat_tests, end, most) in
    subst (λ (p : Piece). IsAmong p.format.channels (get_or c.args.signals.now c.args.start.piece Silence)) (sym c.index-pieces-start.is)
    (among-at pieces c.args.signals.now c.requires.among c.args.start.piece piece Silence within)

pub block_in-requires-clause-whole : goal.block_in-requires-clause-whole
block_in-requires-clause-whole c =
    let end = c.if-start-pieces.false in
    let most = c.requires.start.within in
    let within : c.args.start.piece < length c.args.pieces.now = grind (arith, nat_tests, end, most) in
    let fits = byte-fits c.args.pieces.now c.args.start c.requires.start c.index-pieces-start.result within c.index-pieces-start.is in
    let whole = c.requires.whole in
    omega (arith, fits, whole)

pub returns : goal.returns
returns c holes inside =
    let pieces : List Piece = c.args.pieces.now in
    let signals : List Signal = c.args.signals.now in
    let piece : Piece = c.index-pieces-start.result in
    let end = c.if-start-pieces.false in
    let most = c.requires.start.within in
    let within : c.args.start.piece < length pieces = grind (arith, nat_tests, end, most) in
    let here : piece ≡ get_or pieces c.args.start.piece piece = c.index-pieces-start.is in
    let same = ap piece_count here in
    let there = c.requires.there piece within in
    let behind = c.if-place-piece.false in
    let each = length-zip pieces signals c.requires.among in
    block-here pieces signals c.args.bytes.now each c.args.start c.requires.start piece (get_or signals c.args.start.piece Silence) within here
    (get_or_default signals c.args.start.piece Silence (get_or signals c.args.start.piece Silence) (omega (arith, within, each)))
    holes c.args.number Quiet c.block_in.result c.requires.before (omega (arith, there, same)) (grind (arith, nat_tests, behind)) c.block_in.ensures
